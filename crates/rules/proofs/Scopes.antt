use Rattle.std.proofs.Common.{◌≡◌, ℕ, ◌<◌, refl, subst}
use Rattle.facts.specs.declared.fact.Kind.TheVariants.{UserRole, Taken}
use Rattle.facts.specs.Facts.{Facts}
use Rattle.facts.specs.Stores.{Only}
use Rattle.rules.specs.declared.role_set.RoleSet.{RoleSet}
use Rattle.rules.specs.declared.suspects.Suspects.TheVariants.{Reachers, Holders, TakenBy}
use Rattle.rules.specs.declared.walk.Way.TheVariants.{Up}
use Rattle.rules.specs.Asking.{Among, Exactly}
use Rattle.rules.specs.Roles.{Link, Chain, same, down, Reaches}
use Rattle.rules.specs.Walks.{Linked, From}
use Rattle.rules.specs.Judging.{Scoped}
use Rattle.rules.proofs.Broken.{reached_role}
use Rattle.rules.proofs.Marks.{chain_more}
use Rattle.rules.proofs.Ranged.{ranged_in, ranged_pair}

-- a chain, gone along the other way
back : (L : ℕ → ℕ → Type 0) {r s : ℕ} → Chain L r s → Chain (λ x y. L y x) s r
back L same = same
back L (down e p) = chain_more (back L p) e

module _ (m : Facts) (o : Only m) where
  module _ (above : RoleSet) (role : ℕ) (e : Exactly above (From (Linked Up m) (λ x. x ≡ role))) where
    up : (s : ℕ) → Among above s → Reaches m s role
    up s a = let q = e.only s a in subst (λ (x : ℕ). Reaches m s x) q.2 (back (Linked Up m) q.3)

    upward : (s : ℕ) → s < 64 → Reaches m s role → Among above s
    upward s l p = e.all s l (role, reached_role m o s role l p, refl, back (Link m) p)

    pub reachers_scoped : Scoped (Reachers role) (Reachers above) m
    reachers_scoped = record { only = λ x a. (a.0, up x a); all = λ x p. upward x p.0 p.1 }

    pub holders_scoped : Scoped (Holders role) (Holders above) m
    holders_scoped = record {
      only = λ x q. (q.0, q.2.1, up q.0 q.2.0);
      all = λ x h.
          let l = (ranged_pair m o UserRole x h.0 h.1).1 in
          (h.0, l, (upward h.0 l h.2, h.1));
    }

  pub taken_scoped : (u : ℕ) → Scoped (TakenBy u) (TakenBy u) m
  taken_scoped u = record {
    only = λ x a. (a.0, a.2.0, a.2.1);
    all = λ x a. (a.0, (ranged_in m o Taken a.0 x u a.2).0, (a.1, a.2));
  }
