use Rattle.std.proofs.Common.{◌≡◌, ℕ, ◌<◌, Bool, true, false, refl, subst}
use Rattle.facts.specs.declared.fact.Kind.TheVariants.{UserRole, PermissionRole, Senior}
use Rattle.facts.specs.Facts.{Facts}
use Rattle.facts.specs.Stores.{Only, Decides}
use Rattle.rules.specs.declared.role_set.RoleSet.{RoleSet}
use Rattle.rules.specs.Asking.{Exactly}
use Rattle.rules.specs.Roles.{Link, same, Reaches, Above, Assigned, Holds, Has}
use Rattle.rules.specs.Walks.{From, Leads}
use Rattle.rules.proofs.Marks.{chain_on}
use Rattle.rules.proofs.Ranged.{ranged_pair}

-- what decides P decides what says the same
pub decides_as : (b : Bool) (P Q : Type 0) → (P → Q) → (Q → P) → Decides b P → Decides b Q
decides_as true P Q to from d = to d
decides_as false P Q to from d = λ q. d (from q)

-- a chain leads from the role r to s
pub from_role : (m : Facts) (r s : ℕ) → From (Link m) (λ x. x ≡ r) s → Reaches m r s
from_role m r s q = subst (λ (x : ℕ). Reaches m x s) q.2 q.3

pub exactly_reached : (m : Facts) (x : RoleSet) (r : ℕ) → r < 64 → Exactly x (From (Link m) (λ s. s ≡ r)) → Exactly x (Reaches m r)
exactly_reached m x r l e = record { only = λ s a. from_role m r s (e.only s a); all = λ s k p. e.all s k (r, l, refl, p) }

module _ (m : Facts) (o : Only m) where
  pub assigned_from : (u s : ℕ) → Holds m u s → From (Link m) (Assigned UserRole m u) s
  assigned_from u s h = (h.0, (ranged_pair m o UserRole u h.0 h.1).1, h.1, h.2)

  module _ (b : Bool) where
    pub decides_above : (r s : ℕ) → Decides b (Leads (Link m) (Link m r) (λ x. x ≡ s)) → Decides b (Above m r s)
    decides_above r s = decides_as b _ _
        (λ q. (q.1.0, q.1.2, subst (λ (x : ℕ). Reaches m q.1.0 x) q.2 q.1.3))
        (λ h. (s, (h.0, (ranged_pair m o Senior r h.0 h.1).1, h.1, h.2), refl))

    pub decides_holding : (u s : ℕ) → Decides b (Leads (Link m) (Assigned UserRole m u) (λ x. x ≡ s)) → Decides b (Holds m u s)
    decides_holding u s = decides_as b _ _
        (λ q. (q.1.0, q.1.2, subst (λ (x : ℕ). Reaches m q.1.0 x) q.2 q.1.3))
        (λ h. (s, assigned_from u s h, refl))

    pub decides_having : (u p : ℕ) → Decides b (Leads (Link m) (Assigned UserRole m u) (Assigned PermissionRole m p))
        → Decides b (Has m u p)
    decides_having u p = decides_as b _ _
        (λ q. (q.0, (q.1.0, q.1.2, q.1.3), (q.0, same, q.2)))
        (λ h. (h.2.0, assigned_from u h.2.0 (h.1.0, h.1.1, chain_on h.1.2 h.2.1), h.2.2))

  pub exactly_held : (x : RoleSet) (u : ℕ) → Exactly x (From (Link m) (Assigned UserRole m u)) → Exactly x (Holds m u)
  exactly_held x u e = record {
    only = λ s a. let q = e.only s a in (q.0, q.2, q.3);
    all = λ s l h. e.all s l (assigned_from u s h);
  }
