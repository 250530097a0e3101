use Rattle.std.proofs.Common.{ℕ, min, ◌⊎◌, sym, subst, inl, inr, ⊎_elim, arith}
use Rattle.std.proofs.lemmas.Bool.{cases_lt}
use Rattle.facts.specs.declared.fact.Kind.{Kind}
use Rattle.facts.specs.declared.fact.Kind.TheVariants.{UserRole, Senior, UserConflict, RoleConflict, OpenCase, Taken}
use Rattle.facts.specs.declared.fact.Kind.TheVariants.{AtOdds as odds-kind}
use Rattle.facts.specs.Facts.{Facts}
use Rattle.facts.proofs.Sets.{cases_in}
use Rattle.rules.specs.declared.rule.Rule.TheVariants.{NoCycle, RolesApart, PartiesApart, TakersApart}
use Rattle.rules.specs.Roles.{pair, same, down, Reaches, Above, Assigned, Holds, Conflict, Party}
use Rattle.rules.specs.Tasks.{Open, HasTaken}
use Rattle.rules.specs.Judging.{Mixed, Breaks}
use Rattle.rules.proofs.Gains.{Gains}
use Rattle.rules.proofs.Marks.{chain_on}

-- a pair may be named in either order
pub conflict_swap : (k : Kind) (m : Facts) (x y : ℕ) → Conflict k m x y → Conflict k m y x
conflict_swap k m x y e = grind (arith, e)

pub party_swap : (m : Facts) (u v : ℕ) → Party m u v → Party m v u
party_swap m u v (inl e) = inl (sym e)
party_swap m u v (inr e) = inr (conflict_swap UserConflict m u v e)

-- a break, seen from its other end
party_turned : (m : Facts) (u : ℕ) (b : Breaks PartiesApart m u) → Breaks PartiesApart m b.0
party_turned m u b =
    let w = b.2 in
    (u, party_swap m u b.0 b.1, (w.1, w.0, conflict_swap RoleConflict m w.0 w.1 w.2, w.4, w.3))

mixed_turned : (k c : Kind) (m : Facts) (x : ℕ) (b : Mixed k c m x) → Mixed k c m b.0
mixed_turned k c m x b =
    (x, b.2, b.1, conflict_swap c m x b.0 b.3, b.5, b.4, λ e. b.6 (conflict_swap RoleConflict m b.2 b.1 e))

took_turned : (m : Facts) (t : ℕ) (b : Breaks TakersApart m t) → Breaks TakersApart m b.0
took_turned m t b =
    (t, b.1, b.3, b.2, b.4, conflict_swap odds-kind m t b.0 b.5, party_swap m b.2 b.3 b.6, b.8, b.7)

-- what breaks a rule, by B, in m' does so at a place of P, or something broke it in m
abbrev pub Located : (ℕ → Type 0) → (Facts → ℕ → Type 0) → Facts → Facts → Type 0
Located P B m m' = ((y : ℕ) × P y × B m' y) ⊎ ((y : ℕ) × B m y)

-- what is new leads to a place of P, and what is old is gone on from
old : {A B C : Type 0} → A ⊎ B → (B → C) → (A → C) → C
old (inl a) f g = g a
old (inr b) f g = f b

either : (P : ℕ → Type 0) (x y : ℕ) → P (min x y) → P x ⊎ P y
either P x y p = ⊎_elim (λ l. inl (subst P (omega arith) p)) (λ l. inr (subst P (omega arith) p)) (cases_lt x y)

pairwise : {k : Kind} {m m' : Facts} {P : ℕ → Type 0} → Gains k m m' (λ x y. P x) → (x y : ℕ)
    → Conflict k m' x y → Conflict k m x y ⊎ (P x ⊎ P y)
pairwise {P = P} g x y e = old (g.parts _ _ 0 e) (λ p. inr (either P x y p)) inl

module _ {m m' : Facts} where
  party : {P : ℕ → Type 0} → Gains UserConflict m m' (λ x y. P x) → (u v : ℕ) → Party m' u v → Party m u v ⊎ (P u ⊎ P v)
  party g u v (inl e) = inl (inl e)
  party g u v (inr e) = old (pairwise g u v e) inr (λ o. inl (inr o))

  -- a chain is an old one, or comes by a role at which a new link starts
  pub split : {Z : ℕ → Type 0} → Gains Senior m m' (λ x y. Z x) → {r s : ℕ}
      → Reaches m' r s → Reaches m r s ⊎ ((z : ℕ) × Z z × Reaches m' r z × Above m' z s)
  split g same = inl same
  split g {r} {s} (down {t = t} e p) = old (g.parts r t 0 e) (λ z. inr (r, z, same, (t, e, p)))
      (λ o. old (split g p) (λ q. inr (q.0, q.1, down e q.2, q.3)) (λ q. inl (down o q)))

  module _ {P : ℕ → Type 0} where
    pub cycle_located : {x : ℕ} → Gains Senior m m' (λ r s. P r) → Above m' x x → Located P (Breaks NoCycle) m m'
    cycle_located {x} links b = old (links.parts x b.0 0 b.1) (λ z. inl (x, z, b))
        (λ e. old (split links b.2)
        (λ q. let w = q.3 in inl (q.0, q.1, (w.0, w.1, chain_on w.2 (down b.1 q.2))))
        (λ p. inr (x, (b.0, e, p))))

    pub roles_located : {x : ℕ} → Gains Senior m m' (λ r s. Reaches m' x r → P x)
        → Gains RoleConflict m m' (λ r s. Reaches m' x r → P x) → Breaks RolesApart m' x → Located P (Breaks RolesApart) m m'
    roles_located {x} links conflicts b =
        let here : P x → Located P (Breaks RolesApart) m m' = λ p. inl (x, p, b) in
        old (pairwise conflicts b.0 b.1 b.2) (⊎_elim (λ f. here (f b.3)) (λ f. here (f b.4)))
        (λ e. old (split links b.3) (λ q. here (q.1 q.2))
        (λ p. old (split links b.4) (λ q. here (q.1 q.2)) (λ q. inr (x, (b.0, b.1, e, p, q)))))

    held : Gains UserRole m m' (λ u r. P u) → Gains Senior m m' (λ r s. (u : ℕ) → Holds m' u r → P u) → (u s : ℕ)
        → Holds m' u s → Holds m u s ⊎ P u
    held assigned links u s h = old (assigned.parts u h.0 0 h.1) inr
        (λ e. old (split links h.2) (λ q. inr (q.1 u (h.0, h.1, q.2))) (λ p. inl (h.0, e, p)))

    pub party_located : {u : ℕ} → Gains UserRole m m' (λ x y. P x) → Gains UserConflict m m' (λ x y. P x)
        → Gains Senior m m' (λ r s. (v : ℕ) → Holds m' v r → P v) → Gains RoleConflict m m' (λ r s. (v : ℕ) → Holds m' v r → P v)
        → Breaks PartiesApart m' u → Located P (Breaks PartiesApart) m m'
    party_located {u} assigned users links conflicts b =
        let w = b.2 in
        let here : P u → Located P (Breaks PartiesApart) m m' = λ p. inl (u, p, b) in
        let there : P b.0 → Located P (Breaks PartiesApart) m m' = λ p. inl (b.0, p, party_turned m' u b) in
        old (party users u b.0 b.1) (⊎_elim here there)
        (λ t. old (pairwise conflicts w.0 w.1 w.2) (⊎_elim (λ f. here (f u w.3)) (λ f. there (f b.0 w.4)))
        (λ e. old (held assigned links u w.0 w.3) here
        (λ p. old (held assigned links b.0 w.1 w.4) there (λ q. inr (u, (b.0, t, (w.0, w.1, e, p, q)))))))

    pub item_located : {k c : Kind} {x : ℕ} → Gains k m m' (λ x y. P x) → Gains c m m' (λ x y. P x)
        → Gains RoleConflict m' m (λ r s. (y : ℕ) → Assigned k m' y r → P y) → Mixed k c m' x → Located P (Mixed k c) m m'
    item_located {k} {c} {x} assigned conflicts gone b =
        let here : P x → Located P (Mixed k c) m m' = λ p. inl (x, p, b) in
        let there : P b.0 → Located P (Mixed k c) m m' = λ p. inl (b.0, p, mixed_turned k c m' x b) in
        old (pairwise conflicts x b.0 b.3) (⊎_elim here there)
        (λ e. old (assigned.parts x b.1 0 b.4) here
        (λ p. old (assigned.parts b.0 b.2 0 b.5) there
        (λ q. old (cases_in m (pair RoleConflict b.1 b.2)) (λ n. inr (x, (b.0, b.1, b.2, e, p, q, n)))
        (λ i. old (pairwise gone b.1 b.2 i) (⊎_elim (λ f. here (f x b.4)) (λ f. there (f b.0 b.5))) (λ f. absurd (b.6 f))))))

    pub task_located : {t : ℕ} → Gains odds-kind m m' (λ x y. P x) → Gains Taken m m' (λ d x. P x)
        → Gains UserConflict m m' (λ u v. (d x : ℕ) → Open m' d → HasTaken m' d x u → P x) → Gains OpenCase m m' (λ x y. ⊥)
        → Breaks TakersApart m' t → Located P (Breaks TakersApart) m m'
    task_located {t} odds taken users opened b =
        let here : P t → Located P (Breaks TakersApart) m m' = λ p. inl (t, p, b) in
        let there : P b.0 → Located P (Breaks TakersApart) m m' = λ p. inl (b.0, p, took_turned m' t b) in
        old (pairwise odds t b.0 b.5) (⊎_elim here there)
        (λ e. old (party users b.2 b.3 b.6) (⊎_elim (λ f. here (f b.1 t b.4 b.7)) (λ f. there (f b.1 b.0 b.4 b.8)))
        (λ p. old (taken.parts b.1 t b.2 b.7) here
        (λ x. old (taken.parts b.1 b.0 b.3 b.8) there
        (λ y. old (opened.parts b.1 0 0 b.4) absurd (λ z. inr (t, (b.0, b.1, b.2, b.3, z, e, p, x, y)))))))
