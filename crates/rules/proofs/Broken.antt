use Rattle.std.proofs.Common.{◌≡◌, ℕ, ◌<◌, ◌≤◌, min, max, Bool, true, false, not, sym, refl, subst, inl, inr, arith}
use Rattle.facts.specs.declared.fact.Kind.{Kind}
use Rattle.facts.specs.declared.fact.Kind.TheVariants.{UserRole, PermissionRole, TaskRole, Senior, Taken}
use Rattle.facts.specs.declared.fact.Kind.TheVariants.{UserConflict, RoleConflict, PermissionConflict, TaskConflict}
use Rattle.facts.specs.Facts.{Facts, size, entries}
use Rattle.facts.specs.Stores.{Only, Decides}
use Rattle.facts.proofs.Sets.{not_in, cases_in}
use Rattle.std.proofs.lemmas.Bool.{both_ways}
use Rattle.rules.specs.declared.role_set.RoleSet.{RoleSet}
use Rattle.rules.specs.declared.rule.Rule.{Rule}
use Rattle.rules.specs.declared.rule.Rule.TheVariants.{NoCycle, RolesApart, PartiesApart, PermissionsApart, TasksApart, TakersApart}
use Rattle.rules.specs.declared.walk.Way.TheVariants.{Down}
use Rattle.rules.specs.Asking.{Among, Exactly}
use Rattle.rules.specs.Roles.{pair, Link, same, down, Reaches, Assigned, Holds, Conflict, Party}
use Rattle.rules.specs.Tasks.{Open, AtOdds, HasTaken}
use Rattle.rules.specs.Rules.{Apart, Keeps}
use Rattle.rules.specs.Judging.{Meet, Paired, Mixed, Breaks, subjects}
use Rattle.rules.proofs.Marks.{closed_under, linked_far}
use Rattle.rules.specs.Walks.{From}
use Rattle.rules.proofs.Reach.{decides_as, from_role}
use Rattle.rules.proofs.Ranged.{ranged_in, ranged_pair}

-- items are apart where none is mixed with another
apart_from : (k c : Kind) (m : Facts) → ((x : ℕ) → ¬ (Mixed k c m x)) → Apart k c m
apart_from k c m n x y r s e p q = elim (cases_in m (pair RoleConflict r s)) [
  | inl there ↦ there
  | inr absent ↦ absurd (n x (y, r, s, e, p, q, absent))
]

-- a user who conflicts with another, and holds a role that conflicts with one of a set
pub decides_rival : (u n : ℕ) (b : Bool) (own x : RoleSet) (m : Facts) → Conflict UserConflict m u n → Exactly x (Holds m n)
    → Decides b (Meet (Among own) (Among x) true m)
    → Decides b (Conflict UserConflict m u n × Meet (Among own) (Holds m n) true m)
decides_rival u n b own x m c e = decides_as b _ _
    (λ h. (c, (h.0, h.1, h.2, h.3, h.4, e.only h.1 h.5, h.6)))
    (λ q. let h = q.1 in (h.0, h.1, h.2, h.3, h.4, e.all h.1 h.3 h.5, h.6))

module _ (m : Facts) (o : Only m) where
  -- what is reached and what is held are roles
  pub reached_role : (r s : ℕ) → r < 64 → Reaches m r s → s < 64
  reached_role r s l c = closed_under (Link m) (λ x. x < 64) (λ x y _ e. linked_far Down m o x y e) c l

  pub held_role : (u s : ℕ) → Holds m u s → s < 64
  held_role u s h = reached_role h.0 s (ranged_pair m o UserRole u h.0 h.1).1 h.2

  -- two things that conflict are in the range of their kind
  pub paired : (k : Kind) (end x y : ℕ) → Paired k end → Conflict k m x y → (x < end) × (y < end)
  paired k end x y p e =
      let r = ranged_in m o k (min x y) (max x y) 0 e in
      (omega (arith, r.0, r.1, p.0, p.1), omega (arith, r.0, r.1, p.0, p.1))

  pub decides_party : (u : ℕ) (r : Bool) (x : RoleSet) → Exactly x (Holds m u) → ¬ (Meet (Among x) (Among x) true m)
      → Decides r ((v : ℕ) × (v < 128) × (Conflict UserConflict m u v × Meet (Among x) (Holds m v) true m))
      → Decides r (Breaks PartiesApart m u)
  decides_party u r x e n = decides_as r _ _
      (λ h. let w = h.2.1 in (h.0, inr h.2.0, (w.0, w.1, w.6, e.only w.0 w.4, w.5)))
      (λ h.
      let w = h.2 in
      let s = held_role u w.0 w.3 in
      let t = held_role h.0 w.1 w.4 in
      elim h.1 [
        | inl q ↦ absurd (n (w.0, w.1, s, t, e.all w.0 s w.3, e.all w.1 t (subst (λ (v : ℕ). Holds m v w.1) (sym q) w.4), w.2))
        | inr q ↦ (h.0, (paired UserConflict 128 u h.0 (omega arith, omega arith) q).1, (q, (w.0, w.1, s, t, e.all w.0 s w.3, w.4, w.2)))
      ])

  pub decides_mixed : (k c : Kind) (x end : ℕ) (b : Bool) (own : RoleSet) → size (entries k).1 ≤ 64 → Paired c end
      → Exactly own (Assigned k m x)
      → Decides b ((y : ℕ) × (y < end) × (Conflict c m x y × Meet (Among own) (Assigned k m y) false m))
      → Decides b (Mixed k c m x)
  decides_mixed k c x end b own sized p e = decides_as b _ _
      (λ h.
      let w = h.2.1 in
      (h.0, w.0, w.1, h.2.0, e.only w.0 w.4, w.5, both_ways _ w.6))
      (λ h.
      let a = (ranged_pair m o k x h.1 h.4).1 in
      let d = (ranged_pair m o k h.0 h.2 h.5).1 in
      let l : h.1 < 64 = omega (arith, a, sized) in
      let n : h.2 < 64 = omega (arith, d, sized) in (
        h.0,
        (paired c end x h.0 p h.3).1,
        (h.3, (h.1, h.2, l, n, e.all h.1 l h.4, h.5, not_in _ h.6)),
      ))

  pub decides_took : (t : ℕ) (b : Bool)
      → Decides b ((q : ℕ) × (q < 32) × (AtOdds m t q × ((c : ℕ) × (c < 32) × (Open m c
      × ((u : ℕ) × (u < 128) × (HasTaken m c t u × ((v : ℕ) × (v < 128) × (HasTaken m c q v × Party m u v))))))))
      → Decides b (Breaks TakersApart m t)
  decides_took t b = decides_as b _ _
      (λ h.
      let w = h.2.1 in
      let x = w.2.1 in
      let y = x.2.1 in
      (h.0, w.0, x.0, y.0, w.2.0, h.2.0, y.2.1, x.2.0, y.2.0))
      (λ h.
      let x = ranged_in m o Taken h.1 t h.2 h.7 in
      let y = ranged_in m o Taken h.1 h.0 h.3 h.8 in
      (h.0, y.1, (h.5, (h.1, x.0, (h.4, (h.2, x.2, (h.7, (h.3, y.2, (h.8, h.6)))))))))

  -- what reaches a role is a role
  pub reaching_role : (r s : ℕ) → s < 64 → Reaches m r s → r < 64
  reaching_role r s l same = l
  reaching_role r s l (down {t = t} e p) = (ranged_pair m o Senior r t e).0

  -- what breaks a rule is a role, a user, a permission or a task
  pub breaking : (ρ : Rule) (x : ℕ) → Breaks ρ m x → x < subjects ρ
  breaking NoCycle x b = (ranged_pair m o Senior x b.0 b.1).0
  breaking RolesApart x b =
      reaching_role x b.0 (paired RoleConflict 64 b.0 b.1 (omega arith, omega arith) b.2).0 b.3
  breaking PartiesApart x b = let h = b.2.3 in (ranged_pair m o UserRole x h.0 h.1).0
  breaking PermissionsApart x b = (ranged_pair m o PermissionRole x b.1 b.4).0
  breaking TasksApart x b = (ranged_pair m o TaskRole x b.1 b.4).0
  breaking TakersApart x b = (ranged_in m o Taken b.1 x b.2 b.7).1

  pub decides_reached : (r : ℕ) (b : Bool) (x : RoleSet) → Exactly x (From (Link m) (λ s. s ≡ r))
      → Decides b (Meet (Among x) (Among x) true m) → Decides b (Breaks RolesApart m r)
  decides_reached r b x e = decides_as b _ _
      (λ h. (h.0, h.1, h.6, from_role m r h.0 (e.only h.0 h.4), from_role m r h.1 (e.only h.1 h.5)))
      (λ h.
      let l = breaking RolesApart r h in
      let s = reached_role r h.0 l h.3 in
      let t = reached_role r h.1 l h.4 in
      (h.0, h.1, s, t, e.all h.0 s (r, l, refl, h.3), e.all h.1 t (r, l, refl, h.4), h.2))

-- the rules by what breaks them
pub keeps_from : (ρ : Rule) (m : Facts) → ((x : ℕ) → ¬ (Breaks ρ m x)) → Keeps ρ m
keeps_from NoCycle m n = n
keeps_from RolesApart m n = λ r s t c p q. n r (s, t, c, p, q)
keeps_from PartiesApart m n = λ s t u v c w p q. n u (v, w, (s, t, c, p, q))
keeps_from PermissionsApart m n = apart_from PermissionRole PermissionConflict m n
keeps_from TasksApart m n = apart_from TaskRole TaskConflict m n
keeps_from TakersApart m n = λ c t q u v p a w x y. n t (q, c, u, v, p, a, w, x, y)

pub breaks_not : (ρ : Rule) (m : Facts) (x : ℕ) → Breaks ρ m x → ¬ (Keeps ρ m)
breaks_not NoCycle m x b k = k x b
breaks_not RolesApart m x b k = k x b.0 b.1 b.2 b.3 b.4
breaks_not PartiesApart m x b k = let w = b.2 in k w.0 w.1 x b.0 w.2 b.1 w.3 w.4
breaks_not PermissionsApart m x b k = b.6 (k x b.0 b.1 b.2 b.3 b.4 b.5)
breaks_not TasksApart m x b k = b.6 (k x b.0 b.1 b.2 b.3 b.4 b.5)
breaks_not TakersApart m x b k = k b.1 x b.0 b.2 b.3 b.4 b.5 b.6 b.7 b.8

-- a rule is kept where it is broken at no suspect, and a break is at a suspect
pub decides_kept : (ρ : Rule) (m : Facts) (b : Bool) (P : ℕ → Type 0)
    → ((x : ℕ) → Breaks ρ m x → (y : ℕ) × P y × Breaks ρ m y) → Decides b ((x : ℕ) × P x × Breaks ρ m x)
    → Decides (not b) (Keeps ρ m)
decides_kept ρ m true P find d = λ k. breaks_not ρ m d.0 d.2 k
decides_kept ρ m false P find d = keeps_from ρ m (λ x b. d (find x b))
