use Rattle.std.proofs.Common.{◌≡◌, ℕ, zero, suc, ◌<◌, ◌≤◌, Bool, false, cond, ◌≢◌, ◌⊎◌, List, length, get_or, set, sym, ap, ◌∙◌, subst, inl, inr, ⊎_elim, arith}
use Rattle.std.proofs.lemmas.List.{get_or-set_same, get_or-set_other}
use Rattle.std.proofs.lemmas.Bool.{cases_Bool}
use Rattle.std.proofs.lemmas.Bool.Decides.{nat_tests}
use Rattle.facts.specs.declared.fact.Kind.TheVariants.{Senior}
use Rattle.facts.specs.Facts.{Facts}
use Rattle.facts.specs.Stores.{Only}
use Rattle.rules.proofs.Ranged.{ranged_pair}
use Rattle.rules.specs.declared.walk.Way.{Way}
use Rattle.rules.specs.declared.walk.Way.TheVariants.{Down, Up}
use Rattle.rules.specs.declared.role_set.RoleSet.{RoleSet}
use Rattle.rules.specs.Asking.{Among, Exactly}
use Rattle.rules.specs.Roles.{Chain, same, down}
use Rattle.rules.specs.Walks.{Linked, From, Leads, mark, NonZero, Pended, Small, Ended, Walking, Walked, undone}

-- one more link at the end, and one chain after another
pub chain_on : {L : ℕ → ℕ → Type 0} {r s t : ℕ} → Chain L r s → Chain L s t → Chain L r t
chain_on same q = q
chain_on (down e p) q = down e (chain_on p q)

pub chain_more : {L : ℕ → ℕ → Type 0} {r s t : ℕ} → Chain L r s → L s t → Chain L r t
chain_more p e = chain_on p (down e same)

-- a set that is closed under links and contains a role contains all that it leads to
pub closed_under : (L : ℕ → ℕ → Type 0) (P : ℕ → Type 0) → ((r s : ℕ) → P r → L r s → P s)
    → {r s : ℕ} → Chain L r s → P r → P s
closed_under L P step same p = p
closed_under L P step (down e q) p = closed_under L P step q (step _ _ p e)

-- no more is undone than before where what is done stays done, and less once r is done
undone_le : (b b' : List ℕ) (n : ℕ) → ((s : ℕ) → s < n → mark b s ≡ 1 → mark b' s ≡ 1) → undone b' n ≤ undone b n
unfolding undone
undone_le b b' zero h = omega arith
undone_le b b' (suc n) h =
    grind (arith, nat_tests, undone_le b b' n (λ s l. h s (omega arith)), h n (omega arith))

undone_less : (b b' : List ℕ) (n r : ℕ) → r < n → ((s : ℕ) → s < n → mark b s ≡ 1 → mark b' s ≡ 1)
    → mark b r ≢ 1 → mark b' r ≡ 1 → undone b' n < undone b n
unfolding undone
undone_less b b' zero r l h d e = omega arith
undone_less b b' (suc n) r l h d e =
    let on = λ (s : ℕ) (i : s < n). h s (omega arith) in
    let less = λ (i : r < n). undone_less b b' n r i on d e in
    grind (arith, nat_tests, d, e, less, undone_le b b' n on, h n (omega arith))

-- the members of a set, as a test
abbrev test : RoleSet → ℕ → Bool
test x s = get_or x.members s false

-- the roles of a set, put on marks that were cleared
module _ (x : RoleSet) {b c : List ℕ} (z : (s : ℕ) → s < 64 → mark b s ≡ 0) (p : Pended (test x) b c) where
  begun : (s : ℕ) → s < 64 → mark c s ≡ cond (test x s) 2 0
  begun s l = p.grown s l (z s l)

  pub begun_small : Small c
  begun_small s l = grind (arith, begun s l, cases_Bool (test x s))

  pub begun_walking : {L : ℕ → ℕ → Type 0} {Q : ℕ → Type 0} → Walking L (Among x) Q c
  begun_walking = record {
    sound = λ s l n. (s, l, (l, grind (arith, n, begun s l, cases_Bool (test x s))), same);
    start = λ r l a. grind (arith, a.1, begun r l);
    further = λ r s k l e _. absurd (grind (arith, e, begun r k, cases_Bool (test x r)));
    unmet = λ s l e. absurd (grind (arith, e, begun s l, cases_Bool (test x s)));
  }

-- a turn: r is done, and the roles of a set behind it are to be gone on from
module _ (x : RoleSet) (b : List ℕ) {a c : List ℕ} {r : ℕ} (k : (r < 64) × (mark b r ≡ 2)) (long : 64 ≤ length b) (stay : a ≡ set b r 1)
    (p : Pended (test x) a c) where
  at_r : mark a r ≡ 1
  at_r = ap (λ y. mark y r) stay ∙ get_or-set_same b r 1 0 (omega (arith, k.0))

  off_r : (s : ℕ) → s ≢ r → mark a s ≡ mark b s
  off_r s n = ap (λ y. mark y s) stay ∙ get_or-set_other b r s 1 0 n

  stays : (s : ℕ) → s < 64 → NonZero (mark b s) → NonZero (mark c s)
  stays s l n = grind (arith, n, at_r, off_r s, p.kept s l)

  -- each role of the set is met, and no other anew
  under : (s : ℕ) → Among x s → NonZero (mark c s)
  under s e = grind (arith, e.1, at_r, off_r s, p.kept s e.0, p.grown s e.0)

  met : (s : ℕ) → s < 64 → test x s ≡ false → NonZero (mark c s) → NonZero (mark b s)
  met s l e n = grind (arith, e, n, k.1, off_r s, p.grown s l)

  -- a role that is done was done before, or is r
  done_before : (s : ℕ) → s < 64 → mark c s ≡ 1 → (s ≡ r) ⊎ (mark b s ≡ 1)
  done_before s l e = grind (arith, e, off_r s, p.kept s l, p.grown s l, cases_Bool (test x s))

  pub turn_small : Small b → Small c
  turn_small w s l = grind (arith, w s l, at_r, off_r s, p.kept s l, p.grown s l, cases_Bool (test x s))

  pub turn_less : undone c 64 < undone b 64
  turn_less = undone_less b c 64 r k.0 (λ s l e. grind (arith, e, at_r, off_r s, p.kept s l))
      (λ e. omega (arith, k.1)) (grind (arith, at_r, p.kept r k.0))

  pub turn_walking : {L : ℕ → ℕ → Type 0} {P Q : ℕ → Type 0} → Exactly x (L r) → ¬ (Q r) → Walking L P Q b → Walking L P Q c
  turn_walking {L} {P} {Q} next goal w = record {
    sound = λ s l n. elim (cases_Bool (test x s)) [
      | inl e ↦ let q = w.sound r k.0 (λ z. omega (arith, k.1)) in (q.0, q.1, q.2, chain_more q.3 (next.only s (l, e)))
      | inr e ↦ w.sound s l (met s l e n)
    ];
    start = λ s l e. stays s l (w.start s l e);
    further = λ q s j l e t. ⊎_elim (λ d. under s (next.all s l (subst (λ (v : ℕ). L v s) d t)))
        (λ d. stays s l (w.further q s j l d t)) (done_before q j e);
    unmet = λ s l e. ⊎_elim (λ d. subst (λ (v : ℕ). ¬ (Q v)) (sym d) goal) (w.unmet s l) (done_before s l e);
  }

-- the end of a walk along links between roles
module _ {L : ℕ → ℕ → Type 0} {P Q : ℕ → Type 0} {b : List ℕ} (far : (r s : ℕ) → L r s → s < 64) (small : Small b)
    (ended : Ended b) (w : Walking L P Q b) where
  reached : (s : ℕ) → From L P s → (s < 64) × (mark b s ≡ 1)
  reached s p =
      let one = λ (y : ℕ) (l : y < 64) (n : NonZero (mark b y)). let e : mark b y ≡ 1 = omega (arith, ended y l, small y l) in e in
      closed_under L (λ x. (x < 64) × (mark b x ≡ 1))
      (λ x y q e. let l = far x y e in (l, one y l (w.further x y q.0 l q.1 e)))
      p.3 (p.1, one p.0 p.1 (w.start p.0 p.1 p.2))

  pub walked : Walked L P b
  walked = record { only = λ s l e. w.sound s l (λ z. omega arith); all = reached }

  pub not_led : ¬ (Leads L P Q)
  not_led q = let e = reached q.0 q.1 in w.unmet q.0 e.0 e.1 q.2

-- a link joins roles
pub linked_far : (way : Way) (m : Facts) → Only m → (r s : ℕ) → Linked way m r s → s < 64
linked_far Down m o r s e = (ranged_pair m o Senior r s e).1
linked_far Up m o r s e = (ranged_pair m o Senior s r e).0
