use Rattle.std.proofs.Common.{◌≡◌, ℕ, zero, suc, ◌+◌, ◌-◌, ◌<◌, ◌≤◌, false, eqb, List, length, get_or, take, set, is_some, Ok, Option, MatchOption, refl, arith, rules, length-set, length-take-le, get_or-set_other, get_or-take, get_or-set_same, drop-set-lt, MutBor}
use Rattle.std.specs.List.{AllWithin, HoldsAt}
use mathlib.Core.Path.{fun_ext}
use denote.Ref.{at_last}
use Rattle.std.proofs.lemmas.Bool.{cases_from_iff}
use Rattle.std.proofs.lemmas.Bool.Decides.{nat_tests}
use Rattle.std.proofs.lemmas.Grind.{common_steps}
use Rattle.facts.specs.declared.fact.Fact.{Fact}
use Rattle.facts.specs.Facts.{In, with}
use Rattle.facts.specs.Stores.{IsFact, Empty, Decides, Put, Take}
use Rattle.facts.proofs.Sets.{same_eq, same_refl}
use Rattle.facts.specs.Lent.{SameBeyond}
use Rattle.list.specs.Places.{nil, among, usable, Tidy, Found}
use Rattle.list.specs.PlaceLaws.{among_at, among_where}

-- a search through the first n places
pub first_found : (xs : List Fact) (n : ℕ) (f : Fact) (o : Option ℕ) → n ≤ length xs
    → MatchOption o (AllWithin (λ x. ¬ (x ≡ f)) (take n xs) 0 (length (take n xs)))
    (λ i. (i < length (take n xs)) × HoldsAt (λ x. x ≡ f) (take n xs) i × AllWithin (λ x. ¬ (x ≡ f)) (take n xs) 0 i)
    → Found xs n f o
first_found xs n f o h w = let place = among_where xs n f in grind (arith, get_or-take, length-take-le)

-- a search tells whether the fact is there
pub found_told : (xs : List Fact) (n : ℕ) (f : Fact) (o : Option ℕ) → Found xs n f o → is_some o ≡ among xs n f
found_told xs n f o w = grind (arith, among_at)

-- a list is empty where no place is used
pub empty_told : (xs : List Fact) (n : ℕ) → Decides (eqb n 0) (Empty (among xs n))
empty_told xs n =
    cases_from_iff {P = Empty (among xs n)} (λ h f. grind (arith, nat_tests, among_where), λ e. let first = among_at xs n 0 in grind (arith, nat_tests, e (get_or xs 0 nil)))

pub rest_set : (s : MutBor (List Fact)) (i : ℕ) (f : Fact) → i < 4096 → SameBeyond 4096 s (at_last s (set s.now i f))
rest_set s i f h = search (rules, length-set, drop-set-lt)

-- a fact is put past the n used places
among_set : (xs : List Fact) (n i : ℕ) (f g : Fact) → n ≤ i → among (set xs i f) n g ≡ among xs n g
among_set xs zero i f g h = refl
among_set xs (suc n) i f g h = grind (arith, common_steps, among_set xs n i f g)

module _ (xs : List Fact) (n : ℕ) (f : Fact) (h : n < usable xs) (p : IsFact f) (d : ¬ (In (among xs n) f)) where
  pub put_does : Put f (among xs n) (usable xs - n) (Ok tt) (among (set xs n f) (n + 1)) (usable (set xs n f) - (n + 1))
  put_does = grind (arith, common_steps, nat_tests, among_set, fun_ext)

  pub put_tidy : Tidy xs n → Tidy (set xs n f) (n + 1)
  put_tidy t = grind (arith, common_steps, among_at)

-- the place i, of f, is given up: the last of the n used places moves to it
module _ (xs : List Fact) (n i : ℕ) (f : Fact) (h : i < n) (t : Tidy xs n) (e : get_or xs i nil ≡ f) where
  abbrev after : List Fact
  after = set xs i (get_or xs (n - 1) nil)

  moved : (g : Fact) → among after (n - 1) g ≡ with (among xs n) f false g
  moved g =
      let came = among_where after (n - 1) g in
      let went = among_where xs n g in
      let there = λ (k : ℕ). among_at after (n - 1) k g in
      let before = λ (k : ℕ). among_at xs n k g in
      let long : i < length xs = omega (arith, t.within) in
      let here = get_or-set_same xs i (get_or xs (n - 1) nil) nil long in
      let other = λ (k : ℕ). get_or-set_other xs i k (get_or xs (n - 1) nil) nil in
      let down = λ (k : ℕ). t.apart k i in
      grind (arith, nat_tests, same_eq, same_refl)

  pub take_does : Take f (among xs n) (usable xs - n) (among after (n - 1)) (usable after - (n - 1))
  take_does = record {
    absent = λ d. absurd (d (among_at xs n i f h e));
    leaves = λ _. (fun_ext moved, rw length-set (omega (arith, t.within)));
  }
