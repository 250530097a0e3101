use Rattle.std.proofs.Common.{◌≡◌, ℕ, ◌+◌, ◌-◌, ◌/◌, ◌%◌, ◌<◌, ◌≤◌, Bool, true, false, cond, not, eqb, List, ◌++◌, length, get_or, drop, replicate, Some, None, Ok, ap, ◌∙◌, arith}
use mathlib.Core.Path.{fun_ext}
use Rattle.std.proofs.lemmas.Bool.{cases_from_iff}
use Rattle.std.specs.Array.{IsFirstChunk}
use Rattle.std.proofs.lemmas.Bool.Decides.{nat_tests}
use Rattle.std.proofs.lemmas.Grind.{common_steps}
use Rattle.facts.specs.declared.fact.Fact.{Fact}
use Rattle.facts.specs.Facts.{with, is_fact}
use Rattle.facts.specs.Stores.{Empty, Decides, Put, Take}
use Rattle.facts.proofs.Sets.{same_eq, same_refl}
use Rattle.grid.specs.Numbers.{bit_number}
use Rattle.grid.specs.Bits.{bit_in, bit, enough, grid_facts, grid_spare, tally, Counted, Flipped}
use Rattle.grid.proofs.Onto.{number_below, number_apart, number_onto}
use Rattle.grid.proofs.Flips.{none_set}
use Rattle.grid.proofs.Tallies.{tally_more, tally_zero, tally_none, tally_within}

-- the code turned the bit i round, the number that it was told of the fact f
pub record Turned (xs ys : List ℕ) (f : Fact) (i n : ℕ) (b : Bool) : Type 0 where
  pub told : Some i ≡ cond (is_fact f) (Some (bit_number f)) None
  pub wide : true ≡ enough xs
  pub long : length ys ≡ length xs
  pub bits : Flipped i xs ys
  pub counted : Counted xs n
  pub was : b ≡ bit xs i

-- the fact joins the set or leaves it, and every other stays
turned : {xs ys : List ℕ} {f : Fact} {i n : ℕ} {b : Bool} → Turned xs ys f i n b → grid_facts ys ≡ with (grid_facts xs) f (not b)
turned {f = f} t = fun_ext (λ g. grind (arith, nat_tests, t.bits (bit_number g), same_eq f g, same_refl f, number_apart f g))

module _ {xs ys : List ℕ} {f : Fact} {i n : ℕ} (t : Turned xs ys f i n false) where
  more : tally (bit ys) 177184 ≡ n + 1
  more = grind (arith, nat_tests, tally_more (bit xs) (bit ys) i 177184, number_below f, t.bits)

  pub put_fits : n < 177184
  put_fits = grind (arith, more, tally_within)

  pub put_counted : Counted ys (n + 1)
  put_counted = grind (arith, nat_tests, more)

  pub put_does : Put f (grid_facts xs) (grid_spare xs n) (Ok tt) (grid_facts ys) (grid_spare ys (n + 1))
  put_does = grind (arith, nat_tests, put_fits, turned t)

module _ {xs ys : List ℕ} {f : Fact} {i n : ℕ} (t : Turned xs ys f i n true) where
  fewer : n ≡ tally (bit ys) 177184 + 1
  fewer = grind (arith, nat_tests, tally_more (bit ys) (bit xs) i 177184, number_below f, t.bits)

  pub take_fits : 1 ≤ n
  take_fits = omega (arith, fewer)

  pub take_counted : Counted ys (n - 1)
  take_counted = grind (arith, nat_tests, fewer)

  pub take_does : Take f (grid_facts xs) (grid_spare xs n) (grid_facts ys) (grid_spare ys (n - 1))
  take_does = grind (arith, nat_tests, fewer, tally_within, turned t)

-- no bit is set that stands for a fact
abbrev pub Blank : List ℕ → Type 0
Blank xs = (i : ℕ) → enough xs ≡ true → i < 177184 → bit xs i ≡ false

pub blank_empty : (xs : List ℕ) → Blank xs → Empty (grid_facts xs)
blank_empty xs z f h = grind (arith, nat_tests, number_below, z (bit_number f))

pub blank_counted : (xs : List ℕ) → Blank xs → Counted xs 0
blank_counted xs z = grind (arith, nat_tests, tally_zero (bit xs) 177184)

-- a grid is empty exactly where its count is 0
pub empty_does : (xs : List ℕ) (n : ℕ) → Counted xs n → Decides (eqb n 0) (Empty (grid_facts xs))
empty_does xs n c =
    let clear : Empty (grid_facts xs) → Blank xs = λ e i w h. let o = number_onto i h in grind (arith, nat_tests, e o.0) in
    cases_from_iff {P = Empty (grid_facts xs)} (
      λ h f. grind (arith, nat_tests, number_below, tally_none (bit xs) 177184),
      λ e. let z = clear e in grind (arith, nat_tests, tally_zero (bit xs) 177184),
    )

-- a new grid's bytes: the first 22,148 are cleared, or they are fewer
module _ (xs ys b z : List ℕ) (m : ℕ) (k : IsFirstChunk xs b m) (f : z ≡ replicate (length b) 0) (e : ys ≡ z ++ drop m xs) where
  zero : (j : ℕ) → j < m → get_or ys j 0 ≡ 0
  zero j h = grind (arith, common_steps)

  pub clear_rest : drop m ys ≡ drop m xs
  clear_rest = grind (arith, common_steps)

  pub clear_blank : m ≡ 22148 → Blank ys
  clear_blank t i _ h = ap (λ (x : ℕ). bit_in x (i % 8)) (zero (i / 8) (omega arith)) ∙ none_set (i % 8)

pub narrow_blank : (xs : List ℕ) → length xs < 22148 → Blank xs
narrow_blank xs l i w _ = grind (arith, nat_tests)

pub count_within : (xs : List ℕ) (n : ℕ) → Counted xs n → n ≤ 177184
count_within xs n c = grind (arith, nat_tests, tally_within)
