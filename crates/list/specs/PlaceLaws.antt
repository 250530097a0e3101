-- The laws that every store owes, of a list of places: lemmas, which only the proofs rest on.
use Rattle.std.specs.Prelude.{◌≡◌, ℕ, zero, suc, ◌-◌, ◌<◌, ◌≤◌, Bool, false, ◌||◌, List, slice_index_or, refl}
use Rattle.std.proofs.Common.{arith}
use Rattle.std.proofs.lemmas.Bool.Decides.{nat_tests}
use Rattle.facts.specs.declared.fact.Fact.{Fact}
use Rattle.facts.specs.Facts.{In}
use Rattle.facts.specs.Stores.{Only}
use Rattle.facts.proofs.Sets.{same_eq, same_refl}
use Rattle.list.specs.Places.{nil, among, usable, Tidy}

or_skip : (a b : Bool) → a ≡ false → (a || b) ≡ b
or_skip a b e = rw e refl

-- a place that holds f
pub among_at : (xs : List Fact) (n k : ℕ) (f : Fact) → k < n → slice_index_or xs k nil ≡ f → In (among xs n) f
among_at xs zero k f h e = absurd (omega arith)
among_at xs (suc n) k f h e = grind (arith, nat_tests, same_refl, among_at xs n k f)

-- where f is among them, one place holds it
pub among_where : (xs : List Fact) (n : ℕ) (f : Fact) → In (among xs n) f
    → (k : ℕ) × (k < n) × (slice_index_or xs k nil ≡ f)
among_where xs zero f e = cc
among_where xs (suc n) f e = grind (arith, nat_tests, same_eq, among_where xs n f)

-- the laws of the set and the spare
pub only_facts : (xs : List Fact) (n : ℕ) → Tidy xs n → Only (among xs n)
only_facts xs n t f e = grind (arith, among_where)

pub within_most : (xs : List Fact) (n : ℕ) → usable xs - n ≤ 4096
within_most xs n = omega arith
