use Rattle.std.specs.Prelude.{◌≡◌, ℕ, zero, suc, ◌<◌, ◌≤◌, min, false, ◌||◌, List, length, Some, None, Option, slice_index_or}
use Rattle.facts.specs.declared.fact.Fact.{Fact}
use Rattle.facts.specs.Facts.{Facts, fact, same_fact}
use Rattle.facts.specs.Stores.{IsFact}

-- four numbers that are no fact, for a place past the end
abbrev pub nil : Fact
nil = fact 0 0 0 0

-- whether f stands in the first n places
abbrev pub among : List Fact → ℕ → Facts
among xs zero f = false
among xs (suc n) f = same_fact (slice_index_or xs n nil) f || among xs n f

-- how many of the places a list may use
abbrev pub usable : List Fact → ℕ
usable xs = min (length xs) 4096

-- the first n places are in good order
pub record Tidy (xs : List Fact) (n : ℕ) : Type 0 where
  pub within : n ≤ usable xs
  -- each of them holds a fact
  pub facts : (k : ℕ) → k < n → IsFact (slice_index_or xs k nil)
  -- and no two the same
  pub apart : (j k : ℕ) → j < k → k < n → ¬ (slice_index_or xs j nil ≡ slice_index_or xs k nil)

-- what a search tells: where f stands in the first n places, if it does
abbrev pub Found : List Fact → ℕ → Fact → Option ℕ → Type 0
Found xs n f None = among xs n f ≡ false
Found xs n f (Some i) = (i < n) × (slice_index_or xs i nil ≡ f)
