use Rattle.std.specs.Prelude.{◌≡◌, ℕ, ◌+◌, ◌*◌, ◌%◌, ◌<◌, Bool, true, cond, List, is_some, Some, None, Option, slice_index_or, slice_set}
use Rattle.facts.specs.declared.fact.Fact.{Fact}
use Rattle.facts.specs.Facts.{Facts, same_fact}
use Rattle.cache.specs.declared.Answer.{Answer}
use Rattle.cache.specs.declared.Cache.{Cache}

-- the slots of a cache, each with an answer or none
abbrev pub Slots : Type 0
Slots = List (Option Answer)

-- the slot of a fact
unfoldable pub slot_of : Fact → ℕ
slot_of f = (f.kind * 7 + f.a * 5 + f.b * 3 + f.c) % 64

-- what a slot tells of a fact: the answer, if it is of this fact
abbrev pub told : Option Answer → Fact → Option Bool
told None f = None
told (Some x) f = cond (same_fact x.fact f) (Some x.there) None

-- the answer that is remembered of a fact
unfoldable pub recalled : Slots → Fact → Option Bool
recalled xs f = told (slice_index_or xs (slot_of f) None) f

-- some answer is remembered of a fact
abbrev pub Remembered : Slots → Fact → Type 0
Remembered xs f = is_some (recalled xs f) ≡ true

-- the slots after an answer is noted
abbrev pub noted : Slots → Fact → Bool → Slots
noted xs f b = slice_set xs (slot_of f) (Some (record { fact = f; there = b }))

-- what is remembered in the other slots than that of f is as it was
abbrev pub OthersStay : Fact → Slots → Slots → Type 0
OthersStay f xs ys = (g : Fact) → ¬ (slot_of g ≡ slot_of f) → recalled ys g ≡ recalled xs g

-- each remembered answer is the set's own
abbrev pub Honest : Facts → Slots → Type 0
Honest m xs = (f : Fact) (b : Bool) → recalled xs f ≡ Some b → b ≡ m f

-- P holds of at most n facts: they can be numbered below n, each with a number of its own
pub record AtMost (n : ℕ) (P : Fact → Type 0) : Type 0 where
  pub number : Fact → ℕ
  pub below : (f : Fact) → P f → number f < n
  pub apart : (f g : Fact) → P f → P g → number f ≡ number g → f ≡ g

-- a cache is faithful to the store below it
pub record Faithful {S : Type 0} (sound : S → Type 0) (facts : S → Facts) (c : Cache S) : Type 0 where
  pub lower : sound c.below
  pub honest : Honest (facts c.below) c.slots
