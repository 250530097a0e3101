use Rattle.std.specs.Prelude.{◌≡◌, ℕ, Bool, Result}
use Rattle.facts.specs.declared.refusal.Refusal.{Refusal}
use Rattle.facts.specs.Facts.{Facts}
use Rattle.facts.specs.Stores.{Empty as IsEmpty, Decides, Stays, Put as Puts, Take as Takes}
use Rattle.book_grid.specs.declared.step.Step.{Step}
use Rattle.book_grid.specs.declared.step.Step.TheVariants.{Put, Has, Take, Empty}
use Rattle.book_grid.specs.declared.step.Answer.{Answer}
use Rattle.book_grid.specs.declared.step.Answer.TheVariants.{Put as Answered, Is, Taken}

-- a step of a store with the set m and the spare n: what it answers, and the set and the spare after it
abbrev pub Does : Step → Facts → ℕ → Answer → Facts → ℕ → Type 0
Does (Put f) m n a m' n' = (r : Result (Unit {0}) Refusal) × (a ≡ Answered r) × Puts f m n r m' n'
Does (Has f) m n a m' n' = (a ≡ Is (m f)) × Stays m n m' n'
Does (Take f) m n a m' n' = (a ≡ Taken) × Takes f m n m' n'
Does Empty m n a m' n' = (b : Bool) × (a ≡ Is b) × Decides b (IsEmpty m) × Stays m n m' n'
