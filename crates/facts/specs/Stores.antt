use Rattle.std.specs.Prelude.{◌≡◌, ℕ, ◌+◌, ◌<◌, Bool, true, false, Ok, Err, MatchBool, Result}
use Rattle.facts.specs.declared.fact.Fact.{Fact}
use Rattle.facts.specs.declared.refusal.Refusal.{Refusal}
use Rattle.facts.specs.declared.refusal.Refusal.TheVariants.{NoFact, Full}
use Rattle.facts.specs.Facts.{Facts, In, with, is_fact}

-- the number of each refusal
abbrev pub refusal_number : Refusal → ℕ
refusal_number NoFact = 1
refusal_number Full = 23

-- yes exactly when P
abbrev pub Decides : Bool → Type 0 → Type 0
Decides r P = MatchBool r P (¬ P)

-- the four numbers are a fact
abbrev pub IsFact : Fact → Type 0
IsFact f = is_fact f ≡ true

-- no fact is in the set
abbrev pub Empty : Facts → Type 0
Empty m = (f : Fact) → ¬ (In m f)

-- only facts are in the set
abbrev pub Only : Facts → Type 0
Only m = (f : Fact) → In m f → IsFact f

-- neither the set nor the spare changes
abbrev pub Stays : Facts → ℕ → Facts → ℕ → Type 0
Stays m n m' n' = (m' ≡ m) × (n' ≡ n)

-- a put of f to the set m with the spare n: what it answers, and the set and the spare after it
pub record Put (f : Fact) (m : Facts) (n : ℕ) (r : Result (Unit {0}) Refusal) (m' : Facts) (n' : ℕ)
    : Type 0 where
  -- four numbers that are no fact are refused
  pub no_fact : ¬ (IsFact f) → (r ≡ Err NoFact) × Stays m n m' n'
  -- a fact that is there is accepted
  pub there : In m f → (r ≡ Ok tt) × Stays m n m' n'
  -- an absent fact is refused where the spare is 0
  pub full : IsFact f → ¬ (In m f) → n ≡ 0 → (r ≡ Err Full) × Stays m n m' n'
  -- and else joins
  pub joins : IsFact f → ¬ (In m f) → 0 < n → (r ≡ Ok tt) × (m' ≡ with m f true) × (n' + 1 ≡ n)

-- a take of f from the set m with the spare n: the set and the spare after it
pub record Take (f : Fact) (m : Facts) (n : ℕ) (m' : Facts) (n' : ℕ) : Type 0 where
  pub absent : ¬ (In m f) → Stays m n m' n'
  pub leaves : In m f → (m' ≡ with m f false) × (n' ≡ n + 1)
