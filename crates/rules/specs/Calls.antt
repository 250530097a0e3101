use Rattle.std.specs.Prelude.{◌≡◌, ℕ, ◌<◌, ◌≤◌, ◌⊎◌, List, Ok, Err, Result, slice_index}
use Rattle.rules.specs.declared.refusal.Refusal.{Refusal}
use Rattle.rules.specs.declared.refusal.Refusal.TheVariants.{OutOfRange, ShortSheet}

-- the number of each refusal
abbrev pub refusal_number : Refusal → ℕ
refusal_number OutOfRange = 1
refusal_number ShortSheet = 2

-- how a call ends whose numbers should be inside their ranges, with a sheet of n bytes: by P where it answers
abbrev pub Answered : {A : Type 0} → Type 0 → ℕ → Result A Refusal → (A → Type 0) → Type 0
Answered inside n (Ok x) P = inside × (64 ≤ n) × P x
Answered inside n (Err OutOfRange) P = ¬ inside
Answered inside n (Err ShortSheet) P = inside × (n < 64)

-- a sheet that was used: each of the first 64 bytes is 0, 1 or its old value, and the others are as they were
pub record Scratch (a b : List ℕ) : Type 0 where
  pub first : (s : ℕ) → s < 64 → (slice_index b s ≡ 0) ⊎ ((slice_index b s ≡ 1) ⊎ (slice_index b s ≡ slice_index a s))
  pub rest : (s : ℕ) → 64 ≤ s → slice_index b s ≡ slice_index a s

-- the sheet after a call: used by an answer, untouched by a refusal
abbrev pub Sheet : {A : Type 0} → Result A Refusal → List ℕ → List ℕ → Type 0
Sheet (Ok x) a b = Scratch a b
Sheet (Err e) a b = b ≡ a
