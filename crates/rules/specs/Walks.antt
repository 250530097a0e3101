use Rattle.std.specs.Prelude.{◌≡◌, ℕ, zero, suc, ◌+◌, ◌<◌, Bool, cond, List, ◌==◌, slice_index}
use Rattle.facts.specs.Facts.{Facts}
use Rattle.rules.specs.declared.walk.Way.{Way}
use Rattle.rules.specs.declared.walk.Way.TheVariants.{Down, Up}
use Rattle.rules.specs.Roles.{Link, Chain}

-- What the functions of a walk say to each other. No public contract cites these words.

-- a link as a walk goes along it
abbrev pub Linked : Way → Facts → ℕ → ℕ → Type 0
Linked Down m = Link m
Linked Up m = λ r s. Link m s r

-- a chain leads from some role of P to s
abbrev pub From : (ℕ → ℕ → Type 0) → (ℕ → Type 0) → ℕ → Type 0
From L P s = (r : ℕ) × (r < 64) × P r × Chain L r s

-- it leads to some role of Q
abbrev pub Leads : (ℕ → ℕ → Type 0) → (ℕ → Type 0) → (ℕ → Type 0) → Type 0
Leads L P Q = (s : ℕ) × From L P s × Q s

-- the mark of a role: 0 not met, 1 done, 2 still to be gone on from
abbrev pub mark : List ℕ → ℕ → ℕ
mark a s = slice_index a s

abbrev pub NonZero : ℕ → Type 0
NonZero x = ¬ (x ≡ 0)

-- the roles of f that were not met are to be gone on from
pub record Pended (f : ℕ → Bool) (a b : List ℕ) : Type 0 where
  pub kept : (s : ℕ) → s < 64 → NonZero (mark a s) → mark b s ≡ mark a s
  pub grown : (s : ℕ) → s < 64 → mark a s ≡ 0 → mark b s ≡ cond (f s) 2 0

-- a mark has one of its three values
abbrev pub Small : List ℕ → Type 0
Small b = (s : ℕ) → s < 64 → mark b s < 3

-- no role is left to be gone on from
abbrev pub Ended : List ℕ → Type 0
Ended b = (s : ℕ) → s < 64 → ¬ (mark b s ≡ 2)

-- a walk under way from the roles of P along L, which has not met a role of Q
pub record Walking (L : ℕ → ℕ → Type 0) (P Q : ℕ → Type 0) (b : List ℕ) : Type 0 where
  pub sound : (s : ℕ) → s < 64 → NonZero (mark b s) → From L P s
  pub start : (r : ℕ) → r < 64 → P r → NonZero (mark b r)
  pub further : (r s : ℕ) → r < 64 → s < 64 → mark b r ≡ 1 → L r s → NonZero (mark b s)
  pub unmet : (s : ℕ) → s < 64 → mark b s ≡ 1 → ¬ (Q s)

-- the walk came to its end: exactly the roles that it leads to are marked
pub record Walked (L : ℕ → ℕ → Type 0) (P : ℕ → Type 0) (b : List ℕ) : Type 0 where
  pub only : (s : ℕ) → s < 64 → mark b s ≡ 1 → From L P s
  pub all : (s : ℕ) → From L P s → (s < 64) × (mark b s ≡ 1)

-- after a walk each mark is 0 or 1
abbrev pub Swept : List ℕ → Type 0
Swept b = (s : ℕ) → s < 64 → mark b s < 2

-- how many of the first n are not done
unfoldable pub undone : List ℕ → ℕ → ℕ
undone a zero = 0
undone a (suc n) = cond (mark a n == 1) 0 1 + undone a n
