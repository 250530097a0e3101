use Rattle.std.specs.Prelude.{◌≡◌, ℕ, ◌+◌, ◌*◌, ◌<◌, Some, None, Option}
use Rattle.facts.specs.declared.fact.Kind.{Kind}
use Rattle.facts.specs.declared.fact.Kind.TheVariants.{UserRole, PermissionRole, TaskRole, Senior}
use Rattle.facts.specs.declared.fact.Kind.TheVariants.{UserConflict, RoleConflict, PermissionConflict}
use Rattle.facts.specs.declared.fact.Kind.TheVariants.{TaskConflict, AtOdds, OpenCase, Taken, Finished}
use Rattle.facts.specs.declared.fact.Fact.{Fact}
use Rattle.facts.specs.Facts.{size, kind_of, entries}
use Rattle.facts.specs.Stores.{IsFact}

-- where the numbers of a kind begin
abbrev pub base : Kind → ℕ
base UserRole = 0
base PermissionRole = 8192
base TaskRole = 12288
base Senior = 14336
base UserConflict = 18432
base RoleConflict = 34816
base PermissionConflict = 38912
base TaskConflict = 43008
base AtOdds = 44032
base OpenCase = 45056
base Taken = 45088
base Finished = 176160

-- the number of a fact of the kind: its entries as digits, each by the size of its range
abbrev pub number_in : Kind → Fact → ℕ
number_in k f = base k + ((f.a * size (entries k).1 + f.b) * size (entries k).2 + f.c)

abbrev pub number_by : Option Kind → Fact → ℕ
number_by None f = 0
number_by (Some k) f = number_in k f

-- the number of a fact
unfoldable pub bit_number : Fact → ℕ
bit_number f = number_by (kind_of f.kind) f

-- the facts are numbered one-to-one onto the numbers below n
pub record Numbering (n : ℕ) (number : Fact → ℕ) : Type 0 where
  pub below : (f : Fact) → IsFact f → number f < n
  pub apart : (f g : Fact) → IsFact f → IsFact g → number f ≡ number g → f ≡ g
  pub onto : (i : ℕ) → i < n → (f : Fact) × IsFact f × (number f ≡ i)
