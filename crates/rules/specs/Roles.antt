use Rattle.std.specs.Prelude.{◌≡◌, ℕ, min, max, ◌⊎◌}
use Rattle.facts.specs.declared.fact.Kind.{Kind}
use Rattle.facts.specs.declared.fact.Kind.TheVariants.{UserRole, PermissionRole, Senior, UserConflict}
use Rattle.facts.specs.declared.fact.Fact.{Fact}
use Rattle.facts.specs.Facts.{Facts, In, number, fact}

-- the fact that names two things of one sort, the smaller number first
abbrev pub pair : Kind → ℕ → ℕ → Fact
pair k x y = fact (number k) (min x y) (max x y) 0

-- r is directly senior to s
abbrev pub Link : Facts → ℕ → ℕ → Type 0
Link m r s = In m (fact (number Senior) r s 0)

-- a chain of links, of any length
pub data Chain (L : ℕ → ℕ → Type 0) : ℕ → ℕ → Type 0 where
  same : {r : ℕ} → Chain L r r
  down : {r t s : ℕ} → L r t → Chain L t s → Chain L r s

-- r reaches s: they are the same role, or a chain of direct seniorities leads from r down to s
abbrev pub Reaches : Facts → ℕ → ℕ → Type 0
Reaches m = Chain (Link m)

-- r lies above s: the chain has at least one link
abbrev pub Above : Facts → ℕ → ℕ → Type 0
Above m r s = (t : ℕ) × Link m r t × Reaches m t s

-- a user, a permission or a task, by the kind, is assigned to the role
abbrev pub Assigned : Kind → Facts → ℕ → ℕ → Type 0
Assigned k m x r = In m (fact (number k) x r 0)

-- the user holds the role: an assigned role reaches it
abbrev pub Holds : Facts → ℕ → ℕ → Type 0
Holds m u s = (r : ℕ) × Assigned UserRole m u r × Reaches m r s

-- the role carries the permission: it reaches a role to which the permission is assigned
abbrev pub Carries : Facts → ℕ → ℕ → Type 0
Carries m r p = (s : ℕ) × Reaches m r s × Assigned PermissionRole m p s

-- the user has the permission: a held role carries it
abbrev pub Has : Facts → ℕ → ℕ → Type 0
Has m u p = (r : ℕ) × Holds m u r × Carries m r p

-- two users, roles, permissions or tasks, by the kind, conflict
abbrev pub Conflict : Kind → Facts → ℕ → ℕ → Type 0
Conflict k m x y = In m (pair k x y)

-- two users are one party: they are the same user or conflict
abbrev pub Party : Facts → ℕ → ℕ → Type 0
Party m u v = (u ≡ v) ⊎ Conflict UserConflict m u v
