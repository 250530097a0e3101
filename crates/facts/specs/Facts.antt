use Rattle.std.specs.Prelude.{◌≡◌, ℕ, Bool, true, false, cond, ◌&&◌, Some, None, Option, Result, MatchResult, ◌==◌, nat_lt}
use Rattle.facts.specs.declared.fact.Entry.{Entry}
use Rattle.facts.specs.declared.fact.Entry.TheVariants.{User, Role, Permission, Task, Case, Unused}
use Rattle.facts.specs.declared.fact.Kind.{Kind}
use Rattle.facts.specs.declared.fact.Kind.TheVariants.{UserRole, PermissionRole, TaskRole, Senior}
use Rattle.facts.specs.declared.fact.Kind.TheVariants.{UserConflict, RoleConflict, PermissionConflict}
use Rattle.facts.specs.declared.fact.Kind.TheVariants.{TaskConflict, AtOdds, OpenCase, Taken, Finished}
use Rattle.facts.specs.declared.fact.UnknownKind.{UnknownKind}
use Rattle.facts.specs.declared.fact.Fact.{Fact}

-- how many values an entry has, from 0; an unused one has only 0
abbrev pub size : Entry → ℕ
size User = 128
size Role = 64
size Permission = 64
size Task = 32
size Case = 32
size Unused = 1

-- the number of each kind
abbrev pub number : Kind → ℕ
number UserRole = 1
number PermissionRole = 2
number TaskRole = 3
number Senior = 4
number UserConflict = 5
number RoleConflict = 6
number PermissionConflict = 7
number TaskConflict = 8
number AtOdds = 9
number OpenCase = 10
number Taken = 11
number Finished = 12

-- the kind with a number, if there is one
abbrev pub kind_of : ℕ → Option Kind
kind_of n =
    cond (n == 1) (Some UserRole)
    (cond (n == 2) (Some PermissionRole)
    (cond (n == 3) (Some TaskRole)
    (cond (n == 4) (Some Senior)
    (cond (n == 5) (Some UserConflict)
    (cond (n == 6) (Some RoleConflict)
    (cond (n == 7) (Some PermissionConflict)
    (cond (n == 8) (Some TaskConflict)
    (cond (n == 9) (Some AtOdds)
    (cond (n == 10) (Some OpenCase)
    (cond (n == 11) (Some Taken)
    (cond (n == 12) (Some Finished) None)))))))))))

-- the result is the kind with the number, or an error with the number that no kind has
abbrev pub IsKindOf : ℕ → Result Kind UnknownKind → Type 0
IsKindOf n r = MatchResult r (λ k. kind_of n ≡ Some k) (λ e. (kind_of n ≡ None) × (e.0 ≡ n))

-- what stands in the three entries of each kind
abbrev pub entries : Kind → Entry × Entry × Entry
entries UserRole = (User, Role, Unused)
entries PermissionRole = (Permission, Role, Unused)
entries TaskRole = (Task, Role, Unused)
entries Senior = (Role, Role, Unused)
entries UserConflict = (User, User, Unused)
entries RoleConflict = (Role, Role, Unused)
entries PermissionConflict = (Permission, Permission, Unused)
entries TaskConflict = (Task, Task, Unused)
entries AtOdds = (Task, Task, Unused)
entries OpenCase = (Case, Unused, Unused)
entries Taken = (Case, Task, User)
entries Finished = (Case, Task, Unused)

-- the four numbers of a fact
abbrev pub fact : ℕ → ℕ → ℕ → ℕ → Fact
fact k a b c = record { kind = k; a = a; b = b; c = c }

-- whether the entries of a kind are in their ranges
abbrev pub in_ranges : Kind → Fact → Bool
in_ranges k f =
    nat_lt f.a (size (entries k).0) && (nat_lt f.b (size (entries k).1) && nat_lt f.c (size (entries k).2))

-- whether four numbers are a fact: the first is a kind's, and the entries are in its ranges
abbrev pub in_ranges_of : Option Kind → Fact → Bool
in_ranges_of None f = false
in_ranges_of (Some k) f = in_ranges k f

unfoldable pub is_fact : Fact → Bool
is_fact f = in_ranges_of (kind_of f.kind) f

-- whether two facts are the same
unfoldable pub same_fact : Fact → Fact → Bool
same_fact f g = f.kind == g.kind && (f.a == g.a && (f.b == g.b && f.c == g.c))

-- a set of facts, as its test
abbrev pub Facts : Type 0
Facts = Fact → Bool

-- the fact f is in the set
abbrev pub In : Facts → Fact → Type 0
In m f = m f ≡ true

-- the set m, but for f, which is in it or not as v says
abbrev pub with : Facts → Fact → Bool → Facts
with m f v g = cond (same_fact f g) v (m g)
