use Rattle.std.specs.Prelude.{ℕ}
use Rattle.facts.specs.declared.fact.Kind.{Kind}
use Rattle.facts.specs.declared.fact.Kind.TheVariants.{PermissionConflict}
use Rattle.facts.specs.declared.fact.Fact.{Fact}
use Rattle.facts.specs.Facts.{Facts, In}
use Rattle.rules.specs.declared.role_set.RoleSet.{RoleSet}
use Rattle.rules.specs.Asking.{Among}
use Rattle.rules.specs.Roles.{Link, Reaches, Above, Holds, Carries, Has, Conflict, Party}
use Rattle.rules.specs.Rules.{R3, R4}

-- what a role reaches reaches no more than the role does
abbrev pub Transitive : Type 0
Transitive = (m : Facts) (r s t : ℕ) → Reaches m r s → Reaches m s t → Reaches m r t

-- a set of roles that is closed under links contains all that its roles reach
abbrev pub ClosedUnderLinks : Type 0
ClosedUnderLinks =
    (m : Facts) (x : RoleSet) → ((r s : ℕ) → Among x r → Link m r s → Among x s)
    → (r s : ℕ) → Among x r → Reaches m r s → Among x s

-- the second set has every fact of the first
abbrev pub Grows : Facts → Facts → Type 0
Grows m m' = (f : Fact) → In m f → In m' f

-- nothing of a role, a user or a pair in conflict is taken away
pub record NothingLost (m m' : Facts) : Type 0 where
  pub reaches : (r s : ℕ) → Reaches m r s → Reaches m' r s
  pub above : (r s : ℕ) → Above m r s → Above m' r s
  pub holds : (u r : ℕ) → Holds m u r → Holds m' u r
  pub carries : (r p : ℕ) → Carries m r p → Carries m' r p
  pub has : (u p : ℕ) → Has m u p → Has m' u p
  pub conflict : (k : Kind) (x y : ℕ) → Conflict k m x y → Conflict k m' x y
  pub party : (u v : ℕ) → Party m u v → Party m' u v

-- adding facts takes no role, permission or conflict away
abbrev pub AddingKeeps : Type 0
AddingKeeps = (m m' : Facts) → Grows m m' → NothingLost m m'

-- no party has two conflicting permissions
abbrev pub Separate : Facts → Type 0
Separate m =
    (u v p q : ℕ) → Party m u v → Conflict PermissionConflict m p q → Has m u p → ¬ (Has m v q)

-- that is so where one party never holds two conflicting roles, and conflicting permissions lie in conflicting roles
abbrev pub SeparateByRules : Type 0
SeparateByRules = (m : Facts) → R3 m → R4 m → Separate m
