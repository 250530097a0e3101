use Rattle.std.specs.Prelude.{ℕ, ◌<◌, Some, None, Option}
use Rattle.facts.specs.declared.fact.Kind.{Kind}
use Rattle.facts.specs.declared.fact.Kind.TheVariants.{RoleConflict, PermissionRole, PermissionConflict, TaskRole, TaskConflict}
use Rattle.facts.specs.Facts.{Facts}
use Rattle.rules.specs.declared.rule.Rule.{Rule}
use Rattle.rules.specs.declared.rule.Rule.TheVariants.{NoCycle, RolesApart, PartiesApart, PermissionsApart, TasksApart, TakersApart}
use Rattle.rules.specs.Roles.{Reaches, Above, Assigned, Holds, Conflict, Party}
use Rattle.rules.specs.Tasks.{Open, AtOdds, HasTaken}

-- no role lies above itself
abbrev pub R1 : Facts → Type 0
R1 m = (r : ℕ) → ¬ (Above m r r)

-- no role reaches both of two conflicting roles
abbrev pub R2 : Facts → Type 0
R2 m = (r s t : ℕ) → Conflict RoleConflict m s t → Reaches m r s → ¬ (Reaches m r t)

-- if two roles conflict, one party does not hold both between them
abbrev pub R3 : Facts → Type 0
R3 m = (s t u v : ℕ) → Conflict RoleConflict m s t → Party m u v → Holds m u s → ¬ (Holds m v t)

-- if two items conflict by the kind c, every role assigned the one conflicts with every role assigned the other
abbrev pub Apart : Kind → Kind → Facts → Type 0
Apart k c m = (x y r s : ℕ) → Conflict c m x y → Assigned k m x r → Assigned k m y s → Conflict RoleConflict m r s

-- conflicting permissions are assigned to conflicting roles only
abbrev pub R4 : Facts → Type 0
R4 = Apart PermissionRole PermissionConflict

-- and so are conflicting tasks
abbrev pub R5 : Facts → Type 0
R5 = Apart TaskRole TaskConflict

-- if two tasks are at odds, one party has not taken both in one open case
abbrev pub R6 : Facts → Type 0
R6 m = (c t q u v : ℕ) → Open m c → AtOdds m t q → Party m u v → HasTaken m c t u → ¬ (HasTaken m c q v)

-- the number of each rule
abbrev pub rule_number : Rule → ℕ
rule_number NoCycle = 1
rule_number RolesApart = 2
rule_number PartiesApart = 3
rule_number PermissionsApart = 4
rule_number TasksApart = 5
rule_number TakersApart = 6

-- the facts keep the rule
abbrev pub Keeps : Rule → Facts → Type 0
Keeps NoCycle m = R1 m
Keeps RolesApart m = R2 m
Keeps PartiesApart m = R3 m
Keeps PermissionsApart m = R4 m
Keeps TasksApart m = R5 m
Keeps TakersApart m = R6 m

-- the first rule in order that the facts break, or none
abbrev pub First : Facts → Option Rule → Type 0
First m None = (q : Rule) → Keeps q m
First m (Some r) = ¬ (Keeps r m) × ((q : Rule) → rule_number q < rule_number r → Keeps q m)
