use Rattle.std.specs.Prelude.{ℕ, List, codes}
use Rattle.facts.specs.declared.fact.Entry.{Entry}
use Rattle.facts.specs.declared.fact.Entry.TheVariants.{User, Role, Permission, Task, Case, Unused}

-- what an entry is called
abbrev pub noun : Entry → List ℕ
noun User = codes "user"
noun Role = codes "role"
noun Permission = codes "permission"
noun Task = codes "task"
noun Case = codes "case"
noun Unused = codes "nothing"
