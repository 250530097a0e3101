use Rattle.std.specs.Prelude.{ℕ}
use Rattle.facts.specs.declared.fact.Kind.TheVariants.{OpenCase, Taken}
use Rattle.facts.specs.declared.fact.Kind.TheVariants.{AtOdds as odds}
use Rattle.facts.specs.Facts.{Facts, In, number, fact}
use Rattle.rules.specs.Roles.{pair}

-- the case is open
abbrev pub Open : Facts → ℕ → Type 0
Open m c = In m (fact (number OpenCase) c 0 0)

-- two tasks are at odds within one case
abbrev pub AtOdds : Facts → ℕ → ℕ → Type 0
AtOdds m t q = In m (pair odds t q)

-- in the case c the user u has taken the task t
abbrev pub HasTaken : Facts → ℕ → ℕ → ℕ → Type 0
HasTaken m c t u = In m (fact (number Taken) c t u)
