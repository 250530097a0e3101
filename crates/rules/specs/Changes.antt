use Rattle.std.specs.Prelude.{true, false}
use Rattle.facts.specs.Facts.{Facts, with}
use Rattle.facts.specs.Stores.{IsFact}
use Rattle.rules.specs.declared.change.Change.{Change}
use Rattle.rules.specs.declared.change.Change.TheVariants.{Nothing, Add, Remove}

-- the facts after a change
abbrev pub after : Facts → Change → Facts
after m Nothing = m
after m (Add f) = with m f true
after m (Remove f) = with m f false

-- what a change names is a fact
abbrev pub Proper : Change → Type 0
Proper Nothing = Unit {0}
Proper (Add f) = IsFact f
Proper (Remove f) = IsFact f
