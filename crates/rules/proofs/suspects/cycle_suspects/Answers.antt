use Rattle.std.proofs.Common.{refl}
use Rattle.rules.proofs.Gains.{none, one}
use Rattle.rules.proofs.Located.{cycle_located}
use Rattle.rules.proofs.suspects.cycle_suspects.Goals as goal

pub returns-in-Some : goal.returns-in-Some
returns-in-Some c m o x b = cycle_located (one c.in-Some.ensures.0 refl) b

pub returns : goal.returns
returns c m o x b = cycle_located (none m c.args.change c.in_default.ensures) b
