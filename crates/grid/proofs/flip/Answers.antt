use Rattle.std.proofs.Common.{◌/◌, ◌<◌, arith, rules, drop-set-lt}
use Rattle.grid.proofs.flip.Goals as goal

pub returns-clause-outside : goal.returns-clause-outside
returns-clause-outside c = let first : c.args.number / 8 < 22148 = omega (arith, c.requires.1) in search (rules, drop-set-lt)
