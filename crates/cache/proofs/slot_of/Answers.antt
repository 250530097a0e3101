use Rattle.std.proofs.Common.{rules}
use Rattle.cache.specs.Memory.{slot_of}
use Rattle.cache.proofs.slot_of.Goals as goal

pub returns : goal.returns
unfolding slot_of
returns c = search rules
