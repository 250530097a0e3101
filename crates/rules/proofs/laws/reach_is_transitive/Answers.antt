use Rattle.rules.proofs.Marks.{chain_on}
use Rattle.rules.proofs.laws.reach_is_transitive.Goals as goal

pub returns : goal.returns
returns c m r s t = chain_on
