use Rattle.rules.specs.Asking.{Among}
use Rattle.rules.specs.Roles.{Link}
use Rattle.rules.proofs.Marks.{closed_under}
use Rattle.rules.proofs.laws.closed_sets_contain_the_reached.Goals as goal

pub returns : goal.returns
returns c m x step r s a p = closed_under (Link m) (Among x) step p a
