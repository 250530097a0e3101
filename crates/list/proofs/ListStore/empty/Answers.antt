use Rattle.list.proofs.Rows.{empty_told}
use Rattle.list.proofs.ListStore.empty.Goals as goal

pub returns : goal.returns
returns c _ = empty_told c.args.self.now.places.now c.args.self.now.used
