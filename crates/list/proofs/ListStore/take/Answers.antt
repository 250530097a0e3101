use Rattle.list.proofs.Rows.{take_does}
use Rattle.list.proofs.ListStore.take.Goals as goal

pub returns-in-Some-clause-does : goal.returns-in-Some-clause-does
returns-in-Some-clause-does c _ = take_does _ _ _ _ c.in-Some.ensures.0 c.args.self.now.tidy c.in-Some.ensures.1
