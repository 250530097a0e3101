use Rattle.rules.proofs.Frame.{only_of}
use Rattle.rules.proofs.Broken.{decides_reached}
use Rattle.rules.proofs.inquiry.Inquiry.reaches_conflict.Goals as goal

pub returns-clause-value : goal.returns-clause-value
returns-clause-value g c h =
    let e = c.roles_from-reached.ensures in
    decides_reached _ (only_of c.args.self.now h) _ _ _ (e.value h) (rw e.walks.same at c.meet.ensures.value (e.walks.asks.kept h))
