use Rattle.rules.proofs.Frame.{only_of}
use Rattle.rules.proofs.Broken.{decides_party}
use Rattle.rules.proofs.inquiry.Inquiry.party_holds_conflict.Goals as goal

pub returns-else-meet-clause-value : goal.returns-else-meet-clause-value
returns-else-meet-clause-value g c h =
    let e = c.held_by-held.ensures in
    decides_party _ (only_of c.args.self.now h) _ _ _ (e.value h) (rw e.walks.same at c.if-meet.ensures.value (e.walks.asks.kept h))
    (rw (c.meet.ensures.walks.same, e.walks.same) at c.any.ensures.value (c.meet.ensures.walks.asks.kept (e.walks.asks.kept h)))
