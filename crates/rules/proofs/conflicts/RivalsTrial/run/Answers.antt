use Rattle.std.proofs.Common.{sym}
use Rattle.rules.specs.Inquiries.{facts_of}
use Rattle.rules.proofs.Broken.{decides_rival}
use Rattle.rules.proofs.conflicts.RivalsTrial.run.Goals as goal

pub returns-clause-value : goal.returns-clause-value
returns-clause-value g c h =
    let asked = c.pairs.ensures.looks.same in
    let e = c.held_by-others.ensures in
    decides_rival c.args.self.now.user c.args.n _ _ _ (facts_of c.args.inquiry.now) (sym (c.if-not-pairs.ensures.value h))
    (rw asked at e.value (c.pairs.ensures.looks.asks.kept h))
    (rw (e.walks.same, asked) at c.meet.ensures.value (e.walks.asks.kept (c.pairs.ensures.looks.asks.kept h)))
