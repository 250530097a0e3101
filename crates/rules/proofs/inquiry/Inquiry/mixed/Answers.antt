use Rattle.rules.proofs.Broken.{decides_mixed}
use Rattle.rules.proofs.Frame.{only_of}
use Rattle.rules.proofs.inquiry.Inquiry.mixed.Goals as goal

pub returns-clause-value : goal.returns-clause-value
returns-clause-value g c h =
    let e = c.collect.ensures in
    let k = c.args.kinds.conflicting in
    decides_mixed _ (only_of c.args.self.now h) _ _ _ _ _ _ k.0 k.1 (e.value h)
    (rw e.looks.same at c.any.ensures.value (e.looks.asks.kept h))
