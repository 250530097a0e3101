use Rattle.book_network.proofs.network.load.Goals as goal

pub loop-kind-preserved : goal.loop-kind-preserved
loop-kind-preserved g c = (
  λ h. c.put.ensures.kept (c.loop-kind.invariant.0 h),
  g.S.Store.chained _ _ _ c.loop-kind.invariant.1 c.put.ensures.outside,
)
