use Rattle.book_grid.proofs.runs.play.Goals as goal

pub returns-in_err-show : goal.returns-in_err-show
returns-in_err-show g c = record {
  kept = λ h. c.show.ensures.kept (c.loop-step.invariant.0 h);
  outside = g.S.Store.chained _ _ _ c.loop-step.invariant.1 c.show.ensures.outside;
}

pub loop-step-preserved : goal.loop-step-preserved
loop-step-preserved g c = (
  λ h. c.show.ensures.kept (c.loop-step.invariant.0 h),
  g.S.Store.chained _ _ _ c.loop-step.invariant.1 c.show.ensures.outside,
)
