use Rattle.book_grid.proofs.runs.play.Given as goal

abbrev pub invariant-loop-step : goal.invariant-loop-step
invariant-loop-step g l =
    (g.S.Store.sound l.initial.store → g.S.Store.sound l.store) × g.S.Store.outside l.initial.store l.store
