use Rattle.book_network.proofs.network.load.Given as goal

abbrev pub invariant-loop-kind : goal.invariant-loop-kind
invariant-loop-kind g l =
    (g.S.Store.sound l.initial.store → g.S.Store.sound l.store) × g.S.Store.outside l.initial.store l.store
