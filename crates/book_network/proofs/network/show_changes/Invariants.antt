use Rattle.rules.specs.Asking.{Asks}
use Rattle.book_network.proofs.network.show_changes.Given as goal

abbrev pub invariant-loop-change : goal.invariant-loop-change
invariant-loop-change g l = Asks g.S.Store l.initial.store l.store
