use Rattle.rules.specs.Asking.{Asks}
use Rattle.book_network.proofs.network.show_permissions.Given as goal

abbrev pub invariant-loop-permission : goal.invariant-loop-permission
invariant-loop-permission g l = Asks g.S.Store l.initial.store l.store
