use Rattle.rules.specs.Asking.{Asks}
use Rattle.book_network.proofs.network.show_users.Given as goal

abbrev pub invariant-loop-user : goal.invariant-loop-user
invariant-loop-user g l = Asks g.S.Store l.initial.store l.store
