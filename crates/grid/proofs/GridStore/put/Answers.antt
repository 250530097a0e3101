use Rattle.std.proofs.Common.{false, arith, rules}
use Rattle.grid.proofs.Grids.{Turned, put_fits, put_counted, put_does}
use Rattle.grid.proofs.GridStore.put.Goals as goal
use Rattle.grid.proofs.GridStore.put.Goals.{After-flip}

turned : (c : After-flip) → Turned c.args.self.now.bytes.now c.flip.new.bytes c.args.fact c.in-Some.number c.args.self.now.count false
turned c = search rules

pub overflow_add-count : goal.overflow_add-count
overflow_add-count c = omega (arith, put_fits (turned (goal.at.overflow_add-count c).After-flip))

pub invariant_of-self : goal.invariant_of-self
invariant_of-self c = record { counted = put_counted (turned (goal.at.invariant_of-self c).After-flip) }

pub returns-clause-does : goal.returns-clause-does
returns-clause-does c _ = put_does (turned (goal.at.returns-clause-does c).After-flip)
