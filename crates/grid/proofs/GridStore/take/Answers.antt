use Rattle.std.proofs.Common.{true, arith, rules}
use Rattle.grid.proofs.Grids.{Turned, take_fits, take_counted, take_does}
use Rattle.grid.proofs.GridStore.take.Goals as goal
use Rattle.grid.proofs.GridStore.take.Goals.{After-flip}

turned : (c : After-flip) → Turned c.args.self.now.bytes.now c.flip.new.bytes c.args.fact c.in-Some.number c.args.self.now.count true
turned c = search rules

pub overflow_sub-count : goal.overflow_sub-count
overflow_sub-count c = omega (arith, take_fits (turned (goal.at.overflow_sub-count c).After-flip))

pub invariant_of-self : goal.invariant_of-self
invariant_of-self c = record { counted = take_counted (turned (goal.at.invariant_of-self c).After-flip) }

pub returns-then-holds-clause-does : goal.returns-then-holds-clause-does
returns-then-holds-clause-does c _ = take_does (turned (goal.at.returns-then-holds-clause-does c).After-flip)
