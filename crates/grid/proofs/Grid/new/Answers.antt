use Rattle.std.proofs.Common.{refl, arith, rules}
use Rattle.grid.proofs.Grids.{Blank, blank_empty, blank_counted, clear_blank, clear_rest, narrow_blank}
use Rattle.grid.proofs.Grid.new.Goals as goal
use Rattle.grid.proofs.Grid.new.Goals.{in-Some, in_default, Joined-first_chunk_mut}

blank : (c : Joined-first_chunk_mut) → Blank c.match-first_chunk_mut.bytes
blank c = elim c.match-first_chunk_mut.branch [
  | in-Some w ↦ clear_blank _ _ _ _ _ w.in-Some.ensures.cases (w.fill.ensures.after (search rules)) w.bytes-is refl
  | in_default w ↦ narrow_blank _ (omega (arith, c.match-first_chunk_mut.auto.bytes, w.in_default.ensures.cases))
]

pub invariant_of-result : goal.invariant_of-result
invariant_of-result c = record { counted = blank_counted _ (blank c) }

pub returns-clause-empty : goal.returns-clause-empty
returns-clause-empty c = blank_empty _ (blank (goal.at.returns-clause-empty c).Joined-first_chunk_mut)

pub returns-clause-outside : goal.returns-clause-outside
returns-clause-outside c = elim c.match-first_chunk_mut.branch [
  | in-Some w ↦
      let chunk = w.in-Some.ensures.cases in
      let rest = clear_rest _ _ _ _ _ chunk (w.fill.ensures.after (search rules)) w.bytes-is in
      grind arith
  | in_default w ↦ grind (arith, w.bytes-is)
]
