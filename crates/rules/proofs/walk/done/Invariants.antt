use Rattle.std.proofs.Common.{◌≡◌, ℕ, ◌<◌, false, eqb, length, get_or}
use Rattle.rules.specs.Walks.{mark}
use Rattle.rules.proofs.walk.done.Given as goal

abbrev pub invariant-loop-role : goal.invariant-loop-role
invariant-loop-role l =
    (length l.member-items ≡ 64) × ((k : ℕ) → k < l.role → get_or l.member-items k false ≡ eqb (mark l.marks k) 1)
