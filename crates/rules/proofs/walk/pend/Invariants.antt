use Rattle.std.proofs.Common.{◌≡◌, ℕ, ◌<◌, ◌≤◌, false, cond, get_or, length}
use Rattle.rules.specs.Walks.{NonZero, mark}
use Rattle.rules.proofs.walk.pend.Given as goal

abbrev pub invariant-loop-role : goal.invariant-loop-role
invariant-loop-role l =
    ((s : ℕ) → s < 64 → NonZero (mark l.fn.marks s) → mark l.marks s ≡ mark l.fn.marks s)
    × ((s : ℕ) → s < l.role → mark l.fn.marks s ≡ 0 → mark l.marks s ≡ cond (get_or l.roles.members s false) 2 0)
    × ((s : ℕ) → l.role ≤ s → mark l.marks s ≡ mark l.fn.marks s)
    × (length l.marks ≡ length l.fn.marks)
