use Rattle.std.proofs.Common.{◌≡◌, ℕ, ◌<◌, false, length, get_or}
use Rattle.facts.specs.Stores.{Decides}
use Rattle.rules.specs.Inquiries.{facts_of, Looks}
use Rattle.rules.proofs.inquiry.Inquiry.collect.Given as goal

abbrev pub invariant-loop-role : goal.invariant-loop-role
invariant-loop-role g l =
    Looks l.initial.self l.self
    × (length l.member-items ≡ 64)
    × (g.S.Store.sound l.initial.self.store.now → (k : ℕ) → k < l.role → Decides (get_or l.member-items k false) (g.Q.Question.says l.question (facts_of l.initial.self) k))
