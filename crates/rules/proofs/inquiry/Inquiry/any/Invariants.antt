use Rattle.std.proofs.Common.{ℕ, ◌<◌}
use Rattle.rules.specs.Inquiries.{facts_of, Walks}
use Rattle.rules.proofs.inquiry.Inquiry.any.Given as goal

abbrev pub invariant-loop-n : goal.invariant-loop-n
invariant-loop-n g l =
    Walks l.initial.self l.self
    × (g.S.Store.sound l.initial.self.store.now → (k : ℕ) → k < l.n → ¬ (g.T.Trial.shows l.trial (facts_of l.initial.self) k))
