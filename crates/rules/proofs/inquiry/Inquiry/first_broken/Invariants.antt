use Rattle.std.proofs.Common.{◌<◌, ◌+◌}
use Rattle.rules.specs.declared.rule.Rule.{Rule}
use Rattle.rules.specs.Inquiries.{facts_of, Walks}
use Rattle.rules.specs.Judging.{Held}
use Rattle.rules.specs.Rules.{Keeps, rule_number}
use Rattle.rules.proofs.inquiry.Inquiry.first_broken.Given as goal

abbrev pub invariant-loop-rule : goal.invariant-loop-rule
invariant-loop-rule g l =
    (g.S.Store.sound l.initial.self.store.now → ((q : Rule) → Held l.judgement q (g.S.Store.facts l.initial.self.store.now))
    → (q : Rule) → rule_number q < l.rule-index + 1 → Keeps q (facts_of l.initial.self))
    × Walks l.initial.self l.self
