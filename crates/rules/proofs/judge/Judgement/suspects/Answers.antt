use Rattle.std.proofs.Common.{inl, inr}
use Rattle.rules.proofs.Broken.{breaks_not}
use Rattle.rules.proofs.judge.Judgement.suspects.Goals as goal

pub returns-in-Quick : goal.returns-in-Quick
returns-in-Quick c m o held x b = elim (c.suspects.ensures m o x b) [
  | inl q ↦ q
  | inr q ↦ absurd (breaks_not c.args.rule m q.0 q.1 (rw c.in-Quick.is at held))
]
