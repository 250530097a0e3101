use Rattle.std.proofs.Common.{refl, inl, arith, rules}
use Rattle.facts.specs.declared.fact.Kind.TheVariants.{OpenCase}
use Rattle.rules.specs.Judging.{GainsNone}
use Rattle.rules.proofs.Gains.{none, one, other}
use Rattle.rules.proofs.Located.{task_located}
use Rattle.rules.proofs.suspects.taker_suspects.Goals as goal

pub returns-in-Some : goal.returns-in-Some
returns-in-Some c m o x b =
    let at = c.in-Some.ensures in
    task_located (one at.0 refl) (other at.0 (λ z. omega (arith, at.1)))
    (other at.0 (λ z. omega (arith, at.1))) (other at.0 (λ z. omega (arith, at.1))) b

pub returns-in-Some-added : goal.returns-in-Some-added
returns-in-Some-added c m o x b =
    let at = c.in-Some-added.ensures in
    task_located (none m c.args.change c.in_default.ensures) (one at.0 refl)
    (other at.0 (λ z. omega (arith, at.1))) (other at.0 (λ z. omega (arith, at.1))) b

pub returns-in-Some-added-2 : goal.returns-in-Some-added-2
returns-in-Some-added-2 c m o x b =
    let h = c.args.change in
    let at = c.in-Some-added-2.ensures in
    task_located (none m h c.in_default.ensures) (none m h c.in_default-added.ensures)
    (one at.0 (λ d y i w. (d, i, w))) (other at.0 (λ z. omega (arith, at.1))) b

pub returns-then-is_some : goal.returns-then-is_some
returns-then-is_some c m o x b = inl (x, tt, b)

pub returns : goal.returns
returns c m o x b =
    let h = c.args.change in
    let opened : GainsNone OpenCase h = search rules in
    task_located (none m h c.in_default.ensures) (none m h c.in_default-added.ensures)
    (none m h c.in_default-added-2.ensures) (none m h opened) b
