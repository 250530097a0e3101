use Rattle.rules.specs.declared.rule.Rule.TheVariants.{RolesApart}
use Rattle.rules.proofs.Broken.{breaking}
use Rattle.rules.proofs.Gains.{none, one}
use Rattle.rules.proofs.Located.{roles_located}
use Rattle.rules.proofs.suspects.role_suspects.Goals as goal

pub returns-in-Some : goal.returns-in-Some
returns-in-Some c m o x b =
    let e = c.in-Some.ensures.0 in
    let l = breaking _ o RolesApart x b in
    roles_located (one e (λ p. (l, p))) (one e (λ p. (l, p))) b

pub returns-in-Some-added : goal.returns-in-Some-added
returns-in-Some-added c m o x b =
    let e = c.in-Some-added.ensures.0 in
    let l = breaking _ o RolesApart x b in
    roles_located (one e (λ p. (l, p))) (one e (λ p. (l, p))) b

pub returns : goal.returns
returns c m o x b =
    let h = c.args.change in
    roles_located (none m h c.in_default.ensures) (none m h c.in_default-added.ensures) b
