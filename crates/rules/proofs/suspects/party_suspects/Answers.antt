use Rattle.std.proofs.Common.{refl, arith}
use Rattle.rules.proofs.Gains.{none, one, other}
use Rattle.rules.proofs.Located.{party_located}
use Rattle.rules.proofs.suspects.party_suspects.Goals as goal

pub returns-in-Some : goal.returns-in-Some
returns-in-Some c m o x b =
    let at = c.in-Some.ensures in
    party_located (one at.0 refl) (one at.0 refl) (other at.0 (λ z. omega (arith, at.1))) (other at.0 (λ z. omega (arith, at.1))) b

pub returns-in-Some-added : goal.returns-in-Some-added
returns-in-Some-added c m o x b =
    let at = c.in-Some-added.ensures in
    party_located (one at.0 refl) (one at.0 refl) (other at.0 (λ z. omega (arith, at.1))) (other at.0 (λ z. omega (arith, at.1))) b

pub returns-in-Some-added-2 : goal.returns-in-Some-added-2
returns-in-Some-added-2 c m o x b =
    let h = c.args.change in
    let e = c.in-Some-added-2.ensures.0 in
    party_located (none m h c.in_default.ensures) (none m h c.in_default-added.ensures) (one e (λ u w. w)) (one e (λ u w. w)) b

pub returns-in-Some-added-3 : goal.returns-in-Some-added-3
returns-in-Some-added-3 c m o x b =
    let h = c.args.change in
    let e = c.in-Some-added-3.ensures.0 in
    party_located (none m h c.in_default.ensures) (none m h c.in_default-added.ensures) (one e (λ u w. w)) (one e (λ u w. w)) b

pub returns : goal.returns
returns c m o x b =
    let h = c.args.change in
    party_located (none m h c.in_default.ensures) (none m h c.in_default-added.ensures)
    (none m h c.in_default-added-2.ensures) (none m h c.in_default-added-3.ensures) b
