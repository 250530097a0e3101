use Rattle.std.proofs.Common.{refl, inr}
use Rattle.rules.proofs.Gains.{none, one, kept, gone}
use Rattle.rules.proofs.Located.{item_located}
use Rattle.rules.proofs.suspects.item_suspects.Goals as goal

pub returns-in-Some : goal.returns-in-Some
returns-in-Some c m o x b = let e = c.in-Some.ensures.0 in item_located (one e refl) (one e refl) (kept e) b

pub returns-in-Some-added : goal.returns-in-Some-added
returns-in-Some-added c m o x b = let e = c.in-Some-added.ensures.0 in item_located (one e refl) (one e refl) (kept e) b

pub returns-in-Some-removed : goal.returns-in-Some-removed
returns-in-Some-removed c m o x b =
    let h = c.args.change in
    item_located (none m h c.in_default.ensures) (none m h c.in_default-added.ensures) (gone c.in-Some-removed.ensures.0 (λ y i. i)) b

pub returns : goal.returns
returns c m o x b =
    let a = c.in_default.ensures m in
    let p = c.in_default-added.ensures m in
    let l = c.in_default-removed.ensures m in
    inr (x, (b.0, b.1, b.2, p _ _ 0 b.3, a x b.1 0 b.4, a b.0 b.2 0 b.5, λ e. b.6 (l _ _ 0 e)))
