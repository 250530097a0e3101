use Rattle.rules.proofs.Marks.{chain_on}
use Rattle.rules.proofs.laws.parties_are_separate.Goals as goal

pub returns : goal.returns
returns c m r3 r4 u v p q together e x y =
    let a = x.2 in
    let b = y.2 in
    r3 a.0 b.0 u v (r4 p q a.0 b.0 e a.2 b.2) together
    (x.1.0, x.1.1, chain_on x.1.2 a.1) (y.1.0, y.1.1, chain_on y.1.2 b.1)
