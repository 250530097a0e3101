use Rattle.std.proofs.Common.{◌≡◌, rules, arith, refl}
use Rattle.std.proofs.lemmas.Iterator.{IsFirst-from_position, YieldsList-from_slice}
use borrow.Author.Tests.{tests}
use Rattle.facts.specs.declared.fact.Fact.{Fact}
use Rattle.list.proofs.Rows.{first_found}
use Rattle.list.proofs.List.find.Goals as goal

pub returns : goal.returns
returns c =
    let f = c.args.fact in
    let first = IsFirst-from_position _ _ _ (λ (x : Fact). x ≡ f) (λ (x : Fact). ¬ (x ≡ f)) c.position.ensures.ran
    (YieldsList-from_slice _ refl) (λ x q k. search (rules, tests)) (λ x q k. search (rules, tests)) in
    first_found _ _ f _ (omega (arith, c.args.self.now.tidy.within)) (rw (← c.iter.ensures.rest) first)
