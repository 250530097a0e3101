use Rattle.std.proofs.Common.{◌≡◌, ℕ, ◌<◌, Some, sym, ◌∙◌, subst, arith}
use Rattle.facts.specs.declared.fact.Kind.{Kind}
use Rattle.facts.specs.Facts.{Facts, In, number, kind_of, size, entries, fact}
use Rattle.facts.specs.Stores.{Only}
use Rattle.facts.proofs.Ranges.{ranged}

-- each kind is the one with its number
kind_back : (k : Kind) → kind_of (number k) ≡ Some k
kind_back k = grind arith

-- the ranges of the entries of what is in a set of facts
pub ranged_in : (m : Facts) → Only m → (k : Kind) (x y z : ℕ) → In m (fact (number k) x y z)
    → (x < size (entries k).0) × (y < size (entries k).1) × (z < size (entries k).2)
ranged_in m o k x y z e =
    let r = ranged (fact (number k) x y z) (o (fact (number k) x y z) e) in
    let same : Some k ≡ Some r.kind = sym (kind_back k) ∙ r.named in
    let q : r.kind ≡ k = cc in
    subst (λ (j : Kind). (x < size (entries j).0) × (y < size (entries j).1) × (z < size (entries j).2))
    q (r.first, r.second, r.third)

pub ranged_pair : (m : Facts) → Only m → (k : Kind) (x y : ℕ) → In m (fact (number k) x y 0)
    → (x < size (entries k).0) × (y < size (entries k).1)
ranged_pair m o k x y e = let r = ranged_in m o k x y 0 e in (r.0, r.1)
