use Rattle.std.proofs.Common.{◌≡◌, ◌<◌, true, cond, Some, None, Option, refl, arith, rules}
use Rattle.std.proofs.lemmas.Bool.Decides.{nat_tests}
use Rattle.facts.specs.declared.fact.Kind.{Kind}
use Rattle.facts.specs.declared.fact.Fact.{Fact}
use Rattle.facts.specs.Facts.{kind_of, size, entries, in_ranges, is_fact}

-- of a kind's number: the four numbers are a fact where the entries are in the kind's ranges
pub fact_of_kind : (f : Fact) (k : Kind) → kind_of f.kind ≡ Some k → is_fact f ≡ in_ranges k f
unfolding is_fact
fact_of_kind f k e = rw e

-- what the kind that was told says
pub some_told : (f : Fact) (k : Kind) → Some k ≡ cond (is_fact f) (kind_of f.kind) None
    → (is_fact f ≡ true) × (kind_of f.kind ≡ Some k)
some_told f k e = search (rules, nat_tests)

-- the ranges of a fact's entries
pub record Ranged (f : Fact) : Type 0 where
  pub kind : Kind
  pub named : kind_of f.kind ≡ Some kind
  pub first : f.a < size (entries kind).0
  pub second : f.b < size (entries kind).1
  pub third : f.c < size (entries kind).2

ranged_by : (f : Fact) (o : Option Kind) → kind_of f.kind ≡ o → is_fact f ≡ true → Ranged f
unfolding is_fact
ranged_by f None e h = cc
ranged_by f (Some k) e h = grind (arith, nat_tests)

pub ranged : (f : Fact) → is_fact f ≡ true → Ranged f
ranged f h = ranged_by f (kind_of f.kind) refl h
