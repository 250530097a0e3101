use Rattle.std.proofs.Common.{◌≡◌, ℕ, true, false, ◌⊎◌, sym, subst, inl, inr, ⊎_elim, arith}
use Rattle.std.proofs.lemmas.Bool.{cases_Bool}
use Rattle.facts.specs.declared.fact.Kind.{Kind}
use Rattle.facts.specs.declared.fact.Fact.{Fact}
use Rattle.facts.specs.Facts.{Facts, In, number, fact, with, same_fact}
use Rattle.facts.specs.Stores.{IsFact, Only}
use Rattle.facts.proofs.Sets.{same_eq}
use Rattle.rules.specs.declared.change.Change.{Change}
use Rattle.rules.specs.declared.change.Change.TheVariants.{Nothing, Add, Remove}
use Rattle.rules.specs.Changes.{after, Proper}
use Rattle.rules.specs.Judging.{GainsNone, LosesNone}

-- what a set was before a fact was added or removed
pub with_gained : (m : Facts) (f g : Fact) → In (with m f true) g → In m g ⊎ (f ≡ g)
with_gained m f g e = grind (arith, e, cases_Bool (same_fact f g), same_eq f g)

pub with_lost : (m : Facts) (f g : Fact) → In m g → In (with m f false) g ⊎ (f ≡ g)
with_lost m f g e = grind (arith, e, cases_Bool (same_fact f g), same_eq f g)

pub with_less : (m : Facts) (f g : Fact) → In (with m f false) g → In m g
with_less m f g e = grind (arith, e, cases_Bool (same_fact f g))

pub with_more : (m : Facts) (f g : Fact) → In m g → In (with m f true) g
with_more m f g e = grind (arith, e, cases_Bool (same_fact f g))

-- changes that add or remove no fact of a kind
pub gains_other : (f : Fact) (k : Kind) → ¬ (f.kind ≡ number k) → GainsNone k (Add f)
gains_other f k n m x y z e = grind (arith, n, with_gained m f (fact (number k) x y z) e)

pub loses_other : (f : Fact) (k : Kind) → ¬ (f.kind ≡ number k) → LosesNone k (Remove f)
loses_other f k n m x y z e = grind (arith, n, with_lost m f (fact (number k) x y z) e)

-- what m' has of a kind m has too, or its first two entries are of P
pub record Gains (k : Kind) (m m' : Facts) (P : ℕ → ℕ → Type 0) : Type 0 where
  pub parts : (x y z : ℕ) → In m' (fact (number k) x y z) → In m (fact (number k) x y z) ⊎ P x y

gains_by : {k : Kind} {m m' : Facts} {P : ℕ → ℕ → Type 0} (f : Fact) → ((g : Fact) → In m' g → In m g ⊎ (f ≡ g))
    → P f.a f.b → Gains k m m' P
gains_by {k} {P = P} f g p = record {
  parts = λ x y z e. ⊎_elim inl (λ q. inr (subst (λ (h : Fact). P h.a h.b) q p)) (g (fact (number k) x y z) e);
}

pub none : {k : Kind} {P : ℕ → ℕ → Type 0} (m : Facts) (c : Change) → GainsNone k c → Gains k m (after m c) P
none m c g = record { parts = λ x y z e. inl (g m x y z e) }

-- of a change that is known
module _ {k : Kind} {m : Facts} {c : Change} {f : Fact} {P : ℕ → ℕ → Type 0} where
  pub one : c ≡ Add f → P f.a f.b → Gains k m (after m c) P
  one e p = gains_by f (subst (λ (h : Change). (g : Fact) → In (after m h) g → In m g ⊎ (f ≡ g)) (sym e) (with_gained m f)) p

  pub other : c ≡ Add f → ¬ (f.kind ≡ number k) → Gains k m (after m c) P
  other e n = none m c (subst (λ (h : Change). GainsNone k h) (sym e) (gains_other f k n))

  pub kept : c ≡ Add f → Gains k (after m c) m P
  kept e = record {
    parts = λ x y z i. inl (subst (λ (h : Change). In (after m h) (fact (number k) x y z)) (sym e) (with_more m f (fact (number k) x y z) i));
  }

  pub gone : c ≡ Remove f → P f.a f.b → Gains k (after m c) m P
  gone e p = gains_by f (subst (λ (h : Change). (g : Fact) → In m g → In (after m h) g ⊎ (f ≡ g)) (sym e) (with_lost m f)) p

-- a change that names a fact leaves only facts in the set
pub only_after : (m : Facts) (c : Change) → Only m → Proper c → Only (after m c)
only_after m Nothing o p = o
only_after m (Add f) o p = λ g e. ⊎_elim (λ old. o g old) (λ q. subst (λ (x : Fact). IsFact x) q p) (with_gained m f g e)
only_after m (Remove f) o p = λ g e. o g (with_less m f g e)
