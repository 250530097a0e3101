use Rattle.std.proofs.Common.{◌≡◌, ℕ, Bool, true, false, ◌⊎◌, Ok, Result, arith, rules}
use mathlib.Core.Path.{fun_ext}
use Rattle.std.proofs.lemmas.Bool.{false_from_ne_true}
use Rattle.std.proofs.lemmas.Bool.Decides.{nat_tests}
use Rattle.facts.specs.declared.fact.Fact.{Fact}
use Rattle.facts.specs.declared.refusal.Refusal.{Refusal}
use Rattle.facts.specs.Facts.{Facts, In, with, same_fact}
use Rattle.facts.specs.Stores.{Put, Take}

-- facts with the same numbers are one
pub fact_eq : (f g : Fact) → f.kind ≡ g.kind → f.a ≡ g.a → f.b ≡ g.b → f.c ≡ g.c → f ≡ g
fact_eq f g k a b c = search rules

pub same_eq : (f g : Fact) → same_fact f g ≡ true → f ≡ g
unfolding same_fact
same_eq f g e = grind (arith, nat_tests)

pub same_refl : (f : Fact) → same_fact f f ≡ true
unfolding same_fact
same_refl f = grind (arith, nat_tests)

-- a fact is in a set or is not
pub cases_in : (m : Facts) (f : Fact) → In m f ⊎ ¬ (In m f)
cases_in m f = grind arith

pub not_in : (b : Bool) → ¬ (b ≡ true) → b ≡ false
not_in = false_from_ne_true

-- a set that is told of f what it says already
pub with_stays : (m : Facts) (f : Fact) (v : Bool) → m f ≡ v → with m f v ≡ m
with_stays m f v e = fun_ext (λ g. grind (arith, nat_tests, same_eq))

-- a put that was accepted leaves the set with the fact
pub put_accepted : (f : Fact) (m : Facts) (n : ℕ) (m' : Facts) (n' : ℕ) → Put f m n (Ok tt) m' n' → m' ≡ with m f true
put_accepted f m n m' n' p = fun_ext (λ g. grind (arith, nat_tests, same_eq))

-- a take leaves the set without the fact
pub take_left : (f : Fact) (m : Facts) (n : ℕ) (m' : Facts) (n' : ℕ) → Take f m n m' n' → m' ≡ with m f false
take_left f m n m' n' p = fun_ext (λ g. grind (arith, nat_tests, same_eq))

-- a second put answers as the first, and the two do what one does
pub put_again : (f : Fact) (m : Facts) (n : ℕ) (r : Result (Unit {0}) Refusal) (m' : Facts) (n' : ℕ) (r' : Result (Unit {0}) Refusal) (m'' : Facts) (n'' : ℕ)
    → Put f m n r m' n' → Put f m' n' r' m'' n'' → Put f m n r' m'' n''
put_again f m n r m' n' r' m'' n'' p q = grind (arith, nat_tests, same_refl)

-- a put and a take do what the take alone does
pub put_taken : (f : Fact) (m : Facts) (n : ℕ) (r : Result (Unit {0}) Refusal) (m' : Facts) (n' : ℕ) (m'' : Facts) (n'' : ℕ)
    → Put f m n r m' n' → Take f m' n' m'' n'' → Take f m n m'' n''
put_taken f m n r m' n' m'' n'' p q =
    let back : m f ≡ false → with (with m f true) f false ≡ m = λ e. fun_ext (λ g. grind (arith, nat_tests, same_eq)) in
    grind (arith, nat_tests, same_refl)
