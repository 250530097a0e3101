use Rattle.std.proofs.Common.{◌≡◌, ℕ, ◌+◌, ◌-◌, ◌*◌, ◌/◌, ◌%◌, ◌<◌, ◌≤◌, true, cond, ltb, Some, sym, ◌∙◌, arith, rules}
use lib.Arith.{digits_lt, digits_div, digits_mod}
use Rattle.std.proofs.lemmas.Nat.{div-add-mod', div_below, mod_below}
use Rattle.std.proofs.lemmas.Bool.Decides.{nat_tests}
use Rattle.facts.specs.declared.fact.Entry.{Entry}
use Rattle.facts.specs.declared.fact.Kind.{Kind}
use Rattle.facts.specs.declared.fact.Kind.TheVariants.{UserRole, PermissionRole, TaskRole, Senior}
use Rattle.facts.specs.declared.fact.Kind.TheVariants.{UserConflict, RoleConflict, PermissionConflict}
use Rattle.facts.specs.declared.fact.Kind.TheVariants.{TaskConflict, AtOdds, OpenCase, Taken, Finished}
use Rattle.facts.specs.declared.fact.Fact.{Fact}
use Rattle.facts.specs.Facts.{size, number, kind_of, entries, fact, in_ranges}
use Rattle.facts.specs.Stores.{IsFact}
use Rattle.facts.proofs.Ranges.{Ranged, ranged, fact_of_kind}
use Rattle.facts.proofs.Sets.{fact_eq}
use Rattle.grid.specs.Numbers.{base, number_in, bit_number, Numbering}

-- how many facts a kind has, and where its numbers end
abbrev total : Kind → ℕ
total k = size (entries k).0 * size (entries k).1 * size (entries k).2

abbrev end : Kind → ℕ
end k = base k + total k

-- the numbers of two kinds do not overlap, and none pass the end
one_kind : (j k : Kind) (i : ℕ) → base j ≤ i → i < end j → base k ≤ i → i < end k → j ≡ k
one_kind j k i a b c d = grind arith

end_within : (k : Kind) → end k ≤ 177184
end_within k = search rules

size_pos : (e : Entry) → 0 < size e
size_pos e = search rules

-- the number of each kind, and the kind of each number
kind_of_number : (k : Kind) → kind_of (number k) ≡ Some k
kind_of_number k = search rules

number_of_kind : (n : ℕ) (k : Kind) → kind_of n ≡ Some k → n ≡ number k
number_of_kind n k e = grind (arith, nat_tests)

pub number_at : (f : Fact) (k : Kind) → kind_of f.kind ≡ Some k → bit_number f ≡ number_in k f
unfolding bit_number
number_at f k e = rw e

-- a fact's number lies among those of its kind
within : (f : Fact) (r : Ranged f) → (base r.kind ≤ bit_number f) × (bit_number f < end r.kind)
within f r =
    let e = number_at f r.kind r.named in
    let d = digits_lt (digits_lt r.first r.second) r.third in
    (omega (arith, e), omega (arith, e, d))

pub number_below : (f : Fact) → IsFact f → bit_number f < 177184
number_below f h = let r = ranged f h in omega (arith, (within f r).1, end_within r.kind)

-- the entries are digits
digits_one : (a b c d n : ℕ) → b < n → d < n → a * n + b ≡ c * n + d → (a ≡ c) × (b ≡ d)
digits_one a b c d n h g e =
    let p = digits_div a h in
    let q = digits_div c g in
    let r = digits_mod a h in
    let s = digits_mod c g in
    grind arith

pub number_apart : (f g : Fact) → IsFact f → IsFact g → bit_number f ≡ bit_number g → f ≡ g
number_apart f g p q e =
    let r = ranged f p in
    let s = ranged g q in
    let here = within f r in
    let there = within g s in
    let k = r.kind in
    let same : k ≡ s.kind = one_kind k s.kind (bit_number f) here.0 here.1 (omega arith) (omega arith) in
    let named : kind_of g.kind ≡ Some k = rw same s.named in
    let low =
    digits_one _ f.c _ g.c (size (entries k).2) r.third (rw same s.third) (omega (arith, number_at f k r.named, number_at g k named)) in
    let high = digits_one f.a f.b g.a g.b (size (entries k).1) r.second (rw same s.second) low.0 in
    fact_eq f g (number_of_kind f.kind k r.named ∙ sym (number_of_kind g.kind k named)) high.0 high.1 low.1

-- the kind among whose numbers i lies
kind_at : ℕ → Kind
kind_at i =
    cond (ltb i (end UserRole)) UserRole (cond (ltb i (end PermissionRole)) PermissionRole
    (cond (ltb i (end TaskRole)) TaskRole (cond (ltb i (end Senior)) Senior
    (cond (ltb i (end UserConflict)) UserConflict (cond (ltb i (end RoleConflict)) RoleConflict
    (cond (ltb i (end PermissionConflict)) PermissionConflict (cond (ltb i (end TaskConflict)) TaskConflict
    (cond (ltb i (end AtOdds)) AtOdds (cond (ltb i (end OpenCase)) OpenCase
    (cond (ltb i (end Taken)) Taken Finished))))))))))

lies : (i : ℕ) → i < 177184 → (base (kind_at i) ≤ i) × (i < end (kind_at i))
unfolding kind_at
lies i h = grind (arith, nat_tests)

-- the fact with the number i of a kind
abbrev fact_in : Kind → ℕ → Fact
fact_in k v =
    fact (number k) (v / size (entries k).2 / size (entries k).1) (v / size (entries k).2 % size (entries k).1) (v % size (entries k).2)

fact_ranged : (k : Kind) (v : ℕ) → v < total k → in_ranges k (fact_in k v) ≡ true
fact_ranged k v h = grind (arith, nat_tests, mod_below, div_below, size_pos)

fact_number : (k : Kind) (v : ℕ) → number_in k (fact_in k v) ≡ base k + v
fact_number k v = simp div-add-mod'

pub number_onto : (i : ℕ) → i < 177184 → (f : Fact) × IsFact f × (bit_number f ≡ i)
number_onto i h =
    let w = lies i h in
    let k = kind_at i in
    let v = i - base k in
    let f = fact_in k v in
    let named = kind_of_number k in (
      f,
      fact_of_kind f k named ∙ fact_ranged k v (omega arith),
      number_at f k named ∙ fact_number k v ∙ omega arith,
    )

pub numbering : Numbering 177184 bit_number
numbering = record { below = number_below; apart = number_apart; onto = number_onto }
