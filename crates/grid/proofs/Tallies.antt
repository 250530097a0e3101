use Rattle.std.proofs.Common.{◌≡◌, ℕ, zero, suc, ◌+◌, ◌<◌, ◌≤◌, Bool, true, false, ◌≢◌, refl, arith}
use Rattle.std.proofs.lemmas.Bool.Decides.{nat_tests}
use Rattle.grid.specs.Bits.{tally}

-- tests that agree below n have one tally
pub tally_same : (p q : ℕ → Bool) (n : ℕ) → ((k : ℕ) → k < n → q k ≡ p k) → tally q n ≡ tally p n
unfolding tally
tally_same p q zero e = refl
tally_same p q (suc n) e = grind (arith, nat_tests, tally_same p q n, e n)

-- one more number passes
pub tally_more : (p q : ℕ → Bool) (i n : ℕ) → i < n → p i ≡ false → q i ≡ true → ((k : ℕ) → k ≢ i → q k ≡ p k)
    → tally q n ≡ tally p n + 1
unfolding tally
tally_more p q i zero h f t e = absurd (omega arith)
tally_more p q i (suc n) h f t e = grind (arith, nat_tests, tally_same p q n, tally_more p q i n, e n)

-- none passes exactly where the tally is 0
pub tally_zero : (p : ℕ → Bool) (n : ℕ) → ((k : ℕ) → k < n → p k ≡ false) → tally p n ≡ 0
unfolding tally
tally_zero p zero e = refl
tally_zero p (suc n) e = grind (arith, nat_tests, tally_zero p n, e n)

pub tally_none : (p : ℕ → Bool) (n : ℕ) → tally p n ≡ 0 → (k : ℕ) → k < n → p k ≡ false
unfolding tally
tally_none p zero e k h = absurd (omega arith)
tally_none p (suc n) e k h = grind (arith, nat_tests, tally_none p n)

pub tally_within : (p : ℕ → Bool) (n : ℕ) → tally p n ≤ n
unfolding tally
tally_within p zero = omega arith
tally_within p (suc n) = grind (arith, nat_tests, tally_within p n)
