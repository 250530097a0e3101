use Rattle.std.proofs.Common.{◌≡◌, ℕ, ◌*◌, ◌%◌, ◌^◌, ◌<◌, false, cond, not, eqb, arith}
use lib.Bits.{bit_xor}
use Rattle.std.proofs.lemmas.Nat.{one_shl}
use Rattle.std.proofs.lemmas.Nat.Bits.{bit_at-zero, bit_at_xor, bit_at-pow_same, bit_at-pow_other}
use Rattle.std.proofs.lemmas.Bool.Decides.{nat_tests}
use Rattle.grid.specs.Bits.{bit_in}

-- a bit of the byte with one bit the other way round, as the code computes it, and of the byte 0
pub turned_bit : (x j k : ℕ) → j < 8
    → bit_in (bit_xor x (1 * 2 ^ j % 256)) k ≡ cond (eqb k j) (not (bit_in x j)) (bit_in x k)
unfolding bit_in
turned_bit x j k h = grind (arith, nat_tests, one_shl j 8, bit_at_xor, bit_at-pow_same, bit_at-pow_other)

pub none_set : (j : ℕ) → bit_in 0 j ≡ false
unfolding bit_in
none_set j = rw bit_at-zero
