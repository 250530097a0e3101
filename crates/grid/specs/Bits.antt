use Rattle.std.specs.Prelude.{◌≡◌, ℕ, zero, suc, ◌+◌, ◌-◌, ◌/◌, ◌%◌, ◌^◌, ◌<◌, Bool, cond, not, ◌&&◌, List, length, ◌==◌, nat_le, slice_index}
use Rattle.std.specs.Borrow.{MutBor}
use Rattle.facts.specs.Facts.{Facts, is_fact}
use Rattle.facts.specs.Lent.{SameBeyond}
use Rattle.grid.specs.Numbers.{bit_number}

-- whether the bit j of a byte is set
unfoldable pub bit_in : ℕ → ℕ → Bool
bit_in x j = (x / 2 ^ j) % 2 == 1

-- whether the bit i of the bytes is set
abbrev pub bit : List ℕ → ℕ → Bool
bit xs i = bit_in (slice_index xs (i / 8)) (i % 8)

-- whether the bytes are enough to have a bit for each fact
abbrev pub enough : List ℕ → Bool
enough xs = nat_le 22148 (length xs)

-- the facts of a grid: those whose bit is set
abbrev pub grid_facts : List ℕ → Facts
grid_facts xs f = is_fact f && (enough xs && bit xs (bit_number f))

-- the spare of a grid that has n facts
abbrev pub grid_spare : List ℕ → ℕ → ℕ
grid_spare xs n = cond (enough xs) (177184 - n) 0

-- how many of the numbers below n pass the test
unfoldable pub tally : (ℕ → Bool) → ℕ → ℕ
tally p zero = 0
tally p (suc n) = tally p n + cond (p n) 1 0

-- the count is the number of the bits that are set
abbrev pub Counted : List ℕ → ℕ → Type 0
Counted xs n = n ≡ cond (enough xs) (tally (bit xs) 177184) 0

-- only the first 22,148 bytes may have changed, and none where there are fewer
abbrev pub GridKeeps : MutBor (List ℕ) → MutBor (List ℕ) → Type 0
GridKeeps s t = SameBeyond 22148 s t × (length s.now < 22148 → t.now ≡ s.now)

-- what one write does: the bit i is the other way round, and every other bit as it was
abbrev pub Flipped : ℕ → List ℕ → List ℕ → Type 0
Flipped i xs ys = (k : ℕ) → bit ys k ≡ cond (k == i) (not (bit xs i)) (bit xs k)
