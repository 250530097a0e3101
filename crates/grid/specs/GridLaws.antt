-- The laws that every store owes, of a grid: lemmas, which only the proofs rest on.
use Rattle.std.proofs.Common.{arith}
use Rattle.std.specs.Prelude.{ℕ, ◌≤◌, List, refl}
use Rattle.std.specs.Borrow.{MutBor}
use Rattle.std.proofs.lemmas.Bool.Decides.{nat_tests}
use Rattle.facts.specs.Stores.{Only}
use Rattle.facts.specs.LentLaws.{beyond_same, beyond_on}
use Rattle.grid.specs.Bits.{grid_facts, grid_spare, GridKeeps}

pub grid_only : (xs : List ℕ) → Only (grid_facts xs)
grid_only xs f e = grind (arith, nat_tests)

pub grid_bounded : (xs : List ℕ) (n : ℕ) → grid_spare xs n ≤ 177184
grid_bounded xs n = grind (arith, nat_tests)

pub grid_same : (s : MutBor (List ℕ)) → GridKeeps s s
grid_same s = (beyond_same 22148 s, λ _. refl)

pub grid_on : (s t u : MutBor (List ℕ)) → GridKeeps s t → GridKeeps t u → GridKeeps s u
grid_on s t u p q = grind (arith, beyond_on 22148 s t u)
