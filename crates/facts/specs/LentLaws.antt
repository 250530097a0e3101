-- What was lent is the same beyond a place where nothing is done, and step after step: lemmas, which only the
-- proofs rest on.
use Rattle.std.proofs.Common.{rules}
use Rattle.std.specs.Prelude.{ℕ, List}
use Rattle.std.specs.Borrow.{MutBor}
use Rattle.facts.specs.Lent.{SameBeyond}

pub beyond_same : {X : Type 0} (n : ℕ) (s : MutBor (List X)) → SameBeyond n s s
beyond_same n s = search rules

pub beyond_on : {X : Type 0} (n : ℕ) (s t u : MutBor (List X))
    → SameBeyond n s t → SameBeyond n t u → SameBeyond n s u
beyond_on n s t u p q = search rules
