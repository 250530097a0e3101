use Rattle.std.specs.Prelude.{◌≡◌, ℕ, List, length, drop}
use Rattle.std.specs.Borrow.{MutBor}

-- what the caller lent, before and after: the same memory, of one length, and from the place n on as it was
pub record SameBeyond {X : Type 0} (n : ℕ) (s t : MutBor (List X)) : Type 0 where
  pub named : t.ghost_name ≡ s.ghost_name
  pub long : length t.now ≡ length s.now
  pub rest : drop n t.now ≡ drop n s.now
