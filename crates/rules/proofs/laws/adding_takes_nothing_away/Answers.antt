use Rattle.std.proofs.Common.{ℕ, inl, inr}
use Rattle.facts.specs.Facts.{Facts}
use Rattle.rules.specs.Roles.{same, down, Reaches, Holds, Carries, Party}
use Rattle.rules.specs.Closing.{Grows}
use Rattle.rules.proofs.laws.adding_takes_nothing_away.Goals as goal

module _ (m m' : Facts) (g : Grows m m') where
  reaches_up : {r s : ℕ} → Reaches m r s → Reaches m' r s
  reaches_up same = same
  reaches_up (down e p) = down (g _ e) (reaches_up p)

  holds_up : (u r : ℕ) → Holds m u r → Holds m' u r
  holds_up u r h = (h.0, g _ h.1, reaches_up h.2)

  carries_up : (r p : ℕ) → Carries m r p → Carries m' r p
  carries_up r p h = (h.0, reaches_up h.1, g _ h.2)

  party_up : (u v : ℕ) → Party m u v → Party m' u v
  party_up u v (inl e) = inl e
  party_up u v (inr e) = inr (g _ e)

pub returns : goal.returns
returns c m m' g = record {
  reaches = λ r s. reaches_up m m' g;
  above = λ r s h. (h.0, g _ h.1, reaches_up m m' g h.2);
  holds = holds_up m m' g;
  carries = carries_up m m' g;
  has = λ u p h. (h.0, holds_up m m' g u h.0 h.1, carries_up m m' g h.0 p h.2);
  conflict = λ k x y. g _;
  party = party_up m m' g;
}
