use Rattle.std.specs.Prelude.{◌≡◌, ℕ, ◌<◌, true, false, slice_index_or}
use Rattle.facts.specs.declared.store.Store.{Ghosts}
use Rattle.rules.specs.declared.role_set.RoleSet.{RoleSet}

-- a call that only asks a store: facts and spare stay, a sound store stays sound, and nothing outside is written
pub record Asks {S : Type 0} (st : Ghosts S) (s t : S) : Type 0 where
  pub facts : st.facts t ≡ st.facts s
  pub spare : st.spare t ≡ st.spare s
  pub kept : st.sound s → st.sound t
  pub outside : st.outside s t

-- the role is in the set
abbrev pub Among : RoleSet → ℕ → Type 0
Among x r = (r < 64) × (slice_index_or x.members r false ≡ true)

-- the set has exactly the roles of P
pub record Exactly (x : RoleSet) (P : ℕ → Type 0) : Type 0 where
  pub only : (r : ℕ) → Among x r → P r
  pub all : (r : ℕ) → r < 64 → P r → Among x r
