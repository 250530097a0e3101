use Rattle.std.specs.Prelude.{◌≡◌, ℕ, ◌<◌, ◌⊎◌, List, length, slice_index}
use Rattle.facts.specs.declared.store.Store.{Ghosts}
use Rattle.facts.specs.Facts.{Facts}
use Rattle.rules.specs.declared.inquiry.Inquiry.{Inquiry}
use Rattle.rules.specs.Asking.{Asks}
use Rattle.rules.specs.Changes.{after}

-- What the functions of an inquiry say to each other. No public contract cites these words.

-- the facts that an inquiry is about: those after its change
abbrev pub facts_of : {S : Type 0} {st : Ghosts S} → Inquiry S st → Facts
facts_of {st = st} i = after (st.facts i.store.now) i.change

-- marks that were used: each is 0, 1 or its old value
abbrev pub Used : List ℕ → List ℕ → Type 0
Used a b = (s : ℕ) → s < 64 → (slice_index b s ≡ 0) ⊎ ((slice_index b s ≡ 1) ⊎ (slice_index b s ≡ slice_index a s))

-- an inquiry goes on by look-ups alone: it is about the same facts, of the store that was lent, and the marks stay
pub record Looks {S : Type 0} {st : Ghosts S} (i j : Inquiry S st) : Type 0 where
  pub asks : Asks st i.store.now j.store.now
  pub same : facts_of j ≡ facts_of i
  pub lent : j.store.ghost_name ≡ i.store.ghost_name
  pub marks : j.marks ≡ i.marks

-- an inquiry goes on by look-ups and walks: the marks that were lent are used
pub record Walks {S : Type 0} {st : Ghosts S} (i j : Inquiry S st) : Type 0 where
  pub asks : Asks st i.store.now j.store.now
  pub same : facts_of j ≡ facts_of i
  pub lent : j.store.ghost_name ≡ i.store.ghost_name
  pub sheet : j.marks.ghost_name ≡ i.marks.ghost_name
  pub long : length j.marks.now ≡ length i.marks.now
  pub used : Used i.marks.now j.marks.now
