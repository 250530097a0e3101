use Rattle.std.proofs.Common.{ℕ, List, length, refl, ap, ◌∙◌, subst, arith, MutBor}
use Rattle.facts.specs.declared.store.Store.{Ghosts}
use Rattle.rules.specs.declared.inquiry.Inquiry.{Inquiry}
use Rattle.rules.specs.Asking.{Asks}
use Rattle.facts.specs.Stores.{Only}
use Rattle.rules.specs.Inquiries.{facts_of, Used, Looks, Walks}

-- in a sound store only facts are in the set that an inquiry is about
pub only_of : {S : Type 0} {st : Ghosts S} (i : Inquiry S st) → st.sound i.store.now → Only (facts_of i)
only_of {st = st} i h = i.proper (st.facts i.store.now) (st.only i.store.now h)

-- a call that does nothing, and one call after another
pub asks_none : {S : Type 0} (st : Ghosts S) (s : S) → Asks st s s
asks_none st s = record { facts = refl; spare = refl; kept = λ h. h; outside = st.unmoved s }

pub asks_on : {S : Type 0} (st : Ghosts S) {s t u : S} → Asks st s t → Asks st t u → Asks st s u
asks_on st {s} {t} {u} p q = record {
  facts = q.facts ∙ p.facts;
  spare = q.spare ∙ p.spare;
  kept = λ h. q.kept (p.kept h);
  outside = st.chained s t u p.outside q.outside;
}

used_on : (a b c : List ℕ) → Used a b → Used b c → Used a c
used_on a b c p q s l = grind (arith, p s l, q s l)

pub looks_on : {S : Type 0} {st : Ghosts S} {i j k : Inquiry S st} → Looks i j → Looks j k → Looks i k
looks_on {st = st} p q = record {
  asks = asks_on st p.asks q.asks;
  same = q.same ∙ p.same;
  lent = q.lent ∙ p.lent;
  marks = q.marks ∙ p.marks;
}

pub walks_on : {S : Type 0} {st : Ghosts S} {i j k : Inquiry S st} → Walks i j → Walks j k → Walks i k
walks_on {st = st} {i} {j} {k} p q = record {
  asks = asks_on st p.asks q.asks;
  same = q.same ∙ p.same;
  lent = q.lent ∙ p.lent;
  sheet = q.sheet ∙ p.sheet;
  long = q.long ∙ p.long;
  used = used_on i.marks.now j.marks.now k.marks.now p.used q.used;
}

pub walks_after : {S : Type 0} {st : Ghosts S} {i j k : Inquiry S st} → Looks i j → Walks j k → Walks i k
walks_after {st = st} {i} {j} {k} p q = record {
  asks = asks_on st p.asks q.asks;
  same = q.same ∙ p.same;
  lent = q.lent ∙ p.lent;
  sheet = q.sheet ∙ ap (λ (x : MutBor (List ℕ)). x.ghost_name) p.marks;
  long = q.long ∙ ap (λ (x : MutBor (List ℕ)). length x.now) p.marks;
  used = subst (λ (x : MutBor (List ℕ)). Used x.now k.marks.now) p.marks q.used;
}
