use Rattle.std.proofs.Common.{◌≡◌, ℕ, ◌-◌, List, ◌++◌, length, get_or, drop, ap, ◌∙◌, arith}
use Rattle.std.proofs.lemmas.List.{get_or-take, get_or-drop, get_or-append_right, length-take-le}
use Rattle.std.proofs.Math.ListN.{get_or-append}
use Rattle.std.specs.Array.{IsFirstChunk}
use Rattle.facts.specs.declared.store.Store.{Ghosts}
use Rattle.rules.specs.declared.inquiry.Inquiry.{Inquiry}
use Rattle.rules.specs.Calls.{Scratch}
use Rattle.rules.specs.Inquiries.{Walks}

-- a sheet whose first 64 bytes were used as marks
pub sheet_used : {S : Type 0} {st : Ghosts S} {i j : Inquiry S st} → Walks i j → (a : List ℕ) → IsFirstChunk a i.marks.now 64
    → (d : List ℕ) → d ≡ j.marks.now → Scratch a (d ++ drop 64 a)
sheet_used {i = i} {j} w a k d e =
    let n : length d ≡ 64 = ap length e ∙ w.long ∙ (ap length k.same ∙ length-take-le 64 a k.enough) in
    record {
      first = λ s l.
          let old : get_or i.marks.now s 0 ≡ get_or a s 0 = ap (λ (y : List ℕ). get_or y s 0) k.same ∙ get_or-take 64 a s 0 l in
          rw (get_or-append d (drop 64 a) 0 s (omega (arith, n)), e) (rw old at (w.used s l));
      rest = λ s l. grind (arith, get_or-append_right d (drop 64 a) 64 s 0 n l, get_or-drop 64 a (s - 64) 0);
    }
