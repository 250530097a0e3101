use Rattle.std.proofs.Common.{◌≡◌, ◌<◌, Bool, true, length, get_or, replicate, is_some, Some, None, Option, arith}
use Rattle.std.proofs.lemmas.List.{get_or-replicate}
use Rattle.std.proofs.lemmas.Grind.{common_steps}
use Rattle.facts.specs.declared.fact.Fact.{Fact}
use Rattle.facts.specs.Facts.{Facts, with}
use Rattle.facts.proofs.Sets.{same_eq, same_refl}
use Rattle.cache.specs.declared.Answer.{Answer}
use Rattle.cache.specs.Memory.{Slots, slot_of, told, recalled, Remembered, noted, Honest, AtMost}

slot_below : (f : Fact) → slot_of f < 64
unfolding slot_of
slot_below f = omega arith

-- what a slot tells is of one fact
told_one : (x : Option Answer) (f g : Fact) → is_some (told x f) ≡ true → is_some (told x g) ≡ true → f ≡ g
told_one None f g p q = cc
told_one (Some y) f g p q = grind (arith, common_steps, same_eq)

-- one fact a slot is remembered
pub few : (xs : Slots) → AtMost 64 (Remembered xs)
unfolding recalled
few xs = record {
  number = slot_of;
  below = λ f _. slot_below f;
  apart = λ f g p q e. told_one (get_or xs (slot_of f) None) f g p (rw e q);
}

-- nothing is remembered where no slot has an answer
pub none_recalled : (f : Fact) → recalled (replicate 64 None) f ≡ None
unfolding recalled
none_recalled f = let h = slot_below f in rw get_or-replicate

-- slots of which nothing is remembered are honest
pub none_honest : (m : Facts) (xs : Slots) → ((f : Fact) → recalled xs f ≡ None) → Honest m xs
none_honest m xs h f b e = let n = h f in cc

-- an answer is noted of a set that changed at its fact alone
pub noted_honest : {m m' : Facts} {ys : Slots} (xs : Slots) (f : Fact) (b : Bool) → ys ≡ noted xs f b → length xs ≡ 64 → m' ≡ with m f b
    → Honest m xs → Honest m' ys
unfolding recalled
noted_honest xs f b s n w h g v e =
    rw w (grind (arith, common_steps, slot_below f, same_eq, same_refl, h g v))
