use Rattle.std.proofs.Common.{refl}
use Rattle.cache.proofs.Recall.{none_recalled, none_honest}
use Rattle.cache.proofs.Cache.new.Goals as goal

pub returns : goal.returns
returns g c = record {
  below = refl;
  nothing = none_recalled;
  honest = none_honest _ _ none_recalled;
  sound = λ h. record { lower = h; honest = none_honest _ _ none_recalled };
}
