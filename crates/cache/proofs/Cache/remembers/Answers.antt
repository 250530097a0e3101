use Rattle.std.proofs.Common.{◌≡◌, sym, ◌∙◌, rules}
use Rattle.facts.specs.Facts.{same_fact}
use Rattle.cache.specs.Memory.{recalled}
use Rattle.cache.proofs.Recall.{few}
use Rattle.cache.proofs.Cache.remembers.Goals as goal

pub returns : goal.returns
unfolding recalled same_fact
returns g c =
    let v : c.map.result ≡ recalled c.args.self.now.slots c.args.fact = search rules in
    record { value = v; honest = λ h b e. h.honest c.args.fact b (sym v ∙ e); few = few _ }
