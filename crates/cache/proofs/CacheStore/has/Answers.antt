use Rattle.std.proofs.Common.{sym, ◌∙◌}
use Rattle.facts.proofs.Sets.{with_stays}
use Rattle.cache.proofs.Recall.{noted_honest}
use Rattle.cache.proofs.CacheStore.has.Goals as goal

pub returns-clause-kept : goal.returns-clause-kept
returns-clause-kept g c h =
    let e = c.has-there.ensures in
    record {
      lower = e.kept h.lower;
      honest = noted_honest _ _ _ c.note.ensures.slots c.note.ensures.all
          (e.facts ∙ sym (with_stays _ _ _ (sym (e.value h.lower)))) h.honest;
    }
