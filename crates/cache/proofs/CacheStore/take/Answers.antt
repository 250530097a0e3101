use Rattle.facts.proofs.Sets.{take_left}
use Rattle.cache.proofs.Recall.{noted_honest}
use Rattle.cache.proofs.CacheStore.take.Goals as goal

pub returns-clause-kept : goal.returns-clause-kept
returns-clause-kept g c h = record {
  lower = c.take.ensures.kept h.lower;
  honest = noted_honest _ _ _ c.note.ensures.slots c.note.ensures.all (take_left _ _ _ _ _ (c.take.ensures.does h.lower)) h.honest;
}
