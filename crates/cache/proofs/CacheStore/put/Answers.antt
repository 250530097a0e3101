use Rattle.facts.proofs.Sets.{put_accepted}
use Rattle.cache.proofs.Recall.{noted_honest}
use Rattle.cache.proofs.CacheStore.put.Goals as goal

pub returns-clause-kept : goal.returns-clause-kept
returns-clause-kept g c h = record {
  lower = c.in_ok-put.ensures.kept h.lower;
  honest = noted_honest _ _ _ c.note.ensures.slots c.note.ensures.all (put_accepted _ _ _ _ _ (c.in_ok-put.ensures.does h.lower)) h.honest;
}
