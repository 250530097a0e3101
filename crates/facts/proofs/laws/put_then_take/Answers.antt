use Rattle.facts.proofs.laws.put_then_take.Goals as goal

pub returns-clause-outside : goal.returns-clause-outside
returns-clause-outside g c = g.S.Store.chained _ _ _ c.put.ensures.outside c.take.ensures.outside
