use Rattle.book_network.proofs.network.show_network.Goals as goal

pub returns-clause-outside : goal.returns-clause-outside
returns-clause-outside g c =
    g.S.Store.chained _ _ _ c.load.ensures.outside
    (g.S.Store.chained _ _ _ c.show_users.ensures.outside c.show_changes.ensures.outside)
