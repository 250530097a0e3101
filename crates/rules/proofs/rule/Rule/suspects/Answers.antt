use Rattle.rules.proofs.rule.Rule.suspects.Goals as goal

pub returns-in-NoCycle : goal.returns-in-NoCycle
returns-in-NoCycle c = rw c.in-NoCycle.is c.cycle_suspects.ensures

pub returns-in-RolesApart : goal.returns-in-RolesApart
returns-in-RolesApart c = rw c.in-RolesApart.is c.role_suspects.ensures

pub returns-in-PartiesApart : goal.returns-in-PartiesApart
returns-in-PartiesApart c = rw c.in-PartiesApart.is c.party_suspects.ensures

pub returns-in-PermissionsApart : goal.returns-in-PermissionsApart
returns-in-PermissionsApart c = rw c.in-PermissionsApart.is c.item_suspects.ensures

pub returns-in-TasksApart : goal.returns-in-TasksApart
returns-in-TasksApart c = rw c.in-TasksApart.is c.item_suspects-in-TasksApart.ensures

pub returns-in-TakersApart : goal.returns-in-TakersApart
returns-in-TakersApart c = rw c.in-TakersApart.is c.taker_suspects.ensures
