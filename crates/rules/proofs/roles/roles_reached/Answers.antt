use Rattle.std.proofs.Common.{ℕ, ap, arith, rules}
use Rattle.rules.specs.Asking.{Exactly}
use Rattle.rules.specs.Roles.{Reaches}
use Rattle.rules.proofs.Reach.{exactly_reached}
use Rattle.rules.proofs.Sheets.{sheet_used}
use Rattle.rules.proofs.roles.roles_reached.Goals as goal

pub returns-clause-answer : goal.returns-clause-answer
returns-clause-answer g c =
    let at = c.in_ok-role.ensures in
    let e = ap (λ (p : ℕ × ℕ). p.0) at.2 in
    let told : g.S.Store.sound c.args.store.now → Exactly c.roles_from.result (Reaches (g.S.Store.facts c.args.store.now) c.in_ok-role.role) =
    λ h. exactly_reached (g.S.Store.facts c.args.store.now) _ c.in_ok-role.role (omega (arith, at.0, e)) (c.roles_from.ensures.value h) in
    search (rules, told)

pub returns-clause-sheet : goal.returns-clause-sheet
returns-clause-sheet g c = grind (arith, sheet_used c.roles_from.ensures.walks)
