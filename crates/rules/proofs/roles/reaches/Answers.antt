use Rattle.std.proofs.Common.{arith}
use Rattle.rules.proofs.Sheets.{sheet_used}
use Rattle.rules.proofs.roles.reaches.Goals as goal

pub returns-clause-sheet : goal.returns-clause-sheet
returns-clause-sheet g c = grind (arith, sheet_used c.leads.ensures.walks)
