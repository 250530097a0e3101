use Rattle.std.proofs.Common.{refl, rules}
use Rattle.std.specs.Array.{IsFirstChunk}
use Rattle.rules.proofs.Sheets.{sheet_used}
use Rattle.rules.proofs.judge.judge_by.Goals as goal

pub returns-clause-sheet : goal.returns-clause-sheet
returns-clause-sheet g c =
    let chunk : IsFirstChunk c.args.sheet.now c.in_ok-marks.marks.now 64 = search rules in
    search (rules, sheet_used c.first_broken.ensures.walks _ chunk _ refl)
