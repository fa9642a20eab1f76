use Rattle.pattern_sheet.proofs.Steps.{desk_yes, desk_no}
use borrow.Author.Rules.{rules}
use Rattle.pattern_sheet.proofs.desk.Statement.{statement}
use Rattle.pattern_sheet.proofs.desk.Tie as tie

sheet-at-requires : tie.Need-sheet_at-sheet-requires
sheet-at-requires c κs = search rules

completes-requires : tie.Need-completes-requires
completes-requires c κs = search rules

returns : tie.Need-returns-then-completes
returns c =
    let a = c in
    desk_yes c.args.s.now c.requires.1 c.sheet_at-sheet.result c.sheet_at-sheet.ensures c.completes.result c.completes.ensures c.if-completes.true

returns-2 : tie.Need-returns-else-completes
returns-2 c =
    let a = c in
    desk_no c.args.s.now c.requires.1 c.sheet_at-sheet.result c.sheet_at-sheet.ensures c.completes.result c.completes.ensures c.if-completes.false

pub desk_spec : {M : Type 1} → statement M
desk_spec = tie.close (tie.spec sheet-at-requires completes-requires returns returns-2)
