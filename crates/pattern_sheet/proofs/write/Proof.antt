use mathlib.Core.Path.{◌≡◌, refl, sym, ◌∙◌}
use mathlib.Core.Bool.{true}
use lib.Dec.{leb}
use borrow.Author.Rules.{rules}
use Rattle.record_ranges.specs.Ranges.{top_scale}
use Rattle.entry_equation.specs.Equation.{completes}
use Rattle.pattern_sheet.proofs.Writings.{write_scale, write_equation, write_full, write_done}
use Rattle.pattern_sheet.proofs.write.Statement.{statement}
use Rattle.pattern_sheet.proofs.write.Tie as tie

scale-requires : tie.Need-scale-ranged-requires
scale-requires c κs = search rules

completes-requires : tie.Need-completes-unitary-requires
completes-requires c κs = search rules

returns : tie.Need-returns-then-not-ranged
returns c =
    let s = c in
    write_scale c.args.sheet c.args.out.now (sym c.scale-ranged.ensures ∙ c.if-not-ranged.true)

-- past the first test k is in range, and the second tells of the equation
module _ (c : tie.Else-not-ranged) where
  good : leb c.args.sheet.k top_scale ≡ true
  good = sym c.scale-ranged.ensures ∙ c.if-not-ranged.false

  solved : c.completes-unitary.result ≡ completes c.args.sheet.k c.args.sheet.u c.args.sheet.t
  solved = c.completes-unitary.ensures ∙ rw good refl

returns-2 : tie.Need-returns-then-not-unitary
returns-2 c =
    let s = c in
    write_equation c.args.sheet c.args.out.now (good c.before) (sym (solved c.before) ∙ c.if-not-unitary.true)

returns-3 : tie.Need-returns-then-out-lt-LENGTH
returns-3 c =
    let s = c in
    write_full c.args.sheet c.args.out.now (good c.before.before) (sym (solved c.before.before) ∙ c.if-not-unitary.false) c.if-out-lt-LENGTH.true

put-sheet-requires : tie.Need-put_sheet-requires
put-sheet-requires c κs = search rules

same_length : tie.Need-shape_of-out
same_length c = search rules

returns-4 : tie.Need-returns
returns-4 c =
    let p = c in
    let e = p in
    let s = e in
    write_done c.args.sheet c.args.out.now (good e.before.before.before.before.before.before) (sym (solved e.before.before.before.before.before.before) ∙ c.if-not-unitary.false) c.if-out-lt-LENGTH.false c.put_sheet.ensures

pub write_spec : {M : Type 1} → statement M
write_spec =
    tie.close
    (tie.spec
    scale-requires
    completes-requires
    returns
    returns-2
    returns-3
    put-sheet-requires
    same_length
    returns-4)
