use mathlib.Core.Path.{sym, ap, ◌∙◌}
use lib.IntN.{pos}
use lib.ListN.{get_or}
use mir.Syntax.{w64}
use mir.Val.{SFits, to_z, of_z}
use mir.Facts.{to_z-of_z}
use mathlib.Core.List.{[], ◌∷◌}
use Rattle.record_text.specs.Texts.{selection-many, selection-new, selection-all, selection-other, put_one}
use borrow.Author.Rules.{rules}
use Rattle.record_text.proofs.put_selection.Statement.{statement}
use Rattle.record_text.proofs.put_selection.Tie as tie

put-numbers-requires : tie.Need-put_numbers-requires
put-numbers-requires c κs = search rules

same_length : tie.Need-shape_of-out-then-numbers-ne1
same_length c = search rules

returns : tie.Need-returns-then-numbers-ne1
returns c = rw (selection-many c.args.numbers.now c.if-numbers-ne1.true) c.put_numbers.ensures

shared-slice-copy-out-match : tie.Need-bounds-numbers-0
shared-slice-copy-out-match c = search rules

put-bytes-requires : tie.Need-put_bytes-requires
put-bytes-requires c κs = search rules

put-bytes-requires-2 : tie.Need-put_bytes-requires-in-1
put-bytes-requires-2 c κs = search rules

put-numbers-requires-2 : tie.Need-put_numbers-requires-in_default
put-numbers-requires-2 c κs = search rules

same-length-2 : tie.Need-shape_of-out-in-0
same-length-2 c = search rules

returns-2 : tie.Need-returns-in-0
returns-2 c = let h : SFits w64 (get_or c.args.numbers.now 0 (pos 0)) = search rules in rw (selection-new c.args.numbers.now c.if-numbers-ne1.false (sym (to_z-of_z h) ∙ ap (to_z w64) c.in-0.in-0-own.keys1)) (put_one c.args.out.now c.args.at (32 ∷ 110 ∷ 101 ∷ 119 ∷ []) c.put_bytes.new.out c.put_bytes.result c.put_bytes.ensures)

same-length-3 : tie.Need-shape_of-out-in-1
same-length-3 c = search rules

returns-3 : tie.Need-returns-in-1
returns-3 c = let h : SFits w64 (get_or c.args.numbers.now 0 (pos 0)) = search rules in rw (selection-all c.args.numbers.now c.if-numbers-ne1.false (sym (to_z-of_z h) ∙ ap (to_z w64) c.in-1.in-1-own.keys2)) (put_one c.args.out.now c.args.at (32 ∷ 97 ∷ 108 ∷ 108 ∷ []) c.put_bytes-in-1.new.out c.put_bytes-in-1.result c.put_bytes-in-1.ensures)

same-length-4 : tie.Need-shape_of-out-in_default
same-length-4 c = search rules

returns-4 : tie.Need-returns-in_default
returns-4 c = rw (selection-other c.args.numbers.now c.if-numbers-ne1.false (λ e. c.in_default.in_default-own.rest.0.1 (ap (of_z w64) e)) (λ e. c.in_default.in_default-own.rest.1 (ap (of_z w64) e))) c.put_numbers-in_default.ensures

pub put_selection_spec : {M : Type 1} → statement M
put_selection_spec =
    tie.close (tie.spec put-numbers-requires same_length returns shared-slice-copy-out-match put-bytes-requires put-bytes-requires-2 put-numbers-requires-2 same-length-2 returns-2 same-length-3 returns-3 same-length-4 returns-4)
