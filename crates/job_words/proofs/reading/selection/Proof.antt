use native.Mathlib.Omega.{arith}
use mathlib.Core.Path.{ap, ◌∙◌}
use Rattle.text_scan.specs.Run.{is_byte, run_end-within}
use mathlib.Core.Bool.{true}
use Rattle.job_words.specs.Rows.{last_place}
use Rattle.job_words.specs.Laws.{means_is, choice_first, choice_second, choice_other}
use borrow.Author.Rules.{rules}
use Rattle.job_words.proofs.reading.selection.Statement.{statement}
use Rattle.job_words.proofs.reading.selection.Tie as tie

spaces-from-requires : tie.Need-spaces_from-at-requires
spaces-from-requires c κs = search rules

last-place-requires : tie.Need-last_place-p-requires
last-place-requires c κs = let s = c in let e = c.spaces_from-at.ensures in let b = run_end-within (is_byte 32 true) c.args.line.now c.args.from c.requires in omega arith

fitted-requires : tie.Need-fitted-requires
fitted-requires c κs = search rules

fitted-requires-2 : tie.Need-fitted-requires-in-1
fitted-requires-2 c κs = search rules

numbered-requires : tie.Need-numbered-requires
numbered-requires c κs = search rules

returns : tie.Need-returns-in-0
returns c = let s = c in means_is (choice_first c.args.line.now c.args.from c.last_place-p.result (c.last_place-p.ensures ∙ ap (last_place c.args.line.now) c.spaces_from-at.ensures) c.in-0.is) c.fitted.ensures

returns-2 : tie.Need-returns-in-1
returns-2 c = let s = c in means_is (choice_second c.args.line.now c.args.from c.last_place-p.result (c.last_place-p.ensures ∙ ap (last_place c.args.line.now) c.spaces_from-at.ensures) c.in-1.is) c.fitted-in-1.ensures

returns-3 : tie.Need-returns-in_default
returns-3 c = let s = c in let r = c.in_default.in_default-own.rest in means_is (choice_other c.args.line.now c.args.from c.last_place-p.result (c.last_place-p.ensures ∙ ap (last_place c.args.line.now) c.spaces_from-at.ensures) r.0.1 r.1) c.numbered.ensures

pub selection_spec : {M : Type 1} → statement M
selection_spec =
    tie.close
    (tie.spec
    spaces-from-requires
    last-place-requires
    fitted-requires
    fitted-requires-2
    numbered-requires
    returns
    returns-2
    returns-3)
