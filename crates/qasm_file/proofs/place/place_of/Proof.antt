use mathlib.Core.Path.{ap, ◌∙◌}
use Rattle.qasm_file.specs.File.{word_start, past_dash, place_of}
use borrow.Author.Rules.{rules}
use Rattle.qasm_file.proofs.place.place_of.Statement.{statement}
use Rattle.qasm_file.proofs.place.place_of.Tie as tie

line-start-requires : tie.Need-line_start-requires
line-start-requires c κs = search rules

word-start-requires : tie.Need-word_start-requires
word-start-requires c κs = search rules

past-dash-requires : tie.Need-past_dash-requires
past-dash-requires c κs = search rules

returns : tie.Need-returns
unfolding place_of
returns c =
    let s = c in
    let d = c.past_dash.ensures in
    (d.0 ∙ ap (past_dash c.args.s.now) (c.word_start.ensures.0 ∙ ap (word_start c.args.s.now) c.line_start.ensures.0), d.1)

pub place_of_spec : {M : Type 1} → statement M
place_of_spec =
    tie.close (tie.spec line-start-requires word-start-requires past-dash-requires returns)
