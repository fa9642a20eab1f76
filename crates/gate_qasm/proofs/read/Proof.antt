use mathlib.Core.Path.{◌≡◌, sym, ◌∙◌}
use mathlib.Core.Bool.{true}
use borrow.Author.Tests.{not-true, not-false}
use Rattle.gate_qasm.specs.Text.{is_text}
use Rattle.gate_qasm.proofs.Answers.{read_none, read-full, read_done}
use borrow.Author.Rules.{rules}
use Rattle.gate_qasm.proofs.read.Statement.{statement}
use Rattle.gate_qasm.proofs.read.Tie as tie

is-text-requires : tie.Need-is_text-requires
is-text-requires c κs = search rules

returns : tie.Need-returns-then-not-is_text
returns c =
    let s = c in
    read_none c.args.text.now c.args.word.now (sym c.is_text.ensures ∙ c.if-not-is_text.true)

-- past the first test the text is one
good : (c : tie.Else-not-is_text) → is_text c.args.text.now ≡ true
good c = sym c.is_text.ensures ∙ c.if-not-is_text.false

put-word-requires : tie.Need-put_word-whole-requires
put-word-requires c κs = search rules

same_length : tie.Need-shape_of-word-then-not-whole
same_length c = search rules

returns-2 : tie.Need-returns-then-not-whole
returns-2 c =
    let p = c in
    let e = p.before.before in
    let s = e.before.before.before.before in
    read-full c.args.text.now c.args.word.now (good c.before.before.before.before.before) (sym c.put_word-whole.ensures.0 ∙ c.if-not-whole.true) c.put_word-whole.ensures.1

same-length-2 : tie.Need-shape_of-word
same-length-2 c = search rules

returns-3 : tie.Need-returns
returns-3 c =
    let p = c in
    let e = p.before.before in
    let s = e.before.before.before.before in
    read_done c.args.text.now c.args.word.now (good c.before.before.before.before.before) (sym c.put_word-whole.ensures.0 ∙ c.if-not-whole.false) c.put_word-whole.ensures.1

pub read_spec : {M : Type 1} → statement M
read_spec =
    tie.close
    (tie.spec is-text-requires returns put-word-requires same_length returns-2 same-length-2 returns-3)
