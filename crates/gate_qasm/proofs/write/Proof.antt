use mathlib.Core.Path.{◌≡◌, sym, ◌∙◌}
use mathlib.Core.Bool.{true}
use Prim.Native.Nat.{◌/◌, ◌≤◌}
use native.Mathlib.Omega.{arith}
use lib.ListN.{length}
use borrow.Author.Tests.{not-true, not-false, leb-true, leb-false, le-leb, lt-leb}
use Rattle.gate_alphabet.specs.Letters.{are_letters}
use Rattle.gate_qasm.proofs.Answers.{write_none, write_full, write_done}
use borrow.Author.Rules.{rules}
use Rattle.gate_qasm.proofs.write.Statement.{statement}
use Rattle.gate_qasm.proofs.write.Tie as tie

are-letters-requires : tie.Need-are_letters-letters-requires
are-letters-requires c κs = search rules

lines-of-requires : tie.Need-lines_of-n-requires
lines-of-requires c κs = search rules

returns : tie.Need-returns-then-not-letters
returns c =
    let s = c in
    write_none c.args.word.now c.args.text.now (sym c.are_letters-letters.ensures ∙ c.if-not-letters.true)

-- past the first test the word is letters
good : (c : tie.Else-not-letters) → are_letters c.args.word.now ≡ true
good c = sym c.are_letters-letters.ensures ∙ c.if-not-letters.false

returns-2 : tie.Need-returns-then-not-fits
returns-2 c =
    let n = c in
    let s = c in
    write_full c.args.word.now c.args.text.now (good c.before) c.lines_of-n.result c.lines_of-n.ensures (leb-false _ _ (lt-leb _ _ c.if-not-fits.true))

-- past the second the text has room
room : (c : tie.Else-not-fits) → c.lines_of-n.result ≤ length c.args.text.now / 8
room c = leb-true _ _ (le-leb _ _ c.if-not-fits.false)

put-lines-requires : tie.Need-put_lines-requires
put-lines-requires c κs = let h = room c.before in omega (arith, c.lines_of-n.ensures)

mul-size : tie.Need-overflow_mul-size
mul-size c = let h = room c.before.before.before.before in omega arith

same_length : tie.Need-shape_of-text
same_length c = search rules

returns-3 : tie.Need-returns
returns-3 c =
    let p = c in
    let e = p.before.before in
    let n = e.before.before in
    let s = e.before.before.before.before.before.before in
    write_done c.args.word.now c.args.text.now (good c.before.before.before.before.before) c.lines_of-n.result c.lines_of-n.ensures (room c.before.before.before.before) c.put_lines.ensures

pub write_spec : {M : Type 1} → statement M
write_spec =
    tie.close
    (tie.spec
    are-letters-requires
    lines-of-requires
    returns
    returns-2
    put-lines-requires
    mul-size
    same_length
    returns-3)
