-- `unhex` meets its contract. Assumes nothing.
use mathlib.Core.Path.{◌≡◌, sym, ◌∙◌, ap}
use mathlib.Core.Bool.{true, not}
use borrow.Author.Tests.{not-true, not-false}
use Rattle.text_hex.specs.Hex.{is_hex}
use Rattle.text_hex.proofs.Hexadecimal.{unhex_bad, unhex_full, unhex_good}
use borrow.Author.Rules.{rules}
use Rattle.text_hex.proofs.unhex.Statement.{statement}
use Rattle.text_hex.proofs.unhex.Tie as tie

is-hex-requires : tie.Need-is_hex-requires
is-hex-requires c κs = search rules

returns : tie.Need-returns-then-not-is_hex
returns c =
    let s = c in
    unhex_bad s.args.word.now s.args.out.now (sym c.is_hex.ensures ∙ not-true _ (ap not c.if-not-is_hex.true))

-- past the first test the word is one
good : (c : tie.Else-not-is_hex) → is_hex c.args.word.now ≡ true
good c = sym c.is_hex.ensures ∙ not-false _ (ap not c.if-not-is_hex.false)

returns-2 : tie.Need-returns-then-out-n
returns-2 c =
    let e = c.before in
    let s = e.before.before.before.before in
    unhex_full s.args.word.now s.args.out.now (good e) c.if-out-n.true

put-pairs-requires : tie.Need-put_pairs-requires
put-pairs-requires c κs = (good c.before.before, c.if-out-n.false)

same_length : tie.Need-shape_of-out
same_length c = search rules

returns-3 : tie.Need-returns
returns-3 c =
    let p = c in
    let e = p in
    let s = e in
    let g = unhex_good s.args.word.now s.args.out.now (good e.before.before.before.before.before) e.if-out-n.false in
    (g.0, p.put_pairs.ensures ∙ g.1)

pub unhex_spec : {M : Type 1} → statement M
unhex_spec =
    tie.close (tie.spec is-hex-requires returns returns-2 put-pairs-requires same_length returns-3)
