-- `put_negative` meets its contract. Assumes nothing.
use mathlib.Core.List.{◌∷◌}
use native.Mathlib.Omega.{arith}
use borrow.Author.Rules.{rules}
use Rattle.text.specs.Decimal.{decimal}
use Rattle.text.proofs.Digits.{decimal-some}
use Rattle.text.proofs.Writing.{put-not, put-before, put-neither}
use Rattle.text.proofs.write.put_negative.Statement.{statement}
use Rattle.text.proofs.write.put_negative.Tie as tie

returns : tie.Need-returns-then-out-at
returns c =
    let t = c in
    put-not t.args.out.now t.args.at (45 ∷ decimal t.args.n) (omega arith)

add-put-unsigned : tie.Need-overflow_add-at
add-put-unsigned c = search rules

put-unsigned-requires : tie.Need-put_unsigned-end-requires
put-unsigned-requires c κs = search rules

add-if2 : tie.Need-overflow_add-at-2
add-if2 c = search rules

same_length : tie.Need-shape_of-out-then-end-at
same_length c = search rules

returns-2 : tie.Need-returns-then-end-at
returns-2 c =
    let t = c in
    put-neither t.args.out.now t.args.at 45 (decimal t.args.n) c.put_unsigned-end.ensures
    (decimal-some t.args.n) c.if-end-at.true

slice-write-out : tie.Need-bounds-out-at
slice-write-out c = search rules

same-length-2 : tie.Need-shape_of-out
same-length-2 c = search rules

returns-3 : tie.Need-returns
returns-3 c =
    let t = c in
    put-before t.args.out.now t.args.at 45 (decimal t.args.n) c.put_unsigned-end.ensures
    c.if-end-at.false

pub put_negative_spec : {M : Type 1} → statement M
put_negative_spec =
    tie.close
    (tie.spec
    returns
    add-put-unsigned
    put-unsigned-requires
    add-if2
    same_length
    returns-2
    slice-write-out
    same-length-2
    returns-3)
