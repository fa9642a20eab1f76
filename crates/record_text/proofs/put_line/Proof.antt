use native.Mathlib.Omega.{arith}
use mathlib.Core.Path.{sym}
use mathlib.Core.List.{[], ◌∷◌}
use lib.Seq.{length-take-le}
use Rattle.record_forms.specs.Forms.{fields_of, numbers_at}
use Rattle.record_text.specs.Texts.{name_texts, rest_texts, put_one, put-more}
use borrow.Author.Rules.{rules}
use Rattle.record_text.proofs.put_line.Statement.{statement}
use Rattle.record_text.proofs.put_line.Tie as tie

of-requires : tie.Need-of-n-requires
of-requires c κs = search rules

put-name-requires : tie.Need-put_name-a-requires
put-name-requires c κs = search rules

array-share-prefix-values : tie.Need-slice_bounds-values-end
array-share-prefix-values c = search rules

slice-aggregate-put-rest : tie.Need-slice_bounds-put_rest-end
slice-aggregate-put-rest c = let n = c.of-n in let h = n.ensures.1 in let w = n.ensures.2 in sym (length-take-le n.result.count n.result.values (omega arith))

put-rest-requires : tie.Need-put_rest-b-requires
put-rest-requires c κs = search rules

put-byte-requires : tie.Need-put_byte-requires
put-byte-requires c κs = search rules

same_length : tie.Need-shape_of-out
same_length c = search rules

returns : tie.Need-returns
returns c =
    let a = c.put_name-a in
    let r = c.put_rest-b in
    let f = c.put_byte in
    let s = c.args in
    let k = s.kind in
    let zs = numbers_at (fields_of k) s.s.now 0 in
    put-more (s.out.now, s.at) (a.new.out, a.result) (f.new.out, f.result) (name_texts k) _ a.ensures
    (put-more (a.new.out, a.result) (r.new.out, r.result) (f.new.out, f.result) (rest_texts k zs) ((10 ∷ []) ∷ []) (rw c.of-n.ensures.0 at r.ensures) (put_one r.new.out r.result (10 ∷ []) f.new.out f.result f.ensures))

pub put_line_spec : {M : Type 1} → statement M
put_line_spec =
    tie.close
    (tie.spec
    of-requires
    put-name-requires
    array-share-prefix-values
    slice-aggregate-put-rest
    put-rest-requires
    put-byte-requires
    same_length
    returns)
