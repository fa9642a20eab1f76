use Rattle.qasm_file.specs.lemmas.Laws.{take_rest}
use borrow.Author.Rules.{rules}
use Rattle.qasm_file.proofs.put_word.Statement.{statement}
use Rattle.qasm_file.proofs.put_word.Tie as tie

place-of-requires : tie.Need-place_of-at-requires
place-of-requires c κs = search rules

sub-put-letters : tie.Need-slice_bounds-put_letters-count
sub-put-letters c = search rules

part-put-letters-start : tie.Need-slice_bounds-put_letters-start
part-put-letters-start c = search rules

part-put-letters-end : tie.Need-slice_bounds-put_letters-end
part-put-letters-end c = search rules

put-letters-requires : tie.Need-put_letters-requires
put-letters-requires c κs = search rules

same_length : tie.Need-shape_of-out
same_length c = search rules

returns : tie.Need-returns
returns c =
    let s = c in
    rw (take_rest c.args.bytes.now c.place_of-at.result, c.place_of-at.ensures.0) at c.put_letters.ensures

pub put_word_spec : {M : Type 1} → statement M
put_word_spec =
    tie.close
    (tie.spec
    place-of-requires
    sub-put-letters
    part-put-letters-start
    part-put-letters-end
    put-letters-requires
    same_length
    returns)
