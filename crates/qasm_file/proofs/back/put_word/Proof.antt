use lib.Dec.{lit≤}
use mathlib.Core.List.{[], ◌∷◌}
use Rattle.text_puts.specs.Puts.{one, join}
use Rattle.text_puts.specs.Texts.{shown, shown-size}
use borrow.Author.Rules.{rules}
use Rattle.qasm_file.proofs.back.put_word.Statement.{statement}
use Rattle.qasm_file.proofs.back.put_word.Tie as tie

put-word-requires : tie.Need-put_word-at-requires
put-word-requires c κs = search rules

put-byte-requires : tie.Need-put_byte-requires
put-byte-requires c κs = search rules

same_length : tie.Need-shape_of-out
same_length c = search rules

returns : tie.Need-returns
returns c =
    let z = c in
    let w = z in
    let s = c in
    join
    (one c.args.out.now 0 (shown c.args.word.now) c.put_word-at.new.out c.put_word-at.result 65536 (shown-size _ 65536 (lit≤ tt) c.requires) c.put_word-at.ensures)
    (one c.put_word-at.new.out c.put_word-at.result (10 ∷ []) c.put_byte.new.out c.put_byte.result 1 (lit≤ tt) c.put_byte.ensures)

pub put_word_spec : {M : Type 1} → statement M
put_word_spec = tie.close (tie.spec put-word-requires put-byte-requires same_length returns)
