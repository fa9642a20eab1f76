use Rattle.text_puts.specs.Texts.{shown-none, shown-some}
use borrow.Author.Rules.{rules}
use Rattle.text_puts.proofs.put_word.Statement.{statement}
use Rattle.text_puts.proofs.put_word.Tie as tie

put-byte-requires : tie.Need-put_byte-requires
put-byte-requires c κs = search rules

put-bytes-requires : tie.Need-put_bytes-requires
put-bytes-requires c κs = search rules

same_length : tie.Need-shape_of-out-then-word-eq0
same_length c = search rules

returns : tie.Need-returns-then-word-eq0
returns c =
    let p = c in
    let t = p in
    rw (shown-none t.args.word.now t.if-word-eq0.true) p.put_byte.ensures

same-length-2 : tie.Need-shape_of-out-else-word-eq0
same-length-2 c = search rules

returns-2 : tie.Need-returns-else-word-eq0
returns-2 c =
    let p = c in
    let t = p in
    rw (shown-some t.args.word.now t.if-word-eq0.false) p.put_bytes.ensures

pub put_word_spec : {M : Type 1} → statement M
put_word_spec = tie.close (tie.spec put-byte-requires put-bytes-requires same_length returns same-length-2 returns-2)
