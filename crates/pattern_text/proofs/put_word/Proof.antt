use lib.Dec.{lit≤}
use Rattle.pattern_text.proofs.Sizes.{word_size}
use mathlib.Core.Path.{sym, ◌∙◌}
use mathlib.Core.List.{[], ◌∷◌}
use Rattle.gate_words.specs.lemmas.Laws.{part-is}
use Rattle.text_puts.specs.Puts.{one, join}
use Rattle.text_puts.specs.Texts.{shown, shown-size}
use borrow.Author.Rules.{rules}
use Rattle.pattern_text.proofs.put_word.Statement.{statement}
use Rattle.pattern_text.proofs.put_word.Tie as tie

letters-requires : tie.Need-letters-first-requires
letters-requires c κs = search rules

letters-requires-2 : tie.Need-letters-second-requires
letters-requires-2 c κs = search rules

slice-aggregate-spell-part : tie.Need-slice_bounds-spell_part-end
slice-aggregate-spell-part c = search rules

slice-aggregate-spell-part-2 : tie.Need-slice_bounds-spell_part-end-2
slice-aggregate-spell-part-2 c = search rules

spell-part-requires : tie.Need-spell_part-p-requires
spell-part-requires c κs = search rules

put-name-requires : tie.Need-put_name-a-requires
put-name-requires c κs = search rules

put-bytes-requires : tie.Need-put_bytes-b-requires
put-bytes-requires c κs = search rules

slice-aggregate-chosen : tie.Need-slice_bounds-chosen-end
slice-aggregate-chosen c = search rules

slice-aggregate-chosen-2 : tie.Need-slice_bounds-chosen-end-2
slice-aggregate-chosen-2 c = search rules

chosen-requires : tie.Need-chosen-requires
chosen-requires c κs = search rules

put-word-requires : tie.Need-put_word-c-requires
put-word-requires c κs = search rules

put-byte-requires : tie.Need-put_byte-requires
put-byte-requires c κs = search rules

same_length : tie.Need-shape_of-out
same_length c = search rules

returns : tie.Need-returns
returns c =
    let z = c in
    let w = z in
    let ch = w in
    let b = ch in
    let n = b in
    let sp = n in
    let l2 = sp in
    let l1 = l2 in
    let s = l1 in
    let hands = c.spell_part-p.ensures in
    let which = rw (sym c.letters-first.ensures, sym c.letters-second.ensures) at hands.which in
    let word = c.chosen.ensures.0 ∙ rw (sym c.letters-first.ensures, sym c.letters-second.ensures) at (part-is c.args.k c.args.u c.args.t c.letters-first.result c.letters-second.result hands) in
    join (rw which at c.put_name-a.ensures)
    (join (one c.put_name-a.new.out c.put_name-a.result (119 ∷ 111 ∷ 114 ∷ 100 ∷ 32 ∷ []) c.put_bytes-b.new.out c.put_bytes-b.result 5 (lit≤ tt) c.put_bytes-b.ensures)
    (join (rw word at (one c.put_bytes-b.new.out c.put_bytes-b.result (shown c.chosen.result.now) c.put_word-c.new.out c.put_word-c.result 128 (shown-size _ 128 (lit≤ tt) (rw word (word_size c.args.k c.args.u c.args.t))) c.put_word-c.ensures))
    (one c.put_word-c.new.out c.put_word-c.result (10 ∷ []) c.put_byte.new.out c.put_byte.result 1 (lit≤ tt) c.put_byte.ensures)))

pub put_word_spec : {M : Type 1} → statement M
put_word_spec =
    tie.close (tie.spec letters-requires letters-requires-2 slice-aggregate-spell-part slice-aggregate-spell-part-2 spell-part-requires put-name-requires put-bytes-requires slice-aggregate-chosen slice-aggregate-chosen-2 chosen-requires put-word-requires put-byte-requires same_length returns)
