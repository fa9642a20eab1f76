use Rattle.text_puts.specs.Puts.{join}
use borrow.Author.Rules.{rules}
use Rattle.pattern_text.proofs.put_pattern.Statement.{statement}
use Rattle.pattern_text.proofs.put_pattern.Tie as tie

exponent-requires : tie.Need-exponent-requires
exponent-requires c κs = search rules

pulse-count-requires : tie.Need-pulse_count-m-requires
pulse-count-requires c κs = search rules

put-number-requires : tie.Need-put_number-a-requires
put-number-requires c κs = search rules

put-point-requires : tie.Need-put_point-b-requires
put-point-requires c κs = search rules

put-point-requires-2 : tie.Need-put_point-c-requires
put-point-requires-2 c κs = search rules

put-number-requires-2 : tie.Need-put_number-d-requires
put-number-requires-2 c κs = search rules

put-word-requires : tie.Need-put_word-requires
put-word-requires c κs = search rules

same_length : tie.Need-shape_of-out
same_length c = search rules

returns : tie.Need-returns
returns c =
    let w = c in
    let n2 = w in
    let t = n2 in
    let u = t in
    let n1 = u in
    let m = n1 in
    let e = m in
    join c.put_number-a.ensures (join c.put_point-b.ensures (join c.put_point-c.ensures (join (rw (c.pulse_count-m.ensures, c.exponent.ensures) at c.put_number-d.ensures) c.put_word.ensures)))

pub put_pattern_spec : {M : Type 1} → statement M
put_pattern_spec =
    tie.close (tie.spec exponent-requires pulse-count-requires put-number-requires put-point-requires put-point-requires-2 put-number-requires-2 put-word-requires same_length returns)
