use Rattle.gate_words.specs.lemmas.Laws.{hands}
use borrow.Author.Rules.{rules}
use Rattle.gate_words.proofs.spell_part.Statement.{statement}
use Rattle.gate_words.proofs.spell_part.Tie as tie

spell-requires : tie.Need-spell-a-requires
spell-requires c κs = search rules

part-requires : tie.Need-part-requires
part-requires c κs = search rules

same_length : tie.Need-shape_of-first
same_length c = search rules

same-length-2 : tie.Need-shape_of-second
same-length-2 c = search rules

returns : tie.Need-returns
returns c =
    let a = c.args in
    hands a.k a.u a.t a.first.now a.second.now c.spell-a.ensures c.part.ensures

pub spell_part_spec : {M : Type 1} → statement M
spell_part_spec =
    tie.close (tie.spec spell-requires part-requires same_length same-length-2 returns)
