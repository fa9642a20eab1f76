-- `numbers_from` meets its contract. Assumes nothing.
use mathlib.Core.Path.{sym, ◌∙◌}
use Rattle.text_words.specs.Numbers.{listed-bad, numbers-some, numbers-none}
use borrow.Author.Rules.{rules}
use Rattle.text_words.proofs.numbers_from.Statement.{statement}
use Rattle.text_words.proofs.numbers_from.Tie as tie

leading-requires : tie.Need-leading-n-requires
leading-requires c κs = search rules

no-numbers-requires : tie.Need-no_numbers-requires
no-numbers-requires c κs = search rules

returns : tie.Need-returns-then-n-line
returns c =
    let b = c in
    listed-bad c.no_numbers.result c.no_numbers.ensures.0 ∙ sym (numbers-some b.leading-n.result _ _ b.leading-n.ensures.0 b.if-n-line.true)

returns-2 : tie.Need-returns
returns-2 c = sym (numbers-none c.leading-n.result _ _ c.leading-n.ensures.0 c.if-n-line.false)

pub numbers_from_spec : {M : Type 1} → statement M
numbers_from_spec = tie.close (tie.spec leading-requires no-numbers-requires returns returns-2)
