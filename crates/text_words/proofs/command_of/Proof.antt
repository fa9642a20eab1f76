-- `command_of` meets its contract: the text spells the names. Assumes nothing.
use borrow.Author.Rules.{rules}
use Rattle.text_words.specs.Names.{words_of}
use Rattle.text_words.proofs.command_of.Statement.{statement}
use Rattle.text_words.proofs.command_of.Tie as tie

place-of-requires : tie.Need-place_of-requires
place-of-requires c κs = search rules

returns : tie.Need-returns
unfolding words_of
returns c = c.place_of.ensures

pub command_of_spec : {M : Type 1} → statement M
command_of_spec = tie.close (tie.spec place-of-requires returns)
