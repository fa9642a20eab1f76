-- `room` meets its contract. Assumes nothing.
use mir.Facts.{to_z-of_z}
use borrow.Author.Rules.{rules}
use Rattle.text_words.proofs.room.Statement.{statement}
use Rattle.text_words.proofs.room.Tie as tie

length-to-requires : tie.Need-length_to-requires
length-to-requires c κs = search rules

returns : tie.Need-returns
returns c = rw (to_z-of_z c.ranges.n) at c.length_to.ensures

pub room_spec : {M : Type 1} → statement M
room_spec = tie.close (tie.spec length-to-requires returns)
