-- `leaving` meets its contract. Assumes nothing.
use borrow.Author.Rules.{rules}
use Rattle.library_trays.proofs.leaving.Statement.{statement}
use Rattle.library_trays.proofs.leaving.Tie as tie

state-of-requires : tie.Need-state_of-session-requires
state-of-requires c κs = search rules

reply-of-requires : tie.Need-reply_of-reply-requires
reply-of-requires c κs = search rules

returns : tie.Need-returns
returns c = record { session = c.state_of-session.ensures; reply = c.reply_of-reply.ensures }

pub leaving_spec : {M : Type 1} → statement M
leaving_spec = tie.close (tie.spec state-of-requires reply-of-requires returns)
