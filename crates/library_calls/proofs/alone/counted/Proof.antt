-- `counted` meets its contract. Assumes nothing.
use borrow.Author.Rules.{rules}
use mathlib.Core.Path.{refl}
use Rattle.library_numbers.specs.Numbers.{bit-set}
use Rattle.library_calls.proofs.alone.counted.Statement.{statement}
use Rattle.library_calls.proofs.alone.counted.Tie as tie

flag-requires : tie.Need-flag-requires
flag-requires c κs = search rules

returns : tie.Need-returns
returns c = (refl, rw c.flag.ensures (bit-set c.args.end), refl)

pub counted_spec : {M : Type 1} → statement M
counted_spec = tie.close (tie.spec flag-requires returns)
