use mathlib.Core.Path.{sym}
use lib.ListN.{length-replicate}
use Prim.Native.Nat.{ℕ}
use Rattle.show.proofs.output_buffer.Statement.{statement}
use Rattle.show.proofs.output_buffer.Tie as tie

returns : tie.Need-returns
returns c = sym (length-replicate {0} {A = ℕ} 458752 0)

pub output_buffer_spec : {M : Type 1} → statement M
output_buffer_spec = tie.close (tie.spec returns)
