use Prim.Native.Nat.{◌^◌, ◌≤◌}
use native.Mathlib.Omega.{arith}
use borrow.Author.Rules.{rules}
use lib.IntN.{pos, nat_abs}
use mir.Syntax.{w64}
use mir.Val.{SFits}
use mir.Facts.{to_z_pos, to_z-of_z}
use Rattle.integers.specs.lemmas.Size.{size--, size→fits}
use Rattle.line_rows.specs.Row.{coordinate}
use Rattle.line_rows.proofs.coordinate.Statement.{statement}
use Rattle.line_rows.proofs.coordinate.Tie as tie

size : (c : tie.Start) → nat_abs (coordinate c.args.h c.args.t) ≤ 2 ^ 41
size c = omega (arith, size-- (pos c.args.t) (pos c.args.h))

fit : (c : tie.Start) → SFits w64 (coordinate c.args.h c.args.t)
fit c = size→fits (omega (arith, size c))

cast-result : tie.Need-overflow_cast-result
cast-result c = search rules

cast-result-2 : tie.Need-overflow_cast-result-2
cast-result-2 c = search rules

sub-result : tie.Need-overflow_sub-result
sub-result c = rw (to_z_pos w64 {n = c.args.t} (omega arith), to_z_pos w64 {n = c.args.h} (omega arith)) (fit c)

returns : tie.Need-returns
returns c = rw (to_z_pos w64 {n = c.args.t} (omega arith), to_z_pos w64 {n = c.args.h} (omega arith)) (to_z-of_z (fit c), rw (to_z-of_z (fit c)) (size c))

pub coordinate_spec : {M : Type 1} → statement M
coordinate_spec = tie.close (tie.spec cast-result cast-result-2 sub-result returns)
