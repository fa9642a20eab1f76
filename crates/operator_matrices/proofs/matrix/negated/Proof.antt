use native.Mathlib.Omega.{arith}
use lib.IntN.{pos, neg_ℤ, ◌-ℤ◌, +ℤ_idl}
use mir.Syntax.{w64}
use mir.Val.{SFits}
use mir.Facts.{to_z-of_z}
use borrow.Author.Rules.{rules}
use Rattle.integers.specs.lemmas.Size.{size--, size→fits}
use Rattle.operator_matrices.specs.Matrix.{ext}
use Rattle.operator_matrices.proofs.matrix.negated.Statement.{statement}
use Rattle.operator_matrices.proofs.matrix.negated.Tie as tie

fits : (c : tie.Start) → let x = c.args.x in SFits w64 x.p × SFits w64 x.q × SFits w64 (pos 0 -ℤ x.p) × SFits w64 (pos 0 -ℤ x.q)
fits c =
    let x = c.args.x in
    (search rules, search rules, size→fits (omega (arith, size-- (pos 0) x.p, c.requires.p)), size→fits (omega (arith, size-- (pos 0) x.q, c.requires.q)))

sub-t2 : tie.Need-overflow_sub-result
sub-t2 c = let h = fits c.before.before in search rules

sub-t3 : tie.Need-overflow_sub-result-2
sub-t3 c = let h = fits c.before.before.before.before in search rules

returns : tie.Need-returns
returns c =
    let s = c.before.before.before.before in
    let h = fits c.before.before.before.before in
    rw (to_z-of_z h.0, to_z-of_z h.1, to_z-of_z h.2, to_z-of_z h.3) (ext (+ℤ_idl (neg_ℤ c.args.x.p)) (+ℤ_idl (neg_ℤ c.args.x.q)))

pub negated_spec : {M : Type 1} → statement M
negated_spec = tie.close (tie.spec sub-t2 sub-t3 returns)
