use mathlib.Core.Path.{sym, ◌∙◌}
use Prim.Native.Nat.{◌^◌, ◌≤◌}
use native.Mathlib.Omega.{arith}
use lib.IntN.{ℤ, pos, neg_ℤ, nat_abs, ◌-ℤ◌, +ℤ_idl}
use mir.Syntax.{w64}
use mir.Val.{SFits}
use mir.Facts.{to_z-of_z}
use Rattle.integers.specs.lemmas.Size.{size--, size→fits}
use Rattle.ring.specs.RootTwo.{ext, neg_parts}
use Rattle.ring_surds.proofs.opposite.Statement.{statement}
use Rattle.ring_surds.proofs.opposite.Tie as tie

fits : (z : ℤ) → nat_abs z ≤ 2 ^ 60 → SFits w64 z × SFits w64 (pos 0 -ℤ z)
fits z h = (size→fits (omega arith), size→fits (omega (arith, size-- (pos 0) z)))

sub-t2 : tie.Need-overflow_sub-result
sub-t2 c = let s = c in let f = fits s.args.x.p s.requires.p in simp (to_z-of_z f.0) f.1

sub-t3 : tie.Need-overflow_sub-result-2
sub-t3 c = let s = c in let f = fits s.args.x.q s.requires.q in simp (to_z-of_z f.0) f.1

returns : tie.Need-returns
returns c =
    let s = c in
    let f = fits s.args.x.p s.requires.p in
    let g = fits s.args.x.q s.requires.q in
    simp (to_z-of_z f.0, to_z-of_z g.0, to_z-of_z f.1, to_z-of_z g.1) (ext (+ℤ_idl (neg_ℤ s.args.x.p)) (+ℤ_idl (neg_ℤ s.args.x.q)) ∙ sym (neg_parts s.args.x))

pub opposite_spec : {M : Type 1} → statement M
opposite_spec = tie.close (tie.spec sub-t2 sub-t3 returns)
