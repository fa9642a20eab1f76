use mathlib.Core.Path.{refl, sym, ◌∙◌}
use native.Mathlib.Omega.{arith}
use lib.IntN.{pos, neg_ℤ, ◌-ℤ◌, +ℤ_idl}
use mir.Syntax.{w64}
use mir.Val.{SFits}
use mir.Facts.{to_z-of_z}
use Rattle.integers.specs.lemmas.Size.{size--, size→fits}
use Rattle.ring.specs.RootTwo.{ext, conj_parts}
use Rattle.ring_surds.proofs.conjugate.Statement.{statement}
use Rattle.ring_surds.proofs.conjugate.Tie as tie

record Known (s : tie.Start) : Type 0 where
  pub p : SFits w64 s.args.x.p
  pub q : SFits w64 s.args.x.q
  pub less : SFits w64 (pos 0 -ℤ s.args.x.q)

known : (s : tie.Start) → Known s
known s = record { p = size→fits (omega (arith, s.requires.p)); q = size→fits (omega (arith, s.requires.q)); less = size→fits (omega (arith, s.requires.q, size-- (pos 0) s.args.x.q)) }

sub-t2 : tie.Need-overflow_sub-result
sub-t2 c = let k = known c.before.before in simp (to_z-of_z k.q) k.less

returns : tie.Need-returns
returns c =
    let s = c.before.before.before in
    let k = known s in
    simp (to_z-of_z k.p, to_z-of_z k.q, to_z-of_z k.less) (ext refl (+ℤ_idl (neg_ℤ s.args.x.q)) ∙ sym (conj_parts s.args.x))

pub conjugate_spec : {M : Type 1} → statement M
conjugate_spec = tie.close (tie.spec sub-t2 returns)
