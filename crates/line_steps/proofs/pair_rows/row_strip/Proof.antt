use mathlib.Core.Path.{◌∙◌, ap}
use native.Mathlib.Omega.{arith}
use borrow.Author.Rules.{rules}
use lib.IntN.{pos, ◌*ℤ◌}
use mir.Syntax.{w64}
use mir.Val.{SFits}
use mir.Facts.{to_z-of_z}
use Rattle.integers.specs.lemmas.Size.{size-*≤, size→fits, back}
use Rattle.line_rows.specs.Row.{band_ext}
use Rattle.line_steps.specs.Narrow.{end_of}
use Rattle.line_steps.proofs.pair_rows.row_strip.Statement.{statement}
use Rattle.line_steps.proofs.pair_rows.row_strip.Tie as tie

m-fits : (s : tie.Start) → SFits w64 s.args.t.m
m-fits s = size→fits (omega (arith, s.requires.0.scale))

p-fits : (s : tie.Start) → SFits w64 s.args.o.p
p-fits s = size→fits (omega (arith, s.requires.2.p))

double : (s : tie.Start) → SFits w64 (pos 2 *ℤ s.args.t.m)
double s = size→fits (omega (arith, size-*≤ (pos 2) s.args.t.m 2 200 (omega arith) s.requires.0.scale))

mul-t7 : tie.Need-overflow_mul-result
mul-t7 c = let s = c.before.before in rw (to_z-of_z (m-fits s)) (double s)

reach-requires : tie.Need-reach-requires
reach-requires c κs = search rules

end-requires : tie.Need-end-requires
end-requires c κs = search rules

reach-requires-2 : tie.Need-reach-requires-2
reach-requires-2 c κs = search rules

end-requires-2 : tie.Need-end-requires-2
end-requires-2 c κs = search rules

returns : tie.Need-returns
returns c =
    let s = c.before.before.before.before.before.before.before.before.before.before.before.before.before.before in
    let d = c in
    let e = c in
    let r = e in
    band_ext (simp (to_z-of_z (m-fits s), to_z-of_z (double s)))
    (e.end.ensures ∙ ap (λ k. end_of s.args.u k s.args.t.hi s.args.g.lo) (back w64 {z = r.reach.result} r.reach.type_inv ∙ simp (to_z-of_z (m-fits s), to_z-of_z (p-fits s)) at r.reach.ensures.0))
    (c.end-2.ensures ∙ ap (λ k. end_of s.args.u k s.args.t.lo s.args.g.hi) (back w64 {z = d.reach-2.result} d.reach-2.type_inv ∙ simp (to_z-of_z (m-fits s), to_z-of_z (p-fits s)) at d.reach-2.ensures.0))

pub row_strip_spec : {M : Type 1} → statement M
row_strip_spec =
    tie.close (tie.spec mul-t7 reach-requires end-requires reach-requires-2 end-requires-2 returns)
