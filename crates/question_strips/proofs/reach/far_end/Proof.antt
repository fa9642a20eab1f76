use mathlib.Core.Path.{sym, ◌∙◌, ap}
use mir.Syntax.{w64}
use mir.Facts.{to_z-of_z, sfits_widen}
use borrow.Author.Rules.{rules}
use Rattle.question_strips.specs.Reach.{far_end}
use Rattle.question_strips.proofs.reach.far_end.Statement.{statement}
use Rattle.question_strips.proofs.reach.far_end.Tie as tie

is-nonneg-requires : tie.Need-is_nonneg-requires
is-nonneg-requires c κs = search rules

cast-result : tie.Need-overflow_cast-result
cast-result c = let h = c.ranges.hi in rw (to_z-of_z h) (sfits_widen tt h)

cast-result-2 : tie.Need-overflow_cast-result-else-is_nonneg
cast-result-2 c = let h = c.ranges.lo in rw (to_z-of_z h) (sfits_widen tt h)

returns : tie.Need-returns-then-is_nonneg
returns c =
    let s = c in
    let h = c.ranges.hi in
    simp (to_z-of_z h, to_z-of_z (sfits_widen {w' = w64} tt h)) (sym (ap (λ t. far_end t c.args.lo c.args.hi) (sym c.is_nonneg.ensures ∙ c.if-is_nonneg.true)))

returns-2 : tie.Need-returns-else-is_nonneg
returns-2 c =
    let s = c in
    let h = c.ranges.lo in
    simp (to_z-of_z h, to_z-of_z (sfits_widen {w' = w64} tt h)) (sym (ap (λ t. far_end t c.args.lo c.args.hi) (sym c.is_nonneg.ensures ∙ c.if-is_nonneg.false)))

pub far_end_spec : {M : Type 1} → statement M
far_end_spec = tie.close (tie.spec is-nonneg-requires cast-result cast-result-2 returns returns-2)
