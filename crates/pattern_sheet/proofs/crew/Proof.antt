use Prim.Native.Nat.{ℕ}
use mathlib.Core.Path.{ap, ap₂, ◌∙◌}
use Rattle.ring.specs.Point.Exponent.{exponent_of, pulse_count}
use Rattle.pattern_sheet.specs.declared.Reading.TheVariants.{Crew}
use Rattle.pattern_sheet.specs.Sheet.{k_at, crew_of}
use borrow.Author.Rules.{rules}
use Rattle.pattern_sheet.proofs.crew.Statement.{statement}
use Rattle.pattern_sheet.proofs.crew.Tie as tie

shared-slice-read-k : tie.Need-bounds-s-1
shared-slice-read-k c = search rules

point-at-requires : tie.Need-point_at-u-requires
point-at-requires c κs = search rules

exponent-requires : tie.Need-exponent-requires
exponent-requires c κs = search rules

pulse-count-requires : tie.Need-pulse_count-m-requires
pulse-count-requires c κs = search rules

u32-at-requires : tie.Need-u32_at-requires
u32-at-requires c κs = search rules

returns : tie.Need-returns
unfolding crew_of
returns c =
    let s = c.args.s.now in
    let m = c.pulse_count-m.ensures ∙ ap pulse_count (c.exponent.ensures ∙ ap (exponent_of (k_at s)) c.point_at-u.ensures) in
    ap₂ (λ (m n : ℕ). Crew m n 38) m c.u32_at.ensures

pub crew_spec : {M : Type 1} → statement M
crew_spec =
    tie.close
    (tie.spec
    shared-slice-read-k
    point-at-requires
    exponent-requires
    pulse-count-requires
    u32-at-requires
    returns)
