use mathlib.Core.Path.{◌≡◌, ap, ◌∙◌}
use mir.Facts.{to_z-of_z}
use native.Mathlib.Omega.{arith}
use borrow.Author.Rules.{rules}
use Rattle.cuts.specs.Digits.{digit}
use Rattle.cuts.specs.Level.{span_pos}
use Rattle.walk_list.proofs.lemmas.Points.{Fits32}
use Rattle.walk_list.specs.Walk.{left, rank_of}
use Rattle.tray_merge.specs.lemmas.Floor.{floor-none, floor-at}
use Rattle.tray_merge.proofs.floor.raised.Statement.{statement}
use Rattle.tray_merge.proofs.floor.raised.Tie as tie

fits : (c : tie.Start) → Fits32 c.args.from
fits c =
    let g = c.well_formed.1.0.1.1 in
    record { a = record { sfits = g.0.1 }; b = record { sfits = g.1.0.1 }; c = record { sfits = g.1.1.0.1 }; d = record { sfits = g.1.1.1.0.1 } }

-- the digit of a, and the range from it on
module _ (r : tie.After-range_a-r) where
  abbrev start : tie.Start
  start = r.before.before.before.before

  digit-is : r.digit-a.result ≡ digit start.args.from.a
  digit-is = r.digit-a.ensures.0 ∙ ap digit (to_z-of_z (fits start).a)

strip-requires : tie.Need-strip-s-requires
strip-requires c κs = search rules

digit-requires : tie.Need-digit-a-requires
digit-requires c κs = search rules

range-a-requires : tie.Need-range_a-r-requires
range-a-requires c κs = search rules

returns : tie.Need-returns-then-r
returns c =
    let r = c.before.before in
    floor-none (start c.before.before).args.job (start c.before.before).args.from (fits (start c.before.before)) c.digit-a.result (digit-is c.before.before) c.range_a-r.result c.range_a-r.ensures (omega arith)

point-requires : tie.Need-point-requires
point-requires c κs =
    let r = c in
    record { a_in = c.range_a-r.ensures.inside; b-in = span_pos; c-in = span_pos; d-in = span_pos }

returns-2 : tie.Need-returns-then-a-r
returns-2 c =
    let r = c.before.before.before.before.before in
    ap (λ p. left (start c.before.before.before.before.before).args.job (rank_of p)) c.point.ensures
    ∙ floor-at (start c.before.before.before.before.before).args.job (start c.before.before.before.before.before).args.from (fits (start c.before.before.before.before.before)) c.digit-a.result (digit-is c.before.before.before.before.before) c.range_a-r.result c.range_a-r.ensures (omega arith)

returns-3 : tie.Need-returns
returns-3 c = search rules

pub raised_spec : {M : Type 1} → statement M
raised_spec = tie.close (tie.spec strip-requires digit-requires range-a-requires returns point-requires returns-2 returns-3)
