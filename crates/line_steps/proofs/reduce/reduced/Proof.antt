use mathlib.Core.Path.{◌≡◌, sym, ◌∙◌, subst, subst₂}
use mathlib.Core.Bool.{true, false}
use borrow.Author.Rules.{rules}
use Rattle.line_rows.specs.declared.Band.{Band}
use Rattle.line_steps.specs.Strips.{strip_of, Ranged, both-ranged}
use Rattle.line_steps.specs.Sized.{Ends, whole}
use Rattle.line_steps.specs.Scaled.{Stepped}
use Rattle.line_steps.specs.Turns.{interval_ends, thin_wide, turns_second, turns_first, turns_plain}
use Rattle.line_steps.proofs.reduce.reduced.Statement.{statement}
use Rattle.line_steps.proofs.reduce.reduced.Tie as tie

strip-requires : tie.Need-strip-s-requires
strip-requires c κs = search rules

strip-requires-2 : tie.Need-strip-t-requires
strip-requires-2 c κs = search rules

module _ (c : tie.After-strip-t) where
  abbrev start : tie.Start
  start = c.before.before

  first-is : c.strip-s.result ≡ strip_of start.args.first
  first-is = c.strip-s.ensures

  second_is : c.strip-t.result ≡ strip_of start.args.second
  second_is = c.strip-t.ensures

  first : Ranged c.strip-s.result × Ends whole c.strip-s.result
  first = let r = (both-ranged start.args.first start.args.second start.requires).0 in (subst Ranged (sym first-is) r, subst (Ends whole) (sym first-is) (interval_ends start.args.first r))

  second : Ranged c.strip-t.result × Ends whole c.strip-t.result
  second = let r = (both-ranged start.args.first start.args.second start.requires).1 in (subst Ranged (sym second_is) r, subst (Ends whole) (sym second_is) (interval_ends start.args.second r))

is-thin-requires : tie.Need-is_thin-requires
is-thin-requires c κs = (second c).0

stepped-requires : tie.Need-stepped-requires
stepped-requires c κs = let k = c.before.before in ((first k).0, (second k).0, (first k).1, (second k).1)

returns : tie.Need-returns-then-is_thin
returns c =
    let i = c in
    let k = i.before.before in
    let s = start k.before in
    let r = (both-ranged s.args.first s.args.second s.requires).1 in
    turns_second s.args.first s.args.second s.requires c.stepped.result
    (thin_wide s.args.second r (sym (rw (second_is k.before) at i.is_thin.ensures) ∙ i.if-is_thin.true))
    (subst₂ (λ (a b : Band). Stepped a b true false c.stepped.result) (first-is k.before) (second_is k.before) c.stepped.ensures)

is-thin-requires-2 : tie.Need-is_thin-requires-2
is-thin-requires-2 c κs = (first c.before.before).0

stepped-requires-2 : tie.Need-stepped-requires-then-is_thin-2
stepped-requires-2 c κs = let k = c.before.before.before.before in ((second k).0, (first k).0, (second k).1, (first k).1)

returns-2 : tie.Need-returns-then-is_thin-2
returns-2 c =
    let i = c in
    let k = i.before.before.before.before in
    let s = start k.before in
    let r = (both-ranged s.args.first s.args.second s.requires).0 in
    turns_first s.args.first s.args.second s.requires c.stepped-then-is_thin-2.result
    (thin_wide s.args.first r (sym (rw (first-is k.before) at i.is_thin-2.ensures) ∙ i.if-is_thin-2.true))
    (subst₂ (λ (a b : Band). Stepped a b true true c.stepped-then-is_thin-2.result) (second_is k.before) (first-is k.before) c.stepped-then-is_thin-2.ensures)

stepped-requires-3 : tie.Need-stepped-requires-2
stepped-requires-3 c κs = let k = c.before.before.before.before in ((first k).0, (second k).0, (first k).1, (second k).1)

returns-3 : tie.Need-returns
returns-3 c =
    let k = c.before.before.before.before.before in
    let s = start k in
    turns_plain s.args.first s.args.second s.requires c.stepped-2.result
    (subst₂ (λ (a b : Band). Stepped a b false false c.stepped-2.result) (first-is k) (second_is k) c.stepped-2.ensures)

pub reduced_spec : {M : Type 1} → statement M
reduced_spec =
    tie.close
    (tie.spec
    strip-requires
    strip-requires-2
    is-thin-requires
    stepped-requires
    returns
    is-thin-requires-2
    stepped-requires-2
    returns-2
    stepped-requires-3
    returns-3)
