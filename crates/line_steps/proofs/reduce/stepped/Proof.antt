use mathlib.Core.Path.{◌≡◌, sym, ◌∙◌, ap, ap₂, subst}
use Prim.Native.Nat.{◌^◌}
use native.Mathlib.Omega.{arith}
use borrow.Author.Rules.{rules}
use Rattle.ring.specs.RootTwo.{conj}
use Rattle.ring.specs.RootTwo.Sized.{sized_more, conj_size}
use Rattle.line_rows.specs.declared.Band.{Band}
use Rattle.line_rows.specs.Steps.{shift_of, times_of}
use Rattle.line_steps.specs.Narrow.{first_of, second_of}
use Rattle.line_steps.specs.Sized.{Sized, Ends, whole, shifted, scaled, size_of_unit, shift-ends, times-ends}
use Rattle.line_steps.specs.Scaled.{rows_band, Chosen, scaled-by}
use Rattle.line_steps.proofs.reduce.stepped.Statement.{statement}
use Rattle.line_steps.proofs.reduce.stepped.Tie as tie

alpha0-requires : tie.Need-alpha0-o-requires
alpha0-requires c κs = (c.requires.0, c.requires.1)

shift-requires : tie.Need-shift-y-requires
shift-requires c κs = (c.requires.2, c.alpha0-o.ensures.0)

conjugate-requires : tie.Need-conjugate-requires
conjugate-requires c κs = sized_more whole (2 ^ 60) _ (omega arith) c.alpha0-o.ensures.0

-- ---- the shifted strips
module _ (c : tie.After-conjugate) where
  turned-size : Sized whole c.conjugate.result
  turned-size = subst (Sized whole) (sym c.conjugate.ensures) (conj_size whole _ c.alpha0-o.ensures.0)

shift-requires-2 : tie.Need-shift-x-requires
shift-requires-2 c κs = (c.requires.3, turned-size c)

module _ (c : tie.After-shift-x) where
  abbrev start : tie.Start
  start = c.before.before.before.before

  first_ends : Ends shifted c.shift-y.result
  first_ends = subst (Ends shifted) (sym c.shift-y.ensures) (shift-ends _ _ start.requires.2 c.alpha0-o.ensures.0)

  second-ends : Ends shifted c.shift-x.result
  second-ends = subst (Ends shifted) (sym c.shift-x.ensures) (shift-ends _ _ start.requires.3 (turned-size c.before))

  second_is : c.shift-x.result ≡ shift_of start.args.t (conj c.alpha0-o.result)
  second_is = c.shift-x.ensures ∙ ap (shift_of start.args.t) c.conjugate.ensures

unit-requires : tie.Need-unit-u-requires
unit-requires c κs = second-ends c

scale-requires : tie.Need-scale-f-requires
scale-requires c κs = (first_ends c.before, c.unit-u.ensures.size)

conjugate-requires-2 : tie.Need-conjugate-requires-2
conjugate-requires-2 c κs = sized_more size_of_unit (2 ^ 60) _ (omega arith) c.unit-u.ensures.size

unit_size : (c : tie.After-conjugate-2) → Sized size_of_unit c.conjugate-2.result
unit_size c = subst (Sized size_of_unit) (sym c.conjugate-2.ensures) (conj_size size_of_unit _ c.unit-u.ensures.size)

scale-requires-2 : tie.Need-scale-g-requires
scale-requires-2 c κs = (second-ends c.before.before.before, unit_size c)

rows-of-requires : tie.Need-rows_of-rows-requires
rows-of-requires c κs =
    let f = c in
    let u = f in (
      subst (Ends scaled) (sym f.scale-f.ensures) (times-ends _ _ (first_ends u.before.before.before.before) u.unit-u.ensures.size),
      subst (Ends scaled) (sym c.scale-g.ensures) (times-ends _ _ (second-ends u.before.before.before.before) (unit_size c.before)),
    )

half-requires : tie.Need-half-half-requires
half-requires c κs = search rules

returns : tie.Need-returns
returns c =
    let r = c in
    let g = r in
    let f = g in
    let u = f in
    let x = u.before in
    let a = x.before.before.before in
    let s = a.before in
    let o = a.alpha0-o.result in
    let v = u.unit-u.result in
    let e : f.scale-f.result ≡ first_of s.args.s o v = f.scale-f.ensures ∙ ap (λ (y : Band). times_of y v) x.shift-y.ensures in
    let h : g.scale-g.result ≡ second_of s.args.t o v = g.scale-g.ensures ∙ ap₂ times_of (second_is x.before.before.before.before.before) g.conjugate-2.ensures in
    record {
      is = scaled-by s.args.s s.args.t s.args.thin s.args.turned o v c.half-half.ensures (second_is x.before.before.before.before.before) e h (r.rows_of-rows.ensures ∙ ap₂ rows_band e h);
      origin-size = a.alpha0-o.ensures.0;
      origin-plain = a.alpha0-o.ensures.1;
      unit = subst (λ (b : Band). Chosen b s.args.thin v) (second_is x.before.before.before.before.before) u.unit-u.ensures;
    }

pub stepped_spec : {M : Type 1} → statement M
stepped_spec =
    tie.close
    (tie.spec
    alpha0-requires
    shift-requires
    conjugate-requires
    shift-requires-2
    unit-requires
    scale-requires
    conjugate-requires-2
    scale-requires-2
    rows-of-requires
    half-requires
    returns)
