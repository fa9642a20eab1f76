use mathlib.Core.Path.{◌≡◌, refl, sym, ◌∙◌, ap}
use mathlib.Core.Bool.{true, not}
use mir.Syntax.{w16, w32}
use mir.Val.{SFits}
use mir.Facts.{to_z-of_z}
use borrow.Author.Rules.{rules}
use borrow.Author.Tests.{not-true, not-false}
use Rattle.record_ranges.specs.Ranges.{directed}
use Rattle.region.specs.Region.{in_range_s, check_of}
use Rattle.region.proofs.Slice.check.Statement.{statement}
use Rattle.region.proofs.Slice.check.Tie as tie

slice-requires : tie.Need-slice-ranged-requires
slice-requires c κs = search rules

fits : (c : tie.Start) → let s = c.args.self in SFits w16 s.zx × SFits w16 s.zy × SFits w32 s.w
fits c = search rules

tested : (c : tie.After-slice-ranged) → c.slice-ranged.result ≡ in_range_s c.args.self
unfolding in_range_s
tested c =
    let h = fits c.before.before.before.before in
    rw (to_z-of_z h.0, to_z-of_z h.1, to_z-of_z h.2) at c.slice-ranged.ensures

directed-requires : tie.Need-directed-directed-requires
directed-requires c κs = search rules

towards : (c : tie.After-directed-directed) → let s = c.args.self in c.directed-directed.result ≡ directed s.zx s.zy
towards c = let h = fits c.before.before.before.before.before.before.before in rw (to_z-of_z h.0, to_z-of_z h.1) at c.directed-directed.ensures

returns : tie.Need-returns-then-not-ranged
unfolding check_of
returns c = rw (sym (tested c.before.before.before.before) ∙ not-true _ (ap not c.if-not-ranged.true)) refl

-- what the first test says where the second is reached
in-range : (c : tie.Else-not-ranged) → in_range_s c.args.self ≡ true
in-range c = sym (tested c.before.before.before.before) ∙ not-false _ (ap not c.if-not-ranged.false)

returns-2 : tie.Need-returns-then-directed
unfolding check_of
returns-2 c = rw (in-range c.before, sym (towards c.before.before) ∙ c.if-directed.true) refl

returns-3 : tie.Need-returns-else-directed
unfolding check_of
returns-3 c = rw (in-range c.before, sym (towards c.before.before) ∙ c.if-directed.false) refl

pub check_spec : {M : Type 1} → statement M
check_spec = tie.close (tie.spec slice-requires directed-requires returns returns-2 returns-3)
