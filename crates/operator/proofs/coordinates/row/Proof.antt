use mathlib.Core.Path.{refl}
use mir.Syntax.{w64}
use mir.Val.{SFits}
use mir.Facts.{to_z-of_z, sfits_widen}
use borrow.Author.Rules.{rules}
use Rattle.operator.specs.Bounded.{RowFits, row_fits}
use Rattle.operator.proofs.coordinates.row.Statement.{statement}
use Rattle.operator.proofs.coordinates.row.Tie as tie

module _ (c : tie.Start) where
  fits : let a = c.args in RowFits a.p a.q a.r a.s a.v
  fits = row_fits _ _ _ _ _ c.ranges.p c.ranges.q c.requires.0 c.requires.1 c.requires.2

  words : let v = c.args.v in SFits w64 v.d × SFits w64 v.b × SFits w64 v.c × SFits w64 v.a
  words = (search rules, search rules, search rules, search rules)

  -- the factors, as they are read back from their bits
  p : SFits w64 c.args.p
  p = sfits_widen tt c.ranges.p

  q : SFits w64 c.args.q
  q = sfits_widen tt c.ranges.q

  r : SFits w64 c.args.r
  r = sfits_widen tt c.ranges.r

  s : SFits w64 c.args.s
  s = sfits_widen tt c.ranges.s

cast-result : tie.Need-overflow_cast-result
cast-result c = let e = c in rw (to_z-of_z e.ranges.p) (p e)

mul-result : tie.Need-overflow_mul-result
mul-result c = let e = c.before.before in rw (to_z-of_z e.ranges.p, to_z-of_z (p e), to_z-of_z (words e).0) (fits e).pd

cast-result-2 : tie.Need-overflow_cast-result-2
cast-result-2 c = let e = c.before.before in rw (to_z-of_z e.ranges.q) (q e)

mul-result-2 : tie.Need-overflow_mul-result-2
mul-result-2 c = let e = c.before.before.before.before in rw (to_z-of_z e.ranges.q, to_z-of_z (q e), to_z-of_z (words e).1) (fits e).qb

add-result : tie.Need-overflow_add-result
add-result c = let e = c.before.before.before.before in rw (to_z-of_z e.ranges.p, to_z-of_z (p e), to_z-of_z (words e).0, to_z-of_z (fits e).pd, to_z-of_z e.ranges.q, to_z-of_z (q e), to_z-of_z (words e).1, to_z-of_z (fits e).qb) (fits e).two

cast-result-3 : tie.Need-overflow_cast-result-3
cast-result-3 c = let e = c.before.before.before.before in rw (to_z-of_z e.ranges.r) (r e)

mul-result-3 : tie.Need-overflow_mul-result-3
mul-result-3 c = let e = c.before.before.before.before.before.before in rw (to_z-of_z e.ranges.r, to_z-of_z (r e), to_z-of_z (words e).2) (fits e).rc

add-result-2 : tie.Need-overflow_add-result-2
add-result-2 c = let e = c.before.before.before.before.before.before in rw (to_z-of_z e.ranges.p, to_z-of_z (p e), to_z-of_z (words e).0, to_z-of_z (fits e).pd, to_z-of_z e.ranges.q, to_z-of_z (q e), to_z-of_z (words e).1, to_z-of_z (fits e).qb, to_z-of_z (fits e).two, to_z-of_z e.ranges.r, to_z-of_z (r e), to_z-of_z (words e).2, to_z-of_z (fits e).rc) (fits e).three

cast-result-4 : tie.Need-overflow_cast-result-4
cast-result-4 c = let e = c.before.before.before.before.before.before in rw (to_z-of_z e.ranges.s) (s e)

mul-result-4 : tie.Need-overflow_mul-result-4
mul-result-4 c = let e = c.before.before.before.before.before.before.before.before in rw (to_z-of_z e.ranges.s, to_z-of_z (s e), to_z-of_z (words e).3) (fits e).sa

add-result-3 : tie.Need-overflow_add-result-3
add-result-3 c = let e = c.before.before.before.before.before.before.before.before in rw (to_z-of_z e.ranges.p, to_z-of_z (p e), to_z-of_z (words e).0, to_z-of_z (fits e).pd, to_z-of_z e.ranges.q, to_z-of_z (q e), to_z-of_z (words e).1, to_z-of_z (fits e).qb, to_z-of_z (fits e).two, to_z-of_z e.ranges.r, to_z-of_z (r e), to_z-of_z (words e).2, to_z-of_z (fits e).rc, to_z-of_z (fits e).three, to_z-of_z e.ranges.s, to_z-of_z (s e), to_z-of_z (words e).3, to_z-of_z (fits e).sa) (fits e).four

returns : tie.Need-returns
returns c = let e = c.before.before.before.before.before.before.before.before in rw (to_z-of_z e.ranges.p, to_z-of_z (p e), to_z-of_z (words e).0, to_z-of_z (fits e).pd, to_z-of_z e.ranges.q, to_z-of_z (q e), to_z-of_z (words e).1, to_z-of_z (fits e).qb, to_z-of_z (fits e).two, to_z-of_z e.ranges.r, to_z-of_z (r e), to_z-of_z (words e).2, to_z-of_z (fits e).rc, to_z-of_z (fits e).three, to_z-of_z e.ranges.s, to_z-of_z (s e), to_z-of_z (words e).3, to_z-of_z (fits e).sa, to_z-of_z (fits e).four) refl

pub row_spec : {M : Type 1} → statement M
row_spec =
    tie.close
    (tie.spec
    cast-result
    mul-result
    cast-result-2
    mul-result-2
    add-result
    cast-result-3
    mul-result-3
    add-result-2
    cast-result-4
    mul-result-4
    add-result-3
    returns)
