use mathlib.Core.Path.{◌≡◌, refl, ◌∙◌}
use Prim.Native.Nat.{◌*◌, ◌≤◌}
use native.Mathlib.Omega.{arith}
use lib.IntN.{ℤ, pos, nat_abs, ◌-ℤ◌, ◌*ℤ◌}
use mir.Syntax.{w32, w64}
use mir.Val.{SFits, to_z, of_z}
use mir.Facts.{to_z-of_z, to_z_pos, sfits_widen}
use borrow.Author.Rules.{rules}
use Rattle.integers.specs.lemmas.Size.{size--, size-*≤, size→fits, fits→size, back}
use Rattle.plane_lengths.specs.Products.{term_size, adjugate, adjugate-size}
use Rattle.plane_lengths.proofs.products.adjugate.Statement.{statement}
use Rattle.plane_lengths.proofs.products.adjugate.Tie as tie

cast-term : tie.Need-overflow_cast-r
cast-term c = search rules

term-requires : tie.Need-term-requires
term-requires c κs = search rules

cast-term-2 : tie.Need-overflow_cast-q
cast-term-2 c = let h = c.ranges.q in rw (to_z-of_z h) (sfits_widen tt h)

term-requires-2 : tie.Need-term-requires-2
term-requires-2 c κs = search rules

-- the first two terms, and their difference
module _ (c : tie.After-term-2) where
  abbrev s : tie.Start
  s = c.before.before

  abbrev p : ℤ
  p = pos s.args.p

  abbrev q : ℤ
  q = s.args.q

  abbrev r : ℤ
  r = pos s.args.r

  abbrev u : ℤ
  u = s.args.u

  abbrev v : ℤ
  v = s.args.v

  first : to_z w64 (of_z w64 c.term.result) ≡ u *ℤ u *ℤ r
  first = let t = c.term in back w64 t.type_inv ∙ (simp (to_z-of_z s.ranges.u, to_z_pos w32 {n = s.args.r} (omega arith)) at t.ensures)

  second : to_z w64 (of_z w64 c.term-2.result) ≡ u *ℤ v *ℤ q
  second = let h = s.ranges.q in back w64 c.term-2.type_inv ∙ (simp (to_z-of_z s.ranges.u, to_z-of_z s.ranges.v, to_z-of_z h, to_z-of_z (sfits_widen {w' = w32} tt h)) at c.term-2.ensures)

  twice-size : nat_abs (pos 2 *ℤ (u *ℤ v *ℤ q)) ≤ 2 * (1073741824 * 32768)
  twice-size = size-*≤ (pos 2) (u *ℤ v *ℤ q) 2 (1073741824 * 32768) (omega arith) (term_size u v q 32768 (fits→size s.ranges.u) (fits→size s.ranges.v) (fits→size s.ranges.q))

  twice : SFits w64 (pos 2 *ℤ (u *ℤ v *ℤ q))
  twice = size→fits (omega (arith, twice-size))

  less : SFits w64 (u *ℤ u *ℤ r -ℤ pos 2 *ℤ (u *ℤ v *ℤ q))
  less = size→fits (omega (arith, twice-size, size-- (u *ℤ u *ℤ r) (pos 2 *ℤ (u *ℤ v *ℤ q)), term_size u u r 65535 (fits→size s.ranges.u) (fits→size s.ranges.u) (omega arith)))

-- the third, and the whole
module _ (c : tie.After-term-3) where
  abbrev d : tie.After-term-2
  d = c.before

  third : to_z w64 (of_z w64 c.term-3.result) ≡ v d *ℤ v d *ℤ p d
  third = back w64 c.term-3.type_inv ∙ (simp (to_z-of_z (s d).ranges.v, to_z_pos w32 {n = (s d).args.p} (omega arith)) at c.term-3.ensures)

  whole : SFits w64 (adjugate (p d) (q d) (r d) (u d) (v d))
  whole = size→fits (omega (arith, adjugate-size (p d) (q d) (r d) (u d) (v d) 65535 (omega arith) (omega (arith, fits→size (s d).ranges.q)) (omega arith) (fits→size (s d).ranges.u) (fits→size (s d).ranges.v)))

mul-result : tie.Need-overflow_mul-result
mul-result c = rw (second c) (twice c)

sub-result : tie.Need-overflow_sub-result
sub-result c = rw (first c, second c, to_z-of_z (twice c)) (less c)

cast-term-3 : tie.Need-overflow_cast-p
cast-term-3 c = search rules

term-requires-3 : tie.Need-term-requires-3
term-requires-3 c κs = search rules

add-result : tie.Need-overflow_add-result
add-result c = rw (first (d c), second (d c), to_z-of_z (twice (d c)), to_z-of_z (less (d c)), third c) (whole c)

returns : tie.Need-returns
returns c = rw (first (d c), second (d c), to_z-of_z (twice (d c)), to_z-of_z (less (d c)), third c, to_z-of_z (whole c)) refl

pub adjugate_spec : {M : Type 1} → statement M
adjugate_spec =
    tie.close
    (tie.spec
    cast-term
    term-requires
    cast-term-2
    term-requires-2
    mul-result
    sub-result
    cast-term-3
    term-requires-3
    add-result
    returns)
