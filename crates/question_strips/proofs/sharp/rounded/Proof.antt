use mathlib.Core.Path.{◌≡◌}
use Prim.Native.Nat.{◌+◌, ◌*◌, ◌^◌, ◌≤◌}
use native.Mathlib.Omega.{arith}
use lib.IntN.{nat_abs, ◌+ℤ◌}
use mir.Syntax.{w64}
use mir.Val.{SFits, to_z, of_z}
use mir.Facts.{to_z-of_z}
use Rattle.integers.specs.lemmas.Size.{size-+, size→fits, back}
use Rattle.ring.specs.declared.RootTwo.{RootTwo}
use Rattle.question_strips.proofs.sharp.rounded.Statement.{statement}
use Rattle.question_strips.proofs.sharp.rounded.Tie as tie

near-root-requires : tie.Need-near_root-requires
near-root-requires c κs =
    let s = c in
    let q : SFits w64 c.args.x.q = size→fits (omega (arith, c.requires.q)) in
    rw (to_z-of_z q) (omega (arith, c.requires.q))

module _ (c : tie.After-near_root) where
  abbrev s : tie.Start
  s = c.before.before

  abbrev x : RootTwo
  x = s.args.x

  p-fits : SFits w64 x.p
  p-fits = size→fits (omega (arith, s.requires.p))

  q-fits : SFits w64 x.q
  q-fits = size→fits (omega (arith, s.requires.q))

  r-is : to_z w64 (of_z w64 c.near_root.result) ≡ c.near_root.result
  r-is = back w64 c.near_root.type_inv

  r-size : nat_abs c.near_root.result ≤ 2 * nat_abs x.q + 1
  r-size = rw (to_z-of_z q-fits) at c.near_root.ensures

  size : nat_abs (x.p +ℤ c.near_root.result) ≤ 2 ^ 30
  size = omega (arith, s.requires.p, s.requires.q, r-size, size-+ x.p c.near_root.result)

  fits : SFits w64 (x.p +ℤ c.near_root.result)
  fits = size→fits (omega (arith, size))

add-result : tie.Need-overflow_add-result
add-result c = let d = c.before.before in simp (to_z-of_z (p-fits d), r-is d) (fits d)

returns : tie.Need-returns
returns c = let d = c.before.before in simp (to_z-of_z (p-fits d), r-is d, to_z-of_z (fits d)) (size d)

pub rounded_spec : {M : Type 1} → statement M
rounded_spec = tie.close (tie.spec near-root-requires add-result returns)
