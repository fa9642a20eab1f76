use mathlib.Core.Path.{◌≡◌, sym, ◌∙◌, subst}
use Prim.Native.Nat.{ℕ, ◌+◌, ◌*◌, ◌^◌, ◌≤◌}
use native.Mathlib.Omega.{arith}
use lib.IntN.{ℤ, pos, nat_abs, ◌+ℤ◌, ◌-ℤ◌}
use mir.Syntax.{w64}
use mir.Val.{SFits, to_z, of_z}
use mir.Facts.{to_z-of_z}
use borrow.Author.Rules.{rules}
use Rattle.integers.specs.lemmas.Size.{size-+, size--, size→fits, back}
use Rattle.ring.specs.declared.RootTwo.{RootTwo}
use Rattle.ring.specs.RootTwo.{num}
use Rattle.ring.specs.RootTwo.Order.{nonneg, ◌⊑◌}
use Rattle.line_rows.specs.Row.{at}
use Rattle.question_strips.specs.lemmas.Ceiling.{by_guess, surely}
use Rattle.question_strips.proofs.reach.ceiling.Statement.{statement}
use Rattle.question_strips.proofs.reach.ceiling.Tie as tie

near-root-requires : tie.Need-near_root-requires
near-root-requires c κs =
    let s = c in
    let q : SFits w64 c.args.x.q = size→fits (omega (arith, c.requires.q)) in
    rw (to_z-of_z q) (omega (arith, c.requires.q))

module _ (c : tie.After-near_root) where
  abbrev s : tie.Start
  s = c.before.before

  abbrev x : RootTwo
  x = s.args.x

  abbrev r : ℤ
  r = c.near_root.result

  abbrev t : ℤ
  t = x.p +ℤ r

  r-is : to_z w64 (of_z w64 r) ≡ r
  r-is = back w64 c.near_root.type_inv

  xp : SFits w64 x.p
  xp = size→fits (omega (arith, s.requires.p))

  xq : SFits w64 x.q
  xq = size→fits (omega (arith, s.requires.q))

  r-size : nat_abs r ≤ 2 * nat_abs x.q + 1
  r-size = rw (to_z-of_z xq) at c.near_root.ensures

  t-size : nat_abs t ≤ 2 ^ 26 + 2 ^ 28
  t-size = omega (arith, s.requires.p, s.requires.q, r-size, size-+ x.p r)

  t-fits : SFits w64 t
  t-fits = size→fits (omega (arith, t-size))

  less : SFits w64 (t -ℤ x.p)
  less = size→fits (omega (arith, t-size, s.requires.p, size-- t x.p))

  turned : SFits w64 (pos 0 -ℤ x.q)
  turned = size→fits (omega (arith, s.requires.q, size-- (pos 0) x.q))

add-t : tie.Need-overflow_add-t
add-t c = let d = c.before.before in simp (to_z-of_z (xp d), r-is d) (t-fits d)

sub-t3 : tie.Need-overflow_sub-t
sub-t3 c = let d = c.before.before.before.before in simp (to_z-of_z (xp d), r-is d, to_z-of_z (t-fits d)) (less d)

sub-t5 : tie.Need-overflow_sub-x
sub-t5 c = let d = c.before.before.before.before.before.before in simp (to_z-of_z (xq d)) (turned d)

is-nonneg-requires : tie.Need-is_nonneg-requires
is-nonneg-requires c κs = search rules

abs-requires : tie.Need-abs-requires
abs-requires c κs = search rules

abs-requires-2 : tie.Need-abs-requires-else-is_nonneg
abs-requires-2 c κs = search rules

abs-requires-3 : tie.Need-abs-requires-else-is_nonneg-2
abs-requires-3 c κs = search rules

tested : (c : tie.After-is_nonneg) → let d = c.before.before.before.before.before.before.before in c.is_nonneg.result ≡ nonneg (at (t d -ℤ (x d).p) (pos 0 -ℤ (x d).q))
tested c =
    let d = c.before.before.before.before.before.before.before in
    simp (to_z-of_z (xp d), to_z-of_z (xq d), r-is d, to_z-of_z (t-fits d), to_z-of_z (less d), to_z-of_z (turned d)) at c.is_nonneg.ensures

returns : tie.Need-returns-then-is_nonneg
returns c =
    let n = c.before.before in
    let d = n.before.before.before.before.before.before.before in
    let e = simp (to_z-of_z (xp d), r-is d, to_z-of_z (t-fits d)) at c.abs.ensures in
    rw e (omega (arith, t-size d), by_guess (x d) (t d) (sym (tested n) ∙ c.if-is_nonneg.true))

module _ (c : tie.After-abs-else-is_nonneg-2) where
  abbrev e : tie.After-near_root
  e = c.before.before.before.before.before.before.before.before.before.before.before.before

  p-is : c.abs-else-is_nonneg.result ≡ nat_abs (x e).p
  p-is = rw (to_z-of_z (xp e)) at c.abs-else-is_nonneg.ensures

  q-is : c.abs-else-is_nonneg-2.result ≡ nat_abs (x e).q
  q-is = rw (to_z-of_z (xq e)) at c.abs-else-is_nonneg-2.ensures

mul-result : tie.Need-overflow_mul-result
mul-result c = omega (arith, q-is c, (s (e c)).requires.q)

add-result : tie.Need-overflow_add-result
add-result c = omega (arith, p-is c, q-is c, (s (e c)).requires.p, (s (e c)).requires.q)

returns-2 : tie.Need-returns-else-is_nonneg
returns-2 c =
    let sum : c.abs-else-is_nonneg.result + 2 * c.abs-else-is_nonneg-2.result ≡ nat_abs (x (e c)).p + 2 * nat_abs (x (e c)).q = omega (arith, p-is c, q-is c) in
    (omega (arith, sum, (s (e c)).requires.p, (s (e c)).requires.q), subst (λ (n : ℕ). x (e c) ⊑ num (pos n)) (sym sum) (surely (x (e c))))

pub ceiling_spec : {M : Type 1} → statement M
ceiling_spec =
    tie.close
    (tie.spec
    near-root-requires
    add-t
    sub-t3
    sub-t5
    is-nonneg-requires
    abs-requires
    abs-requires-2
    abs-requires-3
    mul-result
    add-result
    returns
    returns-2)
