use Rattle.std.specs.Prelude.{◌≡◌, refl, true, ℕ, zero, suc, ◌^◌, ◌≤◌, ℤ, pos, negsuc, neg_ℤ, nat_abs}
use Rattle.std.proofs.Common.{sym, ap, ap₂, ◌∙◌, arith, rules, SFits, to_z, of_z, to_z-of_z}
use mir.Facts.{to_z_pos}
use Rattle.std.specs.Int.{w16, w64}
use Rattle.integers.specs.lemmas.Size.{size-neg, size→fits}
use Rattle.region.specs.declared.Region.{Region}
use Rattle.region.specs.Region.{accepted}
use Rattle.region.specs.Over.{scale, scale-limits}
use Rattle.region.specs.Reach.{reach_of}
use Rattle.pattern_apart.specs.Apart.{Opposite, reach_small, sum-sizes, apart_if}
use Rattle.pattern_apart.proofs.ends_before.Goals as goal

neg_neg : (z : ℤ) → neg_ℤ (neg_ℤ z) ≡ z
neg_neg (pos zero) = refl
neg_neg (pos (suc n)) = refl
neg_neg (negsuc n) = refl

opposed : (u v p q : ℤ) → nat_abs u ≤ 1000 → nat_abs v ≤ 1000 → p ≡ neg_ℤ u → q ≡ neg_ℤ v → Opposite u v p q
opposed u v p q h k e f = record {
  u-size = h;
  v-size = k;
  p-size = rw (e, size-neg u) h;
  q-size = rw (f, size-neg v) k;
  first = e;
  second = f;
  third = sym (ap neg_ℤ e ∙ neg_neg u);
  fourth = sym (ap neg_ℤ f ∙ neg_neg v);
}

wide : {x z : ℤ} → x ≡ z → nat_abs z ≤ 2 ^ 31 → to_z w64 (of_z w64 x) ≡ z
wide {x} {z} e h = ap (λ z. to_z w64 (of_z w64 z)) e ∙ to_z-of_z {w = w64} (size→fits (omega arith))

count : {x n : ℕ} → x ≡ n → n ≤ 100 → to_z w64 x ≡ pos n
count {x} e h = to_z_pos w64 {n = x} (omega arith) ∙ ap pos e

-- the four numbers
module _ (r s : Region) (u v p q : ℤ) (a : accepted r ≡ true) (b : accepted s ≡ true) (o : Opposite u v p q) where
  scales : {m n : ℕ} → m ≡ scale s → n ≡ scale r → (to_z w64 m ≡ pos (scale s)) × (to_z w64 n ≡ pos (scale r))
  scales e f = (count e (scale-limits s b).1, count f (scale-limits r a).1)

  reaches : {h g : ℤ} → SFits w16 u → SFits w16 v → SFits w16 p → SFits w16 q
      → h ≡ reach_of r (to_z w16 (of_z w16 u)) (to_z w16 (of_z w16 v)) → g ≡ reach_of s (to_z w16 (of_z w16 p)) (to_z w16 (of_z w16 q)) → (to_z w64 (of_z w64 h) ≡ reach_of r u v) × (to_z w64 (of_z w64 g) ≡ reach_of s p q)
  reaches i j k l e f = (
    wide (e ∙ ap₂ (reach_of r) (to_z-of_z i) (to_z-of_z j)) (reach_small _ _ _ a o.u-size o.v-size),
    wide (f ∙ ap₂ (reach_of s) (to_z-of_z k) (to_z-of_z l)) (reach_small _ _ _ b o.p-size o.q-size),
  )

pub is_below-requires : goal.is_below-requires
is_below-requires c =
    let a = c.args in
    let w = a.w in
    let z = c.opposite-o.result in
    let (x, y, h, k) = c.requires in
    let o = opposed w.x w.y z.x z.y h k c.opposite-o.ensures.0 c.opposite-o.ensures.1 in
    let m = scales a.r a.s w.x w.y z.x z.y x y o c.scale.ensures c.scale-2.ensures in
    let n = reaches a.r a.s w.x w.y z.x z.y x y o (search rules) (search rules) (search rules) (search rules) c.reach-h.ensures c.reach-g.ensures in
    rw (m.0, m.1, n.0, n.1) (sum-sizes a.r a.s w.x w.y z.x z.y x y o)

pub returns : goal.returns
returns c =
    let a = c.args in
    let w = a.w in
    let z = c.opposite-o.result in
    let (x, y, h, k) = c.requires in
    let o = opposed w.x w.y z.x z.y h k c.opposite-o.ensures.0 c.opposite-o.ensures.1 in
    let m = scales a.r a.s w.x w.y z.x z.y x y o c.scale.ensures c.scale-2.ensures in
    let n = reaches a.r a.s w.x w.y z.x z.y x y o (search rules) (search rules) (search rules) (search rules) c.reach-h.ensures c.reach-g.ensures in
    apart_if a.r a.s w.x w.y z.x z.y x y o c.is_below.result (rw (m.0, m.1, n.0, n.1) at c.is_below.ensures)
