-- The inverse of an accepted operator undoes it, on both sides and at every point; it is even, and its numbers lie within ±200.
use Rattle.operator.specs.declared.Refusal.{Refusal}
use Rattle.std.specs.Prelude.{◌≡◌, refl, true, [], ◌∷◌, ℤ, pos, neg_ℤ, ◌+ℤ◌, ◌-ℤ◌, ◌*ℤ◌, Result, Ok, Err}
use Rattle.std.proofs.Common.{◌∙◌, ap, subst, arith}
use Prim.Native.Nat.{ℕ, zero}
use Rattle.integers.specs.Difference.{by⊖, zz}
use Rattle.integers.specs.lemmas.RingZ.{by_ring, by_ring_from, polyZ}
use Rattle.ring.specs.declared.Point.{Point}
use Rattle.ring.specs.Point.{ext}
use Rattle.operator.specs.declared.Operator.{Operator}
use Rattle.operator.specs.declared.Refusal.TheVariants.{OutOfRange, OddParity, NotSpecial}
use Rattle.operator.specs.Operator.{all_within, even_parity, det_whole, det_root, check_of, image_of}
use Rattle.operator.specs.Operator as O
use Rattle.operator.specs.Inverse.{adjugate, times, answer, inverse_of}
use Rattle.operator.specs.Accepted.{accepted, small-within}
use Rattle.operator.specs.lemmas.Adjugate.{adjugate-small, times-small}
use Rattle.operator.specs.lemmas.Halves.{half-by, halves}
use Rattle.operator.specs.lemmas.Even.{Free, free, point, grid, by_grid, whole, image-grid, grid-even}

-- the inverse's numbers: k times equations 50 and 51
abbrev undo : ℤ → Free → Free
undo k n = record {
  a = k *ℤ neg_ℤ n.s;
  b = k *ℤ neg_ℤ n.b;
  c = k *ℤ (n.s -ℤ n.c -ℤ n.a);
  d = k *ℤ n.bi;
  ai = k *ℤ (n.s -ℤ n.ai -ℤ n.a);
  bi = k *ℤ n.d;
  s = k *ℤ neg_ℤ n.a;
  t = k *ℤ (n.d +ℤ n.bi -ℤ n.t);
}

-- half of the determinant's √2 part
abbrev root : Free → ℤ
root n = n.d *ℤ n.s +ℤ n.bi *ℤ n.c -ℤ n.t *ℤ (n.a +ℤ n.c) +ℤ n.b *ℤ (n.a +ℤ n.c -ℤ n.s +ℤ n.ai)

root_is : (n : Free) → root n +ℤ root n ≡ det_root (grid n)
unfolding det_root
root_is n = by_ring (free n []) (search polyZ depth 60 fits 5000) refl

undo-is : (k : ℤ) (n : Free) → times k (adjugate (grid n)) ≡ grid (undo k n)
unfolding times adjugate
undo-is k n =
    let ρ = k ∷ free n [] in
    let g = grid n in
    let f = halves g.ci g.ai g.c g.a n.s (by_ring ρ (search polyZ depth 60) refl) in
    let e : neg_ℤ n.s +ℤ neg_ℤ n.s ≡ neg_ℤ g.ci -ℤ g.ai -ℤ g.c -ℤ g.a = by_ring ρ (search polyZ depth 60) refl in
    let h : (n.ai +ℤ n.c -ℤ n.s) +ℤ (n.ai +ℤ n.c -ℤ n.s) ≡ neg_ℤ g.ci +ℤ g.ai +ℤ g.c -ℤ g.a = by_ring ρ (search polyZ depth 60) refl in
    O.ext
    (ap (λ x. k *ℤ x) (half-by (neg_ℤ n.s) e)) refl (ap (λ x. k *ℤ x) f.1) refl
    (ap (λ x. k *ℤ x) f.2) refl (ap (λ x. k *ℤ x) (half-by (n.ai +ℤ n.c -ℤ n.s) h) ∙ by_ring ρ (search polyZ depth 60) refl) (by_ring ρ (search polyZ depth 60) refl)

module _ (k : ℤ) (n : Free) (unit : k *ℤ det_whole (grid n) ≡ pos 1) (zero : root n ≡ pos 0) (v : Point) where
  after : whole (undo k n).s (undo k n).t (grid (undo k n)) (whole n.s n.t (grid n) v) ≡ v
  unfolding det_whole
  after =
      let ρ = k ∷ free n (point v []) in
      ext
      (by_ring_from unit v.a (by_ring_from zero (k *ℤ (v.b -ℤ v.d)) (by_ring ρ (search polyZ depth 60 fits 50000) refl)))
      (by_ring_from unit v.b (by_ring_from zero (k *ℤ (v.c +ℤ v.a)) (by_ring ρ (search polyZ depth 60 fits 50000) refl)))
      (by_ring_from unit v.c (by_ring_from zero (k *ℤ (v.d +ℤ v.b)) (by_ring ρ (search polyZ depth 60 fits 50000) refl)))
      (by_ring_from unit v.d (by_ring_from zero (k *ℤ (v.c -ℤ v.a)) (by_ring ρ (search polyZ depth 60 fits 50000) refl)))

  before : whole n.s n.t (grid n) (whole (undo k n).s (undo k n).t (grid (undo k n)) v) ≡ v
  unfolding det_whole
  before =
      let ρ = k ∷ free n (point v []) in
      ext
      (by_ring_from unit v.a (by_ring_from zero (k *ℤ (v.b -ℤ v.d)) (by_ring ρ (search polyZ depth 60 fits 50000) refl)))
      (by_ring_from unit v.b (by_ring_from zero (k *ℤ (v.c +ℤ v.a)) (by_ring ρ (search polyZ depth 60 fits 50000) refl)))
      (by_ring_from unit v.c (by_ring_from zero (k *ℤ (v.d +ℤ v.b)) (by_ring ρ (search polyZ depth 60 fits 50000) refl)))
      (by_ring_from unit v.d (by_ring_from zero (k *ℤ (v.c -ℤ v.a)) (by_ring ρ (search polyZ depth 60 fits 50000) refl)))

undo-image : (k : ℤ) (n : Free) (v : Point) → image_of (times k (adjugate (grid n))) v ≡ whole (undo k n).s (undo k n).t (grid (undo k n)) v
undo-image k n v = ap (λ g. image_of g v) (undo-is k n) ∙ image-grid (undo k n) v

-- of an even operator: k times the adjugate undoes it where k det = 1
adjugate-undoes : (k : ℤ) (g : Operator) → even_parity g ≡ true → k *ℤ det_whole g ≡ pos 1 → det_root g ≡ pos 0 → (v : Point) → (image_of (times k (adjugate g)) (image_of g v) ≡ v) × (image_of g (image_of (times k (adjugate g)) v) ≡ v)
adjugate-undoes k = by_grid _ λ n unit zero v.
    let z = none (root n) (root_is n ∙ zero) in (
      ap (image_of (times k (adjugate (grid n)))) (image-grid n v) ∙ undo-image k n _ ∙ after k n unit z v,
      ap (image_of (grid n)) (undo-image k n v) ∙ image-grid n _ ∙ before k n unit z v,
    )
  where
    none : (z : ℤ) → z +ℤ z ≡ pos 0 → z ≡ pos 0
    none = by⊖ _ λ z z'. simp zz (omega arith)

adjugate-even : (k : ℤ) (g : Operator) → even_parity g ≡ true → even_parity (times k (adjugate g)) ≡ true
adjugate-even k = by_grid _ λ n. ap even_parity (undo-is k n) ∙ grid-even (undo k n)

-- ---- the inverse
pub inverse_special : (g : Operator) → check_of g ≡ (Ok tt) → inverse_of g ≡ Ok (times (det_whole g) (adjugate g))
unfolding inverse_of
inverse_special g e = rw e refl

pub inverse_is : (g h : Operator) → inverse_of g ≡ Ok h → (check_of g ≡ (Ok tt)) × (times (det_whole g) (adjugate g) ≡ h)
unfolding inverse_of
inverse_is g h e = go (check_of g) refl e
  where
    go : (t : Result Unit Refusal) → check_of g ≡ t → answer t (times (det_whole g) (adjugate g)) ≡ Ok h → (check_of g ≡ (Ok tt)) × (times (det_whole g) (adjugate g) ≡ h)
    go (Ok tt) c e = (c, cc)
    go (Err why) c e = let z : ◌≡◌ {A = ℕ} 0 1 = cc in absurd (omega arith)

-- SPEC, "Operators": it undoes the operator on every point
pub undoes : (g h : Operator) → inverse_of g ≡ Ok h → (v : Point) → (image_of h (image_of g v) ≡ v) × (image_of g (image_of h v) ≡ v)
undoes g h e v =
    let i = inverse_is g h e in
    let p = accepted g i.0 in
    subst (λ h. (image_of h (image_of g v) ≡ v) × (image_of g (image_of h v) ≡ v)) i.1 (adjugate-undoes (det_whole g) g p.even p.unit p.zero v)

pub inverse_even : (g h : Operator) → inverse_of g ≡ Ok h → even_parity h ≡ true
inverse_even g h e =
    let i = inverse_is g h e in
    subst (λ h. even_parity h ≡ true) i.1 (adjugate-even (det_whole g) g (accepted g i.0).even)

-- SPEC, "Operators": its numbers lie within ±200
pub inverse_within : (g h : Operator) → inverse_of g ≡ Ok h → all_within (pos 200) h ≡ true
inverse_within g h e =
    let i = inverse_is g h e in
    let p = accepted g i.0 in
    subst (λ h. all_within (pos 200) h ≡ true) i.1 (small-within 200 _ (times-small 200 (det_whole g) (adjugate g) p.unit (adjugate-small 100 g p.small)))
