-- An even operator has whole halves: with s and t the halves of its two parity sums it is eight free numbers, of which its image is a
-- polynomial. So a law of even operators is an identity.
use Rattle.std.specs.Prelude.{◌≡◌, refl, true, List, [], ◌∷◌, ℤ, ◌+ℤ◌, ◌-ℤ◌, ◌*ℤ◌}
use Rattle.std.proofs.Common.{◌∙◌, subst, arith}
use Rattle.integers.specs.lemmas.Booleans.{both_true}
use Rattle.integers.specs.Difference.{by⊖, zz}
use Rattle.integers.specs.Parity.{even, half, double_half, even-by}
use Rattle.integers.specs.lemmas.RingZ.{by_ring, polyZ}
use Rattle.ring.specs.declared.Point.{Point}
use Rattle.operator.specs.declared.Operator.{Operator}
use Rattle.operator.specs.Operator.{even_parity, image_of, ext}
use Rattle.operator.specs.lemmas.Halves.{halves}

pub record Free : Type 0 where
  pub a : ℤ
  pub b : ℤ
  pub c : ℤ
  pub d : ℤ
  pub ai : ℤ
  pub bi : ℤ
  pub s : ℤ
  pub t : ℤ

abbrev pub free : Free → List ℤ → List ℤ
free n l = n.a ∷ n.b ∷ n.c ∷ n.d ∷ n.ai ∷ n.bi ∷ n.s ∷ n.t ∷ l

abbrev pub point : Point → List ℤ → List ℤ
point v l = v.a ∷ v.b ∷ v.c ∷ v.d ∷ l

-- a + c + a' + c' = 2s and b + d + b' + d' = 2t
abbrev pub grid : Free → Operator
grid n = record {
  a = n.a;
  b = n.b;
  c = n.c;
  d = n.d;
  ai = n.ai;
  bi = n.bi;
  ci = n.s +ℤ n.s -ℤ (n.a +ℤ n.c +ℤ n.ai);
  di = n.t +ℤ n.t -ℤ (n.b +ℤ n.d +ℤ n.bi);
}

pub by_grid {ℓ} : (P : Operator → Type ℓ) → ((n : Free) → P (grid n)) → (g : Operator) → even_parity g ≡ true → P g
unfolding even_parity
by_grid P f g h =
    subst P (ext refl refl refl refl refl refl (last g.a g.c g.ai g.ci s (double_half _ e.0)) (last g.b g.d g.bi g.di t (double_half _ e.1)))
    (f (record { a = g.a; b = g.b; c = g.c; d = g.d; ai = g.ai; bi = g.bi; s = s; t = t }))
  where
    e : (even (g.a +ℤ g.c +ℤ g.ai +ℤ g.ci) ≡ true) × (even (g.b +ℤ g.d +ℤ g.bi +ℤ g.di) ≡ true)
    e = both_true _ _ h

    s : ℤ
    s = half (g.a +ℤ g.c +ℤ g.ai +ℤ g.ci)

    t : ℤ
    t = half (g.b +ℤ g.d +ℤ g.bi +ℤ g.di)

    last : (x y z w h : ℤ) → h +ℤ h ≡ x +ℤ y +ℤ z +ℤ w → h +ℤ h -ℤ (x +ℤ y +ℤ z) ≡ w
    last = by⊖ _ λ x x'. by⊖ _ λ y y'. by⊖ _ λ z z'. by⊖ _ λ w w'. by⊖ _ λ h h'. simp zz (omega arith)

-- equations 45 to 48, with the halves s of c' + a' + c + a and t of b' + d' + b + d
abbrev pub whole : ℤ → ℤ → Operator → Point → Point
whole s t g v = record {
  a = g.a *ℤ v.d +ℤ g.ai *ℤ v.b +ℤ (t -ℤ g.di -ℤ g.d) *ℤ v.c +ℤ (t -ℤ g.di -ℤ g.b) *ℤ v.a;
  b = g.b *ℤ v.d +ℤ g.bi *ℤ v.b +ℤ s *ℤ v.c +ℤ (s -ℤ g.c -ℤ g.a) *ℤ v.a;
  c = g.c *ℤ v.d +ℤ g.ci *ℤ v.b +ℤ t *ℤ v.c +ℤ (t -ℤ g.b -ℤ g.d) *ℤ v.a;
  d = g.d *ℤ v.d +ℤ g.di *ℤ v.b +ℤ (s -ℤ g.ai -ℤ g.a) *ℤ v.c +ℤ (s -ℤ g.ai -ℤ g.c) *ℤ v.a;
}

pub image-whole : (s t : ℤ) (g : Operator) → s +ℤ s ≡ g.ci +ℤ g.ai +ℤ g.c +ℤ g.a → t +ℤ t ≡ g.bi +ℤ g.di +ℤ g.b +ℤ g.d → (v : Point) → image_of g v ≡ whole s t g v
unfolding image_of
image-whole s t g h k v =
    let e = halves g.ci g.ai g.c g.a s h in
    let f = halves g.bi g.di g.b g.d t k in
    rw (e.0, e.1, e.2, e.3, f.0, f.1, f.2, f.3) refl

pub image-grid : (n : Free) (v : Point) → image_of (grid n) v ≡ whole n.s n.t (grid n) v
image-grid n = image-whole n.s n.t (grid n) (by_ring (free n []) (search polyZ depth 60) refl) (by_ring (free n []) (search polyZ depth 60) refl)

pub even-halves : (s t : ℤ) (g : Operator) → s +ℤ s ≡ g.ci +ℤ g.ai +ℤ g.c +ℤ g.a → t +ℤ t ≡ g.bi +ℤ g.di +ℤ g.b +ℤ g.d → even_parity g ≡ true
unfolding even_parity
even-halves s t g h k = rw (even-by _ s (h ∙ turned g.ci g.ai g.c g.a), even-by _ t (k ∙ swapped g.bi g.di g.b g.d)) refl
  where
    turned : (x y z w : ℤ) → x +ℤ y +ℤ z +ℤ w ≡ w +ℤ z +ℤ y +ℤ x
    turned x y z w = by_ring (x ∷ y ∷ z ∷ w ∷ []) (search polyZ depth 60) refl

    swapped : (x y z w : ℤ) → x +ℤ y +ℤ z +ℤ w ≡ z +ℤ w +ℤ x +ℤ y
    swapped x y z w = by_ring (x ∷ y ∷ z ∷ w ∷ []) (search polyZ depth 60) refl

pub grid-even : (n : Free) → even_parity (grid n) ≡ true
grid-even n = even-halves n.s n.t (grid n) (by_ring (free n []) (search polyZ depth 60) refl) (by_ring (free n []) (search polyZ depth 60) refl)
