-- The determinant of an operator's matrix is the test's: the Note, after Lemma 3.8.
use Rattle.std.specs.Prelude.{◌≡◌, refl, List, [], ◌∷◌, ℤ, neg_ℤ, ◌+ℤ◌, ◌-ℤ◌, ◌*ℤ◌}
use Rattle.std.proofs.Common.{◌∙◌, ap, ap₂}
use Rattle.integers.specs.Parity.{half}
use Rattle.integers.specs.lemmas.RingZ.{by_ring, polyZ}
use Rattle.operator.specs.declared.Operator.{Operator}
use Rattle.operator_matrices.specs.declared.Entry.{Entry}
use Rattle.operator.specs.Operator.{det_whole, det_root}
use Rattle.operator_matrices.specs.Matrix.{matrix_of, pairs, crossed, determinant_of, ext}
use Rattle.operator.specs.lemmas.Halves.{half-by}

pub determinant_is : (g : Operator) → determinant_of (matrix_of g) ≡ record { p = det_whole g; q = det_root g }
unfolding determinant_of matrix_of det_whole det_root
determinant_is g = ext (ap (λ x. g.d *ℤ g.bi -ℤ g.di *ℤ g.b +ℤ x) (half-by h e) ∙ by_ring ρ (search polyZ depth 60) refl) (by_ring ρ (search polyZ depth 60) refl)
  where
    ρ : List ℤ
    ρ = g.a ∷ g.b ∷ g.c ∷ g.d ∷ g.ai ∷ g.bi ∷ g.ci ∷ g.di ∷ []

    h : ℤ
    h = g.c *ℤ g.ai -ℤ g.a *ℤ g.ci

    e : h +ℤ h ≡ (g.c -ℤ g.a) *ℤ (g.ci +ℤ g.ai) -ℤ (g.ci -ℤ g.ai) *ℤ (g.c +ℤ g.a)
    e = by_ring ρ (search polyZ depth 60) refl

-- x y + (−u) w = x y − u w
pub pairs-neg : (x y u w : Entry) → pairs x y (record { p = neg_ℤ u.p; q = neg_ℤ u.q }) w ≡ crossed x y u w
pairs-neg x y u w =
    let ρ = x.p ∷ x.q ∷ y.p ∷ y.q ∷ u.p ∷ u.q ∷ w.p ∷ w.q ∷ [] in
    ext
    (ap₂ (λ s t. x.p *ℤ y.p +ℤ s +ℤ half (x.q *ℤ y.q +ℤ t)) (neg-* u.p w.p) (neg-* u.q w.q))
    (by_ring ρ (search polyZ depth 60) refl)
  where
    neg-* : (a b : ℤ) → neg_ℤ a *ℤ b ≡ neg_ℤ (a *ℤ b)
    neg-* a b = by_ring (a ∷ b ∷ []) (search polyZ depth 40) refl
