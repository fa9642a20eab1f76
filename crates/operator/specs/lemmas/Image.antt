-- What Gv is: G(1) at 1, G(i) at i, a sum at a sum, twice the formula without halves, and the matrix times the plane's coordinates.
use Rattle.std.specs.Prelude.{◌≡◌, refl, true, List, [], ◌∷◌, ℤ, pos, ◌+ℤ◌, ◌-ℤ◌, ◌*ℤ◌}
use Rattle.std.proofs.Common.{sym, ◌∙◌, ap}
use Rattle.integers.specs.Parity.{half}
use Rattle.integers.specs.lemmas.RingZ.{by_ring, polyZ}
use Rattle.ring.specs.declared.Point.{Point}
use Rattle.ring.specs.RootTwo.{◌⊞◌, ◌⊠◌, √2}
use Rattle.ring.specs.RootTwo as R
use Rattle.ring.specs.Point.{◌+ω◌, √2x, √2y, ext, sum-parts, √2x_parts, √2y_parts}
use Rattle.operator.specs.declared.Operator.{Operator}
use Rattle.operator.specs.Operator.{even_parity, image_of}
use Rattle.operator.specs.Inverse.{one, im}
use Rattle.operator.specs.lemmas.Even.{free, point, by_grid, image-grid}

-- the numbers of G that equations 45 to 48 multiply by
abbrev numbers : Operator → List ℤ → List ℤ
numbers g l =
    g.a ∷ g.b ∷ g.c ∷ g.d ∷ g.ai ∷ g.bi ∷ g.ci ∷ g.di
    ∷ half (g.bi -ℤ g.di +ℤ g.b -ℤ g.d) ∷ half (g.bi -ℤ g.di -ℤ g.b +ℤ g.d)
    ∷ half (g.ci +ℤ g.ai +ℤ g.c +ℤ g.a) ∷ half (g.ci +ℤ g.ai -ℤ g.c -ℤ g.a)
    ∷ half (g.bi +ℤ g.di +ℤ g.b +ℤ g.d) ∷ half (g.bi +ℤ g.di -ℤ g.b -ℤ g.d)
    ∷ half (g.ci -ℤ g.ai +ℤ g.c -ℤ g.a) ∷ half (g.ci -ℤ g.ai -ℤ g.c +ℤ g.a)
    ∷ l

pub image-one : (g : Operator) → image_of g (record { a = pos 0; b = pos 0; c = pos 0; d = pos 1 }) ≡ one g
unfolding image_of
image-one g =
    let ρ = numbers g [] in
    ext (by_ring ρ (search polyZ depth 60) refl) (by_ring ρ (search polyZ depth 60) refl) (by_ring ρ (search polyZ depth 60) refl) (by_ring ρ (search polyZ depth 60) refl)

pub image-i : (g : Operator) → image_of g (record { a = pos 0; b = pos 1; c = pos 0; d = pos 0 }) ≡ im g
unfolding image_of
image-i g =
    let ρ = numbers g [] in
    ext (by_ring ρ (search polyZ depth 60) refl) (by_ring ρ (search polyZ depth 60) refl) (by_ring ρ (search polyZ depth 60) refl) (by_ring ρ (search polyZ depth 60) refl)

pub image-sum : (g : Operator) (v w : Point) → image_of g (v +ω w) ≡ image_of g v +ω image_of g w
unfolding image_of
image-sum g v w =
    let ρ = numbers g (point v (point w [])) in
    ap (image_of g) (sum-parts v w) ∙ ext (by_ring ρ (search polyZ depth 60) refl) (by_ring ρ (search polyZ depth 60) refl) (by_ring ρ (search polyZ depth 60) refl) (by_ring ρ (search polyZ depth 60) refl) ∙ sym (sum-parts _ _)

-- ---- of an even operator the halves are exact: equations 45 to 48, each times 2
abbrev pub twice : Operator → Point → Point
twice g v = record {
  a = pos 2 *ℤ (g.a *ℤ v.d +ℤ g.ai *ℤ v.b) +ℤ (g.bi -ℤ g.di +ℤ g.b -ℤ g.d) *ℤ v.c +ℤ (g.bi -ℤ g.di -ℤ g.b +ℤ g.d) *ℤ v.a;
  b = pos 2 *ℤ (g.b *ℤ v.d +ℤ g.bi *ℤ v.b) +ℤ (g.ci +ℤ g.ai +ℤ g.c +ℤ g.a) *ℤ v.c +ℤ (g.ci +ℤ g.ai -ℤ g.c -ℤ g.a) *ℤ v.a;
  c = pos 2 *ℤ (g.c *ℤ v.d +ℤ g.ci *ℤ v.b) +ℤ (g.bi +ℤ g.di +ℤ g.b +ℤ g.d) *ℤ v.c +ℤ (g.bi +ℤ g.di -ℤ g.b -ℤ g.d) *ℤ v.a;
  d = pos 2 *ℤ (g.d *ℤ v.d +ℤ g.di *ℤ v.b) +ℤ (g.ci -ℤ g.ai +ℤ g.c -ℤ g.a) *ℤ v.c +ℤ (g.ci -ℤ g.ai -ℤ g.c +ℤ g.a) *ℤ v.a;
}

pub image-twice : (g : Operator) → even_parity g ≡ true → (v : Point) → image_of g v +ω image_of g v ≡ twice g v
image-twice = by_grid _ λ n v.
    let ρ = free n (point v []) in
    rw (image-grid n v, sum-parts) (ext (by_ring ρ (search polyZ depth 60 fits 5000) refl) (by_ring ρ (search polyZ depth 60 fits 5000) refl) (by_ring ρ (search polyZ depth 60 fits 5000) refl) (by_ring ρ (search polyZ depth 60 fits 5000) refl))

-- √2 times the coordinates of G(1) and G(i) are the matrix: √2·√2x(Gv) = √2x(G(1))·√2x(v) + √2x(G(i))·√2y(v), and so for y
pub image-matrix-x : (g : Operator) → even_parity g ≡ true → (v : Point) → √2 ⊠ √2x (image_of g v) ≡ √2x (one g) ⊠ √2x v ⊞ √2x (im g) ⊠ √2y v
image-matrix-x = by_grid _ λ n v. rw (image-grid n v) (simp (R.parts, √2x_parts, √2y_parts) (R.ext (by_ring (free n (point v [])) (search polyZ depth 60 fits 5000) refl) (by_ring (free n (point v [])) (search polyZ depth 60 fits 5000) refl)))

pub image-matrix-y : (g : Operator) → even_parity g ≡ true → (v : Point) → √2 ⊠ √2y (image_of g v) ≡ √2y (one g) ⊠ √2x v ⊞ √2y (im g) ⊠ √2y v
image-matrix-y = by_grid _ λ n v. rw (image-grid n v) (simp (R.parts, √2x_parts, √2y_parts) (R.ext (by_ring (free n (point v [])) (search polyZ depth 60 fits 5000) refl) (by_ring (free n (point v [])) (search polyZ depth 60 fits 5000) refl)))
