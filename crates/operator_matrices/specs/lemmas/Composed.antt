-- G after H: its image is the image of an image, it is even, and its matrix is the product of the matrices.
use Rattle.std.specs.Prelude.{◌≡◌, refl, true, [], ◌∷◌, ℤ, ◌+ℤ◌, ◌-ℤ◌, ◌*ℤ◌}
use Rattle.std.proofs.Common.{sym, ◌∙◌, ap, ap₂}
use Rattle.integers.specs.lemmas.RingZ.{by_ring, polyZ}
use Rattle.ring.specs.declared.Point.{Point}
use Rattle.ring.specs.Point.{ext}
use Rattle.operator.specs.declared.Operator.{Operator}
use Rattle.operator.specs.Operator.{even_parity, image_of}
use Rattle.operator_matrices.specs.declared.Entry.{Entry}
use Rattle.operator_matrices.specs.Matrix.{matrix_of, product_of, pairs}
use Rattle.operator_matrices.specs.Matrix as E
use Rattle.operator.specs.Inverse.{one, im, sending, composed_of}
use Rattle.operator.specs.lemmas.Even.{Free, free, point, grid, by_grid, whole, image-whole, image-grid, even-halves}
use Rattle.operator.specs.lemmas.Halves.{half-by}

-- the eight numbers of G after H, and the halves of its parity sums
abbrev after : Free → Free → Operator
after n m = sending (whole n.s n.t (grid n) (one (grid m))) (whole n.s n.t (grid n) (im (grid m)))

abbrev s-after : Free → Free → ℤ
s-after n m = (n.a +ℤ n.c) *ℤ (m.t -ℤ m.b -ℤ m.bi) +ℤ n.s *ℤ (m.b +ℤ m.bi) +ℤ n.bi *ℤ m.s +ℤ n.b *ℤ (m.s -ℤ m.a -ℤ m.ai)

abbrev t-after : Free → Free → ℤ
t-after n m = (n.b +ℤ n.d) *ℤ (m.t -ℤ m.b -ℤ m.bi) +ℤ n.t *ℤ (m.b +ℤ m.bi) +ℤ (grid n).ci *ℤ m.s +ℤ n.c *ℤ (m.s -ℤ m.a -ℤ m.ai)

after_is : (n m : Free) → composed_of (grid n) (grid m) ≡ after n m
unfolding composed_of
after_is n m = ap₂ sending (image-grid n (one (grid m))) (image-grid n (im (grid m)))

s-is : (n m : Free) → let k = after n m in s-after n m +ℤ s-after n m ≡ k.ci +ℤ k.ai +ℤ k.c +ℤ k.a
s-is n m = by_ring (free n (free m [])) (search polyZ depth 60 fits 20000) refl

t-is : (n m : Free) → let k = after n m in t-after n m +ℤ t-after n m ≡ k.bi +ℤ k.di +ℤ k.b +ℤ k.d
t-is n m = by_ring (free n (free m [])) (search polyZ depth 60 fits 20000) refl

image-after : (n m : Free) (v : Point) → whole (s-after n m) (t-after n m) (after n m) v ≡ whole n.s n.t (grid n) (whole m.s m.t (grid m) v)
image-after n m v =
    let ρ = free n (free m (point v [])) in
    ext (by_ring ρ (search polyZ depth 60 fits 50000) refl) (by_ring ρ (search polyZ depth 60 fits 50000) refl) (by_ring ρ (search polyZ depth 60 fits 50000) refl) (by_ring ρ (search polyZ depth 60 fits 50000) refl)

pub composed_image : (g : Operator) → even_parity g ≡ true → (h : Operator) → even_parity h ≡ true → (v : Point) → image_of (composed_of g h) v ≡ image_of g (image_of h v)
composed_image = by_grid _ λ n. by_grid _ λ m v.
    ap (λ k. image_of k v) (after_is n m) ∙ image-whole (s-after n m) (t-after n m) (after n m) (s-is n m) (t-is n m) v ∙ image-after n m v
    ∙ sym (ap (image_of (grid n)) (image-grid m v) ∙ image-grid n _)

pub composed_even : (g : Operator) → even_parity g ≡ true → (h : Operator) → even_parity h ≡ true → even_parity (composed_of g h) ≡ true
composed_even = by_grid _ λ n. by_grid _ λ m. ap even_parity (after_is n m) ∙ even-halves (s-after n m) (t-after n m) (after n m) (s-is n m) (t-is n m)

-- ---- the matrix: each column of the product is what G makes of a column of H
upper : (n : Free) (w : Point) → let g = grid n in let k = whole n.s n.t g w in ◌≡◌ {A = Entry} (record { p = k.d; q = k.c -ℤ k.a }) (pairs (record { p = g.d; q = g.c -ℤ g.a }) (record { p = w.d; q = w.c -ℤ w.a }) (record { p = g.di; q = g.ci -ℤ g.ai }) (record { p = w.b; q = w.c +ℤ w.a }))
upper n w =
    let ρ = free n (point w []) in
    let g = grid n in
    let h = (n.s -ℤ n.a -ℤ n.ai) *ℤ (w.c +ℤ w.a) -ℤ (n.c -ℤ n.a) *ℤ w.a in
    let e : h +ℤ h ≡ (g.c -ℤ g.a) *ℤ (w.c -ℤ w.a) +ℤ (g.ci -ℤ g.ai) *ℤ (w.c +ℤ w.a) = by_ring ρ (search polyZ depth 60 fits 5000) refl in
    rw (half-by h e) (E.ext (by_ring ρ (search polyZ depth 60 fits 5000) refl) (by_ring ρ (search polyZ depth 60 fits 5000) refl))

lower : (n : Free) (w : Point) → let g = grid n in let k = whole n.s n.t g w in ◌≡◌ {A = Entry} (record { p = k.b; q = k.c +ℤ k.a }) (pairs (record { p = g.b; q = g.c +ℤ g.a }) (record { p = w.d; q = w.c -ℤ w.a }) (record { p = g.bi; q = g.ci +ℤ g.ai }) (record { p = w.b; q = w.c +ℤ w.a }))
lower n w =
    let ρ = free n (point w []) in
    let g = grid n in
    let h = n.s *ℤ (w.c +ℤ w.a) -ℤ (n.c +ℤ n.a) *ℤ w.a in
    let e : h +ℤ h ≡ (g.c +ℤ g.a) *ℤ (w.c -ℤ w.a) +ℤ (g.ci +ℤ g.ai) *ℤ (w.c +ℤ w.a) = by_ring ρ (search polyZ depth 60 fits 5000) refl in
    rw (half-by h e) (E.ext (by_ring ρ (search polyZ depth 60 fits 5000) refl) (by_ring ρ (search polyZ depth 60 fits 5000) refl))

pub composed_matrix : (g : Operator) → even_parity g ≡ true → (h : Operator) → matrix_of (composed_of g h) ≡ product_of (matrix_of g) (matrix_of h)
unfolding matrix_of product_of composed_of
composed_matrix = by_grid _ λ n h.
    ap₂ (λ v w. matrix_of (sending v w)) (image-grid n (one h)) (image-grid n (im h))
    ∙ (λ i. (upper n (one h) i ∷ upper n (im h) i ∷ []) ∷ (lower n (one h) i ∷ lower n (im h) i ∷ []) ∷ [])
