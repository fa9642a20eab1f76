-- Matrices with numbers up to 2^30 in size: those of every operator are such, and so their product and determinant are exact.
use Rattle.std.specs.Prelude.{◌≡◌, refl, true, ◌&&◌, [], ◌∷◌, zero, suc, ◌^◌, leb, nat_abs}
use Rattle.std.proofs.Common.{arith, leb-true, le-leb}
use Rattle.integers.specs.lemmas.Booleans.{both_true}
use Rattle.operator.specs.declared.Operator.{Operator}
use Rattle.operator_matrices.specs.declared.Entry.{Entry}
use Rattle.operator_matrices.specs.declared.CheckedProduct.{CheckedProduct}
use Rattle.operator_matrices.specs.Matrix.{Matrix, at, matrix_of, product_of, determinant_of, entry_within, lies_within, product_within, determinant_within}
use Rattle.operator.specs.Bounded.{Fits16}
use Rattle.operator_matrices.specs.Bounded.{BoundedEntry, BoundedMatrix, matrix-bounded}

-- an answer: whether the rows are the product, and the rows
pub record Multiplies (m n : Matrix) (r : CheckedProduct) : Type 0 where
  pub exact : r.exact ≡ lies_within m && lies_within n
  pub rows : r.first ∷ r.second ∷ [] ≡ product_within m n

entry_bounded : (e : Entry) → entry_within e ≡ true → BoundedEntry e
entry_bounded e h =
    let r = both_true (leb (nat_abs e.p) (2 ^ 30)) (leb (nat_abs e.q) (2 ^ 30)) h in
    record { p = leb-true (nat_abs e.p) (2 ^ 30) r.0; q = leb-true (nat_abs e.q) (2 ^ 30) r.1 }

entry_within_lem : (e : Entry) → BoundedEntry e → entry_within e ≡ true
entry_within_lem e h = rw (le-leb (nat_abs e.p) (2 ^ 30) h.p, le-leb (nat_abs e.q) (2 ^ 30) h.q) refl

pub within-bounded : (m : Matrix) → lies_within m ≡ true → BoundedMatrix m
unfolding lies_within
within-bounded m h =
    let r = both_true (entry_within (at m 0 0) && entry_within (at m 0 1)) (entry_within (at m 1 0) && entry_within (at m 1 1)) h in
    go (both_true (entry_within (at m 0 0)) (entry_within (at m 0 1)) r.0) (both_true (entry_within (at m 1 0)) (entry_within (at m 1 1)) r.1)
  where
    go : (entry_within (at m 0 0) ≡ true) × (entry_within (at m 0 1) ≡ true) → (entry_within (at m 1 0) ≡ true) × (entry_within (at m 1 1) ≡ true) → BoundedMatrix m
    go u l zero zero i j = entry_bounded (at m 0 0) u.0
    go u l zero (suc zero) i j = entry_bounded (at m 0 1) u.1
    go u l (suc zero) zero i j = entry_bounded (at m 1 0) l.0
    go u l (suc zero) (suc zero) i j = entry_bounded (at m 1 1) l.1
    go u l zero (suc (suc k)) i j = absurd (omega arith)
    go u l (suc zero) (suc (suc k)) i j = absurd (omega arith)
    go u l (suc (suc k)) n i j = absurd (omega arith)

bounded-within : (m : Matrix) → BoundedMatrix m → lies_within m ≡ true
unfolding lies_within
bounded-within m h =
    rw (entry_within_lem (at m 0 0) (h 0 0 (omega arith) (omega arith)), entry_within_lem (at m 0 1) (h 0 1 (omega arith) (omega arith)), entry_within_lem (at m 1 0) (h 1 0 (omega arith) (omega arith)), entry_within_lem (at m 1 1) (h 1 1 (omega arith) (omega arith))) refl

-- an operator's eight numbers are of 16 bits
pub product-exact : (g h : Operator) → Fits16 g → Fits16 h → product_within (matrix_of g) (matrix_of h) ≡ product_of (matrix_of g) (matrix_of h)
unfolding product_within
product-exact g h f k = rw (bounded-within (matrix_of g) (matrix-bounded g f), bounded-within (matrix_of h) (matrix-bounded h k)) refl

pub determinant_exact : (g : Operator) → Fits16 g → determinant_within (matrix_of g) ≡ determinant_of (matrix_of g)
unfolding determinant_within
determinant_exact g f = rw (bounded-within (matrix_of g) (matrix-bounded g f)) refl
