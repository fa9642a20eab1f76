-- Entries of a size at which a product of two matrices stays within 64 bits: those of every operator.
use Rattle.std.specs.Prelude.{◌≡◌, ℕ, zero, suc, ◌^◌, ◌≤◌, ◌<◌, ℤ, neg_ℤ, nat_abs, ◌+ℤ◌, ◌-ℤ◌, ◌*ℤ◌}
use Rattle.std.proofs.Common.{arith, SFits}
use Rattle.std.specs.Int.{w16, w64}
use Rattle.integers.specs.Parity.{half}
use Rattle.integers.specs.lemmas.Size.{size-neg, size-+, size--, fits→size, size-*≤, size→fits}
use Rattle.operator.specs.declared.Operator.{Operator}
use Rattle.operator_matrices.specs.declared.Entry.{Entry}
use Rattle.operator_matrices.specs.Matrix.{Matrix, at, pairs, matrix_of}
use Rattle.operator.specs.lemmas.Halves.{size-half}
use Rattle.operator.specs.Bounded.{Bounded, Fits16}

pub record BoundedEntry (e : Entry) : Type 0 where
  pub p : Bounded 30 e.p
  pub q : Bounded 30 e.q

abbrev pub BoundedMatrix : Matrix → Type 0
BoundedMatrix m = (i j : ℕ) → i < 2 → j < 2 → BoundedEntry (at m i j)

pub neg_bounded : (x y : Entry) → y ≡ record { p = neg_ℤ x.p; q = neg_ℤ x.q } → BoundedEntry x → BoundedEntry y
neg_bounded x y e h = rw e (record { p = rw (size-neg x.p) h.p; q = rw (size-neg x.q) h.q })

pub dot_size : (x y u w : ℤ) → Bounded 30 x → Bounded 30 y → Bounded 30 u → Bounded 30 w → nat_abs (x *ℤ y +ℤ u *ℤ w) ≤ 2 ^ 61
dot_size x y u w hx hy hu hw = omega (arith, size-+ (x *ℤ y) (u *ℤ w), size-*≤ x y (2 ^ 30) (2 ^ 30) hx hy, size-*≤ u w (2 ^ 30) (2 ^ 30) hu hw)

-- the parts of x y + u w, and the half on the way
pub pairs-fit : (x y u w : Entry) → BoundedEntry x → BoundedEntry y → BoundedEntry u → BoundedEntry w →
    SFits w64 (half (x.q *ℤ y.q +ℤ u.q *ℤ w.q)) × SFits w64 (pairs x y u w).p × SFits w64 (pairs x y u w).q
pairs-fit x y u w hx hy hu hw =
    let pp = dot_size x.p y.p u.p w.p hx.p hy.p hu.p hw.p in
    let qq = dot_size x.q y.q u.q w.q hx.q hy.q hu.q hw.q in
    let pq = dot_size x.p y.q x.q y.p hx.p hy.q hx.q hy.p in
    let qp = dot_size u.p w.q u.q w.p hu.p hw.q hu.q hw.p in
    let h = size-half (x.q *ℤ y.q +ℤ u.q *ℤ w.q) in
    (size→fits (omega arith), size→fits (omega (arith, size-+ (x.p *ℤ y.p +ℤ u.p *ℤ w.p) (half (x.q *ℤ y.q +ℤ u.q *ℤ w.q)))), size→fits (omega (arith, size-+ (x.p *ℤ y.q +ℤ x.q *ℤ y.p) (u.p *ℤ w.q +ℤ u.q *ℤ w.p))))

pub matrix-bounded : (g : Operator) → Fits16 g → BoundedMatrix (matrix_of g)
unfolding matrix_of
matrix-bounded g f = go
  where
    minus : (p x y : ℤ) → SFits w16 p → SFits w16 x → SFits w16 y → BoundedEntry (record { p = p; q = x -ℤ y })
    minus p x y hp hx hy = record { p = omega (arith, fits→size hp); q = omega (arith, size-- x y, fits→size hx, fits→size hy) }

    plus : (p x y : ℤ) → SFits w16 p → SFits w16 x → SFits w16 y → BoundedEntry (record { p = p; q = x +ℤ y })
    plus p x y hp hx hy = record { p = omega (arith, fits→size hp); q = omega (arith, size-+ x y, fits→size hx, fits→size hy) }

    go : (i j : ℕ) → i < 2 → j < 2 → BoundedEntry (at (matrix_of g) i j)
    go zero zero h k = minus g.d g.c g.a f.d f.c f.a
    go zero (suc zero) h k = minus g.di g.ci g.ai f.di f.ci f.ai
    go (suc zero) zero h k = plus g.b g.c g.a f.b f.c f.a
    go (suc zero) (suc zero) h k = plus g.bi g.ci g.ai f.bi f.ci f.ai
    go zero (suc (suc j)) h k = absurd (omega arith)
    go (suc zero) (suc (suc j)) h k = absurd (omega arith)
    go (suc (suc i)) j h k = absurd (omega arith)
