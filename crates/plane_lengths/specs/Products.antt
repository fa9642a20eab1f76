-- Products of whole numbers of the plane, and their sizes.
use Rattle.std.specs.Prelude.{◌≡◌, refl, Bool, true, false, ℕ, ◌*◌, ◌≤◌, leb, ℤ, pos, negsuc, nat_abs, ◌+ℤ◌, ◌-ℤ◌, ◌*ℤ◌}
use Rattle.std.proofs.Common.{sym, ◌∙◌, ap, ap₂, arith, le-leb, ltb-true, ltb-false}
use Rattle.std.proofs.lemmas.Bool.{false≢true, lt-leb}
use Rattle.std.specs.Int.Signed.{le_z, lt_z}
use Rattle.integers.specs.Difference.{◌≼◌}
use Rattle.integers.specs.lemmas.Size.{size-+, size--, size-*≤}
use Rattle.plane_lengths.specs.Least.{le_z_true}

-- |u v a| where |u|, |v| ≤ 2¹⁵ and |a| ≤ m
pub term_size : (u v a : ℤ) (m : ℕ) → nat_abs u ≤ 32768 → nat_abs v ≤ 32768 → nat_abs a ≤ m → nat_abs (u *ℤ v *ℤ a) ≤ 1073741824 * m
term_size u v a m hu hv ha = size-*≤ (u *ℤ v) a (32768 * 32768) m (size-*≤ u v 32768 32768 hu hv) ha

-- u²r − 2uvq + v²p
abbrev pub adjugate : ℤ → ℤ → ℤ → ℤ → ℤ → ℤ
adjugate p q r u v = u *ℤ u *ℤ r -ℤ pos 2 *ℤ (u *ℤ v *ℤ q) +ℤ v *ℤ v *ℤ p

pub adjugate-size : (p q r u v : ℤ) (m : ℕ) → nat_abs p ≤ m → nat_abs q ≤ m → nat_abs r ≤ m → nat_abs u ≤ 32768 → nat_abs v ≤ 32768 → nat_abs (adjugate p q r u v) ≤ 4294967296 * m
adjugate-size p q r u v m hp hq hr hu hv =
    let a = u *ℤ u *ℤ r in
    let b = pos 2 *ℤ (u *ℤ v *ℤ q) in
    omega (arith, term_size u u r m hu hu hr, size-*≤ (pos 2) (u *ℤ v *ℤ q) 2 (1073741824 * m) (omega arith) (term_size u v q m hu hv hq), term_size v v p m hv hv hp, size-- a b, size-+ (a -ℤ b) (v *ℤ v *ℤ p))

pub square : (a : ℤ) → a *ℤ a ≡ pos (nat_abs a * nat_abs a)
square (pos n) = refl
square (negsuc n) = refl

-- w is at least n times the length of (x, y), and positive
unfoldable pub touches : ℤ → ℤ → ℤ → ℤ → Bool
touches n x y w = elim (le_z (pos 1) w) [ true ↦ le_z (n *ℤ n *ℤ (x *ℤ x +ℤ y *ℤ y)) (w *ℤ w) | false ↦ false ]

pub touches-true : (n x y w : ℤ) → touches n x y w ≡ true → (pos 1 ≼ w) × (n *ℤ n *ℤ (x *ℤ x +ℤ y *ℤ y) ≼ w *ℤ w)
unfolding touches
touches-true n x y w = go (le_z (pos 1) w) refl
  where
    go : (b : Bool) → le_z (pos 1) w ≡ b → elim b [ true ↦ le_z (n *ℤ n *ℤ (x *ℤ x +ℤ y *ℤ y)) (w *ℤ w) | false ↦ false ] ≡ true → (pos 1 ≼ w) × (n *ℤ n *ℤ (x *ℤ x +ℤ y *ℤ y) ≼ w *ℤ w)
    go true e f = (le_z_true _ _ e, le_z_true _ _ f)
    go false e f = absurd (false≢true f)

-- as the code finds it
pub one-above : (w : ℤ) → lt_z w (pos 1) ≡ false → le_z (pos 1) w ≡ true
one-above (pos n) e = let h : 1 ≤ n = ltb-false n 1 e in le-leb 1 n h
one-above (negsuc n) e = absurd (false≢true (sym e))

pub one_below : (w : ℤ) → lt_z w (pos 1) ≡ true → le_z (pos 1) w ≡ false
one_below (pos n) e = lt-leb 1 n (ltb-true n 1 e)
one_below (negsuc n) e = refl

pub touches-is : (n f h : ℕ) (x y w : ℤ) → le_z (pos 1) w ≡ true → f ≡ nat_abs (x *ℤ x +ℤ y *ℤ y) → h ≡ nat_abs w → leb (n * n * f) (h * h) ≡ touches (pos n) x y w
unfolding touches
touches-is n f h x y w one ef eh =
    let z : x *ℤ x +ℤ y *ℤ y ≡ pos f = ap₂ ◌+ℤ◌ (square x) (square y) ∙ ap pos (sym (ef ∙ ap nat_abs (ap₂ ◌+ℤ◌ (square x) (square y)))) in
    let s : w *ℤ w ≡ pos (h * h) = square w ∙ ap (λ k. pos (k * k)) (sym eh) in
    sym (ap (λ b. elim b [ true ↦ le_z (pos n *ℤ pos n *ℤ (x *ℤ x +ℤ y *ℤ y)) (w *ℤ w) | false ↦ false ]) one ∙ ap₂ (λ a b. le_z (pos n *ℤ pos n *ℤ a) b) z s)

pub touches-not : (n x y w : ℤ) → le_z (pos 1) w ≡ false → touches n x y w ≡ false
unfolding touches
touches-not n x y w e = ap (λ b. elim b [ true ↦ le_z (n *ℤ n *ℤ (x *ℤ x +ℤ y *ℤ y)) (w *ℤ w) | false ↦ false ]) e
