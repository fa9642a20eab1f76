-- The half width of an ellipse, as the code finds it: S·(u²R − 2uvQ + v²P) is a small natural number, and the least m is the ceiling of a root.
use Rattle.std.specs.Prelude.{◌≡◌, refl, Bool, [], ◌∷◌, ℕ, ◌*◌, ◌^◌, ◌≤◌, ℤ, pos, negsuc, neg_ℤ, nat_abs, ◌+ℤ◌, ◌-ℤ◌, ◌*ℤ◌}
use Rattle.std.proofs.Common.{sym, ◌∙◌, ap, ap₂, inl, inr, arith, leb→le, le→leb}
use Rattle.std.proofs.Math.Path.{fun_ext}
use Rattle.std.specs.Int.Signed.{le_z, yes_non_neg, pos-nat_abs}
use Rattle.integers.specs.Difference.{by⊖, zz, ◌≼◌, ◌≺◌}
use Rattle.integers.specs.lemmas.RingZ.{polyZ, by_ring}
use Rattle.integers.specs.lemmas.Order.{≼_trans, total, nn-+, nn-*, nn_sq}
use Rattle.region.specs.declared.Ellipse.{Ellipse}
use Rattle.region.specs.Region.{discriminant}
use Rattle.plane_lengths.specs.Least.{least, least-≤, ceil_sqrt, ceil_div, ceil_div-≤}
use Rattle.plane_lengths.specs.Products.{adjugate-size}
use Rattle.region.specs.Reach.{width2, half_width}

pub positive-nn : (z : ℤ) → pos 1 ≼ z → pos 0 ≼ z
positive-nn z h = ≼_trans (pos 0) (pos 1) z (record { le = tt }) h

-- P F = (P v − Q u)² + (PR − Q²) u², so F is not negative where P and PR − Q² are positive
complete_square : (p q r u v : ℤ) → p *ℤ (u *ℤ u *ℤ r -ℤ pos 2 *ℤ (u *ℤ v *ℤ q) +ℤ v *ℤ v *ℤ p) ≡ (p *ℤ v -ℤ q *ℤ u) *ℤ (p *ℤ v -ℤ q *ℤ u) +ℤ (p *ℤ r -ℤ q *ℤ q) *ℤ (u *ℤ u)
complete_square p q r u v = by_ring (p ∷ q ∷ r ∷ u ∷ v ∷ []) (search polyZ depth 30) refl

-- p ≥ 1 and p f ≥ 0: f ≥ 0
nn_cancel : (p f : ℤ) → pos 1 ≼ p → pos 0 ≼ p *ℤ f → pos 0 ≼ f
nn_cancel p f h k = elim (total (pos 0) f) [ inl l ↦ l | inr l ↦ absurd (clash p f h k l (nn-* p (neg_ℤ f -ℤ pos 1) (positive-nn p h) (below f l))) ]
  where
    below : (f : ℤ) → f ≺ pos 0 → pos 0 ≼ neg_ℤ f -ℤ pos 1
    below = by⊖ _ λ f f'. simp zz (omega arith)

    clash : (p f : ℤ) → pos 1 ≼ p → pos 0 ≼ p *ℤ f → f ≺ pos 0 → pos 0 ≼ p *ℤ (neg_ℤ f -ℤ pos 1) → ⊥
    clash = by⊖ _ λ p p'. by⊖ _ λ f f'. simp zz (omega arith)

pub width2-nn : (e : Ellipse) (u v : ℤ) → 1 ≤ e.p → pos 1 ≼ discriminant e → pos 0 ≼ width2 e u v
width2-nn e u v h k =
    nn_cancel (pos e.p) (width2 e u v) (record { le = le→leb 1 e.p h })
    (rw (complete_square (pos e.p) e.q (pos e.r) u v) (nn-+ _ _ (nn_sq (pos e.p *ℤ v -ℤ e.q *ℤ u)) (nn-* (discriminant e) (u *ℤ u) (positive-nn (discriminant e) k) (nn_sq u))))

pub width2-size : (e : Ellipse) (u v : ℤ) (m : ℕ) → e.p ≤ m → nat_abs e.q ≤ m → e.r ≤ m → nat_abs u ≤ 32768 → nat_abs v ≤ 32768 → nat_abs (width2 e u v) ≤ 4294967296 * m
width2-size e u v m = adjugate-size (pos e.p) e.q (pos e.r) u v m

pub one_size : (z : ℤ) → pos 1 ≼ z → 1 ≤ nat_abs z
one_size (pos n) h = leb→le 1 n h.le
one_size (negsuc n) h = omega arith

-- m² d ≥ s f: m² ≥ s f/d, rounded up
pub half-width_is : (e : Ellipse) (u v : ℤ) → pos 0 ≼ width2 e u v → pos 1 ≼ discriminant e → half_width e u v ≡ ceil_sqrt (ceil_div (e.s * nat_abs (width2 e u v)) (nat_abs (discriminant e)))
unfolding half_width ceil_sqrt
half-width_is e u v hf hd =
    ap (λ (t : ℕ → Bool). least t (2 ^ 30))
    (fun_ext λ m. ap₂ (λ (f d : ℤ). le_z (pos e.s *ℤ f) (pos m *ℤ pos m *ℤ d)) (whole (width2 e u v) hf) (whole (discriminant e) (positive-nn (discriminant e) hd))
    ∙ sym (ceil_div-≤ (e.s * nat_abs (width2 e u v)) (nat_abs (discriminant e)) (m * m) (one_size (discriminant e) hd)))
  where
    whole : (z : ℤ) → pos 0 ≼ z → z ≡ pos (nat_abs z)
    whole z h = sym (pos-nat_abs z (yes_non_neg h))

pub half-width-≤ : (e : Ellipse) (u v : ℤ) → half_width e u v ≤ 2 ^ 30
unfolding half_width
half-width-≤ e u v = least-≤ _ (2 ^ 30)
