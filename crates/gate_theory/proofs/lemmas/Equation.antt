-- What the equation says of parities, and that a step keeps it.
use Rattle.std.specs.Prelude.{◌≡◌, refl, true, [], ◌∷◌, ℕ, zero, suc, ◌+◌, ◌-◌, ◌*◌, ◌%◌, ◌^◌, ◌≤◌, ℤ, pos, ◌+ℤ◌, ◌*ℤ◌}
use Rattle.std.proofs.Common.{sym, ◌∙◌, ap, ap₂, arith, pow-suc, eq-eqb}
use Rattle.integers.specs.lemmas.Booleans.{both_of}
use Rattle.integers.specs.Difference.{by⊖, zz}
use Rattle.integers.specs.lemmas.RingZ.{polyZ, by_ring}
use Rattle.ring.specs.declared.Point.{Point}
use Rattle.ring.specs.Point.{◌*ω◌, √2ω}
use Rattle.gate_theory.specs.Bits.{weight}
use Rattle.gate_theory.proofs.lemmas.Finite.{first, later, some, first_some, later-some}
use Rattle.gate_theory.specs.Points.{N, F}
use Rattle.gate_theory.specs.Parities.{parities, weights, crosses}
use Rattle.gate_theory.specs.State.{Equation}
use Rattle.gate_theory.proofs.lemmas.Halving.{Halves, N-halves, F-halves, N-√2, F-√2}

abbrev weighed : Point → Point → ℕ
weighed u t = weight (parities u) + weight (parities t)

pub at-later : (k : ℕ) (u t : Point) → 2 ≤ k → Equation k u t → later (parities u) (parities t) ≡ true
at-later zero u t h e = absurd (omega arith)
at-later (suc zero) u t h e = absurd (omega arith)
at-later (suc (suc k)) u t h e =
    let m : weighed u t % 4 ≡ 0 = omega (arith, weights u t (2 ^ suc (suc k)) e.squares, pow-suc 2 (suc k), pow-suc 2 k) in
    both_of (eq-eqb (weighed u t % 4) 0 m) (crosses u t e.crosses)

pub at_first : (k : ℕ) (u t : Point) → k ≡ 1 → Equation k u t → first (parities u) (parities t) ≡ true
at_first k u t h e =
    let m : weighed u t % 4 ≡ 2 = weights u t (2 ^ k) e.squares ∙ ap (λ j. 2 ^ j % 4) h in
    both_of (eq-eqb (weighed u t % 4) 2 m) (crosses u t e.crosses)

pub at_some : (k : ℕ) (u t : Point) → 1 ≤ k → Equation k u t → some (parities u) (parities t) ≡ true
at_some zero u t h e = absurd (omega arith)
at_some (suc zero) u t h e = first_some (parities u) (parities t) (at_first 1 u t refl e)
at_some (suc (suc k)) u t h e = later-some (parities u) (parities t) (at-later (suc (suc k)) u t (omega arith) e)

-- ---- t may be turned
pub equation_turned : (k : ℕ) (u t z : Point) → N z ≡ N t → F z ≡ F t → Equation k u t → Equation k u z
equation_turned k u t z n f e = record { squares = ap (λ x. N u +ℤ x) n ∙ e.squares; crosses = ap (λ x. F u +ℤ x) f ∙ e.crosses }

half : (x : ℤ) (n : ℕ) → pos 2 *ℤ x ≡ pos (n * 2) → x ≡ pos n
half = by⊖ _ λ p q. λ n. simp zz (omega arith)

half-zero : (x : ℤ) → pos 2 *ℤ x ≡ pos 0 → x ≡ pos 0
half-zero = by⊖ _ λ p q. simp zz (omega arith)

halve : (x y : ℤ) → pos 2 *ℤ x ≡ pos 2 *ℤ y → x ≡ y
halve = by⊖ _ λ x x'. by⊖ _ λ y y'. simp zz (omega arith)

-- u = x + y and z = x − y: one √2² less
pub equation_half : (k : ℕ) (u z x y : Point) → 1 ≤ k → Halves u z x y → Equation k u z → Equation (k - 1) x y
equation_half zero u z x y h p e = absurd (omega arith)
equation_half (suc k) u z x y h p e =
    let j : suc k - 1 ≡ k = omega arith in
    record {
      squares = half _ _ (sym (N-halves u z x y p) ∙ e.squares ∙ ap pos (pow-suc 2 k)) ∙ ap (λ n. pos (2 ^ n)) (sym j);
      crosses = half-zero _ (sym (F-halves u z x y p) ∙ e.crosses);
    }

-- √2 u = x + y and √2 z = x − y: the same scale
pub equation_same : (k : ℕ) (u z x y : Point) → Halves (u *ω √2ω) (z *ω √2ω) x y → Equation k u z → Equation k x y
equation_same k u z x y p e = record {
  squares = halve _ _ (sym (N-halves _ _ x y p) ∙ ap₂ ◌+ℤ◌ (N-√2 u) (N-√2 z) ∙ out (N u) (N z)) ∙ e.squares;
  crosses = halve _ _ (sym (F-halves _ _ x y p) ∙ ap₂ ◌+ℤ◌ (F-√2 u) (F-√2 z) ∙ out (F u) (F z)) ∙ e.crosses;
}
  where
    out : (a b : ℤ) → pos 2 *ℤ a +ℤ pos 2 *ℤ b ≡ pos 2 *ℤ (a +ℤ b)
    out a b = by_ring (a ∷ b ∷ []) (search polyZ depth 20) refl

-- u and t both over √2: one √2 less
pub equation_over : (k : ℕ) (u t x y : Point) → x *ω √2ω ≡ u → y *ω √2ω ≡ t → Equation (suc k) u t → Equation k x y
equation_over k u t x y p q e = record {
  squares = half _ _ (sym (out (N x) (N y)) ∙ ap₂ ◌+ℤ◌ (sym (N-√2 x) ∙ ap N p) (sym (N-√2 y) ∙ ap N q) ∙ e.squares ∙ ap pos (pow-suc 2 k));
  crosses = half-zero _ (sym (out (F x) (F y)) ∙ ap₂ ◌+ℤ◌ (sym (F-√2 x) ∙ ap F p) (sym (F-√2 y) ∙ ap F q) ∙ e.crosses);
}
  where
    out : (a b : ℤ) → pos 2 *ℤ a +ℤ pos 2 *ℤ b ≡ pos 2 *ℤ (a +ℤ b)
    out a b = by_ring (a ∷ b ∷ []) (search polyZ depth 20) refl
