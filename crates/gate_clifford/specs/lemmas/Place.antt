-- The place of a state's tail in the table.
use Rattle.std.specs.Prelude.{◌≡◌, refl, Bool, true, false, cond, ℕ, zero, suc, ◌+◌, ◌-◌, ◌*◌, ◌/◌, ◌%◌, ◌≤◌, eqb, ℤ, pos, negsuc}
use Rattle.std.proofs.Common.{sym, ◌∙◌, ap, ap₂, arith, eq-eqb, ne_eqb, lt-ltb, le-ltb}
use Rattle.std.specs.Int.Signed.{lt_z}
use Rattle.ring.specs.declared.Point.{Point}
use Rattle.gate_theory.specs.Table.{positive, negative, log, index}

pub positive-is : (z : ℤ) → lt_z (pos 0) z ≡ positive z
positive-is (pos zero) = refl
positive-is (pos (suc n)) = lt-ltb 0 (suc n) (omega arith)
positive-is (negsuc n) = refl

pub negative-is : (z : ℤ) → lt_z z (pos 0) ≡ negative z
negative-is (pos zero) = refl
negative-is (pos (suc n)) = le-ltb (suc n) 0 (omega arith)
negative-is (negsuc n) = refl

pub picked : (n : ℕ) {b d : Bool} {x y z : ℕ} → b ≡ d → x ≡ y → z ≡ cond b n x → z ≡ cond d n y
picked n e f g = g ∙ ap₂ (λ b x. cond b n x) e f

at_most : (b : Bool) {x y : ℕ} → x ≤ 8 → y ≤ 8 → cond b x y ≤ 8
at_most true g h = g
at_most false g h = h

pub log-small : (v : Point) → log v ≤ 8
log-small v =
    at_most (positive v.d) (omega arith) (at_most (positive v.c) (omega arith) (at_most (positive v.b) (omega arith) (at_most (positive v.a) (omega arith)
    (at_most (negative v.d) (omega arith) (at_most (negative v.c) (omega arith) (at_most (negative v.b) (omega arith) (at_most (negative v.a) (omega arith) (omega arith))))))))

module _ (u t : Point) (m : ℕ) where
  abbrev column : ℕ
  column = 32 + log t * 4 + m

  abbrev full : ℕ
  full = 64 + (log t + 8 - log u) % 8 / 2 * 32 + log u * 4 + m

  pub index-diagonal : log t ≡ 8 → log u * 4 + m ≡ index u t m
  index-diagonal e = sym (ap (λ b. cond b (log u * 4 + m) (cond (eqb (log u) 8) column full)) (eq-eqb (log t) 8 e))

  pub index-column : (log t ≡ 8 → ⊥) → log u ≡ 8 → column ≡ index u t m
  index-column n e = sym (ap (λ b. cond b (log u * 4 + m) (cond (eqb (log u) 8) column full)) (ne_eqb (log t) 8 n) ∙ ap (λ b. cond b column full) (eq-eqb (log u) 8 e))

  pub index-full : (log t ≡ 8 → ⊥) → (log u ≡ 8 → ⊥) → full ≡ index u t m
  index-full n o = sym (ap (λ b. cond b (log u * 4 + m) (cond (eqb (log u) 8) column full)) (ne_eqb (log t) 8 n) ∙ ap (λ b. cond b column full) (ne_eqb (log u) 8 o))
