-- SPEC, "Worked points": the line problem of [0, 5] with the conjugate in [−1, 1], and of [0, 6].
-- All solutions lie in a small box, so the full list is a listing of the box that computes.
use Rattle.std.specs.Prelude.{◌≡◌, refl, Bool, true, false, ◌&&◌, List, [], ◌∷◌, ℕ, zero, suc, ◌+◌, ◌*◌, ◌/◌, ◌%◌, ◌≤◌, ◌<◌, T, eqb, ℤ, pos, neg_ℤ, ◌-ℤ◌}
use Rattle.std.proofs.Common.{sym, ◌∙◌, ap, add-zero, arith, leb→le, eqb→eq}
use Rattle.std.specs.Int.Signed.{le_z, le_z_yes}
use Rattle.integers.specs.lemmas.Booleans.{both_true}
use Rattle.integers.specs.Difference.{by⊖, zz, ◌≼◌}
use Rattle.ranks.specs.Rest.{rest}
use Rattle.ranks.proofs.Rest.{rest-hit, rest-miss, rest_over}
use Rattle.ranks.specs.Handed.{flat}
use Rattle.ranks.specs.Digits.{pair, pair-suc, pair-carry}
use Rattle.ranks.proofs.lemmas.Skip.{by_pair, by_pair-pair, skip_first, skip_second}
use Rattle.line_rows.specs.lemmas.Both.{is_false}
use Rattle.line_steps.specs.declared.Interval.{Interval}
use Rattle.line.specs.Line.{bound, span, coordinate, pair_of, accepted, full}
use Rattle.line_steps.specs.Strips.{strip_of}
use Rattle.line_steps.specs.Bounds.{last_row, solution_in, solution_row}
use Rattle.line.specs.Start.{rank-zero}
use Rattle.line.specs.Next.{pair-below, pair-over}
use Rattle.line.specs.lemmas.Parts.{solves_parts, solves-is}

-- ---- a listing of the box of the first digits x to x + m and the second y to y + n
module _ (test : ℕ → ℕ → Bool) where
  abbrev from : ℕ → ℕ → List ℕ
  from x y = rest (by_pair span test) (span * span) (pair span x y)

  abbrev row : ℕ → ℕ → ℕ → List ℕ → List ℕ
  row zero x y l = l
  row (suc n) x y l = elim (test x y) [ true ↦ pair span x y ∷ row n x (y + 1) l | false ↦ row n x (y + 1) l ]

  abbrev box : ℕ → ℕ → ℕ → ℕ → List ℕ
  box zero n x y = []
  box (suc m) n x y = row n x y (box m n (x + 1) y)

  one : (x y : ℕ) → x < span → y < span → (l : List ℕ) → from x (y + 1) ≡ l → (t : Bool) → test x y ≡ t
      → from x y ≡ elim t [ true ↦ pair span x y ∷ l | false ↦ l ]
  one x y x-in y-in l h true e =
      rest-hit (by_pair span test) (span * span) (pair span x y) (pair-below x y x-in y-in) (by_pair-pair span test x y y-in ∙ e)
      ∙ ap (λ (k : List ℕ). pair span x y ∷ k) (ap (rest (by_pair span test) (span * span)) (sym (pair-suc span x y)) ∙ h)
  one x y x-in y-in l h false e =
      rest-miss (by_pair span test) (span * span) (pair span x y) (pair-below x y x-in y-in) (by_pair-pair span test x y y-in ∙ e)
      ∙ ap (rest (by_pair span test) (span * span)) (sym (pair-suc span x y)) ∙ h

  row_is : (n x y : ℕ) → x < span → y + n ≤ span → from x y ≡ row n x y (from x (y + n))
  row_is zero x y x-in y-in = rw add-zero
  row_is (suc n) x y x-in y-in =
      let e : y + 1 + n ≡ y + suc n = omega arith in
      one x y x-in (omega arith) (row n x (y + 1) (from x (y + suc n)))
      (row_is n x (y + 1) x-in (omega arith) ∙ ap (λ (k : ℕ). row n x (y + 1) (from x k)) e) (test x y) refl

  module _ (x₀ m y₀ n : ℕ) (x_Fits : x₀ + m ≤ span) (y-fits : y₀ + n ≤ span)
      (inside : (x y : ℕ) → test x y ≡ true → (x₀ ≤ x) × (x < x₀ + m) × (y₀ ≤ y) × (y < y₀ + n)) where
    fails : (x y : ℕ) → (((x₀ ≤ x) × (x < x₀ + m) × (y₀ ≤ y) × (y < y₀ + n)) → ⊥) → test x y ≡ false
    fails x y f = is_false (test x y) (λ e. f (inside x y e))

    line : (x : ℕ) → x < span → from x 0 ≡ row n x y₀ (from (x + 1) 0)
    line x x-in =
        skip_second span test (span * span) x 0 y₀ (omega arith) (omega arith) (λ v a b. fails x v (λ w. omega arith)) ∙ row_is n x y₀ x-in y-fits
        ∙ ap (row n x y₀) (skip_second span test (span * span) x (y₀ + n) span y-fits (omega arith) (λ v a b. fails x v (λ w. omega arith)) ∙ ap (rest (by_pair span test) (span * span)) (pair-carry span x))

    rows_are : (k x : ℕ) → x₀ ≤ x → x + k ≡ x₀ + m → from x 0 ≡ box k n x y₀
    rows_are zero x h e =
        skip_first span test (omega arith) (span * span) x span (omega arith) (λ u v a b c. fails u v (λ w. omega arith)) ∙ rest_over (by_pair span test) (span * span) (pair span span 0) (pair-over span 0 (omega arith))
    rows_are (suc k) x h e = line x (omega arith) ∙ ap (row n x y₀) (rows_are k (x + 1) (omega arith) (omega arith))

    box-is : rest (by_pair span test) (span * span) 0 ≡ box m n x₀ y₀
    box-is =
        ap (rest (by_pair span test) (span * span)) (sym rank-zero) ∙ skip_first span test (omega arith) (span * span) 0 x₀ (omega arith) (λ u v a b c. fails u v (λ w. omega arith))
        ∙ rows_are m x₀ (omega arith) (omega arith)

-- ---- [0, h] with the conjugate in [−1, 1], n = 1 both
abbrev pub up_to : ℤ → Interval
up_to h = record { n = pos 1; lo = pos 0; hi = h }

abbrev pub unit : Interval
unit = record { n = pos 1; lo = neg_ℤ (pos 1); hi = pos 1 }

abbrev parts : ℤ → ℕ → ℕ → Bool
parts h x y = solves_parts (up_to h) unit (coordinate x) (coordinate y)

full-parts : (h : ℤ) → full (up_to h) unit ≡ rest (by_pair span (parts h)) (span * span) 0
unfolding full
full-parts h = ap (λ (t : ℕ → Bool). rest t (span * span) 0) (λ k r. solves-is (up_to h) unit (coordinate (r / span)) (coordinate (r % span)) k)

columns : (y : ℕ) → neg_ℤ (pos 6) ≼ coordinate y → coordinate y ≼ pos 6 → (9994 ≤ y) × (y < 9994 + 13)
columns y h k = let a = leb→le 9994 y (low (pos y) h).le in let b = leb→le y 10006 (high (pos y) k).le in (a, omega arith)
  where
    low : (y : ℤ) → neg_ℤ (pos 6) ≼ y -ℤ pos bound → pos 9994 ≼ y
    low = by⊖ _ λ p p'. simp zz (omega arith)

    high : (y : ℤ) → y -ℤ pos bound ≼ pos 6 → y ≼ pos 10006
    high = by⊖ _ λ p p'. simp zz (omega arith)

-- what decides whether the small box holds them all, and the listing of the box
unfoldable pub boxed : ℤ → Bool
boxed h = accepted (up_to h) unit && (le_z h (pos 6) && eqb (last_row (strip_of (up_to h)) (strip_of unit)) 10003)

unfoldable pub listing : ℤ → List ℤ
listing h = flat pair_of (box (parts h) 5 13 9999 9994)

module _ (h : ℤ) (ok : accepted (up_to h) unit ≡ true) (six : h ≼ pos 6) (last : last_row (strip_of (up_to h)) (strip_of unit) ≡ 10003) where
  listed : full (up_to h) unit ≡ box (parts h) 5 13 9999 9994
  listed =
      full-parts h
      ∙ box-is (parts h) 9999 5 9994 13 (omega arith) (omega arith)
      (λ x y t.
      let e = solves-is (up_to h) unit (coordinate x) (coordinate y) ∙ t in
      let r = solution_row (up_to h) unit ok x (coordinate y) e in
      let w = solution_in (up_to h) unit ok (coordinate x) (coordinate y) e (pos 6) (record { le = tt }) (record { le = tt }) (record { le = tt }) six (record { le = tt }) in
      let c = columns y w.b-from w.b-to in
      (omega arith, omega arith, c.0, c.1))

pub worked : (h : ℤ) → boxed h ≡ true → flat pair_of (full (up_to h) unit) ≡ listing h
unfolding boxed listing
worked h t =
    let u = both_true (accepted (up_to h) unit) (le_z h (pos 6) && eqb (last_row (strip_of (up_to h)) (strip_of unit)) 10003) t in
    let v = both_true (le_z h (pos 6)) (eqb (last_row (strip_of (up_to h)) (strip_of unit)) 10003) u.1 in
    ap (flat pair_of) (listed h u.0 (le_z_yes (T_of v.0)) (eqb→eq (last_row (strip_of (up_to h)) (strip_of unit)) 10003 (T_of v.1)))
  where
    T_of : {b : Bool} → b ≡ true → T b
    T_of e = rw e tt
