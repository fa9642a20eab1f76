-- One line more.
use Rattle.std.specs.Prelude.{◌≡◌, refl, List, [], ◌∷◌, ◌++◌, ℕ, zero, suc, ◌+◌, ◌*◌, ◌≤◌, ℤ, length, take}
use Rattle.std.proofs.Common.{sym, ap, ap₂, subst, ◌∙◌, append_assoc, append-nil, add-one, arith}
use Rattle.ring.specs.declared.Point.{Point}
use Rattle.text.specs.Append.{Appended, append-more}
use Rattle.ring_points.specs.Slices.{point_ranked, next-point, first-point}
use Rattle.list_lines.specs.Lines.{point_line, lines_of}

pub lines_more : (k : ℕ) (l : List ℤ) (i : ℕ) → 4 * i + 4 ≤ length l → lines_of k (take (4 * suc i) l) ≡ lines_of k (take (4 * i) l) ++ point_line k (point_ranked l i)
unfolding lines_of
lines_more k [] i h = absurd (omega arith)
lines_more k (a ∷ []) i h = absurd (omega arith)
lines_more k (a ∷ b ∷ []) i h = absurd (omega arith)
lines_more k (a ∷ b ∷ c ∷ []) i h = absurd (omega arith)
lines_more k (a ∷ b ∷ c ∷ d ∷ l) zero h = append-nil (point_line k (record { a = a; b = b; c = c; d = d })) ∙ ap (point_line k) (sym (first-point a b c d l))
lines_more k (a ∷ b ∷ c ∷ d ∷ l) (suc i) h =
    let e : 4 * suc (suc i) ≡ suc (suc (suc (suc (4 * suc i)))) = omega arith in
    let f : 4 * suc i ≡ suc (suc (suc (suc (4 * i)))) = omega arith in
    let p = point_line k (record { a = a; b = b; c = c; d = d }) in
    let m = lines_more k l i (omega arith) in
    ap (λ (n : ℕ). lines_of k (take n (a ∷ b ∷ c ∷ d ∷ l))) e
    ∙ ap (λ (t : List ℕ). p ++ t) m
    ∙ sym (append_assoc p (lines_of k (take (4 * i) l)) (point_line k (point_ranked l i)))
    ∙ ap₂ (λ (n : ℕ) (v : Point). lines_of k (take n (a ∷ b ∷ c ∷ d ∷ l)) ++ point_line k v) (sym f) (sym (next-point a b c d l i))

-- ---- lines at the start of a list
pub lines_none : (k : ℕ) (l : List ℤ) (xs : List ℕ) → Appended xs 0 (lines_of k (take (4 * 0) l)) xs 0
unfolding lines_of
lines_none k l xs = record { text = refl; end = refl; same = refl; past = refl }

pub lines_next : (k : ℕ) (l : List ℤ) (i : ℕ) (v : Point) (xs mid out : List ℕ) (at r : ℕ) → 4 * i + 4 ≤ length l → v ≡ point_ranked l i
    → Appended xs 0 (lines_of k (take (4 * i) l)) mid at → Appended mid at (point_line k v) out r → Appended xs 0 (lines_of k (take (4 * (i + 1)) l)) out r
lines_next k l i v xs mid out at r h e a b =
    let m : lines_of k (take (4 * i) l) ++ point_line k v ≡ lines_of k (take (4 * (i + 1)) l) = rw (e, add-one) (sym (lines_more k l i h)) in
    subst (λ (t : List ℕ). Appended xs 0 t out r) m (append-more xs 0 (lines_of k (take (4 * i) l)) (point_line k v) mid out at r a b)
