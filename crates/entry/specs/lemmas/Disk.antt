-- "Outside the disk the list is empty" (SPEC, "Other entry"): for every v of any integers, where u = v/√2^k is longer than 1, or its conjugate is.
use Rattle.std.proofs.Math.Path.{◌≡◌, refl}
use Rattle.std.proofs.Common.{sym, ap, ap₂, ◌∙◌, true≢false, arith, le-ltb}
use Rattle.std.specs.Prelude.{Bool, ℕ, ◌/◌, ◌^◌, ◌≤◌, ltb, ℤ, pos, length, take, drop, Option}
use Rattle.std.proofs.Math.Bool.{true, false}
use mathlib.Core.List.Memᴰ
use mathlib.Core.List.{List, [], ◌∷◌}
use Rattle.std.proofs.Math.Seq.{take-nil, drop-nil}
use Rattle.integers.specs.lemmas.Ring.{poly, by_ring}
use Rattle.ring.specs.declared.Point.{Point}
use Rattle.ring.specs.declared.RootTwo.{RootTwo}
use Rattle.ring.specs.RootTwo.{◌⊞◌, ◌⊟◌, ◌⊠◌, neg, conj, num, ring√, conj-⊞, conj-⊠, conj_num}
use Rattle.ring.specs.RootTwo.Order.{◌⊑◌, nn_by, nn-+, nn_sq}
use Rattle.ring.specs.RootTwo.Power.{√2^}
use Rattle.ring.specs.Point.{conjω, √2x, √2y, √2x_conj, √2y_conj}
use Rattle.ranks.specs.Rest.{is_nil}
use Rattle.ranks.specs.Rank.{top}
use Rattle.ranks.proofs.Members.{rest-sound}
use Rattle.ring_points.specs.Digits.{span}
use Rattle.ring_points.specs.Points.{point_of}
use Rattle.entry_equation.specs.Equation.{completes, top_scale}
use Rattle.entry_equation.specs.lemmas.Tests.{is_false}
use Rattle.entry_equation.specs.Meaning.{twice|◌|², unit-length, √2^-square}
use Rattle.entry.specs.declared.Answer.TheVariants.{Handed, Refused}
use Rattle.entry.specs.Entry.{left, start_of, answer_of}

-- 2·2^k, twice the squared length of √2^k
abbrev pub twice√2^ : ℕ → RootTwo
twice√2^ k = num (pos 2) ⊠ (√2^ k ⊠ √2^ k)

-- |u| is above 1: |v|² is not at most 2^k
abbrev pub Longer : ℕ → Point → Type 0
Longer k v = twice| v |² ⊑ twice√2^ k → ⊥

-- ---- the squared lengths of two points that solve: each is at most the sum
neg_square : (z : RootTwo) → neg z ⊠ neg z ≡ z ⊠ z
neg_square z = by_ring ring√ (z ∷ []) (search poly depth 20) refl

conj_sum : (x y : RootTwo) → conj (x ⊠ x ⊞ y ⊠ y) ≡ conj x ⊠ conj x ⊞ conj y ⊠ conj y
conj_sum x y = conj-⊞ (x ⊠ x) (y ⊠ y) ∙ ap₂ ◌⊞◌ (conj-⊠ x x) (conj-⊠ y y)

rest_of : (x y m : RootTwo) → x ⊞ y ≡ m → y ≡ m ⊟ x
rest_of x y m e = back x y ∙ ap (λ t. t ⊟ x) e
  where
    back : (x y : RootTwo) → y ≡ x ⊞ y ⊟ x
    back x y = by_ring ring√ (x ∷ y ∷ []) (search poly depth 20) refl

-- twice the squared length of the conjugate
pub twice-conj : (v : Point) → twice| conjω v |² ≡ conj (√2x v) ⊠ conj (√2x v) ⊞ conj (√2y v) ⊠ conj (√2y v)
twice-conj v = rw (√2x_conj v, √2y_conj v) (ap₂ ◌⊞◌ (neg_square (conj (√2x v))) (neg_square (conj (√2y v))))

module _ (k : ℕ) (v w : Point) (e : completes k v w ≡ true) where
  -- 2·2^k is its own conjugate
  fixed : conj (twice√2^ k) ≡ twice√2^ k
  fixed = conj-⊠ (num (pos 2)) _ ∙ ap₂ ◌⊠◌ (conj_num (pos 2)) (ap conj (√2^-square k) ∙ conj_num (pos (2 ^ k)) ∙ sym (√2^-square k))

  pub conj_unit :
      conj (√2x v) ⊠ conj (√2x v) ⊞ conj (√2y v) ⊠ conj (√2y v) ⊞ (conj (√2x w) ⊠ conj (√2x w) ⊞ conj (√2y w) ⊠ conj (√2y w)) ≡ twice√2^ k
  conj_unit = sym (conj-⊞ (twice| v |²) (twice| w |²) ∙ ap₂ ◌⊞◌ (conj_sum (√2x v) (√2y v)) (conj_sum (√2x w) (√2y w))) ∙ ap conj ((unit-length k v w).0 e) ∙ fixed

  pub not_longer : twice| v |² ⊑ twice√2^ k
  not_longer = nn_by (rest_of (twice| v |²) (twice| w |²) (twice√2^ k) ((unit-length k v w).0 e)) (nn-+ (nn_sq (√2x w)) (nn_sq (√2y w)))

  pub conjugate_not_longer : twice| conjω v |² ⊑ twice√2^ k
  conjugate_not_longer =
      nn_by (rest_of (twice| conjω v |²) _ (twice√2^ k) (ap (λ t. t ⊞ (conj (√2x w) ⊠ conj (√2x w) ⊞ conj (√2y w) ⊠ conj (√2y w))) (twice-conj v) ∙ conj_unit))
      (nn-+ (nn_sq (conj (√2x w))) (nn_sq (conj (√2y w))))

-- ---- where nothing solves nothing is listed, from whichever place on
module _ (k : ℕ) (v : Point) where
  pub left-none : ((w : Point) → completes k v w ≡ false) → (p : Option Point) → left k v p ≡ []
  unfolding left
  left-none h p = go (left k v p) refl
    where
      go : (l : List ℕ) → left k v p ≡ l → l ≡ []
      go [] e = refl
      go (r ∷ l) e = absurd (true≢false (sym (rest-sound (λ r. completes k v (point_of r)) (top span) (start_of p) r (rw e (Memᴰ.head refl))).2 ∙ h (point_of r)))

  none-by : ((w : Point) → completes k v w ≡ true → ⊥) → (p : Option Point) → left k v p ≡ []
  none-by f = left-none (λ w. is_false _ (f w))

  -- |u| above 1
  pub outside_empty : Longer k v → (p : Option Point) → left k v p ≡ []
  outside_empty h = none-by (λ w e. h (not_longer k v w e))

  -- |u•| above 1
  pub conjugate_outside_empty : Longer k (conjω v) → (p : Option Point) → left k v p ≡ []
  conjugate_outside_empty h = none-by (λ w e. h (conjugate_not_longer k v w e))

  -- the answer to an empty list, at a scale that is not refused: count 0, end yes
  pub empty_answer : (p : Option Point) (out : List ℤ) → k ≤ top_scale → left k v p ≡ [] → answer_of k v p out ≡ Handed 0 true
  unfolding answer_of
  empty_answer p out ok e = go (ltb top_scale k) (left k v p) (length out / 4) (le-ltb top_scale k ok) e
    where
      go : (b : Bool) (l : List ℕ) (n : ℕ) → b ≡ false → l ≡ [] → elim b [ true ↦ Refused | false ↦ Handed (length (take n l)) (is_nil (drop n l)) ] ≡ Handed 0 true
      go true l n h e = absurd (true≢false h)
      go false [] n h e = rw (take-nil {A = ℕ} n, drop-nil {A = ℕ} n) refl
      go false (r ∷ l) n h e = absurd (let z : ◌≡◌ {A = ℕ} 0 1 = cc in omega arith)
