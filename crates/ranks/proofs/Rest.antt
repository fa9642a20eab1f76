-- The numbers below top that pass a test, in rising order, from a given one on: SPEC, "Walk".
-- Assumes nothing.
use Rattle.std.specs.Prelude.{◌≡◌, refl, Bool, true, false, List, [], ◌∷◌, drop}
use Rattle.std.proofs.Common.{sym, ap, ◌∙◌, add-zero}
use Prim.Native.Nat.{ℕ, zero, suc, ◌+◌, ◌-◌, ◌≤◌, ◌<◌}
use Rattle.std.proofs.Math.Decide.{dec_lt}
use native.Mathlib.Omega.{arith}
use Rattle.std.proofs.Math.Seq.{drop-nil}
use Rattle.ranks.specs.Rest.{keep, among, rest, Place, at, ended, is_ended, place_of, is_nil, left_at}

pub ended-nil : (l : List ℕ) → is_ended (place_of l) ≡ is_nil l
ended-nil [] = refl
ended-nil (q ∷ l) = refl

module _ (test : ℕ → Bool) (top : ℕ) where
  rest-step : (p : ℕ) → p < top → rest test top p ≡ keep (test p) p (rest test top (suc p))
  unfolding rest among
  rest-step p h =
      let e : top - p ≡ suc (top - suc p) = omega arith in
      rw e

  pub rest-hit : (p : ℕ) → p < top → test p ≡ true → rest test top p ≡ p ∷ rest test top (suc p)
  rest-hit p h t = rest-step p h ∙ rw t

  pub rest-miss : (p : ℕ) → p < top → test p ≡ false → rest test top p ≡ rest test top (suc p)
  rest-miss p h t = rest-step p h ∙ rw t

  pub rest_over : (p : ℕ) → top ≤ p → rest test top p ≡ []
  unfolding rest among
  rest_over p h =
      let e : top - p ≡ 0 = omega arith in
      rw e

  -- induction from top down
  module _ (P : ℕ → List ℕ → Type 0)
      (over : (p : ℕ) → top ≤ p → P p [])
      (hit : (p : ℕ) → p < top → test p ≡ true → P (suc p) (rest test top (suc p)) → P p (p ∷ rest test top (suc p)))
      (miss : (p : ℕ) → p < top → test p ≡ false → P (suc p) (rest test top (suc p)) → P p (rest test top (suc p))) where
    induct-by : (n p : ℕ) → top ≤ p + n → P p (rest test top p)
    induct-by zero p h = rw (rest_over p (omega arith)) (over p (omega arith))
    induct-by (suc n) p h = go (test p) refl (dec_lt p top) (induct-by n (suc p) (omega arith))
      where
        go : (b : Bool) → test p ≡ b → Dec (p < top) → P (suc p) (rest test top (suc p)) → P p (rest test top p)
        go b t (no f) ih = rw (rest_over p (omega arith)) (over p (omega arith))
        go true t (yes k) ih = rw (rest-hit p k t) (hit p k t ih)
        go false t (yes k) ih = rw (rest-miss p k t) (miss p k t ih)

    pub rest-induct : (p : ℕ) → P p (rest test top p)
    rest-induct p = induct-by top p (omega arith)

  -- what the walk finds from p on: nothing, or the least number that passes
  pub data View (p : ℕ) : Type 0 where
    nothing : rest test top p ≡ [] → View p
    least : (q : ℕ) → p ≤ q → q < top → test q ≡ true → rest test top p ≡ q ∷ rest test top (suc q) → View p

  view-miss : (p : ℕ) → rest test top p ≡ rest test top (suc p) → View (suc p) → View p
  view-miss p m (nothing e) = nothing (m ∙ e)
  view-miss p m (least q a b t e) = least q (omega arith) b t (m ∙ e)

  pub view : (p : ℕ) → View p
  view =
      rest-induct (λ p l. View p) (λ p h. nothing (rest_over p h)) (λ p h t ih. least p (omega arith) h t (rest-hit p h t))
      (λ p h t ih. view-miss p (rest-miss p h t) ih)

  skip_by : (n p : ℕ) → ((r : ℕ) → p ≤ r → r < p + n → test r ≡ false) → rest test top p ≡ rest test top (p + n)
  skip_by zero p h = rw add-zero
  skip_by (suc n) p h = go (dec_lt p top) (skip_by n (suc p) (λ r a b. h r (omega arith) (omega arith)))
    where
      go : Dec (p < top) → rest test top (suc p) ≡ rest test top (suc p + n) → rest test top p ≡ rest test top (p + suc n)
      go (no f) ih = rest_over p (omega arith) ∙ sym (rest_over (p + suc n) (omega arith))
      go (yes k) ih =
          let e : suc p + n ≡ p + suc n = omega arith in
          rest-miss p k (h p (omega arith) (omega arith)) ∙ ih ∙ ap (rest test top) e

  -- numbers that fail are passed over
  pub rest-skip : (p q : ℕ) → p ≤ q → ((r : ℕ) → p ≤ r → r < q → test r ≡ false) → rest test top p ≡ rest test top q
  rest-skip p q l h =
      let e : p + (q - p) ≡ q = omega arith in
      skip_by (q - p) p (λ r a b. h r a (omega arith)) ∙ ap (rest test top) e

  left-start : (p : ℕ) → View p → left_at test top (place_of (rest test top p)) ≡ rest test top p
  left-start p (nothing e) = rw e
  left-start p (least q a b t e) = rw e (rest-hit q b t)

  abbrev Kept : ℕ → ℕ → Type 0
  Kept n p = left_at test top (place_of (drop n (rest test top p))) ≡ drop n (rest test top p)

  kept-suc : (n p : ℕ) → ((q : ℕ) → Kept n q) → View p → Kept (suc n) p
  kept-suc n p ih (nothing e) = rw e
  kept-suc n p ih (least q a b t e) = rw e (ih (suc q))

  -- what is left at the place after n numbers is all but those n
  pub left-place : (n p : ℕ) → left_at test top (place_of (drop n (rest test top p))) ≡ drop n (rest test top p)
  left-place zero p = left-start p (view p)
  left-place (suc n) p = kept-suc n p (left-place n) (view p)

  -- what is left at the place that was found from p on is what is left from p on
  pub left-found : (p : ℕ) (w : Place) → w ≡ place_of (rest test top p) → left_at test top w ≡ rest test top p
  left-found p w e = ap (left_at test top) e ∙ left-place 0 p

  stands-least : (q : ℕ) → place_of (rest test top q) ≡ at q → View q → (q < top) × (rest test top q ≡ q ∷ rest test top (suc q))
  stands-least q e (nothing n) = let u : at q ≡ ended = cc in let v : ◌≡◌ {A = ℕ} 0 1 = cc in absurd (omega arith)
  stands-least q e (least r a b t n) = let u : at r ≡ at q = cc in let v : r ≡ q = cc in (omega arith, cc)

  stands : (k p q : ℕ) → place_of (drop k (rest test top p)) ≡ at q → (q < top) × (drop k (rest test top p) ≡ q ∷ rest test top (suc q))
  stands k p q e =
      let d : rest test top q ≡ drop k (rest test top p) = rw e at (left-place k p) in
      let s = stands-least q (ap place_of d ∙ e) (view q) in
      (s.0, sym d ∙ s.1)

  -- where the walk stands at q after k numbers, q is below top; it comes next, and then what follows it
  pub next-below : (k p q : ℕ) → place_of (drop k (rest test top p)) ≡ at q → q < top
  next-below k p q e = (stands k p q e).0

  pub next-drop : (k p q : ℕ) → place_of (drop k (rest test top p)) ≡ at q → drop k (rest test top p) ≡ q ∷ rest test top (suc q)
  next-drop k p q e = (stands k p q e).1

  pub next-left : (k : ℕ) (w : Place) (q : ℕ) → place_of (drop k (left_at test top w)) ≡ at q → drop k (left_at test top w) ≡ q ∷ rest test top (suc q)
  next-left k (at p) q e = next-drop k p q e
  next-left k ended q e = let u : place_of (drop k []) ≡ ended = rw drop-nil in cc
