-- What the code of a tray meets: its words from a place on, the next one, and the sum so far. Assumes nothing.
use Rattle.std.specs.Prelude.{Result, Ok, Err}
use mathlib.Core.Path.{◌≡◌, refl, sym, ap, ap₂, ◌∙◌}
use mathlib.Core.Bool.{Bool, true, false, cond}
use mathlib.Core.List.{List, [], ◌∷◌}
use Prim.Native.Nat.{ℕ, suc, ◌+◌, ◌-◌, ◌≤◌, ◌<◌}
use native.Mathlib.Decide.{dec_lt}
use native.Mathlib.Numerals.{add-one}
use native.Mathlib.Omega.{arith}
use lib.Dec.{eqb, leb}
use lib.ListN.{length, get_or, take, drop, length-drop, drop_of_length-le}
use lib.Seq.{drop-cons, drop-drop, get_or-drop}
use borrow.Author.Tests.{eqb-true, eq-eqb, ne_eqb, leb-true}
use Rattle.integers.specs.lemmas.Booleans.{both_true}
use Rattle.gate_tariff.specs.Index.{index_after, index_of}
use Rattle.gate_tariff.specs.declared.Tariff.{Tariff}
use Rattle.gate_tariff.specs.declared.Refusal.{Refusal}
use Rattle.gate_tariff.specs.declared.Refusal.TheVariants.{OutOfRange, NotATray}
use Rattle.gate_tariff.specs.Tariff.{in_range, ticks_of, answered}
use Rattle.gate_tariff.specs.Tray.{begun, words_of, closes, is_tray, size_of, plus, total_of, tray_of}
use Rattle.gate_tariff.proofs.Prices.{ticks_price}

-- ---- the words from a place on: one more, or not
count-begun : (b : ℕ) (ws : List (List ℕ)) → length (begun b ws) ≡ length ws
count-begun b [] = refl
count-begun b (w ∷ ws) = refl

module _ (s : List ℕ) (i : ℕ) (h : 0 < i) (k : i ≤ length s) where
  before : drop (i - 1) s ≡ get_or s (i - 1) 0 ∷ drop i s
  before =
      let e : suc (i - 1) ≡ i = omega arith in
      drop-cons s (i - 1) 0 (omega arith) ∙ ap (λ (j : ℕ). get_or s (i - 1) 0 ∷ drop j s) e

  pub count-feed : get_or s (i - 1) 0 ≡ 10 → length (words_of (drop (i - 1) s)) ≡ length (words_of (drop i s)) + 1
  unfolding words_of
  count-feed e = ap (λ (l : List ℕ). length (words_of l)) before ∙ rw (eq-eqb (get_or s (i - 1) 0) 10 e) (sym (add-one _))

  pub count-other : (get_or s (i - 1) 0 ≡ 10 → ⊥) → length (words_of (drop (i - 1) s)) ≡ length (words_of (drop i s))
  unfolding words_of
  count-other f = ap (λ (l : List ℕ). length (words_of l)) before ∙ rw (ne_eqb (get_or s (i - 1) 0) 10 f) (count-begun (get_or s (i - 1) 0) (words_of (drop i s)))

pub count-end : (s : List ℕ) (i : ℕ) → length s ≤ i → length (words_of (drop i s)) ≡ 0
unfolding words_of
count-end s i h = ap (λ (l : List ℕ). length (words_of l)) (drop_of_length-le s h)

-- ---- the first word: up to the first line feed
index-first : (l : List ℕ) → index_of 10 l < length l → words_of l ≡ take (index_of 10 l) l ∷ words_of (drop (suc (index_of 10 l)) l)
unfolding words_of index_of index_after
index-first [] h = absurd (omega arith)
index-first (b ∷ l) h = go (eqb b 10) h (λ k. index-first l k)
  where
    go : (q : Bool) → index_after q (index_of 10 l) < suc (length l) → (index_of 10 l < length l → words_of l ≡ take (index_of 10 l) l ∷ words_of (drop (suc (index_of 10 l)) l))
        → cond q ([] ∷ words_of l) (begun b (words_of l)) ≡ take (index_after q (index_of 10 l)) (b ∷ l) ∷ words_of (drop (suc (index_after q (index_of 10 l))) (b ∷ l))
    go true h f = refl
    go false h f = ap (begun b) (f (omega arith))

index-last : (l : List ℕ) → 0 < length l → get_or l (length l - 1) 0 ≡ 10 → index_of 10 l < length l
unfolding index_of index_after
index-last [] h e = absurd (omega arith)
index-last (b ∷ []) h e = rw (eq-eqb b 10 e) (omega arith)
index-last (b ∷ c ∷ l) h e =
    let f : suc (suc (length l)) - 1 ≡ suc (length (c ∷ l) - 1) = omega arith in
    go (eqb b 10) (index-last (c ∷ l) (omega arith) (ap (λ (k : ℕ). get_or (b ∷ c ∷ l) k 0) (sym f) ∙ e))
  where
    go : (q : Bool) → index_of 10 (c ∷ l) < length (c ∷ l) → index_after q (index_of 10 (c ∷ l)) < suc (length (c ∷ l))
    go true r = omega arith
    go false r = omega arith

-- ---- a tray, by the code's tests
module _ (s : List ℕ) where
  pub tray_facts : is_tray s ≡ true → (get_or s (length s - 1) 0 ≡ 10) × (length (words_of s) ≤ 8)
  unfolding is_tray
  tray_facts e = let (c, n) = both_true (closes s) (leb (length (words_of s)) 8) e in (eqb-true (get_or s (length s - 1) 0) 10 c, leb-true (length (words_of s)) 8 n)

  -- the size says whether there is a tray: no tray is empty
  some_word : is_tray s ≡ true → 0 < length (words_of s)
  some_word e = go s (tray_facts e).0
    where
      go : (s : List ℕ) → get_or s (length s - 1) 0 ≡ 10 → 0 < length (words_of s)
      go [] e = absurd (let z : ◌≡◌ {A = ℕ} 0 10 = e in omega arith)
      go (b ∷ s) e = let i = ap length (index-first (b ∷ s) (index-last (b ∷ s) (omega arith) e)) in omega arith

  pub size-zero : (n : ℕ) → n ≡ size_of s → n ≡ 0 → is_tray s ≡ false
  size-zero n e z = go (is_tray s) refl e
    where
      go : (t : Bool) → is_tray s ≡ t → n ≡ cond t (length (words_of s)) 0 → is_tray s ≡ false
      go true f e = absurd (omega (arith, some_word f))
      go false f e = f

  pub size-some : (n : ℕ) → n ≡ size_of s → (n ≡ 0 → ⊥) → (is_tray s ≡ true) × (n ≡ length (words_of s))
  size-some n e z = go (is_tray s) refl e
    where
      go : (t : Bool) → is_tray s ≡ t → n ≡ cond t (length (words_of s)) 0 → (is_tray s ≡ true) × (n ≡ length (words_of s))
      go true f e = (f, e)
      go false f e = absurd (z e)

-- ---- the next word: up to the next line feed
module _ (s : List ℕ) (at end : ℕ) (f : get_or s (length s - 1) 0 ≡ 10) (h : at < length s) (place : end ≡ at + index_of 10 (drop at s)) where
  found : index_of 10 (drop at s) < length (drop at s)
  found =
      let n : length (drop at s) ≡ length s - at = length-drop at s in
      let k : at + (length (drop at s) - 1) ≡ length s - 1 = omega arith in
      index-last (drop at s) (omega arith) (get_or-drop at s (length (drop at s) - 1) 0 ∙ ap (λ (j : ℕ). get_or s j 0) k ∙ f)

  pub end-inside : (at ≤ end) × (end < length s)
  end-inside = let n = length-drop at s in let g = found in (omega arith, omega arith)

  pub next_word : words_of (drop at s) ≡ take (end - at) (drop at s) ∷ words_of (drop (end + 1) s)
  next_word =
      let a : index_of 10 (drop at s) ≡ end - at = omega arith in
      let b : at + suc (index_of 10 (drop at s)) ≡ end + 1 = omega arith in
      index-first (drop at s) found
      ∙ ap₂ (λ (w : List ℕ) (ws : List (List ℕ)). w ∷ ws) (ap (λ (k : ℕ). take k (drop at s)) a) (ap words_of (drop-drop (suc (index_of 10 (drop at s))) at s ∙ ap (λ (k : ℕ). drop k s) b))

-- while words are left the place is inside
pub words_left : (s : List ℕ) (at : ℕ) → 0 < length (words_of (drop at s)) → at < length s
words_left s at h = go (dec_lt at (length s))
  where
    go : Dec (at < length s) → at < length s
    go (yes k) = k
    go (no k) = absurd (omega (arith, count-end s at (omega arith)))

-- ---- n ticks so far, and those of the words from a place on
module _ (p : Tariff) where
  abbrev pub total_from : ℕ → List (List ℕ) → Result ℕ Refusal
  total_from n ws = plus (Ok n) (total_of p ws)

  pub total_end : (n : ℕ) (ws : List (List ℕ)) → length ws ≡ 0 → total_from n ws ≡ Ok n
  unfolding total_of
  total_end n [] e = let z : n + 0 ≡ n = omega arith in ap Ok z
  total_end n (w ∷ ws) e = absurd (omega arith)

  pub total_more : (n k : ℕ) (w : List ℕ) (ws : List (List ℕ)) → ticks_of p w ≡ Ok k → total_from n (w ∷ ws) ≡ total_from (n + k) ws
  unfolding total_of
  total_more n k w ws e = rw e (go (total_of p ws))
    where
      go : (x : Result ℕ Refusal) → plus (Ok n) (plus (Ok k) x) ≡ plus (Ok (n + k)) x
      go (Ok m) = let z : n + (k + m) ≡ n + k + m = omega arith in ap Ok z
      go (Err why) = refl

  pub total_refused : (n : ℕ) (w : List ℕ) (ws : List (List ℕ)) (why : Refusal) → ticks_of p w ≡ Err why → total_from n (w ∷ ws) ≡ Err why
  unfolding total_of
  total_refused n w ws why e = rw e refl

  pub total_start : (ws : List (List ℕ)) → total_from 0 ws ≡ total_of p ws
  total_start ws = go (total_of p ws)
    where
      go : (x : Result ℕ Refusal) → plus (Ok 0) x ≡ x
      go (Ok m) = let z : 0 + m ≡ m = omega arith in ap Ok z
      go (Err why) = refl

-- ---- the tray's answer
module _ (p : Tariff) (s : List ℕ) (m : ℕ) where
  pub tray_refused : size_of s ≡ 0 → Err NotATray ≡ tray_of p s m
  unfolding tray_of
  tray_refused e = rw (size-zero s 0 (sym e) refl) refl

  pub tray_answered : (size_of s ≡ 0 → ⊥) → answered m (total_of p (words_of s)) ≡ tray_of p s m
  unfolding tray_of
  tray_answered e = rw (size-some s (size_of s) refl e).0 refl

  -- a price out of range refuses the first word, and so the tray
  pub tray_price : (size_of s ≡ 0 → ⊥) → in_range p ≡ false → Err OutOfRange ≡ tray_of p s m
  unfolding total_of
  tray_price e f = sym (ap (answered m) (go (words_of s) (some_word s (size-some s (size_of s) refl e).0))) ∙ tray_answered e
    where
      go : (ws : List (List ℕ)) → 0 < length ws → total_of p ws ≡ Err OutOfRange
      go [] h = absurd (omega arith)
      go (w ∷ ws) h = rw (← ticks_price p w f) refl
