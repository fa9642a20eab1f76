-- Lists with a number for each exponent: their elements, a change of one of them, their sums.
-- Assumes nothing.
use Rattle.std.specs.Prelude.{◌≡◌, refl, Bool, true, false, cond, List, [], ◌∷◌, ◌++◌, ℕ, zero, suc, ◌+◌, ◌≤◌, ◌<◌, eqb, length, get_or, set, replicate}
use Rattle.std.proofs.Common.{sym, ap₂, ◌∙◌, add-zero, arith, eqb-true, eq-eqb, ne_eqb}
use Rattle.std.proofs.Math.Path.{ap}
use Rattle.std.proofs.lemmas.Bool.{eqb-false}
use Rattle.ring.specs.declared.Point.{Point}
use Rattle.ring.specs.Point.Exponent.{exponent_of}
use Rattle.session_tally.specs.Spread.{one, number, places, each, spread, alone, sum}

pub places_same : (f g : ℕ → ℕ) (n s : ℕ) → ((e : ℕ) → s ≤ e → e < s + n → f e ≡ g e) → places f n s ≡ places g n s
unfolding places
places_same f g zero s h = refl
places_same f g (suc n) s h = ap₂ ◌∷◌ (h s (omega arith) (omega arith)) (places_same f g n (suc s) (λ e a b. h e (omega arith) (omega arith)))

pub places-length : (f : ℕ → ℕ) (n s : ℕ) → length (places f n s) ≡ n
unfolding places
places-length f zero s = refl
places-length f (suc n) s = ap suc (places-length f n (suc s))

pub places-at : (f : ℕ → ℕ) (n s i : ℕ) → i < n → get_or (places f n s) i 0 ≡ f (s + i)
unfolding places
places-at f zero s i h = absurd (omega arith)
places-at f (suc n) s zero h = ap f (omega arith)
places-at f (suc n) s (suc i) h = places-at f n (suc s) i (omega arith) ∙ ap f (omega arith)

-- one number changed
pub places-set : (f : ℕ → ℕ) (x n s i : ℕ) → set (places f n s) i x ≡ places (λ e. cond (eqb (s + i) e) x (f e)) n s
unfolding places
places-set f x zero s i = refl
places-set f x (suc n) s zero =
    ap₂ ◌∷◌ (rw (eq-eqb (s + 0) s (omega arith)) refl)
    (places_same f _ n (suc s) (λ e a b. rw (ne_eqb (s + 0) e (λ q. omega arith)) refl))
places-set f x (suc n) s (suc i) =
    ap₂ ◌∷◌ (rw (ne_eqb (s + suc i) s (λ q. omega arith)) refl)
    (places-set f x n (suc s) i ∙ places_same _ _ n (suc s) (λ e a b. ap (λ (m : ℕ). cond (eqb m e) x (f e)) (omega arith)))

-- ---- more at one place, and nothing past the end
unfoldable pub plus_at : List ℕ → ℕ → ℕ → List ℕ
plus_at [] e n = []
plus_at (x ∷ l) zero n = (x + n) ∷ l
plus_at (x ∷ l) (suc e) n = x ∷ plus_at l e n

pub plus-set : (l : List ℕ) (e n : ℕ) → set l e (get_or l e 0 + n) ≡ plus_at l e n
unfolding plus_at
plus-set [] e n = refl
plus-set (x ∷ l) zero n = refl
plus-set (x ∷ l) (suc e) n = ap (λ (t : List ℕ). x ∷ t) (plus-set l e n)

pub plus-past : (l : List ℕ) (e n : ℕ) → length l ≤ e → plus_at l e n ≡ l
unfolding plus_at
plus-past [] e n h = refl
plus-past (x ∷ l) zero n h = absurd (omega arith)
plus-past (x ∷ l) (suc e) n h = ap (λ (t : List ℕ). x ∷ t) (plus-past l e n (omega arith))

pub plus-nothing : (l : List ℕ) (e : ℕ) → plus_at l e 0 ≡ l
unfolding plus_at
plus-nothing [] e = refl
plus-nothing (x ∷ l) zero = ap (λ (n : ℕ). n ∷ l) (add-zero x)
plus-nothing (x ∷ l) (suc e) = ap (λ (t : List ℕ). x ∷ t) (plus-nothing l e)

pub plus-twice : (l : List ℕ) (e m n : ℕ) → plus_at (plus_at l e m) e n ≡ plus_at l e (m + n)
unfolding plus_at
plus-twice [] e m n = refl
plus-twice (x ∷ l) zero m n = ap (λ (t : ℕ). t ∷ l) (omega arith)
plus-twice (x ∷ l) (suc e) m n = ap (λ (t : List ℕ). x ∷ t) (plus-twice l e m n)

pub plus-swap : (l : List ℕ) (d m e n : ℕ) → plus_at (plus_at l d m) e n ≡ plus_at (plus_at l e n) d m
unfolding plus_at
plus-swap [] d m e n = refl
plus-swap (x ∷ l) zero m zero n = ap (λ (t : ℕ). t ∷ l) (omega arith)
plus-swap (x ∷ l) zero m (suc e) n = refl
plus-swap (x ∷ l) (suc d) m zero n = refl
plus-swap (x ∷ l) (suc d) m (suc e) n = ap (λ (t : List ℕ). x ∷ t) (plus-swap l d m e n)

pub plus-most : (l : List ℕ) (d n e : ℕ) → get_or l e 0 ≤ get_or (plus_at l d n) e 0
unfolding plus_at
plus-most [] d n e = omega arith
plus-most (x ∷ l) zero n zero = omega arith
plus-most (x ∷ l) zero n (suc e) = omega arith
plus-most (x ∷ l) (suc d) n zero = omega arith
plus-most (x ∷ l) (suc d) n (suc e) = plus-most l d n e

pub plus-here : (l : List ℕ) (e n : ℕ) → e < length l → get_or (plus_at l e n) e 0 ≡ get_or l e 0 + n
unfolding plus_at
plus-here [] e n h = absurd (omega arith)
plus-here (x ∷ l) zero n h = refl
plus-here (x ∷ l) (suc e) n h = plus-here l e n (omega arith)

pub plus-length : (l : List ℕ) (e n : ℕ) → length (plus_at l e n) ≡ length l
unfolding plus_at
plus-length [] e n = refl
plus-length (x ∷ l) zero n = refl
plus-length (x ∷ l) (suc e) n = ap suc (plus-length l e n)

places-plus-one : (f : ℕ → ℕ) (n s i : ℕ) → plus_at (places f n s) i 1 ≡ places (λ e. f e + one (eqb (s + i) e)) n s
unfolding plus_at places
places-plus-one f zero s i = refl
places-plus-one f (suc n) s zero =
    ap₂ ◌∷◌ (rw (eq-eqb (s + 0) s (omega arith)) refl)
    (places_same f _ n (suc s) (λ e a b. rw (ne_eqb (s + 0) e (λ q. omega arith)) (sym (add-zero (f e)))))
places-plus-one f (suc n) s (suc i) =
    ap₂ ◌∷◌ (rw (ne_eqb (s + suc i) s (λ q. omega arith)) (sym (add-zero (f s))))
    (places-plus-one f n (suc s) i ∙ places_same _ _ n (suc s) (λ e a b. ap (λ (m : ℕ). f e + one (eqb m e)) (omega arith)))

-- ---- the numbers of points
pub number_append : (k e : ℕ) (l m : List Point) → number k e (l ++ m) ≡ number k e l + number k e m
unfolding number
number_append k e [] m = omega arith
number_append k e (v ∷ l) m = let r = number_append k e l m in omega arith

one-most : (b : Bool) → one b ≤ 1
one-most true = omega arith
one-most false = omega arith

pub number-most : (k e : ℕ) (l : List Point) → number k e l ≤ length l
unfolding number
number-most k e [] = omega arith
number-most k e (v ∷ l) = let r = number-most k e l in let o = one-most (eqb (exponent_of k v) e) in omega arith

module _ (k : ℕ) (l : List Point) (v : Point) where
  abbrev more : List Point
  more = l ++ (v ∷ [])

  number_more : (e : ℕ) → number k e more ≡ number k e l + one (eqb (exponent_of k v) e)
  unfolding number
  number_more e = number_append k e l (v ∷ []) ∙ ap (λ (n : ℕ). number k e l + n) (add-zero (one (eqb (exponent_of k v) e)))

  -- one point more: the number of its exponent grows by one, if that is at most 20
  pub spread-more : plus_at (spread k l) (exponent_of k v) 1 ≡ spread k more
  spread-more =
      let i = exponent_of k v in
      places-plus-one (λ e. number k e l) 21 0 i
      ∙ places_same _ _ 21 0 (λ e a b. ap (λ (m : ℕ). number k e l + one (eqb m e)) (omega arith) ∙ sym (number_more e))

-- ---- points that all have the exponent k
none_each : replicate 21 0 ≡ each (λ e. 0)
unfolding places
none_each = refl

pub alone-set : (n k : ℕ) → set (replicate 21 0) k n ≡ alone n k
alone-set n k =
    ap (λ (l : List ℕ). set l k n) none_each ∙ places-set (λ e. 0) n 21 0 k
    ∙ places_same _ _ 21 0 (λ e a b. ap (λ (m : ℕ). cond (eqb m e) n 0) (omega arith))

pub alone-past : (n k : ℕ) → 21 ≤ k → replicate 21 0 ≡ alone n k
alone-past n k h = none_each ∙ places_same _ _ 21 0 (λ e a b. rw (ne_eqb k e (λ q. omega arith)) refl)

abbrev pub AllNew : ℕ → List Point → Type 0
AllNew k [] = Unit {0}
AllNew k (v ∷ l) = (exponent_of k v ≡ k) × AllNew k l

new_number : (k e : ℕ) (l : List Point) → AllNew k l → number k e l ≡ cond (eqb k e) (length l) 0
unfolding number
new_number k e [] h = go (eqb k e)
  where
    go : (b : Bool) → ◌≡◌ {A = ℕ} 0 (cond b 0 0)
    go true = refl
    go false = refl
new_number k e (v ∷ l) h = rw (h.0, new_number k e l h.1) (go (eqb k e))
  where
    go : (b : Bool) → one b + cond b (length l) 0 ≡ cond b (suc (length l)) 0
    go true = omega arith
    go false = refl

pub new_spread : (k : ℕ) (l : List Point) → AllNew k l → spread k l ≡ alone (length l) k
new_spread k l h = places_same _ _ 21 0 (λ e a b. new_number k e l h)

-- ---- sums
places-none : (n s : ℕ) → sum (places (λ e. 0) n s) ≡ 0
unfolding places
places-none zero s = refl
places-none (suc n) s = let r = places-none n (suc s) in omega arith

places-plus : (f g : ℕ → ℕ) (n s : ℕ) → sum (places (λ e. f e + g e) n s) ≡ sum (places f n s) + sum (places g n s)
unfolding places
places-plus f g zero s = omega arith
places-plus f g (suc n) s = let r = places-plus f g n (suc s) in omega arith

behind : (x n s : ℕ) → x < s → sum (places (λ e. one (eqb x e)) n s) ≡ 0
behind x n s h = ap sum (places_same _ _ n s (λ e a b. rw (ne_eqb x e (λ q. omega arith)) refl)) ∙ places-none n s

places-one : (x n s : ℕ) → s ≤ x → x < s + n → sum (places (λ e. one (eqb x e)) n s) ≡ 1
unfolding places
places-one x zero s a b = absurd (omega arith)
places-one x (suc n) s a b = go (eqb x s) refl (places-one x n (suc s))
  where
    go : (t : Bool) → eqb x s ≡ t → (suc s ≤ x → x < suc s + n → sum (places (λ e. one (eqb x e)) n (suc s)) ≡ 1) → one (eqb x s) + sum (places (λ e. one (eqb x e)) n (suc s)) ≡ 1
    go true q f = let e = eqb-true x s q in rw (q, behind x n (suc s) (omega arith)) refl
    go false q f = let d = eqb-false x s q in let r = f (omega (arith, d)) (omega arith) in rw q (omega arith)

abbrev pub AllCounted : ℕ → List Point → Type 0
AllCounted k [] = Unit {0}
AllCounted k (v ∷ l) = (exponent_of k v < 21) × AllCounted k l

-- together they are all points
pub spread-sum : (k : ℕ) (l : List Point) → AllCounted k l → sum (spread k l) ≡ length l
unfolding number
spread-sum k [] h = places-none 21 0
spread-sum k (v ∷ l) h =
    let x = exponent_of k v in
    let r = spread-sum k l h.1 in
    let o = places-one x 21 0 (omega arith) h.0 in
    places-plus (λ e. one (eqb x e)) (λ e. number k e l) 21 0 ∙ omega arith
