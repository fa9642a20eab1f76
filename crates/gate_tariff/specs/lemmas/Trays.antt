-- Ticket 13: what a tray costs, the first refusal, and a tray of one word.
use Rattle.std.specs.Prelude.{◌≡◌, refl, Bool, true, false, not, cond, ◌&&◌, List, [], ◌∷◌, ◌++◌, ℕ, ◌+◌, ◌-◌, eqb, leb, length, Result, Ok, Err}
use Rattle.std.proofs.Common.{sym, ap, ◌∙◌, arith, length-append}
use Rattle.std.proofs.lemmas.Bool.{false≢true}
use Rattle.std.proofs.lemmas.List.{get_or_at}
use Rattle.integers.specs.lemmas.Booleans.{both_true}
use Rattle.gate_alphabet.specs.Letters.{letters_of, are_letters}
use Rattle.gate_tariff.specs.declared.Tariff.{Tariff}
use Rattle.gate_tariff.specs.declared.Refusal.{Refusal}
use Rattle.gate_tariff.specs.declared.Refusal.TheVariants.{OutOfRange, NotALetter, NotATray}
use Rattle.gate_tariff.specs.Tariff.{top_length, in_range, sum_of, rounded, ticks_of, answered, cost_of}
use Rattle.gate_tariff.specs.Tray.{begun, words_of, closes, is_tray, plus, total_of, tray_of}

-- ---- "the sum of their costs, each rounded": what a tray costs, where no word is refused
abbrev pub cost_in : Tariff → List ℕ → ℕ
cost_in p w = rounded (sum_of p (letters_of w))

unfoldable pub costs_in : Tariff → List (List ℕ) → ℕ
costs_in p [] = 0
costs_in p (w ∷ ws) = cost_in p w + costs_in p ws

pub ticks_are : (p : Tariff) (w : List ℕ) (n : ℕ) → ticks_of p w ≡ Ok n → n ≡ cost_in p w
unfolding ticks_of
ticks_are p w n e = go (in_range p && leb (length w) top_length) (are_letters w) e
  where
    go : (a b : Bool) → cond a (cond b (Ok (cost_in p w)) (Err NotALetter)) (Err OutOfRange) ≡ Ok n → n ≡ cost_in p w
    go true true e = cc
    go true false e = absurd (let z : ◌≡◌ {A = ℕ} 0 1 = cc in omega arith)
    go false b e = absurd (let z : ◌≡◌ {A = ℕ} 0 1 = cc in omega arith)

pub total_is : (p : Tariff) (ws : List (List ℕ)) (n : ℕ) → total_of p ws ≡ Ok n → n ≡ costs_in p ws
unfolding total_of costs_in
total_is p [] n e = cc
total_is p (w ∷ ws) n e = go (ticks_of p w) (total_of p ws) (ticks_are p w) (total_is p ws) e
  where
    go : (x y : Result ℕ Refusal) → ((k : ℕ) → x ≡ Ok k → k ≡ cost_in p w) → ((k : ℕ) → y ≡ Ok k → k ≡ costs_in p ws) → plus x y ≡ Ok n → n ≡ cost_in p w + costs_in p ws
    go (Ok k) (Ok m) f g e = let i : n ≡ k + m = cc in omega (arith, f k refl, g m refl)
    go (Ok k) (Err why) f g e = absurd (let z : ◌≡◌ {A = ℕ} 0 1 = cc in omega arith)
    go (Err why) y f g e = absurd (let z : ◌≡◌ {A = ℕ} 0 1 = cc in omega arith)

-- "for each word in turn": where the words before pass, a word's refusal is the tray's, whatever follows
pub total_first : (p : Tariff) (vs : List (List ℕ)) (w : List ℕ) (ws : List (List ℕ)) (n : ℕ) (why : Refusal) → total_of p vs ≡ Ok n → ticks_of p w ≡ Err why → total_of p (vs ++ w ∷ ws) ≡ Err why
unfolding total_of
total_first p [] w ws n why e f = rw f refl
total_first p (v ∷ vs) w ws n why e f = go (ticks_of p v) (total_of p vs) e (λ m g. total_first p vs w ws m why g f)
  where
    go : (x y : Result ℕ Refusal) → plus x y ≡ Ok n → ((m : ℕ) → y ≡ Ok m → total_of p (vs ++ w ∷ ws) ≡ Err why) → plus x (total_of p (vs ++ w ∷ ws)) ≡ Err why
    go (Ok k) (Ok m) e g = rw (g m refl) refl
    go (Ok k) (Err f) e g = absurd (let z : ◌≡◌ {A = ℕ} 0 1 = cc in omega arith)
    go (Err f) y e g = absurd (let z : ◌≡◌ {A = ℕ} 0 1 = cc in omega arith)

-- "yes exactly when" that sum "is not above the memory"
pub tray_yes : (p : Tariff) (s : List ℕ) (m n : ℕ) (b : Bool) → tray_of p s m ≡ Ok (n, b) → (n ≡ costs_in p (words_of s)) × (b ≡ leb n m)
unfolding tray_of
tray_yes p s m n b e = go (is_tray s) (total_of p (words_of s)) (total_is p (words_of s)) e
  where
    go : (t : Bool) (x : Result ℕ Refusal) → ((k : ℕ) → x ≡ Ok k → k ≡ costs_in p (words_of s)) → cond t (answered m x) (Err NotATray) ≡ Ok (n, b) → (n ≡ costs_in p (words_of s)) × (b ≡ leb n m)
    go true (Ok k) f e =
        let z : ◌≡◌ {A = ℕ × Bool} (n, b) (k, leb k m) = cc in
        let i : n ≡ k = ap (λ (x : ℕ × Bool). x.0) z in
        let j : b ≡ leb k m = ap (λ (x : ℕ × Bool). x.1) z in
        (i ∙ f k refl, j ∙ ap (λ (x : ℕ). leb x m) (sym i))
    go true (Err why) f e = absurd (let z : ◌≡◌ {A = ℕ} 0 1 = cc in omega arith)
    go false x f e = absurd (let z : ◌≡◌ {A = ℕ} 0 1 = cc in omega arith)

-- ---- words without line feeds, each closed by one
unfoldable pub is_plain : List ℕ → Bool
is_plain [] = true
is_plain (b ∷ w) = not (eqb b 10) && is_plain w

unfoldable pub are_plain : List (List ℕ) → Bool
are_plain [] = true
are_plain (w ∷ ws) = is_plain w && are_plain ws

unfoldable pub closed : List (List ℕ) → List ℕ
closed [] = []
closed (w ∷ ws) = w ++ 10 ∷ closed ws

not_feed : (b : Bool) → not b ≡ true → b ≡ false
not_feed true e = absurd (false≢true e)
not_feed false e = refl

-- the first word ends at the first line feed
pub first_word : (w s : List ℕ) → is_plain w ≡ true → words_of (w ++ 10 ∷ s) ≡ w ∷ words_of s
unfolding words_of is_plain
first_word [] s e = refl
first_word (b ∷ w) s e =
    let (f, g) = both_true (not (eqb b 10)) (is_plain w) e in
    rw (not_feed (eqb b 10) f) (ap (begun b) (first_word w s g))

pub words-closed : (ws : List (List ℕ)) → are_plain ws ≡ true → words_of (closed ws) ≡ ws
unfolding closed are_plain words_of
words-closed [] e = refl
words-closed (w ∷ ws) e =
    let (f, g) = both_true (is_plain w) (are_plain ws) e in
    first_word w (closed ws) f ∙ ap (λ (x : List (List ℕ)). w ∷ x) (words-closed ws g)

-- ---- "A tray of one answers as the single question does"
closes-one : (w : List ℕ) → closes (w ++ 10 ∷ []) ≡ true
closes-one w =
    let e : length (w ++ 10 ∷ []) - 1 ≡ length w = omega (arith, length-append w (10 ∷ [])) in
    rw (e, get_or_at w 10 [] 0 (length w) refl) refl

plus-zero : (x : Result ℕ Refusal) → plus x (Ok 0) ≡ x
plus-zero (Ok n) = let e : n + 0 ≡ n = omega arith in ap Ok e
plus-zero (Err why) = refl

pub tray_one : (p : Tariff) (w : List ℕ) (m : ℕ) → is_plain w ≡ true → tray_of p (w ++ 10 ∷ []) m ≡ cost_of p w m
unfolding tray_of cost_of total_of is_tray words_of
tray_one p w m e =
    let f : words_of (w ++ 10 ∷ []) ≡ w ∷ [] = first_word w [] e in
    rw (closes-one w, f, plus-zero (ticks_of p w)) refl
