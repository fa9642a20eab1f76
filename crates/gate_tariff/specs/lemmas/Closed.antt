-- Which bytes are a tray: one to eight words without line feeds, each closed by one, and nothing else.
use Rattle.std.specs.Prelude.{◌≡◌, refl, Bool, true, false, cond, List, [], ◌∷◌, ◌++◌, ◌↔◌, ℕ, ◌+◌, ◌-◌, ◌≤◌, ◌<◌, eqb, leb, length, get_or}
use Rattle.std.proofs.Common.{sym, ap, ap₂, ◌∙◌, arith, length-append, get_or-append-add, eqb-true, leb-true, le-leb}
use Rattle.std.proofs.lemmas.Bool.{false≢true}
use Rattle.integers.specs.lemmas.Booleans.{both_true, both_of}
use Rattle.gate_tariff.specs.Tray.{begun, words_of, closes, is_tray}
use Rattle.gate_tariff.specs.lemmas.Trays.{is_plain, are_plain, closed, words-closed}

-- ---- the words of some bytes have no line feed
begun-plain : (b : ℕ) (ws : List (List ℕ)) → eqb b 10 ≡ false → are_plain ws ≡ true → are_plain (begun b ws) ≡ true
unfolding are_plain is_plain
begun-plain b [] e f = refl
begun-plain b (w ∷ ws) e f = rw e f

plain-words : (s : List ℕ) → are_plain (words_of s) ≡ true
unfolding words_of are_plain is_plain
plain-words [] = refl
plain-words (b ∷ s) = go (eqb b 10) refl (plain-words s)
  where
    go : (q : Bool) → eqb b 10 ≡ q → are_plain (words_of s) ≡ true → are_plain (cond q ([] ∷ words_of s) (begun b (words_of s))) ≡ true
    go true e f = f
    go false e f = begun-plain b (words_of s) e f

-- ---- closed again, they are the bytes
closes-behind : (a r : List ℕ) → 0 < length r → closes (a ++ r) ≡ closes r
closes-behind a r h =
    let e : length (a ++ r) - 1 ≡ length a + (length r - 1) = omega (arith, length-append a r) in
    ap (λ (k : ℕ). eqb (get_or (a ++ r) k 0) 10) e ∙ ap (λ (x : ℕ). eqb x 10) (get_or-append-add a r (length r - 1) 0)

begun-closed : (b : ℕ) (ws : List (List ℕ)) → 0 < length (closed ws) → closed (begun b ws) ≡ b ∷ closed ws
unfolding closed
begun-closed b [] h = absurd (omega arith)
begun-closed b (w ∷ ws) h = refl

closed-words : (s : List ℕ) → (0 < length s → closes s ≡ true) → closed (words_of s) ≡ s
unfolding words_of closed
closed-words [] h = refl
closed-words (b ∷ s) h = go (eqb b 10) refl (closed-words s (λ k. sym (closes-behind (b ∷ []) s k) ∙ h (omega arith)))
  where
    more : (t : List ℕ) → closes (b ∷ t) ≡ true → eqb b 10 ≡ false → 0 < length t
    more [] c e = absurd (false≢true (sym e ∙ c))
    more (x ∷ t) c e = omega arith

    go : (q : Bool) → eqb b 10 ≡ q → closed (words_of s) ≡ s → closed (cond q ([] ∷ words_of s) (begun b (words_of s))) ≡ b ∷ s
    go true e rest = ap₂ ◌∷◌ (sym (eqb-true b 10 e)) rest
    go false e rest =
        let l : 0 < length (closed (words_of s)) = rw rest (more s (h (omega arith)) e) in
        begun-closed b (words_of s) l ∙ ap (λ (t : List ℕ). b ∷ t) rest

-- ---- so a tray is what the document says
pub record Tray (s : List ℕ) : Type 0 where
  pub words : List (List ℕ)
  pub some : 1 ≤ length words
  pub few : length words ≤ 8
  pub plain : are_plain words ≡ true
  pub is : s ≡ closed words

closes-closed : (ws : List (List ℕ)) → 1 ≤ length ws → closes (closed ws) ≡ true
unfolding closed
closes-closed [] h = absurd (omega arith)
closes-closed (w ∷ []) h = closes-behind w (10 ∷ []) (omega arith)
closes-closed (w ∷ v ∷ ws) h =
    closes-behind w (10 ∷ closed (v ∷ ws)) (omega arith) ∙ closes-behind (10 ∷ []) (closed (v ∷ ws)) (long v ws) ∙ closes-closed (v ∷ ws) (omega arith)
  where
    long : (v : List ℕ) (ws : List (List ℕ)) → 0 < length (closed (v ∷ ws))
    long v ws = omega (arith, length-append v (10 ∷ closed ws))

pub tray_iff : (s : List ℕ) → (is_tray s ≡ true) ↔ Tray s
unfolding is_tray closed
tray_iff s = (to, from)
  where
    some_word : (ws : List (List ℕ)) → closes s ≡ true → closed ws ≡ s → 1 ≤ length ws
    some_word [] c e = absurd (false≢true (rw (sym e) at c))
    some_word (w ∷ ws) c e = omega arith

    to : is_tray s ≡ true → Tray s
    to e =
        let (c, n) = both_true (closes s) (leb (length (words_of s)) 8) e in
        let i = closed-words s (λ k. c) in
        record { words = words_of s; some = some_word (words_of s) c i; few = leb-true (length (words_of s)) 8 n; plain = plain-words s; is = sym i }

    from : Tray s → is_tray s ≡ true
    from t = both_of
        (ap closes t.is ∙ closes-closed t.words t.some)
        (le-leb (length (words_of s)) 8 (rw (t.is, words-closed t.words t.plain) t.few))
