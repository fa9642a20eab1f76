-- What a desk asks next: of Ticket 8 the letters in another order, and two words one after the other; of Ticket 13 the sum of the single answers.
use Rattle.gate_tariff.specs.declared.Refusal.{Refusal}
use Rattle.std.specs.Prelude.{◌≡◌, Bool, true, false, ◌&&◌, ℕ, suc, ◌+◌, ◌≤◌, length, Result, Ok, Err}
use Rattle.std.proofs.Math.Path.{refl, ap₂}
use Rattle.std.proofs.Common.{ap, ◌∙◌}
use mathlib.Core.List.{List, [], ◌∷◌, ◌++◌, Permᴰ}
use native.Mathlib.Omega.{arith}
use Rattle.gate_alphabet.specs.Letters.{letter_of, letters_of, is_letter, are_letters}
use Rattle.gate_tariff.specs.declared.Tariff.{Tariff}
use Rattle.gate_tariff.specs.Tariff.{price, sum_of, ticks_of, answered, cost_of}
use Rattle.gate_tariff.specs.Tray.{words_of, is_tray, plus, total_of, tray_of}
use Rattle.gate_tariff.specs.lemmas.Trays.{ticks_are}

-- ---- the same bytes in another order
swap_and : (x y z : Bool) → x && (y && z) ≡ y && (x && z)
swap_and true y z = refl
swap_and false true z = refl
swap_and false false z = refl

length-order : {v w : List ℕ} → Permᴰ v w → length v ≡ length w
length-order Permᴰ.nil = refl
length-order (Permᴰ.cons e r) = ap suc (length-order r)
length-order (Permᴰ.swap e f) = refl
length-order (Permᴰ.trans r s) = length-order r ∙ length-order s

letters-order : {v w : List ℕ} → Permᴰ v w → are_letters v ≡ are_letters w
unfolding are_letters
letters-order Permᴰ.nil = refl
letters-order (Permᴰ.cons e r) = ap₂ (λ (x : ℕ) (y : Bool). is_letter x && y) e (letters-order r)
letters-order (Permᴰ.swap {a} {b} {a'} {b'} {l} e f) =
    swap_and (is_letter a) (is_letter b) (are_letters l) ∙ ap₂ (λ (x y : ℕ). is_letter x && (is_letter y && are_letters l)) f e
letters-order (Permᴰ.trans r s) = letters-order r ∙ letters-order s

module _ (p : Tariff) where
  abbrev price_of : ℕ → ℕ
  price_of b = price p (letter_of b)

  abbrev sum : List ℕ → ℕ
  sum w = sum_of p (letters_of w)

  sum-order : {v w : List ℕ} → Permᴰ v w → sum v ≡ sum w
  unfolding sum_of letters_of
  sum-order Permᴰ.nil = refl
  sum-order (Permᴰ.cons e r) = ap₂ (λ (x y : ℕ). price_of x + y) e (sum-order r)
  sum-order (Permᴰ.swap {a} {b} {a'} {b'} {l} e f) =
      let h : price_of a + (price_of b + sum l) ≡ price_of b + (price_of a + sum l) = omega arith in
      h ∙ ap₂ (λ (x y : ℕ). price_of x + (price_of y + sum l)) f e
  sum-order (Permᴰ.trans r s) = sum-order r ∙ sum-order s

  -- the answer is the same, a refusal too
  pub cost_order : {v w : List ℕ} (m : ℕ) → Permᴰ v w → cost_of p v m ≡ cost_of p w m
  unfolding cost_of ticks_of
  cost_order m r = rw (length-order r, letters-order r, sum-order r) refl

  -- ---- two words one after the other: "rounded up once"
  sum-++ : (v w : List ℕ) → sum (v ++ w) ≡ sum v + sum w
  unfolding sum_of letters_of
  sum-++ [] w = omega arith
  sum-++ (x ∷ v) w = omega (arith, sum-++ v w)

  -- at most the sum of the two costs, and at least that less one tick
  pub cost-++ : (v w : List ℕ) (a b c : ℕ) → ticks_of p v ≡ Ok a → ticks_of p w ≡ Ok b → ticks_of p (v ++ w) ≡ Ok c → (c ≤ a + b) × (a + b ≤ c + 1)
  cost-++ v w a b c e f g =
      let h = sum-++ v w in
      let i = ticks_are p v a e in
      let j = ticks_are p w b f in
      let k = ticks_are p (v ++ w) c g in
      (omega arith, omega arith)

  -- ---- a tray's answer is the comparison of the sum of what the single question answers for each word
  abbrev pub ticks_in : Result (ℕ × Bool) Refusal → Result ℕ Refusal
  ticks_in (Ok (n, fits)) = Ok n
  ticks_in (Err why) = Err why

  ticks-in : (m : ℕ) (x : Result ℕ Refusal) → ticks_in (answered m x) ≡ x
  ticks-in m (Ok n) = refl
  ticks-in m (Err why) = refl

  -- the words asked one by one, each of a memory
  unfoldable pub asked_each : ℕ → List (List ℕ) → Result ℕ Refusal
  asked_each m [] = Ok 0
  asked_each m (w ∷ ws) = plus (ticks_in (cost_of p w m)) (asked_each m ws)

  each-total : (m : ℕ) (ws : List (List ℕ)) → asked_each m ws ≡ total_of p ws
  unfolding asked_each total_of cost_of
  each-total m [] = refl
  each-total m (w ∷ ws) = ap₂ plus (ticks-in m (ticks_of p w)) (each-total m ws)

  pub tray_sum : (s : List ℕ) (m : ℕ) → is_tray s ≡ true → tray_of p s m ≡ answered m (asked_each m (words_of s))
  unfolding tray_of
  tray_sum s m e = rw (e, each-total m (words_of s)) refl
