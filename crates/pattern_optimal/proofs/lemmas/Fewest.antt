-- Every word in H, S, T and W has a normal form of its product with no more T, and as many by 2: so a normal form has the fewest T of all words of its product. SPEC, "Gate words".
use Rattle.std.specs.Prelude.{◌≡◌, refl, true, false, List, [], ◌∷◌, ℕ, suc, ◌+◌, ◌%◌, ◌≤◌, min}
use Rattle.std.proofs.Common.{sym, ◌∙◌, ap, arith}
use Rattle.ring.specs.declared.Point.{Point}
use Rattle.ring.specs.Point.Divide.{divide_odd-ac}
use Rattle.ring.specs.Point.Exponent.{exponent_of, exponent_not, pulse_count, pulse_is}
use Rattle.gate_theory.specs.State.{Equation}
use Rattle.gate_theory.specs.Table.{Letter, H, S, T, W}
use Rattle.gate_theory.specs.Matrix.{scale, ω^, Hs, Spells, made}
use Rattle.gate_theory.specs.Word.{word, Ts}
use Rattle.gate_theory.specs.Normal.{Same, Body, tails, syllabic, Normal, plainly, with-T}
use Rattle.gate_theory.proofs.lemmas.Number.{least-Ts}
use Rattle.gate_theory.proofs.Exact.{word-spells}
use Rattle.gate_theory.proofs.lemmas.Run.{run}
use Rattle.gate_theory.proofs.Tailed.{normal}
use Rattle.gate_theory.proofs.lemmas.Only.{same_of, only}
use Rattle.pattern_optimal.proofs.lemmas.Equal.{Equal, itself, then, before, beyond, of_same, to_same, rule}
use Rattle.pattern_optimal.proofs.lemmas.Unitary.{spells_equation}
use Rattle.pattern_optimal.proofs.lemmas.Closing.{closed, unphased}
use Rattle.pattern_optimal.specs.lemmas.Passing.{Passer, isS, isX, isW, letters_of}
use Rattle.pattern_optimal.proofs.lemmas.Passing.{Bodied, syllable-bodied, free-bodied, pass}

-- ---- a normal form with at most n T, and as many by 2
pub record Formed (n : ℕ) (w : List Letter) : Type 0 where
  pub word : List Letter
  pub normal : Normal word
  pub fewer : Ts word ≤ n
  pub parity : Ts word % 2 ≡ n % 2
  pub equal : Equal w word

without : {n : ℕ} {v w : List Letter} → Equal v w → Bodied n w → Formed n v
without e b = record { word = b.word; normal = plainly b.body; fewer = omega (arith, b.Ts-are); parity = ap (λ n. n % 2) b.Ts-are; equal = then e b.equal }

with_a-T : {n : ℕ} {v w : List Letter} → Equal v (T ∷ w) → Bodied n w → Formed (suc n) v
with_a-T {n} e b = record { word = T ∷ b.word; normal = with-T b.body; fewer = omega (arith, b.Ts-are); parity = ap (λ n. suc n % 2) b.Ts-are; equal = then e (before (T ∷ []) b.equal) }

bodied : (w : List Letter) → Body w → Bodied (Ts w) w
bodied w h = record { word = w; body = h; Ts-are = refl; equal = itself w }

two_fewer : {n : ℕ} {w : List Letter} → Formed n w → Formed (suc (suc n)) w
two_fewer f = record { word = f.word; normal = f.normal; fewer = omega (arith, f.fewer); parity = omega (arith, f.parity); equal = f.equal }

-- what HSHT leaves behind SHT
abbrev behind : List Passer
behind = isW ∷ isS ∷ isS ∷ isS ∷ isX ∷ isW ∷ isS ∷ isS ∷ isS ∷ []

-- ---- a letter before a normal form
lettered : (x : Letter) (w : List Letter) → Normal w → Formed (Ts (x ∷ w)) (x ∷ w)
lettered T w (plainly h) = with_a-T (itself (T ∷ w)) (bodied w h)
lettered T w (with-T {w = v} h) = two_fewer (without (beyond v (rule (T ∷ T ∷ []) (S ∷ []) refl refl refl)) (pass (isS ∷ []) v h))
lettered H w (plainly (tails t)) = without (itself (H ∷ w)) (rw t.free (free-bodied (H ∷ w) t.free))
lettered H w (plainly (syllabic true {w = v} h)) = with_a-T (beyond v (rule (H ∷ H ∷ T ∷ []) (T ∷ []) refl refl refl)) (bodied v h)
lettered H w (plainly (syllabic false {w = v} h)) = without (beyond v (rule (H ∷ S ∷ H ∷ T ∷ []) (S ∷ H ∷ T ∷ letters_of behind []) refl refl refl)) (syllable-bodied false (pass behind v h))
lettered H w (with-T {w = v} h) = without (itself (H ∷ T ∷ v)) (bodied (H ∷ T ∷ v) (syllabic true h))
lettered S w (plainly h) = without (itself (S ∷ w)) (pass (isS ∷ []) w h)
lettered S w (with-T {w = v} h) = with_a-T (beyond v (rule (S ∷ T ∷ []) (T ∷ S ∷ []) refl refl refl)) (pass (isS ∷ []) v h)
lettered W w (plainly h) = without (itself (W ∷ w)) (pass (isW ∷ []) w h)
lettered W w (with-T {w = v} h) = with_a-T (beyond v (rule (W ∷ T ∷ []) (T ∷ W ∷ []) refl refl refl)) (pass (isW ∷ []) v h)

more : (x : Letter) (v w : List Letter) → Ts v ≤ Ts w → Ts v % 2 ≡ Ts w % 2 → (Ts (x ∷ v) ≤ Ts (x ∷ w)) × (Ts (x ∷ v) % 2 ≡ Ts (x ∷ w) % 2)
more H v w h p = (h, p)
more S v w h p = (h, p)
more T v w h p = (omega arith, omega arith)
more W v w h p = (h, p)

-- every word has a normal form, with no more T
pub formed : (w : List Letter) → Formed (Ts w) w
formed [] = without (itself []) (free-bodied [] refl)
formed (x ∷ w) =
    let f = formed w in
    let g = lettered x f.word f.normal in
    let (a, b) = more x f.word w f.fewer f.parity in
    record { word = g.word; normal = g.normal; fewer = omega (arith, g.fewer); parity = g.parity ∙ b; equal = then (before (x ∷ []) f.equal) g.equal }

-- ---- no word of its product has fewer T than a normal form; and all have as many by 2
module _ (v w : List Letter) (n : Normal v) (e : Same v w) where
  is-formed : v ≡ (formed w).word
  is-formed = only v (formed w).word n (formed w).normal (to_same (then (of_same v w e) (formed w).equal))

  pub normal_fewest : Ts v ≤ Ts w
  normal_fewest = rw is-formed (formed w).fewer

  pub normal_parity : Ts v % 2 ≡ Ts w % 2
  normal_parity = rw is-formed (formed w).parity

-- the word of a matrix has the fewest T of all words that spell the matrix
module _ (k : ℕ) (u t : Point) (w : List Letter) (s : Spells w k (made u t 0)) where
  e : Equation k u t
  e = spells_equation w k u t 0 s

  word_same : Same (word k u t) w
  word_same = same_of (word k u t) w k (made u t 0) (word-spells k u t e) s

  pub word-fewest : Ts (word k u t) ≤ Ts w
  word-fewest = normal_fewest (word k u t) w (normal k u t e) word_same

  pub word-parity : Ts (word k u t) % 2 ≡ Ts w % 2
  word-parity = normal_parity (word k u t) w (normal k u t e) word_same

-- and of all that spell it up to a phase
pub phased-fewest : (k : ℕ) (u t : Point) (n : ℕ) (w : List Letter) → Spells w k (scale (ω^ n) (made u t 0)) → Ts (word k u t) ≤ Ts w
phased-fewest k u t n w s = let c = unphased w k n (made u t 0) s in omega (arith, word-fewest k u t c.word c.spells, c.Ts-are)

-- ---- a word has the pulse count of its u at least, or one less where its determinant is an odd power of ω
less-min : (a b n : ℕ) → min a b ≡ n → n ≤ a
less-min a b n e = omega arith

pub pulses : (i : ℕ) (u t : Point) (l : ℕ) (w : List Letter) → Spells w i (made u t l) → pulse_count (exponent_of i u) ≤ Ts w + l % 2
pulses i u t l w s =
    let c = closed w i u t l s in
    omega (arith, word-fewest i u t c.word c.spells, c.Ts-are, less-min _ _ _ (least-Ts i u t (spells_equation w i u t l s)), pulse_is (exponent_of i u))

-- as that of HTH is: its u, 1 + ω over √2², has pulse count 2
abbrev spare : List Letter
spare = H ∷ T ∷ H ∷ []

pub spared : (pulse_count (exponent_of (Hs spare) (run spare).u) ≡ 2) × (Ts spare ≡ 1)
spared = (ap pulse_count (sym (exponent_not 2 (run spare).u (omega arith) (divide_odd-ac (run spare).u refl))) ∙ pulse_is 2, refl)
