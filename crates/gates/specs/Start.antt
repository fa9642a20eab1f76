-- The word from its start to its end: what is written so far, with what is left, is the word.
use Rattle.std.specs.Prelude.{◌≡◌, refl, Bool, cond, List, [], ◌∷◌, ◌++◌, ℕ, ◌+◌, ◌-◌, ◌≤◌, ◌<◌, length}
use Rattle.std.proofs.Common.{sym, ◌∙◌, subst, append_assoc, arith, length-append}
use Rattle.std.proofs.Math.Path.{ap}
use Rattle.std.proofs.Math.Bool.{true, false}
use Rattle.record_ranges.specs.Ranges.{top_scale}
use Rattle.ring.specs.declared.Point.{Point}
use Rattle.ring.specs.Point.Exponent.{exponent_of}
use Rattle.gate_theory.specs.declared.State.{State}
use Rattle.gate_theory.specs.State.{Equation, is_bare, next, Ready}
use Rattle.gate_theory.specs.Table.{Letter, T, tail}
use Rattle.gate_theory.specs.Word.{syllable, syllables, without-T, front, bare_at_zero, spelled, reduced, body, word}
use Rattle.gate_theory.proofs.lemmas.Least.{Least, reduced-least}
use Rattle.gate_theory.proofs.lemmas.Number.{starts, starts-T}
use Rattle.gate_theory.proofs.lemmas.Length.{stage_small, reduced-k, word-length}
use Rattle.gates.specs.Written.{Word, written, bytes, bytes-++, Adds, Writes}
use Rattle.gates.specs.Going.{Going, body_more, body-none, goes}

-- ---- the loop: n syllables of r are left
pub record Left (r : ℕ) (s : State) (w : Word) (n : ℕ) (x : State) (v : Word) : Type 0 where
  pub going : Going n x v
  pub letters : written v ++ bytes (body n x) ≡ written w ++ bytes (body r s)
  pub len : v.len + length (body n x) ≡ w.len + length (body r s)

pub left-all : {r : ℕ} {s : State} {w : Word} → Going r s w → Left r s w r s w
left-all g = record { going = g; letters = refl; len = refl }

-- v with more behind it
behind : (v o : Word) (x y : List Letter) → Adds v x o → (written o ++ bytes y ≡ written v ++ bytes (x ++ y)) × (o.len + length y ≡ v.len + length (x ++ y))
behind v o x y a = (ap (λ l. l ++ bytes y) a.letters ∙ append_assoc (written v) (bytes x) (bytes y) ∙ ap (λ l. written v ++ l) (sym (bytes-++ x y)), omega (arith, a.len, length-append x y))

module _ {r : ℕ} {s : State} {w : Word} {n : ℕ} {x : State} {v : Word} (l : Left r s w n x v) (o : Word) where
  pub left-more : 0 < n → Adds v (syllable (is_bare x)) o → Left r s w (n - 1) (next x) o
  left-more h a =
      let b = behind v o (syllable (is_bare x)) (body (n - 1) (next x)) a in
      let e = body_more n x h in
      record {
        going = goes h l.going o a.len;
        letters = b.0 ∙ ap (λ z. written v ++ bytes z) (sym e) ∙ l.letters;
        len = b.1 ∙ ap (λ z. v.len + length z) (sym e) ∙ l.len;
      }

  pub left-none : n ≡ 0 → Adds v (tail x) o → Adds w (body r s) o
  left-none h a =
      let e = body-none n x h in
      record { letters = a.letters ∙ ap (λ z. written v ++ bytes z) (sym e) ∙ l.letters; len = a.len ∙ ap (λ z. v.len + length z) (sym e) ∙ l.len }

-- ---- the start, with or without a T
abbrev pub lead : Bool → List Letter
lead true = []
lead false = T ∷ []

abbrev pub start : Bool → State → State
start b s = cond b s (without-T s)

module _ (k : ℕ) (u t : Point) (e : Equation k u t) (h : k ≤ top_scale) {s : State} (d : s ≡ reduced k u t) where
  least : Least (exponent_of k u) s
  least = subst (Least (exponent_of k u)) (sym d) (reduced-least k u t e)

  pub low : s.k ≤ top_scale
  low = rw d (omega (arith, reduced-k k u t))

  pub no_phase : s.l ≡ 0
  no_phase = least.phase

  pub solved : Equation s.k s.u s.t
  solved = least.equation

  pub staged : (b : Bool) → bare_at_zero s ≡ b → Ready (syllables (start b s)) (start b s)
  staged true b = starts _ s least b
  staged false b = starts-T _ s least b

  pub start-low : (b : Bool) → (start b s).k ≤ top_scale
  start-low true = low
  start-low false = low

  pub start-phase : (b : Bool) → (start b s).l ≤ 7
  start-phase true = omega (arith, no_phase)
  start-phase false = omega (arith, no_phase)

  pub starts_going : (b : Bool) {w : Word} → bare_at_zero s ≡ b → w.len ≤ 1 → Going (syllables (start b s)) (start b s) w
  starts_going b {w} f n =
      let r = staged b f in
      let m = stage_small (syllables (start b s)) (start b s) (start-low b) r.stage in
      record { ready = r; scale = start-low b; phase = omega (arith, start-phase b); room = omega arith }

  spelled_is : (b : Bool) → bare_at_zero s ≡ b → lead b ++ body (syllables (start b s)) (start b s) ≡ word k u t
  unfolding word
  spelled_is true b = ap (λ b. front b s) (sym b) ∙ ap spelled d
  spelled_is false b = ap (λ b. front b s) (sym b) ∙ ap spelled d

  pub writes : (b : Bool) {w o : Word} → bare_at_zero s ≡ b → Writes w (lead b) → Adds w (body (syllables (start b s)) (start b s)) o → Writes o (word k u t)
  writes b {w} {o} f n a =
      let v = body (syllables (start b s)) (start b s) in
      let g = spelled_is b f in
      let len : o.len ≡ length (word k u t) = omega (arith, a.len, n.len, length-append (lead b) v, ap length g) in
      record { letters = a.letters ∙ ap (λ l. l ++ bytes v) n.letters ∙ sym (bytes-++ (lead b) v) ∙ ap bytes g; len = len; room = omega (arith, word-length k u t h e) }
