-- How each answer is reached, and what its part is.
use Rattle.std.specs.Prelude.{◌≡◌, Bool, true, false, not, ◌&&◌, List, ℕ, ◌≤◌, ◌<◌, leb, ltb, ◌-ℤ◌, ◌*ℤ◌, length, take, drop}
use Rattle.std.proofs.Math.Path.{refl, sym, ap, ap₂}
use Rattle.std.proofs.Common.{◌∙◌, arith, take_at, lt-ltb, le-ltb}
use Rattle.std.proofs.Math.Bool.{cond}
use Rattle.std.proofs.Math.IntN.{◌+ℤ◌, +ℤ_assoc}
use Rattle.integers.specs.lemmas.Booleans.{both_true}
use Rattle.ring.specs.declared.Point.{Point}
use Rattle.entry_equation.specs.Equation.{squares, cross, completes}
use Rattle.entry_equation.specs.lemmas.Tests.{same_true}
use Rattle.record_ranges.specs.Ranges.{top_scale}
use Rattle.gate_theory.specs.Points.{N, F}
use Rattle.gate_theory.specs.State.{Equation}
use Rattle.gate_theory.specs.Table.{Letter}
use Rattle.gates.specs.Written.{Word, written, bytes, tally, tally-is, length-bytes, Writes}
use Rattle.gate_words.specs.declared.Refusal.TheVariants.{OutOfRange, NotUnitary, NoRoom}
use Rattle.gate_words.specs.declared.Answer.{Answer}
use Rattle.gate_words.specs.declared.Answer.TheVariants.{First, Second, Refused}
use Rattle.gate_words.specs.declared.Part.{Part}
use Rattle.gate_words.specs.Words.{number, is_second, length_of, is_spelled, word_u, word_tUT, is_fewer, handed, fit, answer_of, laid, answer, named, handed_back, Spells, Hands, answer_to}

-- ---- `decide`
decided : (b c : Bool) → not b ≡ c → b ≡ not c
decided true c e = ap not e
decided false c e = ap not e

module _ (b : Bool) (v w : Word) where
  pub decide_none : not b ≡ true → Refused NoRoom ≡ answer_to b v w
  decide_none e = rw (decided b true e) refl

  pub decide_second : not b ≡ false → tally (written w) < tally (written v) → Second w.len ≡ answer_to b v w
  decide_second e h = rw (decided b false e, lt-ltb _ _ h) refl

  pub decide_first : not b ≡ false → tally (written v) ≤ tally (written w) → First v.len ≡ answer_to b v w
  decide_first e h = rw (decided b false e, le-ltb _ _ h) refl

-- ---- the tests, as `spell` computes them
pub fits-is : (k : ℕ) (u t : Point) (m n : ℕ) {x y : Word} → Writes x (word_u k u t) → Writes y (word_tUT k u t) → leb x.len m && leb y.len n ≡ fit k u t m n
fits-is k u t m n {x} {y} p q = ap₂ (λ a b. leb a m && leb b n) p.len q.len

pub unless : (b : Bool) → not b ≡ true → b ≡ false
unless b e = decided b true e

pub given : (b : Bool) → not b ≡ false → b ≡ true
given b e = decided b false e

-- the equation fails, at a scale in range
pub fails : (a b : Bool) {r : Bool} → r ≡ a && b → a ≡ true → r ≡ false → b ≡ false
fails true b e f g = sym e ∙ g
fails false b e f g = let z : ◌≡◌ {A = ℕ} 0 1 = cc in absurd (omega arith)

pub holds : (a b : Bool) {r : Bool} → r ≡ a && b → r ≡ true → b ≡ true
holds true b e g = sym e ∙ g
holds false b e g = let z : ◌≡◌ {A = ℕ} 0 1 = cc in absurd (omega arith)

module _ (k : ℕ) (u t : Point) where
  -- the equation of SPEC, "Other entry", as `gate_theory` has it
  pub solves : completes k u t ≡ true → Equation k u t
  unfolding completes squares cross
  solves e =
      let b = both_true _ _ e in
      record { squares = sym (ap₂ ◌+ℤ◌ (sums u) (sums t)) ∙ same_true _ _ b.0; crosses = sym (ap₂ ◌+ℤ◌ (mixed u) (mixed t)) ∙ same_true _ _ b.1 }
    where
      sums : (w : Point) → w.a *ℤ w.a +ℤ w.b *ℤ w.b +ℤ w.c *ℤ w.c +ℤ w.d *ℤ w.d ≡ N w
      sums w = +ℤ_assoc (w.a *ℤ w.a +ℤ w.b *ℤ w.b) (w.c *ℤ w.c) (w.d *ℤ w.d)

      mixed : (w : Point) → w.d *ℤ w.c -ℤ w.d *ℤ w.a +ℤ w.b *ℤ w.c +ℤ w.a *ℤ w.b ≡ F w
      mixed w = +ℤ_assoc (w.d *ℤ w.c -ℤ w.d *ℤ w.a) (w.b *ℤ w.c) (w.a *ℤ w.b)

  module _ (s v : List ℕ) where
    -- ---- refusals
    refused : (r : Answer) → is_spelled r ≡ false → r ≡ answer k u t s v → Spells k u t s v s v r
    refused r f e = record { answers = e; first = rw (← e, f) refl; second = rw (← e, f) refl }

    pub out_of_range : leb k top_scale ≡ false → Spells k u t s v s v (Refused OutOfRange)
    unfolding answer_of
    out_of_range e = refused (Refused OutOfRange) refl (rw e refl)

    pub not_unitary_lem : leb k top_scale ≡ true → completes k u t ≡ false → Spells k u t s v s v (Refused NotUnitary)
    unfolding answer_of
    not_unitary_lem e f = refused (Refused NotUnitary) refl (rw (e, f) refl)

    -- ---- the words x and y
    module _ (e : leb k top_scale ≡ true) (f : completes k u t ≡ true) {x y : Word} (p : Writes x (word_u k u t)) (q : Writes y (word_tUT k u t)) where
      answer-is : (b : Bool) → b ≡ fit k u t (length s) (length v) → answer_to b x y ≡ answer k u t s v
      unfolding answer_of
      answer-is b g =
          ap₂ (λ n m. cond b (cond (ltb n m) (Second y.len) (First x.len)) (Refused NoRoom)) (ap tally q.letters ∙ tally-is (word_tUT k u t)) (ap tally p.letters ∙ tally-is (word_u k u t))
          ∙ ap₂ (λ n m. cond b (cond (is_fewer k u t) (Second n) (First m)) (Refused NoRoom)) q.len p.len
          ∙ ap (λ b. cond b (handed k u t) (Refused NoRoom)) g
          ∙ sym (rw (e, f) refl)

      spelled_is : (b : Bool) → b ≡ fit k u t (length s) (length v) → is_spelled (answer k u t s v) ≡ b
      spelled_is b g = ap is_spelled (sym (answer-is b g)) ∙ go b (ltb (tally (written y)) (tally (written x)))
        where
          go : (b c : Bool) → is_spelled (cond b (cond c (Second y.len) (First x.len)) (Refused NoRoom)) ≡ b
          go true true = refl
          go true false = refl
          go false c = refl

      pub spells : (b : Bool) {s' v' : List ℕ} {r : Answer} → b ≡ fit k u t (length s) (length v) → s' ≡ cond b (laid (written x) s) s → v' ≡ cond b (laid (written y) v) v → r ≡ answer_to b x y → Spells k u t s v s' v' r
      spells b g h i j = record {
        answers = j ∙ answer-is b g;
        first = h ∙ ap₂ (λ c w. cond c (laid w s) s) (sym (spelled_is b g)) p.letters;
        second = i ∙ ap₂ (λ c w. cond c (laid w v) v) (sym (spelled_is b g)) q.letters;
      }

-- ---- an answer taken apart
module _ (k : ℕ) (u t : Point) (s v : List ℕ) where
  pub hands : {s' v' : List ℕ} {r : Answer} {p : Part} → Spells k u t s v s' v' r → (p.number ≡ number r) × (p.second ≡ is_second r) × (p.len ≡ length_of r) → Hands k u t s v s' v' p
  hands e h = record { number = h.0 ∙ ap number e.answers; which = h.1 ∙ ap is_second e.answers; len = h.2 ∙ ap length_of e.answers; first = e.first; second = e.second }

  -- the part that an answer names is the word that it hands back
  part : (x y : List Letter) (b c d e : Bool) → let r : Answer = cond b (cond c (cond d (cond e (Second (length y)) (First (length x))) (Refused NoRoom)) (Refused NotUnitary)) (Refused OutOfRange) in
      take (length_of r) (cond (is_second r) (cond (is_spelled r) (laid (bytes y) v) v) (cond (is_spelled r) (laid (bytes x) s) s)) ≡ bytes (named x y r)
  part x y true true true true = take_at (bytes y) (drop (length (bytes y)) v) (length y) (length-bytes y)
  part x y true true true false = take_at (bytes x) (drop (length (bytes x)) s) (length x) (length-bytes x)
  part x y true true false e = refl
  part x y true false d e = refl
  part x y false c d e = refl

  pub part-is : {s' v' : List ℕ} {r : Part} → Hands k u t s v s' v' r → take r.len (cond r.second v' s') ≡ bytes (handed_back k u t s v)
  unfolding answer_of
  part-is h = rw (h.which, h.len, h.first, h.second) (part (word_u k u t) (word_tUT k u t) (leb k top_scale) (completes k u t) (fit k u t (length s) (length v)) (is_fewer k u t))
