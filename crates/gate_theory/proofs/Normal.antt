-- Matsumoto and Amano's normal form: an optional T, then HT and SHT in any order and number, then a tail in H, S and W,
-- which is the shortest of equal product, and of those as short the first in the alphabet.
use Rattle.std.specs.Prelude.{◌≡◌, refl, Bool, true, false}
use Prim.Native.Nat.{ℕ, zero, suc}
use Rattle.ring.specs.declared.Point.{Point}
use Rattle.gate_theory.specs.State.{State, Equation, is_bare, next, Ready}
use Rattle.gate_theory.proofs.lemmas.Step.{step}
use Rattle.gate_theory.specs.Table.{tail}
use Rattle.gate_theory.specs.Word.{syllables, without-T, front, bare_at_zero, spelled, reduced, word, body}
use Rattle.gate_theory.proofs.lemmas.Least.{Least, reduced-least}
use Rattle.gate_theory.proofs.lemmas.Number.{starts, starts-T}
use Rattle.gate_theory.specs.Normal.{Tail, Body, tails, syllabic, Normal, plainly, with-T}

-- ---- the words are normal where the tails are
module _ (tails-are : (s : State) → Ready 0 s → Tail (tail s)) where
  pub body-normal : (r : ℕ) (s : State) → Ready r s → Body (body r s)
  unfolding body
  body-normal zero s h = tails (tails-are s h)
  body-normal (suc r) s h = syllabic (is_bare s) (body-normal r (next s) (step r s h))

  spelled-normal : (e : ℕ) (s : State) → Least e s → Normal (spelled s)
  spelled-normal e s h = go (bare_at_zero s) refl
    where
      go : (b : Bool) → bare_at_zero s ≡ b → Normal (front b s)
      go true b = plainly (body-normal (syllables s) s (starts e s h b))
      go false b = with-T (body-normal (syllables (without-T s)) (without-T s) (starts-T e s h b))

  pub word-normal : (k : ℕ) (u t : Point) → Equation k u t → Normal (word k u t)
  unfolding word
  word-normal k u t e = spelled-normal _ (reduced k u t) (reduced-least k u t e)
