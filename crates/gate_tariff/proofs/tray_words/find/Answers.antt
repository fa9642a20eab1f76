use Rattle.std.proofs.Common.{◌≡◌, ℕ, suc, ◌+◌, ◌≤◌, ◌<◌, ◌∷◌, List, length, get_or, drop, refl, ap, ◌∙◌, arith}
use lib.Seq.{drop-cons}
use lib.ListN.{drop_of_length-le}
use lib.Dec.{eqb}
use borrow.Author.Tests.{eq-eqb, ne_eqb}
use Rattle.gate_tariff.specs.Index.{index_after, index_of}
use Rattle.gate_tariff.proofs.tray_words.find.Goals as goal

module _ (b : ℕ) (s : List ℕ) (i : ℕ) where
  one-on : i < length s → index_of b (drop i s) ≡ index_after (eqb (get_or s i 0) b) (index_of b (drop (i + 1) s))
  unfolding index_of
  one-on h = let e : suc i ≡ i + 1 = omega arith in ap (index_of b) (drop-cons s i 0 h ∙ ap (λ j. get_or s i 0 ∷ drop j s) e)

  at-place : i < length s → get_or s i 0 ≡ b → index_of b (drop i s) ≡ 0
  unfolding index_after
  at-place h e = one-on h ∙ rw (eq-eqb (get_or s i 0) b e) refl

  at-other : i < length s → (get_or s i 0 ≡ b → ⊥) → index_of b (drop i s) ≡ suc (index_of b (drop (i + 1) s))
  unfolding index_after
  at-other h f = one-on h ∙ rw (ne_eqb (get_or s i 0) b f) refl

  at-end : length s ≤ i → index_of b (drop i s) ≡ 0
  unfolding index_of
  at-end h = ap (index_of b) (drop_of_length-le s h)

pub returns-then-s-i : goal.returns-then-s-i
returns-then-s-i c = omega (arith, c.loop-i.invariant, at-place c.args.b c.args.s.now c.loop-i.i c.loop-i-test.true c.if-s-i.true)

pub loop-i-preserved : goal.loop-i-preserved
loop-i-preserved c = omega (arith, c.loop-i.invariant, at-other c.args.b c.args.s.now c.loop-i.i c.loop-i-test.true c.if-s-i.false)

pub returns : goal.returns
returns c = omega (arith, c.loop-i.invariant, at-end c.args.b c.args.s.now c.loop-i.i c.loop-i-test.false)
