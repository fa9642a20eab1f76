-- What the code of one word meets: the sum from a place on, and the ticks by the code's tests. Assumes nothing.
use Rattle.gate_tariff.specs.declared.Refusal.{Refusal}
use Rattle.std.specs.Prelude.{Result, Ok, Err}
use mathlib.Core.Path.{◌≡◌, refl, sym, ap}
use mathlib.Core.Bool.{false}
use mathlib.Core.List.{List}
use Prim.Native.Nat.{ℕ, ◌+◌, ◌≤◌, ◌<◌}
use native.Mathlib.Omega.{arith}
use lib.ListN.{length, get_or, drop}
use Rattle.gate_alphabet.specs.Letters.{letter_of, letters_of, letters-end, letters-more}
use Rattle.gate_tariff.specs.declared.Tariff.{Tariff}
use Rattle.gate_tariff.specs.declared.Refusal.TheVariants.{OutOfRange}
use Rattle.gate_tariff.specs.Tariff.{price, in_range, sum_of, ticks_of, Small, answered, cost_of}
use Rattle.gate_tariff.specs.lemmas.Laws.{ticks_small}

-- ---- the sum from a place on
module _ (p : Tariff) (w : List ℕ) where
  abbrev pub sum_from : ℕ → ℕ
  sum_from i = sum_of p (letters_of (drop i w))

  pub sum-end : (i : ℕ) → length w ≤ i → sum_from i ≡ 0
  unfolding sum_of
  sum-end i h = ap (sum_of p) (letters-end w i h)

  pub sum_more : (i : ℕ) → i < length w → sum_from i ≡ price p (letter_of (get_or w i 0)) + sum_from (i + 1)
  unfolding sum_of
  sum_more i h = ap (sum_of p) (letters-more w i h)

  -- ---- the ticks, by the code's tests
  pub ticks_price : in_range p ≡ false → Err OutOfRange ≡ ticks_of p w
  unfolding ticks_of
  ticks_price e = rw e refl

  pub cost_price : (m : ℕ) → in_range p ≡ false → Err OutOfRange ≡ cost_of p w m
  unfolding cost_of
  cost_price m e = ap (answered m) (ticks_price e)

  pub ticks_fit : (x : Result ℕ Refusal) → x ≡ ticks_of p w → Small x
  ticks_fit (Ok n) e = omega (arith, ticks_small p w n (sym e))
  ticks_fit (Err why) e = tt
