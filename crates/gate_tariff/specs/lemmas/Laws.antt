-- Ticket 8: rounding up, an empty word, and how large a cost can be.
use Rattle.std.specs.Prelude.{◌≡◌, refl, Bool, true, false, cond, ◌&&◌, ◌↔◌, ℕ, ◌*◌, ◌≤◌, length, Ok, Err}
use mathlib.Core.List.{List, [], ◌∷◌}
use native.Mathlib.Omega.{arith}
use Rattle.std.proofs.Math.Dec.{leb}
use Rattle.std.proofs.Common.{leb-true}
use Rattle.integers.specs.lemmas.Booleans.{both_true}
use Rattle.gate_alphabet.specs.Letters.{Letter, H, S, T, W, letters_of, are_letters, length-letters}
use Rattle.gate_tariff.specs.declared.Tariff.{Tariff}
use Rattle.gate_tariff.specs.declared.Refusal.TheVariants.{OutOfRange, NotALetter}
use Rattle.gate_tariff.specs.Tariff.{top_price, top_length, price, in_range, sum_of, rounded, ticks_of, cost_of}

-- ---- rounded up: the fewest ticks that are not below the sum
pub rounded-least : (n k : ℕ) → (rounded n ≤ k) ↔ (n ≤ 1000 * k)
rounded-least n k = ((λ h. omega arith), (λ h. omega arith))

-- ---- an empty word costs 0
pub cost_empty : (p : Tariff) (m : ℕ) → in_range p ≡ true → cost_of p [] m ≡ Ok (0, (leb 0 m))
unfolding cost_of ticks_of sum_of are_letters letters_of
cost_empty p m e = rw e refl

-- ---- how large a sum can be
module _ (p : Tariff) (e : in_range p ≡ true) where
  pub price-small : (x : Letter) → price p x ≤ top_price
  unfolding in_range
  price-small x =
      let (a, w) = both_true (leb p.h top_price && leb p.s top_price && leb p.t top_price) (leb p.w top_price) e in
      let (b, t) = both_true (leb p.h top_price && leb p.s top_price) (leb p.t top_price) a in
      let (h, s) = both_true (leb p.h top_price) (leb p.s top_price) b in
      go x (leb-true _ _ h) (leb-true _ _ s) (leb-true _ _ t) (leb-true _ _ w)
    where
      go : (x : Letter) → p.h ≤ top_price → p.s ≤ top_price → p.t ≤ top_price → p.w ≤ top_price → price p x ≤ top_price
      go H h s t w = h
      go S h s t w = s
      go T h s t w = t
      go W h s t w = w

  pub sum-small : (w : List Letter) → sum_of p w ≤ 1000000 * length w
  unfolding sum_of
  sum-small [] = omega arith
  sum-small (x ∷ w) = omega (arith, price-small x, sum-small w)

  pub letters-small : (s : List ℕ) → length s ≤ top_length → sum_of p (letters_of s) ≤ 65536000000
  letters-small s h = omega (arith, sum-small (letters_of s), length-letters s)

pub ticks_small : (p : Tariff) (w : List ℕ) (n : ℕ) → ticks_of p w ≡ Ok n → n ≤ 65536000
unfolding ticks_of
ticks_small p w n e = go (in_range p && leb (length w) top_length) (are_letters w) refl e
  where
    go : (a b : Bool) → in_range p && leb (length w) top_length ≡ a → cond a (cond b (Ok (rounded (sum_of p (letters_of w)))) (Err NotALetter)) (Err OutOfRange) ≡ Ok n → n ≤ 65536000
    go true true i e =
        let k : n ≡ rounded (sum_of p (letters_of w)) = cc in
        let (r, l) = both_true (in_range p) (leb (length w) top_length) i in
        omega (arith, letters-small p r w (leb-true (length w) top_length l))
    go true false i e = absurd (let z : ◌≡◌ {A = ℕ} 0 1 = cc in omega arith)
    go false b i e = absurd (let z : ◌≡◌ {A = ℕ} 0 1 = cc in omega arith)
