-- The product of any word is of the form (u, −ω^l t†; t, ω^l u†): its u, t and l, in coordinates, so that they compute.
use Rattle.std.specs.Prelude.{◌≡◌, refl, List, [], ◌∷◌, ℕ, zero, suc, ◌+◌, ◌*◌, ◌/◌, ◌%◌, pos, ◌+ℤ◌, ◌-ℤ◌}
use Rattle.std.proofs.Common.{sym, ◌∙◌, ap, ap₂, arith}
use Rattle.integers.specs.lemmas.Ring.{poly, by_ring}
use Rattle.ring.specs.declared.Point.{Point}
use Rattle.ring.specs.Point.{◌*ω◌, negω, numω, √2ω, ringω, sum-parts, *ω-one}
use Rattle.ring.specs.Point.Divide.{times-√2}
use Rattle.gate_theory.specs.Points.{turn, dagger, zero-parts, one-parts, minus_parts}
use Rattle.gate_theory.specs.Table.{Letter, H, S, T, W}
use Rattle.gate_theory.specs.Matrix.{Matrix, ◌·◌, scale, one, matrix, product, √2^, made, ω^, ext, scale-scale}
use Rattle.gate_theory.proofs.lemmas.Letters.{back-turn, T-made, S-made, W-made, H-made, made-√2, ω_by_eight}

pub record Column : Type 0 where
  pub u : Point
  pub t : Point
  pub l : ℕ

abbrev pub act : Letter → Column → Column
act H c = record {
  u = record { a = c.u.a +ℤ c.t.a; b = c.u.b +ℤ c.t.b; c = c.u.c +ℤ c.t.c; d = c.u.d +ℤ c.t.d };
  t = record { a = c.u.a -ℤ c.t.a; b = c.u.b -ℤ c.t.b; c = c.u.c -ℤ c.t.c; d = c.u.d -ℤ c.t.d };
  l = suc (suc (suc (suc c.l)));
}
act S c = record { u = c.u; t = turn (turn c.t); l = suc (suc c.l) }
act T c = record { u = c.u; t = turn c.t; l = suc c.l }
act W c = record { u = turn c.u; t = turn c.t; l = suc (suc c.l) }

abbrev pub start : Column
start = record { u = record { a = pos 0; b = pos 0; c = pos 0; d = pos 1 }; t = record { a = pos 0; b = pos 0; c = pos 0; d = pos 0 }; l = 0 }

abbrev pub run : List Letter → Column
run [] = start
run (x ∷ w) = act x (run w)

abbrev pub full : Column → Matrix
full c = made c.u c.t c.l

act-is : (x : Letter) (c : Column) → matrix x · full c ≡ full (act x c)
act-is H c = H-made c.u c.t c.l ∙ ap₂ (λ u t. made u t (suc (suc (suc (suc c.l))))) (sum-parts c.u c.t) (minus_parts c.u c.t)
act-is S c = S-made c.u c.t c.l
act-is T c = ap (λ t. matrix T · made c.u t c.l) (sym (back-turn c.t)) ∙ T-made c.u (turn c.t) c.l
act-is W c = W-made c.u c.t c.l

pub start_is : one ≡ full start
start_is = ext one-parts (no ∙ ap (λ z. negω (numω (pos 1) *ω z)) zero-parts) zero-parts (so ∙ ap (λ z. numω (pos 1) *ω z) one-parts)
  where
    no : numω (pos 0) ≡ negω (numω (pos 1) *ω numω (pos 0))
    no = by_ring ringω [] (search poly depth 20) refl

    so : numω (pos 1) ≡ numω (pos 1) *ω numω (pos 1)
    so = by_ring ringω [] (search poly depth 20) refl

pub product-run : (w : List Letter) → product w ≡ full (run w)
product-run [] = start_is
product-run (x ∷ w) = ap (λ m. matrix x · m) (product-run w) ∙ act-is x (run w)

-- ---- times √2^k
abbrev pub root : ℕ → Point → Point
root zero v = v
root (suc k) v = root k (record { a = v.b -ℤ v.d; b = v.c +ℤ v.a; c = v.d +ℤ v.b; d = v.c -ℤ v.a })

pub scale-made : (k : ℕ) (u t : Point) (l : ℕ) → scale (√2^ k) (made u t l) ≡ made (root k u) (root k t) l
scale-made zero u t l = ext (*ω-one u) (*ω-one _) (*ω-one t) (*ω-one _)
scale-made (suc k) u t l = sym (scale-scale (√2^ k) √2ω (made u t l)) ∙ ap (scale (√2^ k)) (sym (made-√2 u t l) ∙ ap₂ (λ u t. made u t l) (times-√2 u) (times-√2 t)) ∙ scale-made k _ _ l

-- ---- l counts by 8
pub ω_rest : (l r : ℕ) → l % 8 ≡ r → ω^ l ≡ ω^ r
ω_rest l r e = let f : l ≡ l / 8 * 8 + r = omega arith in ap ω^ f ∙ ω_by_eight (l / 8) r

pub made-rest : (u t : Point) (l r : ℕ) → l % 8 ≡ r → made u t l ≡ made u t r
made-rest u t l r e = ap (λ p. record { a = u; b = negω (p *ω dagger t); c = t; d = p *ω dagger u }) (ω_rest l r e)
