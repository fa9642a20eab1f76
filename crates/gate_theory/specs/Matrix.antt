-- Matrices over Z[ω], the letters as matrices, the product of a word, and what it spells.
use Rattle.std.specs.Prelude.{◌≡◌, refl, List, [], ◌∷◌, ◌++◌, ℕ, zero, suc, pos, negsuc}
use Rattle.std.proofs.Common.{◌∙◌, ap}
use Rattle.integers.specs.lemmas.Ring.{poly, by_ring}
use Rattle.ring.specs.declared.Point.{Point}
use Rattle.ring.specs.Point.{◌+ω◌, ◌*ω◌, negω, numω, ω, √2ω, ringω}
use Rattle.gate_theory.specs.Points.{dagger}
use Rattle.gate_theory.specs.State.{State}
use Rattle.gate_theory.specs.Table.{Letter, H, S, T, W}

-- rows (a, b) and (c, d)
pub record Matrix : Type 0 where
  pub a : Point
  pub b : Point
  pub c : Point
  pub d : Point

infixl 7 ◌·◌
abbrev pub ◌·◌ : Matrix → Matrix → Matrix
m · n = record { a = m.a *ω n.a +ω m.b *ω n.c; b = m.a *ω n.b +ω m.b *ω n.d; c = m.c *ω n.a +ω m.d *ω n.c; d = m.c *ω n.b +ω m.d *ω n.d }

abbrev pub scale : Point → Matrix → Matrix
scale x m = record { a = x *ω m.a; b = x *ω m.b; c = x *ω m.c; d = x *ω m.d }

abbrev pub one : Matrix
one = record { a = numω (pos 1); b = numω (pos 0); c = numω (pos 0); d = numω (pos 1) }

-- the letters; H is √2 times the matrix that it stands for
abbrev pub matrix : Letter → Matrix
matrix H = record { a = numω (pos 1); b = numω (pos 1); c = numω (pos 1); d = numω (negsuc 0) }
matrix S = record { a = numω (pos 1); b = numω (pos 0); c = numω (pos 0); d = ω *ω ω }
matrix T = record { a = numω (pos 1); b = numω (pos 0); c = numω (pos 0); d = ω }
matrix W = record { a = ω; b = numω (pos 0); c = numω (pos 0); d = ω }

abbrev pub prefixed : List Letter → Matrix → Matrix
prefixed [] m = m
prefixed (x ∷ w) m = matrix x · prefixed w m

abbrev pub product : List Letter → Matrix
product w = prefixed w one

abbrev pub counted : Letter → ℕ → ℕ
counted H n = suc n
counted S n = n
counted T n = n
counted W n = n

abbrev pub Hs : List Letter → ℕ
Hs [] = 0
Hs (x ∷ w) = counted x (Hs w)

abbrev pub √2^ : ℕ → Point
√2^ zero = numω (pos 1)
√2^ (suc k) = √2^ k *ω √2ω

abbrev pub ω^ : ℕ → Point
ω^ zero = numω (pos 1)
ω^ (suc l) = ω *ω ω^ l

-- the word's product, each H over √2, is m over √2^k
pub record Spells (w : List Letter) (k : ℕ) (m : Matrix) : Type 0 where
  pub exactly : scale (√2^ k) (product w) ≡ scale (√2^ (Hs w)) m

-- rows (u, −ω^l t†) and (t, ω^l u†)
abbrev pub made : Point → Point → ℕ → Matrix
made u t l = record { a = u; b = negω (ω^ l *ω dagger t); c = t; d = ω^ l *ω dagger u }

abbrev pub of_state : State → Matrix
of_state s = made s.u s.t s.l

-- ---- laws
pub ext : {m n : Matrix} → m.a ≡ n.a → m.b ≡ n.b → m.c ≡ n.c → m.d ≡ n.d → m ≡ n
ext e f g h = λ i. record { a = e i; b = f i; c = g i; d = h i }

pub times-scale : (m n : Matrix) (x : Point) → m · scale x n ≡ scale x (m · n)
times-scale m n x = ext (pull m.a m.b n.a n.c) (pull m.a m.b n.b n.d) (pull m.c m.d n.a n.c) (pull m.c m.d n.b n.d)
  where
    pull : (p q r s : Point) → p *ω (x *ω r) +ω q *ω (x *ω s) ≡ x *ω (p *ω r +ω q *ω s)
    pull p q r s = by_ring ringω (p ∷ q ∷ r ∷ s ∷ x ∷ []) (search poly depth 20) refl

pub prefixed-scale : (w : List Letter) (x : Point) (m : Matrix) → prefixed w (scale x m) ≡ scale x (prefixed w m)
prefixed-scale [] x m = refl
prefixed-scale (y ∷ w) x m = ap (λ t. matrix y · t) (prefixed-scale w x m) ∙ times-scale (matrix y) (prefixed w m) x

pub prefixed-++ : (v w : List Letter) (m : Matrix) → prefixed (v ++ w) m ≡ prefixed v (prefixed w m)
prefixed-++ [] w m = refl
prefixed-++ (y ∷ v) w m = ap (λ t. matrix y · t) (prefixed-++ v w m)

pub scale-scale : (x y : Point) (m : Matrix) → scale x (scale y m) ≡ scale (x *ω y) m
scale-scale x y m = ext (assoc m.a) (assoc m.b) (assoc m.c) (assoc m.d)
  where
    assoc : (z : Point) → x *ω (y *ω z) ≡ x *ω y *ω z
    assoc z = by_ring ringω (x ∷ y ∷ z ∷ []) (search poly depth 20) refl

pub scale-swap : (x y : Point) (m : Matrix) → scale x (scale y m) ≡ scale y (scale x m)
scale-swap x y m = ext (swap m.a) (swap m.b) (swap m.c) (swap m.d)
  where
    swap : (z : Point) → x *ω (y *ω z) ≡ y *ω (x *ω z)
    swap z = by_ring ringω (x ∷ y ∷ z ∷ []) (search poly depth 20) refl
