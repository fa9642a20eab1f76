-- What letters at an end of a word do to its matrix: S and at most one T on the right bring the determinant to 1, and W on the left takes a phase off.
use Rattle.std.specs.Prelude.{◌≡◌, refl, List, [], ◌∷◌, ◌++◌, ℕ, zero, suc, ◌+◌, ◌*◌, ◌/◌, ◌%◌, ◌≤◌, pos}
use Rattle.std.proofs.Common.{sym, ◌∙◌, ap, ap₂, subst, arith}
use Rattle.integers.specs.lemmas.Ring.{poly, by_ring}
use Rattle.ring.specs.declared.Point.{Point}
use Rattle.ring.specs.Point.{◌+ω◌, ◌*ω◌, negω, numω, ω, ringω, *ω-one, *ω-assoc}
use Rattle.gate_theory.specs.Points.{dagger, back}
use Rattle.gate_theory.specs.Table.{Letter, H, S, T, W}
use Rattle.gate_theory.specs.Matrix.{Matrix, ◌·◌, scale, one, matrix, product, Hs, √2^, ω^, Spells, made, ext, prefixed-++, scale-scale}
use Rattle.gate_theory.proofs.lemmas.Letters.{ω-+, turn-back, W-made}
use Rattle.gate_theory.proofs.lemmas.Run.{ω_rest, made-rest}
use Rattle.gate_theory.proofs.lemmas.Spelled.{goes_on}
use Rattle.gate_theory.specs.Word.{Ts}
use Rattle.pattern_optimal.proofs.lemmas.Equal.{Hs-++, assoc, one_right, factor, scale-times}

-- ---- on the right: the second column times x
abbrev columns : Point → Point → Point → Matrix
columns u t p = record { a = u; b = negω (p *ω dagger t); c = t; d = p *ω dagger u }

diagonal-right : (u t p x : Point) → columns u t p · record { a = numω (pos 1); b = numω (pos 0); c = numω (pos 0); d = x } ≡ columns u t (x *ω p)
diagonal-right u t p x = ext (kept u _) (turned-neg u (dagger t)) (kept t _) (turned t (dagger u))
  where
    kept : (y z : Point) → y *ω numω (pos 1) +ω z *ω numω (pos 0) ≡ y
    kept y z = by_ring ringω (y ∷ z ∷ []) (search poly depth 20) refl

    turned-neg : (y z : Point) → y *ω numω (pos 0) +ω negω (p *ω z) *ω x ≡ negω (x *ω p *ω z)
    turned-neg y z = by_ring ringω (y ∷ z ∷ p ∷ x ∷ []) (search poly depth 20) refl

    turned : (y z : Point) → y *ω numω (pos 0) +ω p *ω z *ω x ≡ x *ω p *ω z
    turned y z = by_ring ringω (y ∷ z ∷ p ∷ x ∷ []) (search poly depth 20) refl

T-right : (u t : Point) (l : ℕ) → made u t l · matrix T ≡ made u t (suc l)
T-right u t l = diagonal-right u t (ω^ l) ω

S-right : (u t : Point) (l : ℕ) → made u t l · matrix S ≡ made u t (suc (suc l))
S-right u t l = diagonal-right u t (ω^ l) (ω *ω ω) ∙ ap (columns u t) (*ω-assoc ω ω (ω^ l))

-- n times S, after a T or none
abbrev Ss : ℕ → List Letter
Ss zero = []
Ss (suc n) = S ∷ Ss n

abbrev closing : ℕ → ℕ → List Letter
closing zero n = Ss n
closing (suc m) n = T ∷ Ss n

Ss-right : (n : ℕ) (u t : Point) (l : ℕ) → made u t l · product (Ss n) ≡ made u t (2 * n + l)
Ss-right zero u t l = let e : l ≡ 2 * 0 + l = omega arith in one_right (made u t l) ∙ ap (made u t) e
Ss-right (suc n) u t l =
    let e : 2 * n + suc (suc l) ≡ 2 * suc n + l = omega arith in
    assoc (made u t l) (matrix S) (product (Ss n)) ∙ ap (λ m. m · product (Ss n)) (S-right u t l) ∙ Ss-right n u t (suc (suc l)) ∙ ap (made u t) e

closing-right : (m n : ℕ) (u t : Point) (l : ℕ) → m ≡ l % 2 → n ≡ 3 * ((l + 1) / 2) → made u t l · product (closing m n) ≡ made u t 0
closing-right zero n u t l e f = Ss-right n u t l ∙ made-rest u t (2 * n + l) 0 (omega arith)
closing-right (suc m) n u t l e f =
    let h : (l + 1) / 2 ≡ l / 2 + 1 = omega arith in
    let j : 2 * n + suc l ≡ 8 * (l / 2 + 1) = omega arith in
    assoc (made u t l) (matrix T) (product (Ss n)) ∙ ap (λ x. x · product (Ss n)) (T-right u t l) ∙ Ss-right n u t (suc l) ∙ made-rest u t (2 * n + suc l) 0 (omega arith)

Ss-counts : (n : ℕ) → (Hs (Ss n) ≡ 0) × (Ts (Ss n) ≡ 0)
Ss-counts zero = (refl, refl)
Ss-counts (suc n) = Ss-counts n

closing-counts : (m n : ℕ) → m ≤ 1 → (Hs (closing m n) ≡ 0) × (Ts (closing m n) ≡ m)
closing-counts zero n h = Ss-counts n
closing-counts (suc m) n h = let (a, b) = Ss-counts n in (a, omega arith)

counted-more : (x : Letter) (v z : List Letter) → Ts (v ++ z) ≡ Ts v + Ts z → Ts (x ∷ v ++ z) ≡ Ts (x ∷ v) + Ts z
counted-more H v z e = e
counted-more S v z e = e
counted-more T v z e = omega arith
counted-more W v z e = e

Ts-++ : (v z : List Letter) → Ts (v ++ z) ≡ Ts v + Ts z
Ts-++ [] z = omega arith
Ts-++ (x ∷ v) z = counted-more x v z (Ts-++ v z)

spells_right : (w z : List Letter) (k : ℕ) (m : Matrix) → Hs z ≡ 0 → Spells w k m → Spells (w ++ z) k (m · product z)
spells_right w z k m h s =
    let n : Hs w ≡ Hs (w ++ z) = omega (arith, Hs-++ w z) in
    record {
      exactly =
          ap (scale (√2^ k)) (prefixed-++ w z one ∙ factor w (product z)) ∙ scale-times (√2^ k) (product w) (product z) ∙ ap (λ x. x · product z) s.exactly
          ∙ sym (scale-times (√2^ (Hs w)) m (product z)) ∙ ap (λ i. scale (√2^ i) (m · product z)) n;
    }

-- a word of determinant 1 with the same u and t, and a T more where the determinant is an odd power of ω
pub record Closed (n k : ℕ) (m : Matrix) : Type 0 where
  pub word : List Letter
  pub Ts-are : Ts word ≡ n
  pub spells : Spells word k m

pub closed : (w : List Letter) (k : ℕ) (u t : Point) (l : ℕ) → Spells w k (made u t l) → Closed (Ts w + l % 2) k (made u t 0)
closed w k u t l s =
    let n = 3 * ((l + 1) / 2) in
    let (a, b) = closing-counts (l % 2) n (omega arith) in
    record {
      word = w ++ closing (l % 2) n;
      Ts-are = Ts-++ w (closing (l % 2) n) ∙ ap (λ i. Ts w + i) b;
      spells = subst (Spells (w ++ closing (l % 2) n) k) (closing-right (l % 2) n u t l refl refl) (spells_right w (closing (l % 2) n) k (made u t l) a s);
    }

-- ---- on the left
W-scales : (m : Matrix) → matrix W · m ≡ scale ω m
W-scales m = ext (first m.a m.c) (first m.b m.d) (second m.a m.c) (second m.b m.d)
  where
    first : (x y : Point) → ω *ω x +ω numω (pos 0) *ω y ≡ ω *ω x
    first x y = by_ring ringω (x ∷ y ∷ ω ∷ []) (search poly depth 20) refl

    second : (x y : Point) → numω (pos 0) *ω x +ω ω *ω y ≡ ω *ω y
    second x y = by_ring ringω (x ∷ y ∷ ω ∷ []) (search poly depth 20) refl

-- ω^n out of a determinant ω^(2n)
pub record Evened (n : ℕ) (u t : Point) : Type 0 where
  pub v : Point
  pub x : Point
  pub is : made u t (n * 2) ≡ scale (ω^ n) (made v x 0)

pub no_phase : (m : Matrix) → scale (ω^ 0) m ≡ m
no_phase m = ext (*ω-one m.a) (*ω-one m.b) (*ω-one m.c) (*ω-one m.d)

W-left : (n : ℕ) (w : List Letter) (k : ℕ) (m : Matrix) → Spells w k m → Closed (Ts w) k (scale (ω^ n) m)
W-left zero w k m s = record { word = w; Ts-are = refl; spells = subst (Spells w k) (sym (no_phase m)) s }
W-left (suc n) w k m s =
    let c = W-left n w k m s in
    record {
      word = W ∷ c.word;
      Ts-are = c.Ts-are;
      spells = record { exactly = goes_on (W ∷ []) c.word k _ c.spells ∙ ap (scale (√2^ (Hs c.word))) (W-scales (scale (ω^ n) m) ∙ scale-scale ω (ω^ n) m) };
    }

-- a word of the matrix itself, with as many T
pub unphased : (w : List Letter) (k n : ℕ) (m : Matrix) → Spells w k (scale (ω^ n) m) → Closed (Ts w) k m
unphased w k n m s =
    let c = W-left (7 * n) w k (scale (ω^ n) m) s in
    let e : (7 * n + n) % 8 ≡ 0 = omega arith in
    record {
      word = c.word;
      Ts-are = c.Ts-are;
      spells = subst (Spells c.word k) (scale-scale (ω^ (7 * n)) (ω^ n) m ∙ ap (λ x. scale x m) (sym (ω-+ (7 * n) n) ∙ ω_rest (7 * n + n) 0 e) ∙ no_phase m) c.spells;
    }

pub evened : (n : ℕ) (u t : Point) → Evened n u t
evened zero u t = record { v = u; x = t; is = sym (no_phase (made u t 0)) }
evened (suc n) u t =
    let e = evened n (back u) (back t) in
    let f : suc n * 2 ≡ suc (suc (n * 2)) = omega arith in
    record {
      v = e.v;
      x = e.x;
      is =
          ap (made u t) f ∙ sym (ap₂ (λ u t. made u t (suc (suc (n * 2)))) (turn-back u) (turn-back t)) ∙ sym (W-made (back u) (back t) (n * 2))
          ∙ W-scales (made (back u) (back t) (n * 2)) ∙ ap (scale ω) e.is ∙ scale-scale ω (ω^ n) (made e.v e.x 0);
    }
