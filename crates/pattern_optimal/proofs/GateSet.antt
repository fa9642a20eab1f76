-- S†, T†, X, Y and Z as letters of their own: each is a word in H, S, T and W of the same matrix, phase included, with as many T. So a word in these gates has a word in H, S, T and W of the same product with as many T.
use Rattle.std.specs.Prelude.{◌≡◌, refl, List, [], ◌∷◌, ℕ, suc, ◌+◌, ◌≤◌, pos, negsuc}
use Rattle.std.proofs.Common.{sym, ◌∙◌, ap, ap₂, arith}
use Rattle.integers.specs.lemmas.Ring.{poly, by_ring}
use Rattle.ring.specs.declared.Point.{Point}
use Rattle.ring.specs.Point.{◌*ω◌, negω, numω, ω, √2ω, ringω, *ω-one, ω_fourth, √2ω_sq}
use Rattle.gate_theory.specs.Table.{Letter, H, S, T, W}
use Rattle.gate_theory.specs.Matrix.{Matrix, ◌·◌, scale, one, matrix, prefixed, product, Hs, √2^, ω^, Spells, made, ext, times-scale, prefixed-++, scale-swap, counted as countedH}
use Rattle.gate_theory.specs.Word.{word, Ts, counted as countedT}
use Rattle.pattern_optimal.proofs.lemmas.Equal.{one_right, factor, scale-times, scale-+}
use Rattle.pattern_optimal.proofs.lemmas.Fewest.{phased-fewest}
use Rattle.pattern_optimal.specs.GateSet.{Gate, letter, S†, T†, X, Y, Z, gate_matrix, gate_product, gate_hs, gate_ts, GateSpells, letters, letters_of, more, mores}

abbrev diagonal : Point → Matrix
diagonal x = record { a = numω (pos 1); b = numω (pos 0); c = numω (pos 0); d = x }

-- ---- the matrices
whole : (m : Matrix) → m ≡ scale (√2^ 0) m
whole m = sym (ext (*ω-one m.a) (*ω-one m.b) (*ω-one m.c) (*ω-one m.d))

-- diag(1, x) diag(1, y)
diagonal-· : (x y : Point) → diagonal x · diagonal y ≡ diagonal (x *ω y)
diagonal-· x y = ext (by_ring ringω (x ∷ y ∷ []) (search poly depth 20) refl) (by_ring ringω (x ∷ y ∷ []) (search poly depth 20) refl) (by_ring ringω (x ∷ y ∷ []) (search poly depth 20) refl) (by_ring ringω (x ∷ y ∷ []) (search poly depth 20) refl)

-- a letter before diag(1, y)
S-before : (y : Point) {m : Matrix} → m ≡ diagonal y → matrix S · m ≡ diagonal (ω *ω ω *ω y)
S-before y e = ap (λ m. matrix S · m) e ∙ diagonal-· (ω *ω ω) y

Z-is : product (S ∷ S ∷ []) ≡ gate_matrix Z
Z-is = S-before (ω *ω ω *ω numω (pos 1)) (S-before (numω (pos 1)) refl) ∙ ap diagonal (last ω ∙ ω_fourth)
  where
    last : (w : Point) → w *ω w *ω (w *ω w *ω numω (pos 1)) ≡ w *ω w *ω (w *ω w)
    last w = by_ring ringω (w ∷ []) (search poly depth 20) refl

Zs : (m : Matrix) → prefixed (S ∷ S ∷ []) m ≡ gate_matrix Z · m
Zs m = factor (S ∷ S ∷ []) m ∙ ap (λ n. n · m) Z-is

S†-is : product (S ∷ S ∷ S ∷ []) ≡ gate_matrix S†
S†-is = Zs (product (S ∷ [])) ∙ ap (λ m. gate_matrix Z · m) (S-before (numω (pos 1)) refl) ∙ diagonal-· (numω (negsuc 0)) (ω *ω ω *ω numω (pos 1)) ∙ ap diagonal (last (ω *ω ω))
  where
    last : (x : Point) → numω (negsuc 0) *ω (x *ω numω (pos 1)) ≡ negω x
    last x = by_ring ringω (x ∷ []) (search poly depth 20) refl

T†-is : product (T ∷ S ∷ S ∷ S ∷ []) ≡ gate_matrix T†
T†-is = ap (λ m. matrix T · m) S†-is ∙ diagonal-· ω (negω (ω *ω ω)) ∙ ap diagonal (last ω (ω *ω ω))
  where
    last : (x y : Point) → x *ω negω y ≡ negω (x *ω y)
    last x y = by_ring ringω (x ∷ y ∷ []) (search poly depth 20) refl

-- √2² = 2
double : (m : Matrix) → scale (numω (pos 2)) m ≡ scale (√2^ 2) m
double m = ap (λ x. scale x m) (sym √2ω_sq ∙ one_more √2ω)
  where
    one_more : (x : Point) → x *ω x ≡ numω (pos 1) *ω x *ω x
    one_more x = by_ring ringω (x ∷ []) (search poly depth 20) refl

X-is : product (H ∷ S ∷ S ∷ H ∷ []) ≡ scale (√2^ 2) (gate_matrix X)
X-is = ap (λ m. matrix H · m) (Zs (product (H ∷ []))) ∙ ext (by_ring ringω [] (search poly depth 30) refl) (by_ring ringω [] (search poly depth 30) refl) (by_ring ringω [] (search poly depth 30) refl) (by_ring ringω [] (search poly depth 30) refl) ∙ double (gate_matrix X)

-- Y = i X Z
Y-is : product (W ∷ W ∷ H ∷ S ∷ S ∷ H ∷ S ∷ S ∷ []) ≡ scale (√2^ 2) (gate_matrix Y)
Y-is =
    ap (λ m. matrix W · (matrix W · m)) (factor (H ∷ S ∷ S ∷ H ∷ []) (product (S ∷ S ∷ [])) ∙ ap₂ ◌·◌ X-is Z-is ∙ ap (λ m. m · gate_matrix Z) (sym (double (gate_matrix X))))
    ∙ ext (by_ring ringω (ω ∷ []) (search poly depth 30) refl) (by_ring ringω (ω ∷ []) (search poly depth 30) refl) (by_ring ringω (ω ∷ []) (search poly depth 30) refl) (by_ring ringω (ω ∷ []) (search poly depth 30) refl)
    ∙ double (gate_matrix Y)

-- "T† = TSSS", and so on
pub gate_is : (x : Gate) → product (letters x) ≡ scale (√2^ (more x)) (gate_matrix x)
gate_is (letter x) = one_right (matrix x) ∙ whole (matrix x)
gate_is S† = S†-is ∙ whole (gate_matrix S†)
gate_is T† = T†-is ∙ whole (gate_matrix T†)
gate_is X = X-is
gate_is Y = Y-is
gate_is Z = Z-is ∙ whole (gate_matrix Z)

-- ---- a word in the gates, letter by letter
pub gates_is : (g : List Gate) → product (letters_of g) ≡ scale (√2^ (mores g)) (gate_product g)
gates_is [] = whole one
gates_is (x ∷ g) =
    let m = gate_matrix x in
    let n = gate_product g in
    prefixed-++ (letters x) (letters_of g) one ∙ factor (letters x) (product (letters_of g)) ∙ ap₂ ◌·◌ (gate_is x) (gates_is g)
    ∙ sym (scale-times (√2^ (more x)) m (scale (√2^ (mores g)) n)) ∙ ap (scale (√2^ (more x))) (times-scale m n (√2^ (mores g))) ∙ sym (scale-+ (more x) (mores g) (m · n))

counted-more : (x : Letter) (i n : ℕ) → countedH x (i + n) ≡ i + countedH x n
counted-more H i n = omega arith
counted-more S i n = refl
counted-more T i n = refl
counted-more W i n = refl

pub gates-Hs : (g : List Gate) → Hs (letters_of g) ≡ mores g + gate_hs g
gates-Hs [] = refl
gates-Hs (letter x ∷ g) = let e : mores g ≡ 0 + mores g = omega arith in ap (countedH x) (gates-Hs g) ∙ counted-more x (mores g) (gate_hs g) ∙ ap (λ n. n + countedH x (gate_hs g)) e
gates-Hs (S† ∷ g) = omega (arith, gates-Hs g)
gates-Hs (T† ∷ g) = omega (arith, gates-Hs g)
gates-Hs (X ∷ g) = omega (arith, gates-Hs g)
gates-Hs (Y ∷ g) = omega (arith, gates-Hs g)
gates-Hs (Z ∷ g) = omega (arith, gates-Hs g)

-- the word in H, S, T and W has as many T
pub gates-Ts : (g : List Gate) → Ts (letters_of g) ≡ gate_ts g
gates-Ts [] = refl
gates-Ts (letter x ∷ g) = ap (countedT x) (gates-Ts g)
gates-Ts (S† ∷ g) = gates-Ts g
gates-Ts (T† ∷ g) = ap suc (gates-Ts g)
gates-Ts (X ∷ g) = gates-Ts g
gates-Ts (Y ∷ g) = gates-Ts g
gates-Ts (Z ∷ g) = gates-Ts g

-- and it spells what the gates spell
pub gates_spell : (g : List Gate) (k : ℕ) (m : Matrix) → GateSpells g k m → Spells (letters_of g) k m
gates_spell g k m s =
    let i = mores g in
    record {
      exactly =
          ap (scale (√2^ k)) (gates_is g) ∙ scale-swap (√2^ k) (√2^ i) (gate_product g) ∙ ap (scale (√2^ i)) s.exactly ∙ sym (scale-+ i (gate_hs g) m)
          ∙ ap (λ n. scale (√2^ n) m) (sym (gates-Hs g));
    }

-- so the word of a matrix has the fewest T of all words in the gates that spell it, up to a phase
pub gates_fewest : (k : ℕ) (u t : Point) (n : ℕ) (g : List Gate) → GateSpells g k (scale (ω^ n) (made u t 0)) → Ts (word k u t) ≤ gate_ts g
gates_fewest k u t n g s = omega (arith, phased-fewest k u t n (letters_of g) (gates_spell g k (scale (ω^ n) (made u t 0)) s), gates-Ts g)
