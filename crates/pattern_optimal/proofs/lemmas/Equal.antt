-- Words of equal product, before every matrix, so that one stands for the other anywhere in a word.
use Rattle.std.specs.Prelude.{◌≡◌, refl, List, [], ◌∷◌, ◌++◌, ℕ, zero, suc, ◌+◌, ◌%◌, pos}
use Rattle.std.proofs.Common.{sym, ◌∙◌, ap, ap₂, arith}
use Rattle.integers.specs.lemmas.Ring.{poly, by_ring}
use Rattle.ring.specs.declared.Point.{Point}
use Rattle.ring.specs.Point.{◌+ω◌, ◌*ω◌, numω, √2ω, ringω, *ω-assoc}
use Rattle.gate_theory.specs.Table.{Letter, H, S, T, W}
use Rattle.gate_theory.specs.Matrix.{Matrix, ◌·◌, scale, one, matrix, prefixed, product, Hs, √2^, made, ext, times-scale, prefixed-++, scale-scale, scale-swap}
use Rattle.gate_theory.specs.Normal.{Same}
use Rattle.gate_theory.proofs.lemmas.Cancel.{scale-cancel}
use Rattle.gate_theory.proofs.lemmas.Run.{run, product-run, root, scale-made, made-rest}

-- v over √2^(Hs v) is w over √2^(Hs w): times the same power of √2, on the left of every matrix
pub record Equal (v w : List Letter) : Type 0 where
  pub i : ℕ
  pub j : ℕ
  pub weighs : i + Hs v ≡ j + Hs w
  pub is : (m : Matrix) → scale (√2^ i) (prefixed v m) ≡ scale (√2^ j) (prefixed w m)

-- ---- powers of √2
unit : (x : Point) → x ≡ x *ω numω (pos 1)
unit x = by_ring ringω (x ∷ []) (search poly depth 20) refl

power-+ : (i j : ℕ) → √2^ (i + j) ≡ √2^ i *ω √2^ j
power-+ i zero = let e : i + 0 ≡ i = omega arith in ap √2^ e ∙ unit (√2^ i)
power-+ i (suc j) = let e : i + suc j ≡ suc (i + j) = omega arith in ap √2^ e ∙ ap (λ t. t *ω √2ω) (power-+ i j) ∙ *ω-assoc (√2^ i) (√2^ j) √2ω

pub scale-+ : (i j : ℕ) (m : Matrix) → scale (√2^ (i + j)) m ≡ scale (√2^ i) (scale (√2^ j) m)
scale-+ i j m = ap (λ x. scale x m) (power-+ i j) ∙ sym (scale-scale (√2^ i) (√2^ j) m)

-- ---- it is an equality, and words go on to the left and to the right
pub itself : (w : List Letter) → Equal w w
itself w = record { i = 0; j = 0; weighs = refl; is = λ m. refl }

pub then : {u v w : List Letter} → Equal u v → Equal v w → Equal u w
then {u} {v} {w} e f = record {
  i = f.i + e.i;
  j = e.j + f.j;
  weighs = omega (arith, e.weighs, f.weighs);
  is = λ m. scale-+ f.i e.i (prefixed u m) ∙ ap (scale (√2^ f.i)) (e.is m) ∙ scale-swap (√2^ f.i) (√2^ e.j) (prefixed v m) ∙ ap (scale (√2^ e.j)) (f.is m) ∙ sym (scale-+ e.j f.j (prefixed w m));
}

counts : (x : Letter) (i j : ℕ) (v w : List Letter) → i + Hs v ≡ j + Hs w → i + Hs (x ∷ v) ≡ j + Hs (x ∷ w)
counts H i j v w e = omega arith
counts S i j v w e = e
counts T i j v w e = e
counts W i j v w e = e

after : (x : Letter) {v w : List Letter} → Equal v w → Equal (x ∷ v) (x ∷ w)
after x {v} {w} e = record {
  i = e.i;
  j = e.j;
  weighs = counts x e.i e.j v w e.weighs;
  is = λ m. sym (times-scale (matrix x) (prefixed v m) (√2^ e.i)) ∙ ap (λ n. matrix x · n) (e.is m) ∙ times-scale (matrix x) (prefixed w m) (√2^ e.j);
}

pub before : (z : List Letter) {v w : List Letter} → Equal v w → Equal (z ++ v) (z ++ w)
before [] e = e
before (x ∷ z) e = after x (before z e)

counted-more : (x : Letter) (v z : List Letter) → Hs (v ++ z) ≡ Hs v + Hs z → Hs (x ∷ v ++ z) ≡ Hs (x ∷ v) + Hs z
counted-more H v z e = omega arith
counted-more S v z e = e
counted-more T v z e = e
counted-more W v z e = e

pub Hs-++ : (v z : List Letter) → Hs (v ++ z) ≡ Hs v + Hs z
Hs-++ [] z = omega arith
Hs-++ (x ∷ v) z = counted-more x v z (Hs-++ v z)

pub beyond : {v w : List Letter} (z : List Letter) → Equal v w → Equal (v ++ z) (w ++ z)
beyond {v} {w} z e = record {
  i = e.i;
  j = e.j;
  weighs = omega (arith, e.weighs, Hs-++ v z, Hs-++ w z);
  is = λ m. ap (scale (√2^ e.i)) (prefixed-++ v z m) ∙ e.is (prefixed z m) ∙ sym (ap (scale (√2^ e.j)) (prefixed-++ w z m));
}

-- ---- one product is enough: the rest of a word is a factor on its right
pub assoc : (l m n : Matrix) → l · (m · n) ≡ l · m · n
assoc l m n = ext (one_of l.a l.b n.a n.c) (one_of l.a l.b n.b n.d) (one_of l.c l.d n.a n.c) (one_of l.c l.d n.b n.d)
  where
    one_of : (x y p q : Point) → x *ω (m.a *ω p +ω m.b *ω q) +ω y *ω (m.c *ω p +ω m.d *ω q) ≡ (x *ω m.a +ω y *ω m.c) *ω p +ω (x *ω m.b +ω y *ω m.d) *ω q
    one_of x y p q = by_ring ringω (x ∷ y ∷ p ∷ q ∷ m.a ∷ m.b ∷ m.c ∷ m.d ∷ []) (search poly depth 30) refl

one_left : (m : Matrix) → m ≡ one · m
one_left m = ext (first m.a m.c) (first m.b m.d) (second m.a m.c) (second m.b m.d)
  where
    first : (x y : Point) → x ≡ numω (pos 1) *ω x +ω numω (pos 0) *ω y
    first x y = by_ring ringω (x ∷ y ∷ []) (search poly depth 20) refl

    second : (x y : Point) → y ≡ numω (pos 0) *ω x +ω numω (pos 1) *ω y
    second x y = by_ring ringω (x ∷ y ∷ []) (search poly depth 20) refl

pub one_right : (m : Matrix) → m · one ≡ m
one_right m = ext (first m.a m.b) (second m.a m.b) (first m.c m.d) (second m.c m.d)
  where
    first : (x y : Point) → x *ω numω (pos 1) +ω y *ω numω (pos 0) ≡ x
    first x y = by_ring ringω (x ∷ y ∷ []) (search poly depth 20) refl

    second : (x y : Point) → x *ω numω (pos 0) +ω y *ω numω (pos 1) ≡ y
    second x y = by_ring ringω (x ∷ y ∷ []) (search poly depth 20) refl

pub factor : (w : List Letter) (m : Matrix) → prefixed w m ≡ product w · m
factor [] m = one_left m
factor (x ∷ w) m = ap (λ n. matrix x · n) (factor w m) ∙ assoc (matrix x) (product w) m

pub scale-times : (x : Point) (m n : Matrix) → scale x (m · n) ≡ scale x m · n
scale-times x m n = ext (push m.a m.b n.a n.c) (push m.a m.b n.b n.d) (push m.c m.d n.a n.c) (push m.c m.d n.b n.d)
  where
    push : (p q r s : Point) → x *ω (p *ω r +ω q *ω s) ≡ x *ω p *ω r +ω x *ω q *ω s
    push p q r s = by_ring ringω (p ∷ q ∷ r ∷ s ∷ x ∷ []) (search poly depth 20) refl

pub of_same : (v w : List Letter) → Same v w → Equal v w
of_same v w e = record {
  i = Hs w;
  j = Hs v;
  weighs = omega arith;
  is = λ m. ap (scale (√2^ (Hs w))) (factor v m) ∙ scale-times (√2^ (Hs w)) (product v) m ∙ ap (λ n. n · m) e.is ∙ sym (ap (scale (√2^ (Hs v))) (factor w m) ∙ scale-times (√2^ (Hs v)) (product w) m);
}

pub to_same : {v w : List Letter} → Equal v w → Same v w
to_same {v} {w} e = record { is = scale-cancel e.i _ _ (scale-swap (√2^ e.i) (√2^ (Hs w)) (product v) ∙ ap (scale (√2^ (Hs w))) (e.is one) ∙ sym (scale-+ (Hs w) e.j (product w)) ∙ ap (λ n. scale (√2^ n) (product w)) weight ∙ scale-+ e.i (Hs v) (product w)) }
  where
    weight : Hs w + e.j ≡ e.i + Hs v
    weight = omega (arith, e.weighs)

-- ---- two words of known letters: their columns compute
pub rule : (v w : List Letter) → root (Hs w) (run v).u ≡ root (Hs v) (run w).u → root (Hs w) (run v).t ≡ root (Hs v) (run w).t → (run v).l % 8 ≡ (run w).l % 8 → Equal v w
rule v w p q r = of_same v w (record {
  is =
      ap (scale (√2^ (Hs w))) (product-run v) ∙ scale-made (Hs w) _ _ (run v).l ∙ ap₂ (λ u t. made u t (run v).l) p q
      ∙ made-rest _ _ (run v).l ((run w).l % 8) r ∙ sym (made-rest _ _ (run w).l ((run w).l % 8) refl)
      ∙ sym (ap (scale (√2^ (Hs v))) (product-run w) ∙ scale-made (Hs v) _ _ (run w).l);
})
