-- Powers of √2 cancel, and powers of ω are told apart by what they do to a point that is not 0.
use Rattle.std.specs.Prelude.{◌≡◌, refl, true, [], ◌∷◌, ℕ, zero, suc, ◌+◌, ◌-◌, ◌*◌, ◌<◌, ℤ, pos, neg_ℤ, ◌+ℤ◌, ◌*ℤ◌}
use Rattle.std.proofs.Common.{sym, ◌∙◌, ap, ap₂, arith}
use Rattle.std.proofs.Math.Decide.{dec_lt}
use Rattle.integers.specs.Difference.{by⊖, zz}
use Rattle.integers.specs.lemmas.Ring.{poly, by_ring}
use Rattle.ring.specs.declared.Point.{Point}
use Rattle.ring.specs.Point.{◌*ω◌, negω, numω, ω, √2ω, ringω, *ω-one, *ω-assoc}
use Rattle.ring.specs.Point.Divide.{times-injective}
use Rattle.gate_theory.specs.Bits.{rest}
use Rattle.gate_theory.specs.Points.{neg_parts, N}
use Rattle.gate_theory.specs.Parities.{parities}
use Rattle.gate_theory.proofs.lemmas.Least.{u-rest}
use Rattle.gate_theory.proofs.lemmas.Letters.{fourth, ω_by_eight, ω-+}
use Rattle.gate_theory.specs.Matrix.{Matrix, scale, √2^, ω^, ext}

-- ---- powers of √2 cancel
pub cancel : (k : ℕ) (x y : Point) → √2^ k *ω x ≡ √2^ k *ω y → x ≡ y
cancel zero x y h = sym (*ω-one x) ∙ h ∙ *ω-one y
cancel (suc k) x y h = cancel k x y (times-injective _ _ (swap (√2^ k) x √2ω ∙ h ∙ sym (swap (√2^ k) y √2ω)))
  where
    swap : (p x s : Point) → p *ω x *ω s ≡ p *ω s *ω x
    swap p x s = by_ring ringω (p ∷ x ∷ s ∷ []) (search poly depth 20) refl

pub scale-cancel : (k : ℕ) (m n : Matrix) → scale (√2^ k) m ≡ scale (√2^ k) n → m ≡ n
scale-cancel k m n e = ext (cancel k _ _ (ap (λ m. m.a) e)) (cancel k _ _ (ap (λ m. m.b) e)) (cancel k _ _ (ap (λ m. m.c) e)) (cancel k _ _ (ap (λ m. m.d) e))

-- √2^(i + j + 1) y = √2^i x: √2 divides x
power-+ : (i j : ℕ) → √2^ (i + j) ≡ √2^ i *ω √2^ j
power-+ i zero = let e : i + 0 ≡ i = omega arith in ap √2^ e ∙ unit (√2^ i)
  where
    unit : (x : Point) → x ≡ x *ω numω (pos 1)
    unit x = by_ring ringω (x ∷ []) (search poly depth 20) refl
power-+ i (suc j) = let e : i + suc j ≡ suc (i + j) = omega arith in ap √2^ e ∙ ap (λ t. t *ω √2ω) (power-+ i j) ∙ *ω-assoc (√2^ i) (√2^ j) √2ω

pub divides : (i k : ℕ) (x y : Point) → i < k → √2^ i *ω x ≡ √2^ k *ω y → rest (parities x) ≡ true
divides i k x y h e =
    let n : i + suc (k - suc i) ≡ k = omega arith in
    u-rest x (√2^ (k - suc i) *ω y) (cancel i _ _ (move (√2^ i) (√2^ (k - suc i)) y √2ω ∙ ap (λ t. t *ω y) (sym (power-+ i (suc (k - suc i))) ∙ ap √2^ n) ∙ sym e))
  where
    move : (p q y s : Point) → p *ω (q *ω y *ω s) ≡ p *ω (q *ω s) *ω y
    move p q y s = by_ring ringω (p ∷ q ∷ y ∷ s ∷ []) (search poly depth 20) refl

-- ---- ω^j v = v with 0 < j < 8 only for v = 0
self_opposite : (v : Point) → negω v ≡ v → N v ≡ pos 0
self_opposite v e =
    let f = sym (neg_parts v) ∙ e in
    let a = zero_of v.a (ap (λ t. t.a) f) in
    let b = zero_of v.b (ap (λ t. t.b) f) in
    let c = zero_of v.c (ap (λ t. t.c) f) in
    let d = zero_of v.d (ap (λ t. t.d) f) in
    ap₂ ◌+ℤ◌ (ap₂ (λ x y. x *ℤ x +ℤ y *ℤ y) a b) (ap₂ (λ x y. x *ℤ x +ℤ y *ℤ y) c d)
  where
    zero_of : (x : ℤ) → neg_ℤ x ≡ x → x ≡ pos 0
    zero_of = by⊖ _ λ p n. simp zz (omega arith)

repeated : (n d : ℕ) (x : Point) → x ≡ ω^ d *ω x → x ≡ ω^ (n * d) *ω x
repeated zero d x e = let f : 0 * d ≡ 0 = omega arith in sym (ap (λ j. ω^ j *ω x) f ∙ *ω-one x)
repeated (suc n) d x e =
    let f : suc n * d ≡ d + n * d = omega arith in
    e ∙ ap (λ z. ω^ d *ω z) (repeated n d x e) ∙ sym (*ω-assoc (ω^ d) (ω^ (n * d)) x) ∙ ap (λ z. z *ω x) (sym (ω-+ d (n * d)) ∙ ap ω^ (sym f))

-- some n d is 4 by 8
fixed : (n q d : ℕ) (x : Point) → n * d ≡ q * 8 + 4 → x ≡ ω^ d *ω x → N x ≡ pos 0
fixed n q d x m e = self_opposite x (sym (repeated n d x e ∙ ap (λ z. z *ω x) (ap ω^ m ∙ ω_by_eight q 4) ∙ four ω x ∙ fourth x))
  where
    four : (w x : Point) → w *ω (w *ω (w *ω (w *ω numω (pos 1)))) *ω x ≡ w *ω (w *ω (w *ω (w *ω x)))
    four w x = by_ring ringω (w ∷ x ∷ []) (search poly depth 20) refl

unmoved : (d : ℕ) (x : Point) → 0 < d → d < 8 → x ≡ ω^ d *ω x → N x ≡ pos 0
unmoved zero x h l e = absurd (omega arith)
unmoved (suc zero) x h l e = fixed 4 0 1 x refl e
unmoved (suc (suc zero)) x h l e = fixed 2 0 2 x refl e
unmoved (suc (suc (suc zero))) x h l e = fixed 4 1 3 x refl e
unmoved (suc (suc (suc (suc zero)))) x h l e = fixed 1 0 4 x refl e
unmoved (suc (suc (suc (suc (suc zero))))) x h l e = fixed 4 2 5 x refl e
unmoved (suc (suc (suc (suc (suc (suc zero)))))) x h l e = fixed 2 1 6 x refl e
unmoved (suc (suc (suc (suc (suc (suc (suc zero))))))) x h l e = fixed 4 3 7 x refl e
unmoved (suc (suc (suc (suc (suc (suc (suc (suc d)))))))) x h l e = absurd (omega arith)

-- ω^a x = ω^b x with a < b < 8: multiplied by ω^(8 − a)
apart : (a b : ℕ) (x : Point) → a < b → b < 8 → ω^ a *ω x ≡ ω^ b *ω x → N x ≡ pos 0
apart a b x h l e =
    let p : 8 - a + a ≡ 1 * 8 + 0 = omega arith in
    let q : 8 - a + b ≡ 1 * 8 + (b - a) = omega arith in
    unmoved (b - a) x (omega arith) (omega arith) (sym (*ω-one x) ∙ ap (λ z. z *ω x) (sym (ap ω^ p ∙ ω_by_eight 1 0) ∙ ω-+ (8 - a) a) ∙ *ω-assoc _ _ x ∙ ap (λ z. ω^ (8 - a) *ω z) e ∙ sym (*ω-assoc _ _ x) ∙ ap (λ z. z *ω x) (sym (ω-+ (8 - a) b) ∙ ap ω^ q ∙ ω_by_eight 1 (b - a)))

pub phase : (a b : ℕ) (x y : Point) → a < 8 → b < 8 → ω^ a *ω x ≡ ω^ b *ω x → ω^ a *ω y ≡ ω^ b *ω y → (N x +ℤ N y ≡ pos 0 → ⊥) → a ≡ b
phase a b x y h l e f n = go (dec_lt a b) (dec_lt b a)
  where
    go : Dec (a < b) → Dec (b < a) → a ≡ b
    go (yes i) j = absurd (n (ap₂ ◌+ℤ◌ (apart a b x i l e) (apart a b y i l f)))
    go (no i) (yes j) = absurd (n (ap₂ ◌+ℤ◌ (apart b a x j h (sym e)) (apart b a y j h (sym f))))
    go (no i) (no j) = omega arith
