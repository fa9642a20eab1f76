-- Letters on the left of a state's matrix: the syllables HT and SHT, and T.
use Rattle.std.specs.Prelude.{◌≡◌, refl, [], ◌∷◌, ℕ, zero, suc, ◌+◌, ◌*◌, ℤ, pos, negsuc, neg_ℤ}
use Rattle.std.proofs.Common.{sym, ◌∙◌, ap, ap₂, arith}
use Rattle.integers.specs.lemmas.RingZ.{polyZ}
use Rattle.integers.specs.lemmas.RingZ as Z
use Rattle.integers.specs.lemmas.Ring.{poly, by_ring}
use Rattle.ring.specs.declared.Point.{Point}
use Rattle.ring.specs.Point as P
use Rattle.ring.specs.Point.{◌+ω◌, ◌-ω◌, ◌*ω◌, negω, numω, ω, √2ω, ringω, ω_fourth, sum-parts}
use Rattle.ring.specs.Point.Divide.{times-√2}
use Rattle.gate_theory.specs.Points.{turn, back, dagger, minus_parts, times-ω}
use Rattle.gate_theory.specs.Table.{H, S, T, W}
use Rattle.gate_theory.specs.Matrix.{◌·◌, scale, matrix, made, ω^, ext}

-- ---- ω and †
neg_neg : (z : ℤ) → neg_ℤ (neg_ℤ z) ≡ z
neg_neg z = Z.by_ring (z ∷ []) (search polyZ depth 20) refl

pub turn-back : (v : Point) → turn (back v) ≡ v
turn-back v = P.ext refl refl refl (neg_neg v.d)

pub back-turn : (v : Point) → back (turn v) ≡ v
back-turn v = P.ext (neg_neg v.a) refl refl refl

pub ω_back : (v : Point) → ω *ω back v ≡ v
ω_back v = times-ω (back v) ∙ turn-back v

dagger-back : (v : Point) → dagger (back v) ≡ ω *ω dagger v
dagger-back v = P.ext refl refl (neg_neg v.d) (sym (neg_neg v.c)) ∙ sym (times-ω (dagger v))

pub dagger-turn : (v : Point) → ω *ω dagger (turn v) ≡ dagger v
dagger-turn v = sym (dagger-back (turn v)) ∙ ap dagger (back-turn v)

dagger-+ : (v w : Point) → dagger (v +ω w) ≡ dagger v +ω dagger w
dagger-+ v w = ap dagger (sum-parts v w) ∙ (let ρ = v.a ∷ v.b ∷ v.c ∷ v.d ∷ w.a ∷ w.b ∷ w.c ∷ w.d ∷ [] in P.ext (Z.by_ring ρ (search polyZ depth 30) refl) (Z.by_ring ρ (search polyZ depth 30) refl) (Z.by_ring ρ (search polyZ depth 30) refl) (Z.by_ring ρ (search polyZ depth 30) refl)) ∙ sym (sum-parts (dagger v) (dagger w))

dagger-- : (v w : Point) → dagger (v -ω w) ≡ dagger v -ω dagger w
dagger-- v w = ap dagger (minus_parts v w) ∙ (let ρ = v.a ∷ v.b ∷ v.c ∷ v.d ∷ w.a ∷ w.b ∷ w.c ∷ w.d ∷ [] in P.ext (Z.by_ring ρ (search polyZ depth 30) refl) (Z.by_ring ρ (search polyZ depth 30) refl) (Z.by_ring ρ (search polyZ depth 30) refl) (Z.by_ring ρ (search polyZ depth 30) refl)) ∙ sym (minus_parts (dagger v) (dagger w))

dagger-√2 : (v : Point) → dagger (v *ω √2ω) ≡ dagger v *ω √2ω
dagger-√2 v = ap dagger (times-√2 v) ∙ (let ρ = v.a ∷ v.b ∷ v.c ∷ v.d ∷ [] in P.ext (Z.by_ring ρ (search polyZ depth 30) refl) (Z.by_ring ρ (search polyZ depth 30) refl) (Z.by_ring ρ (search polyZ depth 30) refl) (Z.by_ring ρ (search polyZ depth 30) refl)) ∙ sym (times-√2 (dagger v))

-- ---- powers of ω
pub fourth : (x : Point) → ω *ω (ω *ω (ω *ω (ω *ω x))) ≡ negω x
fourth x = regroup ω x ∙ ap (λ t. t *ω x) ω_fourth ∙ minus x
  where
    regroup : (w x : Point) → w *ω (w *ω (w *ω (w *ω x))) ≡ w *ω w *ω (w *ω w) *ω x
    regroup w x = by_ring ringω (w ∷ x ∷ []) (search poly depth 20) refl

    minus : (x : Point) → numω (negsuc 0) *ω x ≡ negω x
    minus x = by_ring ringω (x ∷ []) (search poly depth 20) refl

-- ω⁸ = 1
pub ω_eight : (l : ℕ) → ω^ (suc (suc (suc (suc (suc (suc (suc (suc l)))))))) ≡ ω^ l
ω_eight l = fourth (ω *ω (ω *ω (ω *ω (ω *ω ω^ l)))) ∙ ap negω (fourth (ω^ l)) ∙ neg-negω (ω^ l)
  where
    neg-negω : (p : Point) → negω (negω p) ≡ p
    neg-negω p = by_ring ringω (p ∷ []) (search poly depth 20) refl

pub ω_by_eight : (n r : ℕ) → ω^ (n * 8 + r) ≡ ω^ r
ω_by_eight zero r = let e : 0 * 8 + r ≡ r = omega arith in ap ω^ e
ω_by_eight (suc n) r =
    let e : suc n * 8 + r ≡ suc (suc (suc (suc (suc (suc (suc (suc (n * 8 + r)))))))) = omega arith in
    ap ω^ e ∙ ω_eight (n * 8 + r) ∙ ω_by_eight n r

pub ω-+ : (a b : ℕ) → ω^ (a + b) ≡ ω^ a *ω ω^ b
ω-+ zero b = let e : 0 + b ≡ b = omega arith in ap ω^ e ∙ sym (P.*ω-one (ω^ b))
ω-+ (suc a) b = let e : suc a + b ≡ suc (a + b) = omega arith in ap ω^ e ∙ ap (λ z. ω *ω z) (ω-+ a b) ∙ sym (P.*ω-assoc ω (ω^ a) (ω^ b))

-- ---- a letter on the left of (u, −ω^l t†; t, ω^l u†)
none : (x y : Point) → numω (pos 1) *ω x +ω numω (pos 0) *ω y ≡ x
none x y = by_ring ringω (x ∷ y ∷ []) (search poly depth 20) refl

other : (x y z : Point) → numω (pos 0) *ω x +ω z *ω y ≡ z *ω y
other x y z = by_ring ringω (x ∷ y ∷ z ∷ []) (search poly depth 20) refl

only : (x y z : Point) → z *ω x +ω numω (pos 0) *ω y ≡ z *ω x
only x y z = by_ring ringω (x ∷ y ∷ z ∷ []) (search poly depth 20) refl

-- z⁻¹ = w: p z t = (w p) (z (z t)) and so on
move : (w p t : Point) → negω (p *ω (w *ω t)) ≡ negω (w *ω p *ω t)
move w p t = by_ring ringω (w ∷ p ∷ t ∷ []) (search poly depth 20) refl

assoc : (w p t : Point) → w *ω (p *ω t) ≡ w *ω p *ω t
assoc w p t = by_ring ringω (w ∷ p ∷ t ∷ []) (search poly depth 20) refl

module _ (u t : Point) (l : ℕ) where
  pub T-made : matrix T · made u (back t) l ≡ made u t (suc l)
  T-made = ext
      (none u (back t))
      (none _ _ ∙ ap (λ z. negω (ω^ l *ω z)) (dagger-back t) ∙ move ω (ω^ l) (dagger t))
      (other u (back t) ω ∙ ω_back t)
      (other _ _ ω ∙ assoc ω (ω^ l) (dagger u))

  pub S-made : matrix S · made u t l ≡ made u (turn (turn t)) (suc (suc l))
  S-made = ext
      (none u t)
      (none _ _ ∙ ap (λ z. negω (ω^ l *ω z)) (sym (dagger-turn t) ∙ ap (λ z. ω *ω z) (sym (dagger-turn (turn t)))) ∙ moves ω (ω^ l) (dagger (turn (turn t))))
      (other u t (ω *ω ω) ∙ twice ω t ∙ ap (λ z. ω *ω z) (times-ω t) ∙ times-ω (turn t))
      (other _ _ (ω *ω ω) ∙ assocs ω (ω^ l) (dagger u))
    where
      moves : (w p t : Point) → negω (p *ω (w *ω (w *ω t))) ≡ negω (w *ω (w *ω p) *ω t)
      moves w p t = by_ring ringω (w ∷ p ∷ t ∷ []) (search poly depth 20) refl

      twice : (w t : Point) → w *ω w *ω t ≡ w *ω (w *ω t)
      twice w t = by_ring ringω (w ∷ t ∷ []) (search poly depth 20) refl

      assocs : (w p t : Point) → w *ω w *ω (p *ω t) ≡ w *ω (w *ω p) *ω t
      assocs w p t = by_ring ringω (w ∷ p ∷ t ∷ []) (search poly depth 20) refl

  pub W-made : matrix W · made u t l ≡ made (turn u) (turn t) (suc (suc l))
  W-made = ext
      (only u t ω ∙ times-ω u)
      (only _ _ ω ∙ ap (λ z. ω *ω negω (ω^ l *ω z)) (sym (dagger-turn t)) ∙ moves ω (ω^ l) (dagger (turn t)))
      (other u t ω ∙ times-ω t)
      (other _ _ ω ∙ ap (λ z. ω *ω (ω^ l *ω z)) (sym (dagger-turn u)) ∙ assocs ω (ω^ l) (dagger (turn u)))
    where
      moves : (w p t : Point) → w *ω negω (p *ω (w *ω t)) ≡ negω (w *ω (w *ω p) *ω t)
      moves w p t = by_ring ringω (w ∷ p ∷ t ∷ []) (search poly depth 20) refl

      assocs : (w p t : Point) → w *ω (p *ω (w *ω t)) ≡ w *ω (w *ω p) *ω t
      assocs w p t = by_ring ringω (w ∷ p ∷ t ∷ []) (search poly depth 20) refl

  pub H-made : matrix H · made u t l ≡ made (u +ω t) (u -ω t) (suc (suc (suc (suc l))))
  H-made = ext
      (by_ring ringω (u ∷ t ∷ []) (search poly depth 20) refl)
      (lower (ω^ l) (dagger u) (dagger t) ∙ sym (ap₂ (λ p z. negω (p *ω z)) (fourth (ω^ l)) (dagger-- u t)))
      (by_ring ringω (u ∷ t ∷ []) (search poly depth 20) refl)
      (raise (ω^ l) (dagger u) (dagger t) ∙ sym (ap₂ (λ p z. p *ω z) (fourth (ω^ l)) (dagger-+ u t)))
    where
      lower : (p x y : Point) → numω (pos 1) *ω negω (p *ω y) +ω numω (pos 1) *ω (p *ω x) ≡ negω (negω p *ω (x -ω y))
      lower p x y = by_ring ringω (p ∷ x ∷ y ∷ []) (search poly depth 20) refl

      raise : (p x y : Point) → numω (pos 1) *ω negω (p *ω y) +ω numω (negsuc 0) *ω (p *ω x) ≡ negω p *ω (x +ω y)
      raise p x y = by_ring ringω (p ∷ x ∷ y ∷ []) (search poly depth 20) refl

  pub made-eight : made u t (suc (suc (suc (suc (suc (suc (suc (suc l)))))))) ≡ made u t l
  made-eight = ap (λ p. record { a = u; b = negω (p *ω dagger t); c = t; d = p *ω dagger u }) (ω_eight l)

  pub made-√2 : made (u *ω √2ω) (t *ω √2ω) l ≡ scale √2ω (made u t l)
  made-√2 = ext (swap u √2ω) (ap (λ z. negω (ω^ l *ω z)) (dagger-√2 t) ∙ out (ω^ l) (dagger t) √2ω) (swap t √2ω) (ap (λ z. ω^ l *ω z) (dagger-√2 u) ∙ outs (ω^ l) (dagger u) √2ω)
    where
      swap : (x r : Point) → x *ω r ≡ r *ω x
      swap x r = by_ring ringω (x ∷ r ∷ []) (search poly depth 20) refl

      out : (p x r : Point) → negω (p *ω (x *ω r)) ≡ r *ω negω (p *ω x)
      out p x r = by_ring ringω (p ∷ x ∷ r ∷ []) (search poly depth 20) refl

      outs : (p x r : Point) → p *ω (x *ω r) ≡ r *ω (p *ω x)
      outs p x r = by_ring ringω (p ∷ x ∷ r ∷ []) (search poly depth 20) refl
