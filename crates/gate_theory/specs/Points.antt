-- What the words need of points: times ω and over ω, negation, complex conjugation, halves, the squares and the cross sum, and parities.
use Rattle.std.specs.Prelude.{◌≡◌, refl, [], ◌∷◌, ℤ, pos, neg_ℤ, ◌+ℤ◌, ◌-ℤ◌, ◌*ℤ◌}
use Rattle.std.proofs.Common.{sym, ◌∙◌, ap, arith}
use Rattle.integers.specs.Difference.{by⊖, zz}
use Rattle.integers.specs.lemmas.Linear.{from≡, goal≡}
use Rattle.integers.specs.Parity.{half}
use Rattle.integers.specs.lemmas.Ring.{poly}
use Rattle.integers.specs.lemmas.Ring as R
use Rattle.integers.specs.lemmas.RingZ.{polyZ, by_ring}
use Rattle.ring.specs.declared.Point.{Point}
use Rattle.ring.specs.RootTwo.{◌⊞◌, ◌⊟◌, ◌⊠◌, √2, parts}
use Rattle.ring.specs.Point.{◌+ω◌, ◌-ω◌, ◌*ω◌, negω, numω, ω, √2ω, √2x, √2y, ext, sum-parts, √2x_parts, √2y_parts, ω_parts, delta-parts, ringω, +ω-zero, *ω-assoc, √2x-*, √2y-*}

-- ω v and ω⁻¹ v
abbrev pub turn : Point → Point
turn v = record { a = v.b; b = v.c; c = v.d; d = neg_ℤ v.a }

abbrev pub back : Point → Point
back v = record { a = neg_ℤ v.d; b = v.a; c = v.b; d = v.c }

-- v†
abbrev pub dagger : Point → Point
dagger v = record { a = neg_ℤ v.c; b = neg_ℤ v.b; c = neg_ℤ v.a; d = v.d }

-- v/2
abbrev pub halved : Point → Point
halved v = record { a = half v.a; b = half v.b; c = half v.c; d = half v.d }

-- |v|² = N v + F v √2
abbrev pub N : Point → ℤ
N v = v.a *ℤ v.a +ℤ v.b *ℤ v.b +ℤ (v.c *ℤ v.c +ℤ v.d *ℤ v.d)

abbrev pub F : Point → ℤ
F v = v.d *ℤ v.c -ℤ v.d *ℤ v.a +ℤ (v.b *ℤ v.c +ℤ v.a *ℤ v.b)

-- ---- the parts of 0, of −v and of ω v, from the laws of the ring
nil : (x : ℤ) → x +ℤ x ≡ x → x ≡ pos 0
nil = by⊖ _ λ x x'. simp zz (omega arith)

opposite : (x y : ℤ) → x +ℤ y ≡ pos 0 → y ≡ neg_ℤ x
opposite = by⊖ _ λ x x'. by⊖ _ λ y y'. simp zz (omega arith)

pub zero-parts : numω (pos 0) ≡ record { a = pos 0; b = pos 0; c = pos 0; d = pos 0 }
zero-parts =
    let o = numω (pos 0) in
    let e = sym (sum-parts o o) ∙ +ω-zero o in
    ext (nil o.a (ap (λ t. t.a) e)) (nil o.b (ap (λ t. t.b) e)) (nil o.c (ap (λ t. t.c) e)) (nil o.d (ap (λ t. t.d) e))

take : (x y z : ℤ) → x +ℤ y ≡ z → x ≡ z -ℤ y
take = by⊖ _ λ x x'. by⊖ _ λ y y'. by⊖ _ λ z z'. simp zz (omega arith)

-- 1 = (1 + ω) − ω
pub one-parts : numω (pos 1) ≡ record { a = pos 0; b = pos 0; c = pos 0; d = pos 1 }
one-parts =
    let o = numω (pos 1) in
    let e = sym (sum-parts o ω) ∙ delta-parts in
    ext (take o.a ω.a (pos 0) (ap (λ t. t.a) e)) (take o.b ω.b (pos 0) (ap (λ t. t.b) e)) (take o.c ω.c (pos 1) (ap (λ t. t.c) e)) (take o.d ω.d (pos 1) (ap (λ t. t.d) e))
    ∙ ap (λ (w : Point). record { a = pos 0 -ℤ w.a; b = pos 0 -ℤ w.b; c = pos 1 -ℤ w.c; d = pos 1 -ℤ w.d }) ω_parts

pub neg_parts : (v : Point) → negω v ≡ record { a = neg_ℤ v.a; b = neg_ℤ v.b; c = neg_ℤ v.c; d = neg_ℤ v.d }
neg_parts v =
    let w = negω v in
    let e = sym (sum-parts v w) ∙ none v ∙ zero-parts in
    ext (opposite v.a w.a (ap (λ t. t.a) e)) (opposite v.b w.b (ap (λ t. t.b) e)) (opposite v.c w.c (ap (λ t. t.c) e)) (opposite v.d w.d (ap (λ t. t.d) e))
  where
    none : (v : Point) → v +ω negω v ≡ numω (pos 0)
    none v = R.by_ring ringω (v ∷ []) (search poly depth 20) refl

pub minus_parts : (v w : Point) → v -ω w ≡ record { a = v.a -ℤ w.a; b = v.b -ℤ w.b; c = v.c -ℤ w.c; d = v.d -ℤ w.d }
minus_parts v w = sum-parts v (negω w) ∙ ap (λ (t : Point). record { a = v.a +ℤ t.a; b = v.b +ℤ t.b; c = v.c +ℤ t.c; d = v.d +ℤ t.d }) (neg_parts w)

-- √2 Re(ω v) = Re v − Im v, and √2 Im(ω v) = Re v + Im v
module _ (x v w : Point) (e : x ≡ record { a = pos 0; b = pos 0; c = pos 1; d = pos 0 }) (f : √2 ⊠ √2x w ≡ √2x x ⊠ √2x v ⊟ √2y x ⊠ √2y v) (g : √2 ⊠ √2y w ≡ √2x x ⊠ √2y v ⊞ √2y x ⊠ √2x v) where
  times : w ≡ turn v
  times =
      let ρ = v.a ∷ v.b ∷ v.c ∷ v.d ∷ w.a ∷ w.b ∷ w.c ∷ w.d ∷ [] in
      let f' = simp (√2x_parts, √2y_parts, e, parts) at f in
      let g' = simp (√2x_parts, √2y_parts, e, parts) at g in
      let re = from≡ ρ (ap (λ t. t.p) f') (search polyZ depth 40) in
      let re' = from≡ ρ (ap (λ t. t.q) f') (search polyZ depth 40) in
      let im = from≡ ρ (ap (λ t. t.p) g') (search polyZ depth 40) in
      let im' = from≡ ρ (ap (λ t. t.q) g') (search polyZ depth 40) in
      ext (goal≡ ρ (search polyZ depth 20) (omega arith)) (goal≡ ρ (search polyZ depth 20) (omega arith)) (goal≡ ρ (search polyZ depth 20) (omega arith)) (goal≡ ρ (search polyZ depth 20) (omega arith))

pub times-ω : (v : Point) → ω *ω v ≡ turn v
times-ω v = times ω v (ω *ω v) ω_parts (√2x-* ω v) (√2y-* ω v)

pub turn-√2 : (v : Point) → turn (v *ω √2ω) ≡ turn v *ω √2ω
turn-√2 v = sym (times-ω (v *ω √2ω)) ∙ sym (*ω-assoc ω v √2ω) ∙ ap (λ t. t *ω √2ω) (times-ω v)
