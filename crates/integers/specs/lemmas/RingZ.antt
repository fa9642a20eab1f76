-- ℤ as a commutative ring: `by_ring (a ∷ b ∷ []) (search polyZ depth 30) refl` proves an identity over ℤ.
use Rattle.std.specs.Prelude.{◌≡◌, refl, List, [], ◌∷◌, ℕ, ℤ, pos, negsuc, neg_ℤ, ◌+ℤ◌, ◌-ℤ◌, ◌*ℤ◌}
use Rattle.std.proofs.Common.{◌∙◌, ap, arith}
use Rattle.std.proofs.Math.IntN.{+ℤ_idl, +ℤ_comm, zero-*ℤ, *ℤ_comm, +ℤ_assoc}
use Rattle.integers.specs.Difference.{by⊖, zz}
use Rattle.integers.specs.lemmas.Ring.{CRing, Poly, Polys, S, nf, none, add, neg, lit, r_both, r-add, r-mul, r-neg, r-var, r-0, r-1, r-2, r-3, r-past}
use Rattle.integers.specs.lemmas.Ring as R

pub *ℤ-assoc : (a b c : ℤ) → (a *ℤ b) *ℤ c ≡ a *ℤ (b *ℤ c)
*ℤ-assoc = by⊖ _ λ p n. by⊖ _ λ q m. by⊖ _ λ r k. simp zz (omega arith)

pub *ℤ-+ℤ : (a b c : ℤ) → a *ℤ (b +ℤ c) ≡ a *ℤ b +ℤ a *ℤ c
*ℤ-+ℤ = by⊖ _ λ p n. by⊖ _ λ q m. by⊖ _ λ r k. simp zz (omega arith)

pub one-*ℤ : (a : ℤ) → pos 1 *ℤ a ≡ a
one-*ℤ = by⊖ _ λ p n. simp zz (omega arith)

pub neg-*ℤ : (a : ℤ) → neg_ℤ a ≡ negsuc 0 *ℤ a
neg-*ℤ = by⊖ _ λ p n. simp zz (omega arith)

abbrev pub ringℤ : CRing ℤ
ringℤ = record {
  num = λ k. k;
  ◌⊕◌ = ◌+ℤ◌;
  ◌⊗◌ = ◌*ℤ◌;
  ⊝ = neg_ℤ;
  num-+ = λ a b. refl;
  num-* = λ a b. refl;
  zero-⊕ = +ℤ_idl;
  ⊕-comm = +ℤ_comm;
  ⊕-assoc = +ℤ_assoc;
  zero-⊗ = zero-*ℤ;
  one-⊗ = one-*ℤ;
  ⊗-comm = *ℤ_comm;
  ⊗-assoc = *ℤ-assoc;
  ⊗-⊕ = *ℤ-+ℤ;
  neg_is = neg-*ℤ;
}

-- what stands for an integer in ℤ is any term, so only the constructors are read as numbers
abbrev pub r-pos : {ρ : List ℤ} {k : ℕ} → Poly ringℤ ρ (pos k)
r-pos {k = k} = record { ex = lit (pos k); ok = refl }

abbrev pub r-negsuc : {ρ : List ℤ} {k : ℕ} → Poly ringℤ ρ (negsuc k)
r-negsuc {k = k} = record { ex = lit (negsuc k); ok = refl }

pub ruleset polyZ = (r_both, r-add, r-mul, r-neg, r-pos, r-negsuc, r-var, r-0, r-1, r-2, r-3, r-past)

-- the normal form of left − right
abbrev pub difference : {l r : ℤ} {ρ : List ℤ} → Polys ringℤ ρ l r → S
difference p = nf (add p.left.ex (neg p.right.ex))

pub by_ring : {l r : ℤ} (ρ : List ℤ) (p : Polys ringℤ ρ l r) → difference p ≡ none → l ≡ r
by_ring = R.by_ring ringℤ

-- from x ≡ y: l ≡ r where l + k y ≡ r + k x is an identity (k is the cofactor)
pub by_ring_from : {x y l r : ℤ} → x ≡ y → (k : ℤ) → l +ℤ k *ℤ y ≡ r +ℤ k *ℤ x → l ≡ r
by_ring_from {x} {y} {l} {r} e k h = cancel l r (k *ℤ x) (ap (λ t. l +ℤ k *ℤ t) e ∙ h)
  where
    cancel : (a b c : ℤ) → a +ℤ c ≡ b +ℤ c → a ≡ b
    cancel = by⊖ _ λ p n. by⊖ _ λ q m. by⊖ _ λ r k. simp zz (omega arith)

-- Brahmagupta's identity: the norm of ℤ[√2] is multiplicative
pub norm_mul : (a b c d : ℤ) → (a *ℤ a -ℤ pos 2 *ℤ (b *ℤ b)) *ℤ (c *ℤ c -ℤ pos 2 *ℤ (d *ℤ d)) ≡ (a *ℤ c +ℤ pos 2 *ℤ (b *ℤ d)) *ℤ (a *ℤ c +ℤ pos 2 *ℤ (b *ℤ d)) -ℤ pos 2 *ℤ ((a *ℤ d +ℤ b *ℤ c) *ℤ (a *ℤ d +ℤ b *ℤ c))
norm_mul a b c d = by_ring (a ∷ b ∷ c ∷ d ∷ []) (search polyZ depth 30) refl
