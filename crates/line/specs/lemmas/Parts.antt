-- The test of a pair in whole numbers, as it computes: by the signs and the squares of the two parts.
use Rattle.std.specs.Prelude.{◌≡◌, refl, Bool, ◌&&◌, [], ◌∷◌, ◌*◌, ℤ, neg_ℤ, nat_abs, ◌-ℤ◌, ◌*ℤ◌}
use Rattle.std.proofs.Common.{◌∙◌, ap, ap₂}
use Rattle.std.specs.Int.Signed.{non_neg}
use Rattle.integers.specs.lemmas.RingZ.{polyZ}
use Rattle.integers.specs.lemmas.RingZ as Z
use Rattle.ring.specs.Sign.{by_signs, sign_of_is}
use Rattle.ring.specs.RootTwo.{ext, parts, conj_parts}
use Rattle.ring.specs.RootTwo.Order.{nonneg, nonneg_is, not_minus}
use Rattle.line_rows.specs.Row.{at}
use Rattle.line_steps.specs.declared.Interval.{Interval}
use Rattle.line.specs.Line.{holds, solves}

-- p + q√2 ≥ 0
abbrev pub nonneg_at : ℤ → ℤ → Bool
nonneg_at p q = not_minus (by_signs (non_neg p) (non_neg q) (nat_abs p * nat_abs p) (2 * (nat_abs q * nat_abs q)))

-- lo ≤ n(a + b√2) ≤ hi
abbrev pub holds_parts : Interval → ℤ → ℤ → Bool
holds_parts i a b = nonneg_at (i.n *ℤ a -ℤ i.lo) (i.n *ℤ b) && nonneg_at (i.hi -ℤ i.n *ℤ a) (neg_ℤ (i.n *ℤ b))

abbrev pub solves_parts : Interval → Interval → ℤ → ℤ → Bool
solves_parts i j a b = holds_parts i a b && holds_parts j a (neg_ℤ b)

nonneg_at_lem : (p q : ℤ) → nonneg (at p q) ≡ nonneg_at p q
nonneg_at_lem p q = nonneg_is (at p q) ∙ ap not_minus (sign_of_is p q)

holds-is : (i : Interval) (a b : ℤ) → holds i (at a b) ≡ holds_parts i a b
unfolding holds
holds-is i a b =
    ap₂ ◌&&◌
    (ap nonneg (simp parts (ext (Z.by_ring (i.n ∷ a ∷ b ∷ i.lo ∷ []) (search polyZ depth 30) refl) (Z.by_ring (i.n ∷ a ∷ b ∷ []) (search polyZ depth 30) refl))) ∙ nonneg_at_lem (i.n *ℤ a -ℤ i.lo) (i.n *ℤ b))
    (ap nonneg (simp parts (ext (Z.by_ring (i.n ∷ a ∷ b ∷ i.hi ∷ []) (search polyZ depth 30) refl) (Z.by_ring (i.n ∷ a ∷ b ∷ []) (search polyZ depth 30) refl))) ∙ nonneg_at_lem (i.hi -ℤ i.n *ℤ a) (neg_ℤ (i.n *ℤ b)))

pub solves-is : (i j : Interval) (a b : ℤ) → solves i j a b ≡ solves_parts i j a b
unfolding solves
solves-is i j a b = ap₂ ◌&&◌ (holds-is i a b) (ap (holds j) (conj_parts (at a b)) ∙ holds-is j a (neg_ℤ b))
