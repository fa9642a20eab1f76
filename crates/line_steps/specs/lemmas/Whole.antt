-- What whole bounds say: of z, from those of a strip; of a and b, from those of z = a + b√2 and z•.
use Rattle.std.specs.Prelude.{◌≡◌, refl, true, [], ◌∷◌, ℤ, pos, neg_ℤ, ◌+ℤ◌, ◌*ℤ◌}
use Rattle.std.proofs.Common.{ap, arith}
use Rattle.integers.specs.Difference.{by⊖, zz, ◌≼◌}
use Rattle.integers.specs.lemmas.Ring.{poly, by_ring}
use Rattle.integers.specs.lemmas.RingZ.{polyZ}
use Rattle.integers.specs.lemmas.RingZ as Z
use Rattle.ring.specs.declared.RootTwo.{RootTwo}
use Rattle.ring.specs.RootTwo.{◌⊞◌, ◌⊟◌, ◌⊠◌, conj, num, ring√, ext, parts, num-*}
use Rattle.ring.specs.RootTwo.Order.{◌⊑◌, nn_by, nn-+, nn-*, nn_num, one⊑√2, num-⊑, ⊑-num, ⊑_trans, nn_cancel, ⊑-conj-root}
use Rattle.line_rows.specs.declared.Band.{Band}
use Rattle.line_rows.specs.Row.{at, above, below}

-- ---- a strip bounds z: between −10,000 and 10,000
module _ (s : Band) (k l : ℤ) (one : pos 1 ≼ s.m) where
  -- n·k ≤ lo: k ≤ z
  pub above-whole : s.lo ≡ num l → s.m *ℤ k ≼ l → (z : RootTwo) → above s z ≡ true → num k ⊑ z
  above-whole e h z t =
      nn_cancel (num s.m) (z ⊟ num k) (num-⊑ one)
      (nn_by (step (num s.m) z (num l) (num k)) (nn-+ (nn_by (ap (λ t. num s.m ⊠ z ⊟ t) e) (record { nn = t })) (nn_by (ap (λ t. num l ⊟ t) (num-* s.m k)) (num-⊑ h))))
    where
      step : (m z l k : RootTwo) → m ⊠ z ⊟ l ⊞ (l ⊟ m ⊠ k) ≡ m ⊠ (z ⊟ k)
      step m z l k = by_ring ring√ (m ∷ z ∷ l ∷ k ∷ []) (search poly depth 30) refl

  -- hi ≤ n·k: z ≤ k
  pub below-whole : s.hi ≡ num l → l ≼ s.m *ℤ k → (z : RootTwo) → below s z ≡ true → z ⊑ num k
  below-whole e h z t =
      nn_cancel (num s.m) (num k ⊟ z) (num-⊑ one)
      (nn_by (step (num s.m) z (num l) (num k)) (nn-+ (nn_by (ap (λ t. t ⊟ num s.m ⊠ z) e) (record { nn = t })) (nn_by (ap (λ t. t ⊟ num l) (num-* s.m k)) (num-⊑ h))))
    where
      step : (m z l k : RootTwo) → l ⊟ m ⊠ z ⊞ (m ⊠ k ⊟ l) ≡ m ⊠ (k ⊟ z)
      step m z l k = by_ring ring√ (m ∷ z ∷ l ∷ k ∷ []) (search poly depth 30) refl

-- k ≤ z and l ≤ z•: k + l ≤ 2a; and from above
pub sum-from : (k l a b : ℤ) → num k ⊑ at a b → num l ⊑ conj (at a b) → k +ℤ l ≼ a +ℤ a
sum-from k l a b h g =
    ⊑-num (k +ℤ l) (a +ℤ a)
    (nn_by (simp parts (ext (Z.by_ring (k ∷ l ∷ a ∷ []) (search polyZ depth 30) refl) (Z.by_ring (b ∷ []) (search polyZ depth 30) refl))) (nn-+ h g))

pub sum_to : (k l a b : ℤ) → at a b ⊑ num k → conj (at a b) ⊑ num l → a +ℤ a ≼ k +ℤ l
sum_to k l a b h g =
    ⊑-num (a +ℤ a) (k +ℤ l)
    (nn_by (simp parts (ext (Z.by_ring (k ∷ l ∷ a ∷ []) (search polyZ depth 30) refl) (Z.by_ring (b ∷ []) (search polyZ depth 30) refl))) (nn-+ h g))

-- b ≤ k where z ≤ k and −k ≤ z•, since k ≤ k√2
pub root-to : (k a b : ℤ) → pos 0 ≼ k → at a b ⊑ num k → num (neg_ℤ k) ⊑ conj (at a b) → b ≼ k
root-to k a b nn h g =
    ⊑-conj-root (at a b) (at (pos 0) k) (⊑_trans (at a b) (num k) (at (pos 0) k) h up)
    (⊑_trans (conj (at (pos 0) k)) (num (neg_ℤ k)) (conj (at a b)) (nn_by (turned k) up) g)
  where
    up : num k ⊑ at (pos 0) k
    up = nn_by (simp parts (ext (Z.by_ring (k ∷ []) (search polyZ depth 30) refl) (Z.by_ring (k ∷ []) (search polyZ depth 30) refl))) (nn-* (nn_num nn) one⊑√2)

    turned : (k : ℤ) → at (pos 0) k ⊟ num k ≡ num (neg_ℤ k) ⊟ conj (at (pos 0) k)
    turned k = simp parts (ext (Z.by_ring (k ∷ []) (search polyZ depth 30) refl) (Z.by_ring (k ∷ []) (search polyZ depth 30) refl))

pub root-from : (k a b : ℤ) → pos 0 ≼ k → num (neg_ℤ k) ⊑ at a b → conj (at a b) ⊑ num k → neg_ℤ k ≼ b
root-from k a b nn h g = turned b k (root-to k a (neg_ℤ b) nn (nn_by (first k a b) g) (nn_by (second k a b) h))
  where
    first : (k a b : ℤ) → num k ⊟ conj (at a b) ≡ num k ⊟ at a (neg_ℤ b)
    first k a b = simp parts (ext (Z.by_ring (k ∷ a ∷ []) (search polyZ depth 30) refl) (Z.by_ring (b ∷ []) (search polyZ depth 30) refl))

    second : (k a b : ℤ) → at a b ⊟ num (neg_ℤ k) ≡ conj (at a (neg_ℤ b)) ⊟ num (neg_ℤ k)
    second k a b = simp parts (ext (Z.by_ring (k ∷ a ∷ []) (search polyZ depth 30) refl) (Z.by_ring (b ∷ []) (search polyZ depth 30) refl))

    turned : (b k : ℤ) → neg_ℤ b ≼ k → neg_ℤ k ≼ b
    turned = by⊖ _ λ p p'. by⊖ _ λ q q'. simp zz (omega arith)
