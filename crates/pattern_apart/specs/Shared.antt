-- What a region and the unit disk share: a slice of the disk, from where the region begins in the slice's direction on, holds it.
use Rattle.std.specs.Prelude.{◌≡◌, refl, true, [], ◌∷◌, ℕ, suc, ◌≤◌, pos, neg_ℤ}
use Rattle.std.proofs.Common.{sym, ◌∙◌, arith}
use Rattle.integers.specs.lemmas.Ring.{poly, by_ring}
use Rattle.integers.specs.lemmas.Size.{size-neg}
use Rattle.ring.specs.declared.RootTwo.{RootTwo}
use Rattle.ring.specs.RootTwo.{◌⊞◌, ◌⊟◌, ◌⊠◌, neg, num, ring√, num_neg}
use Rattle.ring.specs.RootTwo.Order.{nn_by}
use Rattle.ring.specs.RootTwo.Power.{√2^, √2^-nn}
use Rattle.region.specs.declared.Slice.{Slice}
use Rattle.region.specs.declared.Region.{Region}
use Rattle.region.specs.declared.Region.TheVariants as R
use Rattle.region.specs.Region.{accepted, in_ellipse, holds}
use Rattle.region.specs.Region as Regions
use Rattle.region.specs.Accepted.{slice-limits}
use Rattle.region.specs.lemmas.Membership.{in_ellipse-true_lem, in_ellipse-true, holds-in, in_holds}
use Rattle.region.specs.Ready.{disk-cancels}
use Rattle.region.specs.Over.{scale, Over}
use Rattle.region.specs.Reach.{reach_of}
use Rattle.region.specs.ReachOver.{reach_over}
use Rattle.pattern_apart.specs.Apart.{disk, disk-accepted}

-- s is a region that holds all that r and the unit disk both hold
pub record Shares (r s : Region) : Type 0 where
  pub taken : accepted s ≡ true
  pub both : (k : ℕ) (X Y : RootTwo) → holds r (√2^ (suc k)) X Y ≡ true → holds disk (√2^ (suc k)) X Y ≡ true → holds s (√2^ (suc k)) X Y ≡ true

pub disk-shares : (r : Region) → Shares r disk
disk-shares r = record { taken = disk-accepted; both = λ k X Y a b. b }

-- the unit disk, as a slice's disk is one
abbrev one : Slice
one = record { n = 1; zx = pos 1; zy = pos 0; w = pos 0 }

-- n cancels in a slice's disk
in_disk : (s : Slice) (w X Y : RootTwo) → 1 ≤ s.n → holds disk w X Y ≡ true → in_ellipse (Regions.disk s) w X Y ≡ true
in_disk s w X Y h e = disk-cancels s w X Y h ∙ sym (disk-cancels one w X Y (omega arith)) ∙ in_ellipse-true (Regions.disk one) w X Y (holds-in disk w X Y e)

beyond_is : (u v h n w X Y : RootTwo) → h ⊠ w ⊟ (neg u ⊠ (n ⊠ X) ⊞ neg v ⊠ (n ⊠ Y)) ≡ u ⊠ (n ⊠ X) ⊞ v ⊠ (n ⊠ Y) ⊟ neg h ⊠ w
beyond_is u v h n w X Y = by_ring ring√ (u ∷ v ∷ h ∷ n ∷ w ∷ X ∷ Y ∷ []) (search poly depth 30) refl

module _ (r : Region) (s : Slice) (n_is : s.n ≡ scale r) (w-is : s.w ≡ neg_ℤ (reach_of r (neg_ℤ s.zx) (neg_ℤ s.zy))) (ok : accepted (R.Slice s) ≡ true) where
  over : Over r (neg_ℤ s.zx) (neg_ℤ s.zy) (reach_of r (neg_ℤ s.zx) (neg_ℤ s.zy))
  over = reach_over r _ _ (omega (arith, size-neg s.zx, (slice-limits s ok).x-size)) (omega (arith, size-neg s.zy, (slice-limits s ok).y-size))

  pub slice-shares : Shares r (R.Slice s)
  slice-shares = record {
    taken = ok;
    both = λ k X Y a b.
        let w = √2^ (suc k) in
        in_holds (R.Slice s) w X Y ok (record {
          within = in_ellipse-true_lem (Regions.disk s) w X Y (in_disk s w X Y (slice-limits s ok).n-low b);
          beyond = rw (n_is, w-is, num_neg (reach_of r (neg_ℤ s.zx) (neg_ℤ s.zy))) (nn_by (beyond_is (num s.zx) (num s.zy) (num (reach_of r (neg_ℤ s.zx) (neg_ℤ s.zy))) (num (pos (scale r))) w X Y)
              (rw (num_neg s.zx, num_neg s.zy) at (over w X Y (√2^-nn (suc k)) a)));
        });
  }
