-- A rectangle or an ellipse that a region lies in, and the disk about 0 that a slice lies in.
use Rattle.std.specs.Prelude.{◌≡◌, refl, true, ℕ, ◌≤◌, pos, negsuc}
use Rattle.std.proofs.Common.{arith}
use Rattle.ring.specs.declared.RootTwo.{RootTwo}
use Rattle.region.specs.declared.Region.{Region}
use Rattle.region.specs.declared.Region.TheVariants as R
use Rattle.region.specs.declared.Enclosure.{Enclosure}
use Rattle.region.specs.declared.Enclosure.TheVariants as E
use Rattle.region.specs.Region.{accepted, disk, holds}
use Rattle.region.specs.Accepted.{slice-limits, disk-accepted}
use Rattle.region.specs.lemmas.Membership.{holds-disk}
use Rattle.region.specs.Over.{scale, Over}
use Rattle.region.specs.Slice.{over-length}

abbrev pub enclosed : Region → Enclosure
enclosed (R.Rectangle r) = E.Rectangle r
enclosed (R.Ellipse e) = E.Ellipse e
enclosed (R.Slice s) = E.Ellipse (disk s)

abbrev pub region_of : Enclosure → Region
region_of (E.Rectangle r) = R.Rectangle r
region_of (E.Ellipse e) = R.Ellipse e

pub enclosed-accepted : (r : Region) → accepted r ≡ true → accepted (region_of (enclosed r)) ≡ true
enclosed-accepted (R.Rectangle r) a = a
enclosed-accepted (R.Ellipse e) a = a
enclosed-accepted (R.Slice s) a = disk-accepted s a

pub enclosed-scale : (r : Region) → scale (region_of (enclosed r)) ≡ scale r
enclosed-scale (R.Rectangle r) = refl
enclosed-scale (R.Ellipse e) = refl
enclosed-scale (R.Slice s) = refl

pub enclosed-holds : (r : Region) (w X Y : RootTwo) → holds r w X Y ≡ true → holds (region_of (enclosed r)) w X Y ≡ true
enclosed-holds (R.Rectangle r) w X Y h = h
enclosed-holds (R.Ellipse e) w X Y h = h
enclosed-holds (R.Slice s) w X Y h = holds-disk s w X Y h

-- ---- X and Y are at most n in size
pub record InDisk (r : Region) (n : ℕ) : Type 0 where
  pub small : n ≤ 100
  pub right : Over r (pos 1) (pos 0) (pos n)
  pub left : Over r (negsuc 0) (pos 0) (pos n)
  pub top : Over r (pos 0) (pos 1) (pos n)
  pub bottom : Over r (pos 0) (negsuc 0) (pos n)

abbrev pub radius : Region → ℕ
radius (R.Rectangle r) = 0
radius (R.Ellipse e) = 0
radius (R.Slice s) = s.n

pub in_disk : (r : Region) → accepted r ≡ true → 1 ≤ radius r → InDisk r (radius r)
in_disk (R.Rectangle r) a h = absurd (omega (arith, h))
in_disk (R.Ellipse e) a h = absurd (omega (arith, h))
in_disk (R.Slice s) a h =
    let small : s.n ≤ 100 = (slice-limits s a).n-high in
    record {
      small = small;
      right = over-length s (pos 1) (pos 0) s.n (record { enough = omega arith; size = omega arith });
      left = over-length s (negsuc 0) (pos 0) s.n (record { enough = omega arith; size = omega arith });
      top = over-length s (pos 0) (pos 1) s.n (record { enough = omega arith; size = omega arith });
      bottom = over-length s (pos 0) (negsuc 0) s.n (record { enough = omega arith; size = omega arith });
    }
