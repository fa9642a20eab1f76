-- So many regions are read, they are in the targets, and what is still to come is behind them.
use Rattle.std.proofs.Common.{◌≡◌, ◌-◌, ◌≤◌, List, length, drop}
use Rattle.region.specs.declared.Region.{Region}
use Rattle.tray_taking.specs.Taking.{padded, regions_of}
use Rattle.tray_taking.specs.lemmas.Records.{before}
use Rattle.tray_taking.proofs.regions.Given as goal

abbrev pub invariant-loop-at : goal.invariant-loop-at
invariant-loop-at l =
    (l.at ≤ length l.a) × (l.count ≤ 8) × ((rs : List Region) × (length rs ≡ l.count) × (l.targets ≡ padded 8 rs) × (regions_of 8 l.a ≡ before rs (regions_of (8 - l.count) (drop l.at l.a))))

abbrev pub decreases-loop-at : goal.decreases-loop-at
decreases-loop-at l = length l.a - l.at
