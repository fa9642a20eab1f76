-- A tray's list: SPEC, "Trays". The points in at least one region's own walk, each with the sum of 2^j over the regions j that hold it.
use Rattle.std.specs.Prelude.{Bool, false, cond, ◌||◌, List, [], ◌∷◌, ℕ, zero, suc, ◌+◌, ◌^◌, min, ℤ, pos, get_or}
use Rattle.region.specs.declared.Region.TheVariants as Shape
use Rattle.region.specs.declared.Job.{Job}
use Rattle.ranks.specs.Rest.{rest}
use Rattle.ranks.specs.Rank.{top}
use Rattle.cuts.specs.Digits.{span}
use Rattle.walk_list.specs.Walk.{point_of, listed_at}
use Rattle.tray_list.specs.declared.Target.{Target}
use Rattle.tray_list.specs.declared.Tray.{Tray}

-- some j below n passes
unfoldable pub some : ℕ → (ℕ → Bool) → Bool
some zero f = false
some (suc n) f = some n f || f n

-- the sum of 2^j over the j below n that pass
unfoldable pub bits : ℕ → (ℕ → Bool) → ℕ
bits zero f = 0
bits (suc n) f = bits n f + cond (f n) (2 ^ n) 0

-- what stands where a tray has no region
abbrev pub blank : Target
blank = record { region = Shape.Rectangle (record { n = 0; xl = pos 0; xh = pos 0; yl = pos 0; yh = pos 0 }) }

-- the job of region j: the tray's scale, selection and B
abbrev pub job_at : Tray → ℕ → Job
job_at t j = record { k = t.k; all = t.all; a = (get_or t.targets j blank).region; b = t.b }

-- region j's own walk has the point of rank r
abbrev pub holds : Tray → ℕ → ℕ → Bool
holds t r j = listed_at (job_at t j) r

-- how many regions it has, eight at most
abbrev pub size : Tray → ℕ
size t = min t.count 8

-- a region's does
abbrev pub any_at : Tray → ℕ → Bool
any_at t r = some (size t) (holds t r)

-- which ones
abbrev pub mask_at : Tray → ℕ → ℕ
mask_at t r = bits (size t) (holds t r)

-- a point as its five numbers
abbrev pub five_of : Tray → ℕ → List ℤ
five_of t r = let v = point_of r in v.a ∷ v.b ∷ v.c ∷ v.d ∷ pos (mask_at t r) ∷ []

-- what is left of a tray's list from a rank on; the full list is that from 0
abbrev pub left : Tray → ℕ → List ℕ
left t p = rest (any_at t) (top span) p

unfoldable pub full : Tray → List ℕ
full t = left t 0
