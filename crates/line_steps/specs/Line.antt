-- The line problem's intervals, and the pairs that solve: SPEC, "Line problem"; RS, section 4.
use Rattle.std.specs.Prelude.{Bool, ◌&&◌, ℕ, ℤ, pos, neg_ℤ, ◌-ℤ◌}
use Rattle.std.specs.Int.Signed.{le_z}
use Rattle.ring.specs.declared.RootTwo.{RootTwo}
use Rattle.ring.specs.RootTwo.{◌⊟◌, ◌⊠◌, conj, num}
use Rattle.ring.specs.RootTwo.Order.{nonneg}
use Rattle.line_steps.specs.declared.Interval.{Interval}

abbrev pub within : ℤ → ℤ → ℤ → Bool
within lo hi z = le_z lo z && le_z z hi

-- n from 1 to 100, bounds from −10,000 to 10,000
unfoldable pub in_range : Interval → Bool
in_range i = within (pos 1) (pos 100) i.n && (within (neg_ℤ (pos 10000)) (pos 10000) i.lo && within (neg_ℤ (pos 10000)) (pos 10000) i.hi)

-- lo ≤ n·z ≤ hi, ends included
unfoldable pub holds : Interval → RootTwo → Bool
holds i z = nonneg (num i.n ⊠ z ⊟ num i.lo) && nonneg (num i.hi ⊟ num i.n ⊠ z)

-- α = a + b√2 lies in the first interval and α• in the second
unfoldable pub solves : Interval → Interval → ℤ → ℤ → Bool
solves i j a b = let z : RootTwo = record { p = a; q = b } in holds i z && holds j (conj z)

-- every pair that solves lies within ±10,000: its rank has the digits a + 10,000 and b + 10,000 to the base 20,001
abbrev pub bound : ℕ
bound = 10000

abbrev pub span : ℕ
span = 20001

abbrev pub coordinate : ℕ → ℤ
coordinate t = pos t -ℤ pos bound

abbrev pub accepted : Interval → Interval → Bool
accepted i j = in_range i && in_range j
