-- The starred points of SPEC, "Worked points", and the counts of "Other entry": one table, one test that computes over its rows, and one law that turns the test into
-- each row's claim. A claim is in the terms of the definitions that the contracts cite.
use Rattle.std.specs.Prelude.{◌≡◌, Bool, true, false, List, [], ◌∷◌, ℕ, ℤ, pos, negsuc}
use Rattle.ring.specs.declared.Point.{Point}
use Rattle.ring.specs.Sign.{sign_of, number}
use Rattle.ring.specs.Point.Exponent.{exponent_of}
use Rattle.region.specs.declared.Job.{Job}
use Rattle.region.specs.declared.Region.{Region}
use Rattle.region.specs.declared.Region.TheVariants as R
use Rattle.ranks.specs.Handed.{flat}
use Rattle.walk_list.specs.Walk.{numbers_in, full as listing}
use Rattle.entry.specs.Entry.{full as entries}
use Rattle.line.specs.Line.{pair_of, full}
use Rattle.line.specs.lemmas.Worked as example
use Rattle.operator.specs.declared.Operator.{Operator}
use Rattle.operator.specs.Operator.{identity, refusal, check_of, image_of}
use Rattle.session_stages.specs.World.{is_image}
use Rattle.test_worked.specs.Listed.{numbers}

pub data Row : Type 0 where
  -- the sign of p + q√2, as −1, 0 or 1
  sign : ℤ → ℤ → ℤ → Row
  -- the refusal of an operator, 0 where accepted
  operator : Operator → ℕ → Row
  -- what an operator makes of a point
  image : Operator → Point → Point → Row
  -- the pairs a, b with a + b√2 in [0, h] and a − b√2 in [−1, 1], one after the other
  line : ℤ → List ℤ → Row
  -- the listed points of a job, in order; all solutions lie within ±m
  job : Job → (m : ℕ) → List Point → Row
  -- the points w that solve the equation of SPEC, "Other entry", with v at scale k, in order
  entry : ℕ → Point → List Point → Row
  -- the exponent of v/√2^k
  exponent : ℕ → Point → ℕ → Row
  -- the image question for a job, the remembered operator and a point
  asked : Job → Operator → Point → Bool → Row

-- ---- what a row claims
abbrev pub Claim : Row → Type 0
Claim (sign p q s) = number (sign_of p q) ≡ s
Claim (operator g n) = refusal (check_of g) ≡ n
Claim (image g v w) = image_of g v ≡ w
Claim (line h l) = flat pair_of (full (example.up_to h) example.unit) ≡ l
Claim (job j m ps) = flat numbers_in (listing j) ≡ numbers ps
Claim (entry k v ps) = flat numbers_in (entries k v) ≡ numbers ps
Claim (exponent k v e) = exponent_of k v ≡ e
Claim (asked j g w b) = is_image j g w ≡ b

pub data All : List Row → Type 0 where
  none : All []
  more : {r : Row} {rs : List Row} → Claim r → All rs → All (r ∷ rs)

-- ---- the table
abbrev eight : ℤ → ℤ → ℤ → ℤ → ℤ → ℤ → ℤ → ℤ → Operator
eight a b c d a' b' c' d' = record { a = a; b = b; c = c; d = d; ai = a'; bi = b'; ci = c'; di = d' }

abbrev point : ℤ → ℤ → ℤ → ℤ → Point
point a b c d = record { a = a; b = b; c = c; d = d }

-- xl to xh by 0 to 0
abbrev flat_box : ℕ → ℤ → ℤ → Region
flat_box n l h = R.Rectangle (record { n = n; xl = l; xh = h; yl = pos 0; yh = pos 0 })

abbrev rectangles : ℕ → Bool → ℕ → ℤ → ℤ → ℤ → ℤ → Job
rectangles k all n l h l' h' = record { k = k; all = all; a = flat_box n l h; b = flat_box 1 l' h' }

abbrev unit_disks : Job
unit_disks =
    let disk = R.Ellipse (record { n = 1; cx = pos 0; cy = pos 0; p = 1; q = pos 0; r = 1; s = 1 }) in
    record { k = 0; all = false; a = disk; b = disk }

-- the eight points ±1, ±ω, ±ω², ±ω³
abbrev units : List Point
units =
    let o = pos 0 in
    let i = pos 1 in
    let m = negsuc 0 in
    point m o o o ∷ point o m o o ∷ point o o m o ∷ point o o o m ∷ point o o o i ∷ point o o i o ∷ point o i o o ∷ point i o o o ∷ []

abbrev pub table : List Row
table =
    sign (negsuc 6) (pos 5) (pos 1)
    ∷ sign (negsuc 98) (pos 70) (negsuc 0)
    ∷ sign (pos 0) (pos 0) (pos 0)
    ∷ sign (negsuc 9223372036854775807) (pos 6521908912666391106) (negsuc 0)
    ∷ sign (negsuc 9223372036854775807) (pos 6521908912666391107) (pos 1)
    ∷ operator (eight (pos 0) (pos 0) (pos 0) (pos 1) (negsuc 0) (pos 1) (pos 1) (pos 0)) 0
    ∷ image (eight (pos 0) (pos 0) (pos 0) (pos 1) (negsuc 0) (pos 1) (pos 1) (pos 0)) (point (pos 0) (pos 1) (pos 0) (pos 0)) (point (negsuc 0) (pos 1) (pos 1) (pos 0))
    ∷ operator (eight (pos 0) (pos 0) (pos 0) (pos 1) (pos 0) (pos 1) (pos 0) (pos 1)) 6
    ∷ operator (eight (pos 0) (pos 0) (pos 0) (pos 1) (pos 0) (pos 1) (pos 0) (pos 2)) 0
    ∷ operator (eight (pos 0) (pos 0) (pos 0) (pos 2) (pos 0) (pos 2) (pos 0) (pos 0)) 7
    ∷ operator (eight (negsuc 0) (pos 0) (pos 1) (pos 1) (pos 1) (pos 1) (pos 1) (pos 0)) 7
    ∷ line (pos 5) (pos 0 ∷ pos 0 ∷ pos 1 ∷ pos 0 ∷ pos 1 ∷ pos 1 ∷ pos 2 ∷ pos 1 ∷ pos 2 ∷ pos 2 ∷ [])
    ∷ line (pos 6) (pos 0 ∷ pos 0 ∷ pos 1 ∷ pos 0 ∷ pos 1 ∷ pos 1 ∷ pos 2 ∷ pos 1 ∷ pos 2 ∷ pos 2 ∷ pos 3 ∷ pos 2 ∷ [])
    ∷ job (rectangles 0 false 12 (pos 16) (pos 17) (negsuc 1) (negsuc 0)) 2 (point (negsuc 0) (pos 0) (pos 1) (pos 0) ∷ [])
    ∷ job (rectangles 0 false 5 (pos 6) (pos 7) (negsuc 1) (negsuc 0)) 2 []
    ∷ job (rectangles 1 true 1 (pos 1) (pos 2) (negsuc 1) (negsuc 0)) 2 (point (pos 0) (pos 0) (pos 0) (pos 2) ∷ [])
    ∷ job (rectangles 1 false 1 (pos 1) (pos 2) (negsuc 1) (negsuc 0)) 2 []
    ∷ exponent 1 (point (pos 0) (pos 0) (pos 0) (pos 2)) 0
    ∷ job (rectangles 1 true 1 (pos 1) (pos 2) (pos 1) (pos 2)) 2 (point (negsuc 1) (pos 0) (pos 2) (pos 0) ∷ point (negsuc 0) (pos 0) (pos 1) (pos 0) ∷ [])
    ∷ job (rectangles 1 false 10 (pos 7) (pos 15) (negsuc 1) (pos 0)) 2 (point (pos 0) (pos 0) (pos 0) (pos 1) ∷ [])
    ∷ entry 0 (point (pos 0) (pos 0) (pos 0) (pos 0)) units
    ∷ entry 1 (point (pos 0) (pos 0) (pos 0) (pos 1)) units
    ∷ asked unit_disks (eight (pos 0) (pos 0) (pos 0) (pos 1) (negsuc 0) (pos 1) (pos 1) (pos 0)) (point (negsuc 0) (pos 1) (pos 1) (pos 0)) true
    ∷ asked unit_disks identity (point (negsuc 0) (pos 1) (pos 1) (pos 0)) false
    ∷ []
