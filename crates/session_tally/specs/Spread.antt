-- How points spread over the exponents from 0 to 20: SPEC, "Tally".
use Rattle.std.specs.Prelude.{Bool, true, false, cond, List, [], ◌∷◌, ℕ, zero, suc, ◌+◌, eqb, replicate}
use Rattle.ring.specs.declared.Point.{Point}
use Rattle.ring.specs.Point.Exponent.{exponent_of}
use Rattle.integers_wide.specs.declared.Size.{Size}
use Rattle.integers_wide.specs.Meaning.{size_of, wrapped}
use Rattle.session_tally.specs.declared.Tally.{Tally}

abbrev pub one : Bool → ℕ
one true = 1
one false = 0

-- how many of the points v/√2^k have the exponent e
unfoldable pub number : ℕ → ℕ → List Point → ℕ
number k e [] = 0
number k e (v ∷ l) = one (eqb (exponent_of k v) e) + number k e l

-- a number for each of n exponents from e on
unfoldable pub places : (ℕ → ℕ) → ℕ → ℕ → List ℕ
places f zero e = []
places f (suc n) e = f e ∷ places f n (suc e)

-- a number for each exponent from 0 to 20
abbrev pub each : (ℕ → ℕ) → List ℕ
each f = places f 21 0

abbrev pub spread : ℕ → List Point → List ℕ
spread k l = each (λ e. number k e l)

-- n points, all of the exponent k
abbrev pub alone : ℕ → ℕ → List ℕ
alone n k = each (λ e. cond (eqb k e) n 0)

-- more of each, in two words; from 2^128 on a count begins at 0 again
unfoldable pub added : List ℕ → List Size → List Size
added [] l = l
added (n ∷ m) [] = []
added (n ∷ m) (x ∷ l) = wrapped (size_of x + n) ∷ added m l

-- no point
abbrev pub nothing : Tally
nothing = record { counts = replicate 21 (record { hi = 0; lo = 0 }) }

-- together
abbrev pub sum : List ℕ → ℕ
sum [] = 0
sum (n ∷ l) = n + sum l
