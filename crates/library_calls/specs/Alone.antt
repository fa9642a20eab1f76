-- What plain numbers mean as arguments and answers of the calls without a session.
use Rattle.ring.specs.declared.Point.{Point}
use Rattle.std.specs.Prelude.{◌≡◌, Bool, cond, ℕ, eqb, ℤ, Option, Some, None}
use Rattle.line.specs.declared.Place as LP
use Rattle.line.specs.declared.Place.TheVariants as L
use Rattle.line_steps.specs.declared.Interval.{Interval}
use Rattle.library_numbers.specs.declared.Four.{Four}
use Rattle.library_numbers.specs.Numbers.{is_set, point_of}
use Rattle.integers_wide.specs.declared.Wide.{Wide}
use Rattle.library_calls.specs.declared.alone.TwoWords.{TwoWords}
use Rattle.library_calls.specs.declared.alone.Handed.{Handed}
use Rattle.library_calls.specs.declared.alone.Three.{Three}

abbrev pub wide_of : TwoWords → Wide
wide_of x = record { hi = x.hi; lo = x.lo }

abbrev pub entry_place : ℕ → Four → Option Point
entry_place after v = cond (eqb after 0) None (Some (point_of v))

abbrev pub line_place : ℕ → ℤ → ℤ → LP.Place
line_place after a b = cond (eqb after 0) L.Beginning (L.After a b)

abbrev pub interval_of : Three → Interval
interval_of i = record { n = i.n; lo = i.lo; hi = i.hi }

abbrev pub handedAs : Handed → ℕ → Bool → ℕ → Type 0
handedAs r count end number = (r.count ≡ count) × (is_set r.ended ≡ end) × (r.number ≡ number)
