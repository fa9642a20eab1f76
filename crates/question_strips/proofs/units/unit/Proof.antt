use native.Mathlib.Omega.{arith}
use Rattle.line_rows.specs.Steps.{even_power}
use Rattle.question_strips.proofs.units.unit.Statement.{statement}
use Rattle.question_strips.proofs.units.unit.Tie as tie

returns : tie.Need-returns-in-0
returns c = record { even = even_power 0; size = record { p = omega arith; q = omega arith } }

returns-2 : tie.Need-returns-in-1
returns-2 c = record { even = even_power 1; size = record { p = omega arith; q = omega arith } }

returns-3 : tie.Need-returns-in-2
returns-3 c = record { even = even_power 2; size = record { p = omega arith; q = omega arith } }

returns-4 : tie.Need-returns-in-3
returns-4 c = record { even = even_power 3; size = record { p = omega arith; q = omega arith } }

returns-5 : tie.Need-returns-in-4
returns-5 c = record { even = even_power 4; size = record { p = omega arith; q = omega arith } }

returns-6 : tie.Need-returns-in-5
returns-6 c = record { even = even_power 5; size = record { p = omega arith; q = omega arith } }

returns-7 : tie.Need-returns-in-6
returns-7 c = record { even = even_power 6; size = record { p = omega arith; q = omega arith } }

returns-8 : tie.Need-returns-in_default
returns-8 c = record { even = even_power 7; size = record { p = omega arith; q = omega arith } }

pub unit_spec : {M : Type 1} → statement M
unit_spec =
    tie.close
    (tie.spec returns returns-2 returns-3 returns-4 returns-5 returns-6 returns-7 returns-8)
