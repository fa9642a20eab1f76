-- Operators and their images as plain numbers.
use Rattle.operator.specs.declared.Refusal.{Refusal}
use Rattle.operator.specs.declared.Operator.{Operator}
use Rattle.std.specs.Prelude.{◌≡◌, ℕ, pos, Result, Ok, Err}
use Rattle.ring.specs.declared.Point.{Point}
use Rattle.operator.specs.Operator.{refusal}
use Rattle.library_numbers.specs.declared.Eight.{Eight}
use Rattle.library_numbers.specs.Numbers.{eight_of}
use Rattle.bowujita.specs.declared.operators.WideFour.{WideFour}
use Rattle.bowujita.specs.declared.operators.Inverted.{Inverted}

abbrev pub wide_four : WideFour → Point
wide_four w = record { a = w.a; b = w.b; c = w.c; d = w.d }

abbrev pub refused_with : ℕ → Inverted
refused_with n = record { number = n; operator = record { a = pos 0; b = pos 0; c = pos 0; d = pos 0; ai = pos 0; bi = pos 0; ci = pos 0; di = pos 0 } }

pub undone-is : {g : Eight} (r : Inverted) → r.number ≡ 0 → r.operator ≡ g → r ≡ record { number = 0; operator = g }
undone-is r e f = λ i. record { number = e i; operator = f i }

-- the inverse, or the number of the refusal and zeros
abbrev pub inverted_of : Result Operator Refusal → Inverted
inverted_of (Ok h) = record { number = 0; operator = eight_of h }
inverted_of (Err c) = refused_with (refusal (Err c))
