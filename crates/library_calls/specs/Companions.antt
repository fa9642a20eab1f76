-- What the calls on words, texts and sheets take and answer, as plain numbers. What does not belong to an answer is 0.
use Rattle.gate_tariff.specs.declared.Refusal as TariffRefusal
use Rattle.gate_qasm.specs.declared.Refusal as QasmRefusal
use Rattle.pattern_sheet.specs.declared.Refusal as SheetRefusal
use Rattle.std.specs.Prelude.{Bool, false, ℕ, pos, Result, Ok, Err}
use Rattle.ring.specs.declared.Point.{Point}
use Rattle.gate_tariff.specs.declared.Tariff.{Tariff}
use Rattle.gate_tariff.specs.Tariff as Tariffs
use Rattle.gate_qasm.specs.Calls as Qasm
use Rattle.pattern_sheet.specs.declared.Sheet.{Sheet}
use Rattle.pattern_sheet.specs.declared.Reading.{Reading}
use Rattle.pattern_sheet.specs.declared.Reading.TheVariants as R
use Rattle.pattern_sheet.specs.Sheet as Sheets
use Rattle.library_numbers.specs.Numbers.{bit, point_of, four_of}
use Rattle.library_calls.specs.declared.companions.Prices.{Prices}
use Rattle.library_calls.specs.declared.companions.Ticks.{Ticks}
use Rattle.library_calls.specs.declared.companions.Wrote.{Wrote}
use Rattle.library_calls.specs.declared.companions.Seen.{Seen}
use Rattle.library_calls.specs.declared.companions.PlainSheet.{PlainSheet}

abbrev pub tariff_of : Prices → Tariff
tariff_of p = record { h = p.h; s = p.s; t = p.t; w = p.w }

abbrev pub costs : ℕ → Bool → ℕ → Ticks
costs number fits ticks = record { number = number; fits = bit fits; ticks = ticks }

abbrev pub ticks_of : Result (ℕ × Bool) TariffRefusal.Refusal → Ticks
ticks_of (Ok (n, fits)) = costs 0 fits n
ticks_of (Err f) = costs (Tariffs.number_of f) false 0

abbrev pub wrote : ℕ → ℕ → Wrote
wrote number count = record { number = number; count = count }

abbrev pub wrote_of : Result ℕ QasmRefusal.Refusal → Wrote
wrote_of (Ok n) = wrote 0 n
wrote_of (Err f) = wrote (Qasm.number_of f) 0

abbrev pub origin : Point
origin = record { a = pos 0; b = pos 0; c = pos 0; d = pos 0 }

abbrev pub seen : ℕ → ℕ → ℕ → ℕ → Point → Point → ℕ → Seen
seen number taken m k u t ticks = record { number = number; k = k; ticks = ticks; taken = taken; m = m; u = four_of u; t = four_of t }

abbrev pub seen_of : Reading → Seen
seen_of (R.Desk x n) = seen 0 n 0 x.k x.u x.t x.ticks
seen_of (R.Crew m ticks n) = seen 0 n m 0 origin origin ticks
seen_of (R.Refused f) = seen (Sheets.number_of f) 0 0 0 origin origin 0

abbrev pub sheet_of : PlainSheet → Sheet
sheet_of s = record { k = s.k; u = point_of s.u; t = point_of s.t; ticks = s.ticks }

abbrev pub put_of : Result ℕ SheetRefusal.Refusal → Wrote
put_of (Ok n) = wrote 0 n
put_of (Err f) = wrote (Sheets.number_of f) 0
