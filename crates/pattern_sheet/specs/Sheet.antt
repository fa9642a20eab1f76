-- Document 02, Ticket 14: a reading of a pattern sheet, by the desk or by the line crew. Assumes nothing.
use Rattle.std.specs.Prelude.{cond, ◌||◌, List, ℕ, ◌+◌, eqb, leb, ltb, length, get_or}
use Rattle.refusals.specs.Refusals.{no_kind, unknown_kind, short, beyond_range, not_unitary, no_room, no_reader}
use Rattle.ring.specs.declared.Point.{Point}
use Rattle.ring.specs.Point.Exponent.{exponent_of, pulse_count}
use Rattle.record_ranges.specs.Ranges.{top_scale}
use Rattle.entry_equation.specs.Equation.{completes}
use Rattle.record_fields.specs.Field.{unsigned_at, signed_at}
use Rattle.pattern_sheet.specs.declared.Sheet.{Sheet}
use Rattle.pattern_sheet.specs.declared.Refusal.{Refusal}
use Rattle.pattern_sheet.specs.declared.Refusal.TheVariants.{NoKind, NotASheet, Short, OutOfRange, NotUnitary, NoRoom, NoReader}
use Rattle.pattern_sheet.specs.declared.Reading.{Reading}
use Rattle.pattern_sheet.specs.declared.Reading.TheVariants.{Desk, Crew, Refused}

-- "19 for another reader number, first; then 1, 2 (any kind but 07), 3, 4 as for records; 12 last and for the desk only"
abbrev pub number_of : Refusal → ℕ
number_of NoKind = no_kind
number_of NotASheet = unknown_kind
number_of Short = short
number_of OutOfRange = beyond_range
number_of NotUnitary = not_unitary
number_of NoRoom = no_room
number_of NoReader = no_reader

-- "kind 07, body 37 bytes: k (0 to 20), the four numbers of u, the four of t (signed 32 bits), ticks (unsigned 32)"; places count from the kind byte
unfoldable pub point_ranked : List ℕ → ℕ → Point
point_ranked s i = record { a = signed_at 4 s i; b = signed_at 4 s (i + 4); c = signed_at 4 s (i + 8); d = signed_at 4 s (i + 12) }

abbrev pub k_at : List ℕ → ℕ
k_at s = get_or s 1 0

abbrev pub u_at : List ℕ → Point
u_at s = point_ranked s 2

abbrev pub t_at : List ℕ → Point
t_at s = point_ranked s 18

abbrev pub ticks_at : List ℕ → ℕ
ticks_at s = unsigned_at 4 s 34

unfoldable pub sheet_at : List ℕ → Sheet
sheet_at s = record { k = k_at s; u = u_at s; t = t_at s; ticks = ticks_at s }

-- the pulse count of u, over √2^k
abbrev pub m_at : List ℕ → ℕ
m_at s = pulse_count (exponent_of (k_at s) (u_at s))

-- "The desk sees every field"; it "is refused a sheet that fails Ticket 2's equation"
unfoldable pub desk_of : List ℕ → Reading
desk_of s = cond (completes (k_at s) (u_at s) (t_at s)) (Desk (sheet_at s) 38) (Refused NotUnitary)

-- "The line crew sees m and the ticks and nothing more"
unfoldable pub crew_of : List ℕ → Reading
crew_of s = Crew (m_at s) (ticks_at s) 38

-- of a sheet that is all there, with k in range
abbrev pub seen_by : ℕ → List ℕ → Reading
seen_by r s = cond (eqb r 1) (desk_of s) (crew_of s)

unfoldable pub reading_of : ℕ → List ℕ → Reading
reading_of r s =
    cond (eqb r 1 || eqb r 2)
    (cond (eqb (length s) 0) (Refused NoKind)
    (cond (eqb (get_or s 0 0) 7)
    (cond (ltb (length s) 38) (Refused Short)
    (cond (leb (k_at s) top_scale) (seen_by r s) (Refused OutOfRange)))
    (Refused NotASheet)))
    (Refused NoReader)
