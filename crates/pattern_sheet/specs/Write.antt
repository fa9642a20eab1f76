-- SPEC, "Pattern sheets": the bytes of a sheet, and what a writing answers and leaves in the lent slice.
use Rattle.pattern_sheet.specs.declared.Refusal.{Refusal}
use Rattle.std.specs.Prelude.{◌≡◌, cond, List, [], ◌∷◌, ◌++◌, ℕ, leb, ℤ, length, Result, Ok, Err}
use Rattle.std.proofs.Common.{arith, length-append}
use Rattle.ring.specs.declared.Point.{Point}
use Rattle.record_ranges.specs.Ranges.{top_scale}
use Rattle.entry_equation.specs.Equation.{completes}
use Rattle.record_fields.specs.Bytes.{little_endian, bits_of, length-bytes}
use Rattle.text.specs.Written.{written}
use Rattle.pattern_sheet.specs.declared.Sheet.{Sheet}
use Rattle.pattern_sheet.specs.declared.Refusal.TheVariants.{OutOfRange, NotUnitary, NoRoom}

abbrev pub number_bytes : ℤ → List ℕ
number_bytes z = little_endian 4 (bits_of 32 z)

unfoldable pub point_bytes : Point → List ℕ
point_bytes p = number_bytes p.a ++ number_bytes p.b ++ number_bytes p.c ++ number_bytes p.d

-- "kind 07, body 37 bytes: k, the four numbers of u, the four of t, ticks"
unfoldable pub bytes_of : Sheet → List ℕ
bytes_of s = (7 ∷ s.k ∷ []) ++ point_bytes s.u ++ point_bytes s.t ++ little_endian 4 s.ticks

pub length-number : (z : ℤ) → length (number_bytes z) ≡ 4
length-number z = length-bytes 4 (bits_of 32 z)

pub length-point : (p : Point) → length (point_bytes p) ≡ 16
unfolding point_bytes
length-point p =
    let a = number_bytes p.a in
    let b = number_bytes p.b in
    let c = number_bytes p.c in
    omega (arith, length-append (a ++ b ++ c) (number_bytes p.d), length-append (a ++ b) c, length-append a b, length-number p.a, length-number p.b, length-number p.c, length-number p.d)

pub length-sheet : (s : Sheet) → length (bytes_of s) ≡ 38
unfolding bytes_of
length-sheet s =
    let front : List ℕ = 7 ∷ s.k ∷ [] in
    let u = point_bytes s.u in
    let t = point_bytes s.t in
    omega (arith, length-append (front ++ u ++ t) (little_endian 4 s.ticks), length-append (front ++ u) t, length-append front u, length-point s.u, length-point s.t, length-bytes 4 s.ticks)

-- 4 and 12 as the desk's reading refuses them, then 13 if and only if the bytes do not fit
unfoldable pub writing_of : Sheet → ℕ → Result ℕ Refusal
writing_of s n =
    cond (leb s.k top_scale)
    (cond (completes s.k s.u s.t)
    (cond (leb 38 n) (Ok 38) (Err NoRoom))
    (Err NotUnitary))
    (Err OutOfRange)

-- `written` leaves the slice as it was where they do not fit, and the bytes past them as they were
unfoldable pub slice_after : Sheet → List ℕ → List ℕ
slice_after s b =
    cond (leb s.k top_scale) (cond (completes s.k s.u s.t) (written b 0 (bytes_of s)) b) b

pub record Writes (s : Sheet) (b b' : List ℕ) (r : Result ℕ Refusal) : Type 0 where
  pub answers : r ≡ writing_of s (length b)
  pub slice : b' ≡ slice_after s b
