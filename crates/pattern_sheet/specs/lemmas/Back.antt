-- Reading what was written: the desk sees the fields again.
use Rattle.std.specs.Prelude.{◌≡◌, Bool, true, false, cond, leb, ℤ, pos, negsuc, nat_abs, drop, Ok, Err}
use Rattle.std.proofs.Math.Path.{refl, ap₂}
use Rattle.std.proofs.Common.{sym, ap, ◌∙◌, arith, leb-true, le-leb}
use mathlib.Core.List.{List, [], ◌∷◌, ◌++◌, append_assoc}
use Prim.Native.Nat.{ℕ, ◌+◌, ◌^◌, ◌≤◌, ◌<◌}
use Rattle.std.specs.Int.Signed.{mag}
use Rattle.std.proofs.Math.ListN.{length, length-append}
use Rattle.ring.specs.declared.Point.{Point}
use Rattle.ring.specs.Point.{ext}
use Rattle.record_ranges.specs.Ranges.{top_scale}
use Rattle.entry_equation.specs.Equation.{completes}
use Rattle.entry_equation.specs.Size.{bound, Within, given-within, solution_within, within-bound}
use Rattle.record_fields.specs.Field.{unsigned_at, signed_at}
use Rattle.record_fields.specs.Bytes.{little_endian, unsigned_back, signed_back}
use Rattle.text.specs.Written.{written}
use Rattle.pattern_sheet.specs.declared.Sheet.{Sheet}
use Rattle.pattern_sheet.specs.declared.Refusal.TheVariants.{OutOfRange, NotUnitary, NoRoom}
use Rattle.pattern_sheet.specs.declared.Reading.TheVariants.{Desk}
use Rattle.pattern_sheet.specs.Sheet.{point_ranked, k_at, u_at, t_at, ticks_at, sheet_at, reading_of}
use Rattle.pattern_sheet.specs.Crew.{IsSheet, desk_sees}
use Rattle.pattern_sheet.specs.Write.{number_bytes, point_bytes, bytes_of, length-number, length-point, length-sheet, writing_of, slice_after, Writes}

-- ---- a number and a point, where they stand
small : (z : ℤ) → nat_abs z ≤ bound → mag z < 2 ^ 31
small (pos n) h = omega arith
small (negsuc n) h = omega arith

number-at : (z : ℤ) (s front back : List ℕ) (i : ℕ) → nat_abs z ≤ bound → s ≡ front ++ (number_bytes z ++ back) → length front ≡ i → signed_at 4 s i ≡ z
number-at z s front back i h e l = ap₂ (signed_at 4) e (sym l) ∙ signed_back 4 z front back (omega arith) (small z h) refl

point_at : (p : Point) (s front back : List ℕ) (i : ℕ) → Within bound p → s ≡ front ++ (point_bytes p ++ back) → length front ≡ i → point_ranked s i ≡ p
unfolding point_ranked point_bytes
point_at p s front back i w e l =
    let a = number_bytes p.a in
    let b = number_bytes p.b in
    let c = number_bytes p.c in
    let d = number_bytes p.d in
    let la : length (front ++ a) ≡ i + 4 = omega (arith, length-append front a, length-number p.a) in
    let lb : length (front ++ a ++ b) ≡ i + 8 = omega (arith, length-append (front ++ a) b, length-number p.b) in
    let lc : length (front ++ a ++ b ++ c) ≡ i + 12 = omega (arith, length-append (front ++ a ++ b) c, length-number p.c) in
    ext
    (number-at p.a s front (b ++ (c ++ (d ++ back))) i w.a (e ∙ simp append_assoc) l)
    (number-at p.b s (front ++ a) (c ++ (d ++ back)) (i + 4) w.b (e ∙ simp append_assoc) la)
    (number-at p.c s (front ++ a ++ b) (d ++ back) (i + 8) w.c (e ∙ simp append_assoc) lb)
    (number-at p.d s (front ++ a ++ b ++ c) back (i + 12) w.d (e ∙ simp append_assoc) lc)

-- ---- a sheet, whatever follows it
module _ (s : Sheet) (scale : s.k ≤ top_scale) (solved : completes s.k s.u s.t ≡ true) (word : s.ticks < 2 ^ 32) (rest : List ℕ) where
  all : List ℕ
  all = bytes_of s ++ rest

  k-back : k_at all ≡ s.k
  unfolding all bytes_of
  k-back = refl

  u-back : u_at all ≡ s.u
  unfolding all bytes_of
  u-back = point_at s.u all (7 ∷ s.k ∷ []) (point_bytes s.t ++ (little_endian 4 s.ticks ++ rest)) 2 (within-bound s.k scale s.u (given-within s.k s.u s.t solved)) (simp append_assoc) refl

  t-back : t_at all ≡ s.t
  unfolding all bytes_of
  t-back = point_at s.t all ((7 ∷ s.k ∷ []) ++ point_bytes s.u) (little_endian 4 s.ticks ++ rest) 18 (within-bound s.k scale s.t (solution_within s.k s.u s.t solved)) (simp append_assoc) (omega (arith, length-point s.u))

  ticks-back : ticks_at all ≡ s.ticks
  unfolding all bytes_of
  ticks-back =
      let front : List ℕ = (7 ∷ s.k ∷ []) ++ point_bytes s.u ++ point_bytes s.t in
      let l : length front ≡ 34 = omega (arith, length-append ((7 ∷ s.k ∷ []) ++ point_bytes s.u) (point_bytes s.t), length-point s.u, length-point s.t) in
      let e : all ≡ front ++ (little_endian 4 s.ticks ++ rest) = simp append_assoc in
      ap₂ (unsigned_at 4) e (sym l) ∙ unsigned_back 4 s.ticks front rest word

  sheet-back : sheet_at all ≡ s
  unfolding sheet_at
  sheet-back = λ i. record { k = k-back i; u = u-back i; t = t-back i; ticks = ticks-back i }

  is-sheet : IsSheet all
  unfolding all bytes_of
  is-sheet = record {
    kind = refl;
    whole = omega (arith, length-append (bytes_of s) rest, length-sheet s);
    scale = rw k-back scale;
  }

  -- the desk sees the fields
  pub desk_back : reading_of 1 (bytes_of s ++ rest) ≡ Desk s 38
  unfolding all
  desk_back = desk_sees all is-sheet ∙ rw (k-back, u-back, t-back, solved) (ap (λ (x : Sheet). Desk x 38) sheet-back)

-- ---- of the calls: what is written is read
pub record Good (s : Sheet) (n : ℕ) : Type 0 where
  pub scale : s.k ≤ top_scale
  pub solved : completes s.k s.u s.t ≡ true
  pub room : 38 ≤ n

pub wrote-good : (s : Sheet) (n m : ℕ) → writing_of s n ≡ Ok m → Good s n
unfolding writing_of
wrote-good s n m e = go (leb s.k top_scale) (completes s.k s.u s.t) (leb 38 n) refl refl refl e
  where
    go : (a b c : Bool) → leb s.k top_scale ≡ a → completes s.k s.u s.t ≡ b → leb 38 n ≡ c
        → cond a (cond b (cond c (Ok 38) (Err NoRoom)) (Err NotUnitary)) (Err OutOfRange) ≡ Ok m → Good s n
    go true true true f g h e = record { scale = leb-true s.k top_scale f; solved = g; room = leb-true 38 n h }
    go false b c f g h e = absurd (let z : ◌≡◌ {A = ℕ} 0 1 = cc in omega arith)
    go true false c f g h e = absurd (let z : ◌≡◌ {A = ℕ} 0 1 = cc in omega arith)
    go true true false f g h e = absurd (let z : ◌≡◌ {A = ℕ} 0 1 = cc in omega arith)

pub write_read : (s : Sheet) (b b' : List ℕ) (n : ℕ) → s.ticks < 2 ^ 32 → Writes s b b' (Ok n) → reading_of 1 b' ≡ Desk s 38
unfolding slice_after written
write_read s b b' n word w =
    let g = wrote-good s (length b) n (sym w.answers) in
    let fit : leb (0 + length (bytes_of s)) (length b) ≡ true = le-leb (0 + length (bytes_of s)) (length b) (omega (arith, length-sheet s, g.room)) in
    let e : b' ≡ bytes_of s ++ drop (0 + length (bytes_of s)) b = w.slice ∙ rw (le-leb s.k top_scale g.scale, g.solved, fit) refl in
    rw e (desk_back s g.scale g.solved word (drop (0 + length (bytes_of s)) b))
