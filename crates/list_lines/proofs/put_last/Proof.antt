-- `put_last` meets its contract: a sign, if there is one, and at most two digits. Assumes nothing.
use Prim.Native.Nat.{ℕ, ◌+◌, ◌≤◌, ◌<◌}
use mathlib.Core.Path.{◌≡◌, refl, sym, ap, subst, ◌∙◌}
use mathlib.Core.Bool.{true, false}
use mathlib.Core.List.{List, [], ◌∷◌, ◌++◌}
use native.Mathlib.Omega.{arith}
use lib.IntN.{ℤ, pos, nat_abs}
use lib.Signed.{lt_z}
use lib.ListN.{length}
use mir.Syntax.{w32, w64}
use mir.Val.{to_z, of_z}
use mir.Facts.{to_z-of_z, sfits_widen}
use borrow.Author.Rules.{rules}
use Rattle.text.specs.Append.{Appended, appended, append-more}
use Rattle.text.proofs.Signs.{signed_decimal-neg, signed_decimal-not}
use Rattle.list_lines.specs.Lines.{coordinate_text, count_text}
use Rattle.list_lines.proofs.put_last.Statement.{statement}
use Rattle.list_lines.proofs.put_last.Tie as tie

below : (z : ℤ) → lt_z z (pos 0) ≡ true → coordinate_text z ≡ (45 ∷ []) ++ count_text (nat_abs z) 32
unfolding coordinate_text count_text
below z e = rw (signed_decimal-neg z e) refl

above : (z : ℤ) → lt_z z (pos 0) ≡ false → coordinate_text z ≡ count_text (nat_abs z) 32
unfolding coordinate_text count_text
above z e = rw (signed_decimal-not z e) refl

cast-abs : tie.Need-overflow_cast-z
cast-abs c = let s = c in rw (to_z-of_z s.ranges.z) (sfits_widen tt s.ranges.z)

abs-requires : tie.Need-abs-n-requires
abs-requires c κs = search rules

-- the size of the coordinate
size : (c : tie.After-abs-n) → c.abs-n.result ≡ nat_abs c.args.z
size c =
    let s = c in
    let f = s.ranges.z in
    let e : to_z w64 (of_z w64 (to_z w32 (of_z w32 s.args.z))) ≡ s.args.z = rw (to_z-of_z f) (to_z-of_z {w = w64} (sfits_widen tt f)) in
    c.abs-n.ensures ∙ ap nat_abs e

put-coordinate-requires : tie.Need-put_coordinate-requires
put-coordinate-requires c κs = search rules

same_length : tie.Need-shape_of-out-then-n-gt99
same_length c = search rules

returns : tie.Need-returns-then-n-gt99
returns c =
    let p = c in
    let s = p in
    rw (to_z-of_z s.ranges.z) at p.put_coordinate.ensures

put-byte-requires : tie.Need-put_byte-digits-requires
put-byte-requires c κs = search rules

cast-put-small : tie.Need-overflow_cast-n
cast-put-small c = search rules

-- after the sign
signed : (p : tie.After-put_byte-digits) → let s = p.before.before.before.before.before.before in Appended s.args.out.now s.args.at (45 ∷ []) p.put_byte-digits.new.out p.put_byte-digits.result
signed p =
    let s = p in
    let e = p.put_byte-digits.ensures in
    appended s.args.out.now s.args.at (45 ∷ []) p.put_byte-digits.new.out p.put_byte-digits.result (omega (arith, s.requires)) e.0 e.1

put-small-requires : tie.Need-put_small-requires
put-small-requires c κs =
    let p = c.before.before.before in
    let s = p in
    let a = signed p in
    let e = a.end in
    let l = a.same in
    let r = s.requires in
    (omega arith, omega arith)

same-length-2 : tie.Need-shape_of-out-then-z-lt0
same-length-2 c = search rules

returns-2 : tie.Need-returns-then-z-lt0
returns-2 c =
    let q = c in
    let p = q.before.before.before.before in
    let i = p in
    let a = i.before.before in
    let s = a.before.before in
    let z = s.args.z in
    let neg : lt_z z (pos 0) ≡ true = rw (to_z-of_z s.ranges.z) at i.if-z-lt0.true in
    let b = (signed p.before.before).end in
    let d = q.put_small.ensures.1 in
    (rw (below z neg, ← size a.before.before.before.before) (append-more s.args.out.now s.args.at (45 ∷ []) _ p.put_byte-digits.new.out _ p.put_byte-digits.result _ (signed p.before.before) q.put_small.ensures.0), omega arith)

cast-put-small-2 : tie.Need-overflow_cast-n-2
cast-put-small-2 c = search rules

put-small-requires-2 : tie.Need-put_small-requires-2
put-small-requires-2 c κs = search rules

same-length-3 : tie.Need-shape_of-out
same-length-3 c = search rules

returns-3 : tie.Need-returns
returns-3 c =
    let q = c in
    let i = q in
    let a = i.before.before in
    let s = a.before.before in
    let z = s.args.z in
    let non : lt_z z (pos 0) ≡ false = rw (to_z-of_z s.ranges.z) at i.if-z-lt0.false in
    let d = q.put_small-2.ensures.1 in
    (rw (above z non, ← size a.before.before.before.before) q.put_small-2.ensures.0, omega arith)

pub put_last_spec : {M : Type 1} → statement M
put_last_spec =
    tie.close
    (tie.spec
    cast-abs
    abs-requires
    put-coordinate-requires
    same_length
    returns
    put-byte-requires
    cast-put-small
    put-small-requires
    same-length-2
    returns-2
    cast-put-small-2
    put-small-requires-2
    same-length-3
    returns-3)
