-- `last_bytes` meets its contract: a word lies within its line. Assumes nothing.
use Prim.Native.Nat.{ℕ, ◌≤◌}
use mathlib.Core.Path.{◌≡◌, refl, ap, ◌∙◌}
use mathlib.Core.Bool.{false}
use mathlib.Core.List.{List}
use native.Mathlib.Nat.{le_of_lt}
use native.Mathlib.Omega.{arith}
use lib.ListN.{length}
use borrow.Author.Tests.{lt-ltb, le-ltb}
use Rattle.text_scan.specs.Run.{is_byte, spaces_from, run_end-within}
use Rattle.text_words.specs.Bytes.{next_from, last_of, last_written}
use borrow.Author.Rules.{rules}
use Rattle.text_words.proofs.digits.last_bytes.Statement.{statement}
use Rattle.text_words.proofs.digits.last_bytes.Tie as tie

module _ (c : tie.After-spaces_from) where
  abbrev some : tie.Else-line-at
  some = c.before.before

  abbrev start : tie.Start
  start = some.before.before.before

  abbrev line : List ℕ
  line = start.args.line.now

  abbrev at : ℕ
  at = start.args.at

  next-is : c.spaces_from.result ≡ next_from line at
  next-is = c.spaces_from.ensures ∙ ap (spaces_from line) c.word_end-end.ensures

  within : (at ≤ c.word_end-end.result) × (c.word_end-end.result ≤ length line)
  within =
      let e = c.word_end-end.ensures in
      let b = run_end-within (is_byte 32 false) line at (le_of_lt some.if-line-at.false) in
      (omega arith, omega arith)

returns : tie.Need-returns-then-line-at
unfolding last_of last_written
returns c =
    let s = c in
    let e = le-ltb s.args.at (length s.args.line.now) c.if-line-at.true in
    (rw e refl, rw e refl)

word-end-requires : tie.Need-word_end-end-requires
word-end-requires c κs = search rules

spaces-from-requires : tie.Need-spaces_from-requires
spaces-from-requires c κs = search rules

returns-2 : tie.Need-returns-then-spaces_from-line
unfolding last_of last_written
returns-2 c =
    let s = c.before in
    let e = lt-ltb (at s) (length (line s)) (some s).if-line-at.false in
    let f = lt-ltb (next_from (line s) (at s)) (length (line s)) (rw (next-is s) at c.if-spaces_from-line.true) in
    (rw (e, f) refl, rw (e, f) refl)

sub-unhex : tie.Need-slice_bounds-unhex-count
sub-unhex c = (within c.before).0

part-unhex-start : tie.Need-slice_bounds-unhex-start
part-unhex-start c = (within c.before).0

part-unhex-end : tie.Need-slice_bounds-unhex-end
part-unhex-end c = (within c.before).1

unhex-requires : tie.Need-unhex-requires
unhex-requires c κs = search rules

same_length : tie.Need-shape_of-out
same_length c = search rules

returns-3 : tie.Need-returns
unfolding last_of last_written
returns-3 c =
    let b = c in
    let s = b.before in
    let e = lt-ltb (at s.before.before.before.before.before) (length (line s.before.before.before.before.before)) (some s.before.before.before.before.before).if-line-at.false in
    let f = le-ltb (next_from (line s.before.before.before.before.before) (at s.before.before.before.before.before)) (length (line s.before.before.before.before.before)) (rw (next-is s.before.before.before.before.before) at b.if-spaces_from-line.false) in
    let u = c.unhex.ensures in
    (rw (e, f, ← s.word_end-end.ensures) u.0, rw (e, f, ← s.word_end-end.ensures) u.1)

pub last_bytes_spec : {M : Type 1} → statement M
last_bytes_spec =
    tie.close
    (tie.spec
    returns
    word-end-requires
    spaces-from-requires
    returns-2
    sub-unhex
    part-unhex-start
    part-unhex-end
    unhex-requires
    same_length
    returns-3)
