-- `bytes_at` meets its contract: a word lies within its line. Assumes nothing.
use Prim.Native.Nat.{ℕ, ◌≤◌}
use mathlib.Core.Path.{◌≡◌, refl, ap, ◌∙◌}
use mathlib.Core.Bool.{false}
use mathlib.Core.List.{List}
use native.Mathlib.Nat.{le_of_lt}
use native.Mathlib.Omega.{arith}
use lib.ListN.{length}
use borrow.Author.Tests.{lt-ltb, le-ltb}
use Rattle.text_scan.specs.Run.{is_byte, spaces_from, run_end-within}
use Rattle.text_words.specs.Bytes.{next_from, bytes_of, bytes_written}
use borrow.Author.Rules.{rules}
use Rattle.text_words.proofs.digits.bytes_at.Statement.{statement}
use Rattle.text_words.proofs.digits.bytes_at.Tie as tie

module _ (c : tie.After-spaces_from-next) where
  abbrev start : tie.Start
  start = c.before.before.before.before

  abbrev line : List ℕ
  line = start.args.line.now

  abbrev at : ℕ
  at = start.args.at

  next-is : c.spaces_from-next.result ≡ next_from line at
  next-is = c.spaces_from-next.ensures ∙ ap (spaces_from line) c.word_end-end.ensures

within : (c : tie.Else-line-at) → (at c.before ≤ c.word_end-end.result) × (c.word_end-end.result ≤ length (line c.before))
within c =
    let e = c.word_end-end.ensures in
    let b = run_end-within (is_byte 32 false) (line c.before) (at c.before) (le_of_lt c.if-line-at.false) in
    (omega arith, omega arith)

word-end-requires : tie.Need-word_end-end-requires
word-end-requires c κs = search rules

spaces-from-requires : tie.Need-spaces_from-next-requires
spaces-from-requires c κs = search rules

returns : tie.Need-returns-then-line-at
unfolding bytes_of bytes_written
returns c =
    let e = le-ltb (at c.before) (length (line c.before)) c.if-line-at.true in
    (rw e refl, next-is c.before, rw e refl)

sub-dashed : tie.Need-slice_bounds-dashed-count
sub-dashed c = (within c).0

part-dashed-start : tie.Need-slice_bounds-dashed-start
part-dashed-start c = (within c).0

part-dashed-end : tie.Need-slice_bounds-dashed-end
part-dashed-end c = (within c).1

dashed-requires : tie.Need-dashed-hex-requires
dashed-requires c κs = search rules

same_length : tie.Need-shape_of-out
same_length c = search rules

returns-2 : tie.Need-returns
unfolding bytes_of bytes_written
returns-2 c =
    let b = c in
    let s = b.before in
    let e = lt-ltb (at s.before.before.before.before.before) (length (line s.before.before.before.before.before)) b.if-line-at.false in
    let d = c.dashed-hex.ensures in
    (rw (e, ← s.word_end-end.ensures) d.0, next-is s.before.before.before.before.before, rw (e, ← s.word_end-end.ensures) d.1)

pub bytes_at_spec : {M : Type 1} → statement M
bytes_at_spec =
    tie.close
    (tie.spec
    word-end-requires
    spaces-from-requires
    returns
    sub-dashed
    part-dashed-start
    part-dashed-end
    dashed-requires
    same_length
    returns-2)
