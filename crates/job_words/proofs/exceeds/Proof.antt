use native.Mathlib.Omega.{arith}
use mathlib.Core.Path.{◌≡◌, sym}
use mathlib.Core.Bool.{false}
use mathlib.Core.List.{List}
use Prim.Native.Nat.{ℕ, ◌+◌, ◌-◌, ◌≤◌, ◌<◌}
use native.Mathlib.Nat.{le_of_lt}
use lib.ListN.{length, drop}
use borrow.Author.Tests.{lt-ltb, le-ltb}
use borrow.Author.Rules.{rules}
use Rattle.text_scan.specs.Run.{is_byte, line_end, run_end-within}
use Rattle.job_words.specs.Rows.{rows_of, bytes_of}
use Rattle.job_words.specs.Laws.{length_rest, length_more}
use Rattle.job_words.proofs.exceeds.Statement.{statement}
use Rattle.job_words.proofs.exceeds.Tie as tie

within : (bytes : List ℕ) (at end : ℕ) → at < length bytes → end ≡ line_end bytes at → (at ≤ end) × (end ≤ length bytes)
within bytes at end h e = let b = run_end-within (is_byte 10 false) bytes at (le_of_lt h) in (omega arith, omega arith)

abbrev invariant-loop : tie.invariant-loop-at
invariant-loop bytes at₀ total₀ at total = (total ≤ 65536) × (total + length (bytes_of (rows_of (drop at bytes))) ≡ length (bytes_of (rows_of bytes)))

abbrev decreases-loop : tie.decreases-loop-at
decreases-loop bytes at₀ total₀ at total = length bytes - at

-- the bytes of a line more
more : (c : tie.After-row_length-total invariant-loop decreases-loop) → let l = c.loop-at in let bytes = c.args.bytes.now in
    l.total + c.row_length-total.result + length (bytes_of (rows_of (drop (line_end bytes l.at + 1) bytes))) ≡ length (bytes_of (rows_of bytes))
more c =
    let l = c.loop-at in
    let e = rw c.line_end-end.ensures at c.row_length-total.ensures.0 in
    let m = length_more c.args.bytes.now l.at c.loop-at-test.true in
    let i = l.invariant.1 in
    omega arith

loop-holds : tie.Need-loop-at-init invariant-loop decreases-loop
loop-holds c = (omega arith, omega arith)

line-end-requires : tie.Need-line_end-end-requires invariant-loop decreases-loop
line-end-requires c κs = search rules

sub-row-length : tie.Need-slice_bounds-row_length-count invariant-loop decreases-loop
sub-row-length c = (within c.args.bytes.now c.loop-at.at c.line_end-end.result c.loop-at-test.true c.line_end-end.ensures).0

part-row-length-start : tie.Need-slice_bounds-row_length-start invariant-loop decreases-loop
part-row-length-start c = (within c.args.bytes.now c.loop-at.at c.line_end-end.result c.loop-at-test.true c.line_end-end.ensures).0

part-row-length-end : tie.Need-slice_bounds-row_length-end invariant-loop decreases-loop
part-row-length-end c = (within c.args.bytes.now c.loop-at.at c.line_end-end.result c.loop-at-test.true c.line_end-end.ensures).1

row-length-requires : tie.Need-row_length-total-requires invariant-loop decreases-loop
row-length-requires c κs = search rules

add_total : tie.Need-overflow_add-total invariant-loop decreases-loop
add_total c = let h = c.row_length-total.ensures.1 in let i = c.loop-at.invariant.0 in search rules

returns : tie.Need-returns-then-total-gt65536 invariant-loop decreases-loop
returns c = let m = more c.before in sym (lt-ltb 65536 (length (bytes_of (rows_of c.args.bytes.now))) (let t = c.if-total-gt65536.true in omega arith))

add_at : tie.Need-overflow_add-at invariant-loop decreases-loop
add_at c = let w = within c.args.bytes.now c.loop-at.at c.line_end-end.result c.loop-at-test.true c.line_end-end.ensures in search rules

loop-less : tie.Need-loop-at-smaller invariant-loop decreases-loop
loop-less c = let w = within c.args.bytes.now c.loop-at.at c.line_end-end.result c.loop-at-test.true c.line_end-end.ensures in omega arith

loop-again : tie.Need-loop-at-preserved invariant-loop decreases-loop
loop-again c = (let t = c.if-total-gt65536.false in omega arith, rw c.line_end-end.ensures (more c.before))

returns-2 : tie.Need-returns invariant-loop decreases-loop
returns-2 c = let i = c.loop-at.invariant in let e = length_rest c.args.bytes.now c.loop-at.at c.loop-at-test.false in sym (le-ltb 65536 (length (bytes_of (rows_of c.args.bytes.now))) (omega arith))

pub exceeds_spec : {M : Type 1} → statement M
exceeds_spec =
    tie.close
    (tie.spec
    invariant-loop
    decreases-loop
    loop-holds
    line-end-requires
    sub-row-length
    part-row-length-start
    part-row-length-end
    row-length-requires
    add_total
    returns
    add_at
    loop-less
    loop-again
    returns-2)
