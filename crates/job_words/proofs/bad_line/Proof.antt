use native.Mathlib.Numerals.{add-one}
use native.Mathlib.Omega.{arith}
use mathlib.Core.Path.{◌≡◌, refl, sym, ap, ◌∙◌}
use Prim.Native.Nat.{ℕ, ◌+◌, ◌-◌, ◌≤◌, ◌<◌}
use mathlib.Core.List.{List}
use mathlib.Core.Bool.{false}
use lib.ListN.{length, drop}
use native.Mathlib.Nat.{le_of_lt}
use borrow.Author.Rules.{rules}
use Rattle.text_scan.specs.Run.{is_byte, line_end, run_end-within}
use Rattle.job_words.specs.Rows.{rows_of, first_bad}
use Rattle.job_words.specs.Laws.{rows_end, rows_more, bad_here, bad_later}
use Rattle.job_words.proofs.bad_line.Statement.{statement}
use Rattle.job_words.proofs.bad_line.Tie as tie

within : (bytes : List ℕ) (at end : ℕ) → at < length bytes → end ≡ line_end bytes at → (at ≤ end) × (end ≤ length bytes)
within bytes at end h e = let b = run_end-within (is_byte 10 false) bytes at (le_of_lt h) in (omega arith, omega arith)

abbrev invariant-loop : tie.invariant-loop-at
invariant-loop bytes at₀ line₀ at line = (line ≤ at + 1) × (first_bad line (rows_of (drop at bytes)) ≡ first_bad 1 (rows_of bytes))

abbrev decreases-loop : tie.decreases-loop-at
decreases-loop bytes at₀ line₀ at line = length bytes - at

loop-holds : tie.Need-loop-at-init invariant-loop decreases-loop
loop-holds c = (omega arith, refl)

line-end-requires : tie.Need-line_end-end-requires invariant-loop decreases-loop
line-end-requires c κs = search rules

sub-is-bad : tie.Need-slice_bounds-is_bad-count invariant-loop decreases-loop
sub-is-bad c = (within c.args.bytes.now c.loop-at.at c.line_end-end.result c.loop-at-test.true c.line_end-end.ensures).0

part-is-bad-start : tie.Need-slice_bounds-is_bad-start invariant-loop decreases-loop
part-is-bad-start c = (within c.args.bytes.now c.loop-at.at c.line_end-end.result c.loop-at-test.true c.line_end-end.ensures).0

part-is-bad-end : tie.Need-slice_bounds-is_bad-end invariant-loop decreases-loop
part-is-bad-end c = (within c.args.bytes.now c.loop-at.at c.line_end-end.result c.loop-at-test.true c.line_end-end.ensures).1

is-bad-requires : tie.Need-is_bad-requires invariant-loop decreases-loop
is-bad-requires c κs = search rules

returns : tie.Need-returns-then-is_bad invariant-loop decreases-loop
returns c =
    let l = c in
    let b = c.args.bytes.now in
    let e = rw c.line_end-end.ensures at c.is_bad.ensures in
    sym (ap (first_bad c.loop-at.line) (rows_more b c.loop-at.at c.loop-at-test.true) ∙ bad_here c.loop-at.line _ _ (sym e ∙ c.if-is_bad.true)) ∙ c.loop-at.invariant.1

add_at : tie.Need-overflow_add-at invariant-loop decreases-loop
add_at c = let w = within c.args.bytes.now c.loop-at.at c.line_end-end.result c.loop-at-test.true c.line_end-end.ensures in search rules

add-line : tie.Need-overflow_add-line invariant-loop decreases-loop
add-line c = let i = c.loop-at.invariant.0 in search rules

loop-less : tie.Need-loop-at-smaller invariant-loop decreases-loop
loop-less c = let w = within c.args.bytes.now c.loop-at.at c.line_end-end.result c.loop-at-test.true c.line_end-end.ensures in omega arith

loop-again : tie.Need-loop-at-preserved invariant-loop decreases-loop
loop-again c =
    let l = c in
    let b = c.args.bytes.now in
    let w = within c.args.bytes.now c.loop-at.at c.line_end-end.result c.loop-at-test.true c.line_end-end.ensures in
    let e = rw c.line_end-end.ensures at c.is_bad.ensures in
    (omega arith, rw (c.line_end-end.ensures, add-one) (sym (ap (first_bad c.loop-at.line) (rows_more b c.loop-at.at c.loop-at-test.true) ∙ bad_later c.loop-at.line _ _ (sym e ∙ c.if-is_bad.false)) ∙ c.loop-at.invariant.1))

returns-2 : tie.Need-returns invariant-loop decreases-loop
unfolding first_bad
returns-2 c = let l = c in sym (ap (first_bad c.loop-at.line) (rows_end c.args.bytes.now c.loop-at.at c.loop-at-test.false)) ∙ c.loop-at.invariant.1

pub bad_line_spec : {M : Type 1} → statement M
bad_line_spec =
    tie.close
    (tie.spec
    invariant-loop
    decreases-loop
    loop-holds
    line-end-requires
    sub-is-bad
    part-is-bad-start
    part-is-bad-end
    is-bad-requires
    returns
    add_at
    add-line
    loop-less
    loop-again
    returns-2)
