use native.Mathlib.Omega.{arith}
use mathlib.Core.Path.{◌≡◌, refl, sym, ◌∙◌}
use Prim.Native.Nat.{ℕ, ◌-◌, ◌≤◌, ◌<◌}
use mathlib.Core.List.{List}
use mathlib.Core.Bool.{false}
use lib.ListN.{length, drop}
use native.Mathlib.Nat.{le_of_lt}
use borrow.Author.Rules.{rules}
use Rattle.text_scan.specs.Run.{is_byte, line_end, run_end-within}
use Rattle.record_forms.specs.Laid.{laid, laid_same}
use Rattle.job_words.specs.Rows.{rows_of, bytes_of}
use Rattle.job_words.specs.Laws.{laid-rest, laid-row}
use Rattle.job_words.proofs.put_records.Statement.{statement}
use Rattle.job_words.proofs.put_records.Tie as tie

within : (bytes : List ℕ) (at end : ℕ) → at < length bytes → end ≡ line_end bytes at → (at ≤ end) × (end ≤ length bytes)
within bytes at end h e = let b = run_end-within (is_byte 10 false) bytes at (le_of_lt h) in (omega arith, omega arith)

abbrev invariant-loop : tie.invariant-loop-at
invariant-loop out₀ bytes at₀ end-of₀ out at end_of_lem = laid (out, end_of_lem) (bytes_of (rows_of (drop at bytes))) ≡ laid (out₀, 0) (bytes_of (rows_of bytes))

abbrev decreases-loop : tie.decreases-loop-at
decreases-loop out₀ bytes at₀ end-of₀ out at end_of_lem = length bytes - at

loop-holds : tie.Need-loop-at-init invariant-loop decreases-loop
loop-holds c = refl

line-end-requires : tie.Need-line_end-end-requires invariant-loop decreases-loop
line-end-requires c κs = search rules

sub-put-row : tie.Need-slice_bounds-put_row-count invariant-loop decreases-loop
sub-put-row c = (within c.args.bytes.now c.loop-at.at c.line_end-end.result c.loop-at-test.true c.line_end-end.ensures).0

part-put-row-start : tie.Need-slice_bounds-put_row-start invariant-loop decreases-loop
part-put-row-start c = (within c.args.bytes.now c.loop-at.at c.line_end-end.result c.loop-at-test.true c.line_end-end.ensures).0

part-put-row-end : tie.Need-slice_bounds-put_row-end invariant-loop decreases-loop
part-put-row-end c = (within c.args.bytes.now c.loop-at.at c.line_end-end.result c.loop-at-test.true c.line_end-end.ensures).1

put-row-requires : tie.Need-put_row-end_of-requires invariant-loop decreases-loop
put-row-requires c κs = search rules

add_at : tie.Need-overflow_add-at invariant-loop decreases-loop
add_at c = let w = within c.args.bytes.now c.loop-at.at c.line_end-end.result c.loop-at-test.true c.line_end-end.ensures in search rules

loop-less : tie.Need-loop-at-smaller invariant-loop decreases-loop
loop-less c = let w = within c.args.bytes.now c.loop-at.at c.line_end-end.result c.loop-at-test.true c.line_end-end.ensures in omega arith

loop-again : tie.Need-loop-at-preserved invariant-loop decreases-loop
loop-again c =
    let l = c in
    let e = rw c.line_end-end.ensures at c.put_row-end_of.ensures in
    rw c.line_end-end.ensures (laid-row (c.loop-at.out, c.loop-at.end_of) (c.put_row-end_of.new.out, c.put_row-end_of.result) c.args.bytes.now c.loop-at.at c.loop-at-test.true e ∙ c.loop-at.invariant)

same_length : tie.Need-shape_of-out invariant-loop decreases-loop
same_length c = laid_same (c.loop-at.out, c.loop-at.end_of) (c.args.out.now, 0) _ _ c.loop-at.invariant

returns : tie.Need-returns invariant-loop decreases-loop
returns c = sym (laid-rest (c.loop-at.out, c.loop-at.end_of) c.args.bytes.now c.loop-at.at c.loop-at-test.false) ∙ c.loop-at.invariant

pub put_records_spec : {M : Type 1} → statement M
put_records_spec =
    tie.close
    (tie.spec
    invariant-loop
    decreases-loop
    loop-holds
    line-end-requires
    sub-put-row
    part-put-row-start
    part-put-row-end
    put-row-requires
    add_at
    loop-less
    loop-again
    same_length
    returns)
