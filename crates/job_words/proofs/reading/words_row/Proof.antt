use native.Mathlib.Omega.{arith}
use mathlib.Core.Path.{◌≡◌, ap, ◌∙◌}
use Prim.Native.Nat.{ℕ, ◌≤◌, ◌-◌}
use mathlib.Core.List.{List}
use mathlib.Core.Bool.{false}
use lib.ListN.{length, take, drop}
use native.Mathlib.Nat.{le_of_lt}
use Rattle.text_scan.specs.Run.{is_byte, spaces_from, word_end, run_end-within}
use Rattle.text_words.specs.Names.{place_of, words_of}
use Rattle.job_words.specs.Rows.{names, named}
use Rattle.job_words.specs.Laws.{means_is, row-none, row-some}
use borrow.Author.Rules.{rules}
use Rattle.job_words.proofs.reading.words_row.Statement.{statement}
use Rattle.job_words.proofs.reading.words_row.Tie as tie

within : (line : List ℕ) (at end : ℕ) → at ≤ length line → end ≡ word_end line at → (at ≤ end) × (end ≤ length line)
within line at end h e = let b = run_end-within (is_byte 32 false) line at h in (omega arith, omega arith)

spaces-from-requires : tie.Need-spaces_from-at-requires
spaces-from-requires c κs = search rules

empty-requires : tie.Need-empty-requires
empty-requires c κs = search rules

returns : tie.Need-returns-then-line-at
returns c = let s = c in means_is (row-none c.args.line.now (spaces_from c.args.line.now 0) (rw c.spaces_from-at.ensures at c.if-line-at.true)) c.empty.ensures

word-end-requires : tie.Need-word_end-end-requires
word-end-requires c κs = search rules

sub-place-of : tie.Need-slice_bounds-place_of-count
sub-place-of c = (within c.args.line.now c.spaces_from-at.result c.word_end-end.result (le_of_lt c.if-line-at.false) c.word_end-end.ensures).0

part-place-of-start : tie.Need-slice_bounds-place_of-start
part-place-of-start c = (within c.args.line.now c.spaces_from-at.result c.word_end-end.result (le_of_lt c.if-line-at.false) c.word_end-end.ensures).0

part-place-of-end : tie.Need-slice_bounds-place_of-end
part-place-of-end c = (within c.args.line.now c.spaces_from-at.result c.word_end-end.result (le_of_lt c.if-line-at.false) c.word_end-end.ensures).1

place-of-requires : tie.Need-place_of-p-requires
place-of-requires c κs = search rules

named-requires : tie.Need-named-requires
named-requires c κs = (within c.args.line.now c.spaces_from-at.result c.word_end-end.result (le_of_lt c.if-line-at.false) c.word_end-end.ensures).1

returns-2 : tie.Need-returns
unfolding words_of
returns-2 c =
    let l = c.args.line.now in
    let w = c in
    rw (← c.spaces_from-at.ensures) (means_is
    (ap (λ (p : ℕ). named p l c.word_end-end.result) c.place_of-p.ensures ∙ ap (λ (e : ℕ). named (place_of (take (e - c.spaces_from-at.result) (drop c.spaces_from-at.result l)) names) l e) c.word_end-end.ensures
    ∙ row-some l c.spaces_from-at.result c.if-line-at.false) c.named.ensures)

pub words_row_spec : {M : Type 1} → statement M
words_row_spec =
    tie.close (tie.spec spaces-from-requires empty-requires returns word-end-requires sub-place-of part-place-of-start part-place-of-end place-of-requires named-requires returns-2)
