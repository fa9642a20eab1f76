use native.Mathlib.Omega.{arith}
use mathlib.Core.Path.{◌≡◌, ap, ◌∙◌}
use Prim.Native.Nat.{ℕ, ◌≤◌, ◌-◌}
use mathlib.Core.List.{List}
use mathlib.Core.Bool.{false}
use lib.ListN.{length}
use Rattle.text_scan.specs.Run.{is_byte, spaces_from, word_end, run_end-within}
use Rattle.text_words.specs.Names.{words_of}
use Rattle.job_words.specs.Laws.{last_not, last_word}
use borrow.Author.Rules.{rules}
use Rattle.job_words.proofs.reading.last_place.Statement.{statement}
use Rattle.job_words.proofs.reading.last_place.Tie as tie

within : (line : List ℕ) (at end : ℕ) → at ≤ length line → end ≡ word_end line at → (at ≤ end) × (end ≤ length line)
within line at end h e = let b = run_end-within (is_byte 32 false) line at h in (omega arith, omega arith)

word-end-requires : tie.Need-word_end-end-requires
word-end-requires c κs = search rules

spaces-from-requires : tie.Need-spaces_from-requires
spaces-from-requires c κs = search rules

returns : tie.Need-returns-then-spaces_from-line
returns c = let s = c in last_not c.args.line.now c.args.at (rw (c.spaces_from.ensures ∙ ap (spaces_from c.args.line.now) c.word_end-end.ensures) at c.if-spaces_from-line.true)

sub-place-of : tie.Need-slice_bounds-place_of-count
sub-place-of c = (within c.args.line.now c.args.at c.word_end-end.result c.requires c.word_end-end.ensures).0

part-place-of-start : tie.Need-slice_bounds-place_of-start
part-place-of-start c = (within c.args.line.now c.args.at c.word_end-end.result c.requires c.word_end-end.ensures).0

part-place-of-end : tie.Need-slice_bounds-place_of-end
part-place-of-end c = (within c.args.line.now c.args.at c.word_end-end.result c.requires c.word_end-end.ensures).1

place-of-requires : tie.Need-place_of-requires
place-of-requires c κs = search rules

returns-2 : tie.Need-returns
unfolding words_of
returns-2 c =
    let s = c in
    let w = c in
    rw c.word_end-end.ensures at c.place_of.ensures ∙ last_word c.args.line.now c.args.at (rw (c.spaces_from.ensures ∙ ap (spaces_from c.args.line.now) c.word_end-end.ensures) at c.if-spaces_from-line.false)

pub last_place_spec : {M : Type 1} → statement M
last_place_spec =
    tie.close (tie.spec word-end-requires spaces-from-requires returns sub-place-of part-place-of-start part-place-of-end place-of-requires returns-2)
