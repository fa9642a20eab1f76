-- `place_of` meets its contract: the words passed and the place of the word among the others are its place among all. Assumes nothing.
use Prim.Native.Nat.{ℕ, suc, ◌+◌, ◌-◌, ◌≤◌, ◌<◌}
use mathlib.Core.Path.{◌≡◌, sym, ap, ◌∙◌}
use mathlib.Core.Bool.{Bool, true, false}
use mathlib.Core.List.{List}
use native.Mathlib.Nat.{le_of_lt}
use native.Mathlib.Omega.{arith}
use lib.ListN.{length, take, drop, length-drop, drop_of_length-le}
use lib.Seq.{drop-drop}
use borrow.Author.Rules.{rules}
use Rattle.text_scan.specs.Run.{is_byte, end_of_run, run_end-within}
use Rattle.text_words.specs.Names.{is_name, place_of, words_of, front, name_told, front-take, place_here, place-later}
use Rattle.text_words.proofs.place_of.Statement.{statement}
use Rattle.text_words.proofs.place_of.Tie as tie

abbrev invariant-loop : tie.invariant-loop-at
invariant-loop word text at₀ i₀ at i = (i ≤ at) × (i + place_of word (words_of (drop at text)) ≡ place_of word (words_of text))

abbrev decreases-loop : tie.decreases-loop-at
decreases-loop word text at₀ i₀ at i = length text - at

module _ (c : tie.After-word_end-end invariant-loop decreases-loop) where
  abbrev here : tie.At-loop-at invariant-loop decreases-loop
  here = c.before.before

  abbrev start : tie.Start invariant-loop decreases-loop
  start = here.before.before.before

  abbrev word : List ℕ
  word = start.args.word.now

  abbrev text : List ℕ
  text = start.args.text.now

  within : (here.loop-at.at ≤ c.word_end-end.result) × (c.word_end-end.result ≤ length text)
  within =
      let e = c.word_end-end.ensures in
      let b = run_end-within (is_byte 32 false) text here.loop-at.at (le_of_lt c.loop-at-test.true) in
      (omega arith, omega arith)

  -- what is left of the text, and its first word
  abbrev ahead : List ℕ
  ahead = drop here.loop-at.at text

  some : 0 < length ahead
  some = let d = length-drop here.loop-at.at text in let t = c.loop-at-test.true in omega arith

  end_is : c.word_end-end.result ≡ here.loop-at.at + length (front ahead)
  unfolding end_of_run
  end_is = c.word_end-end.ensures

  part-is : take (c.word_end-end.result - here.loop-at.at) ahead ≡ front ahead
  part-is = let e : c.word_end-end.result - here.loop-at.at ≡ length (front ahead) = (let e = end_is in omega arith) in ap (λ (n : ℕ). take n ahead) e ∙ sym (front-take ahead)

  told : (r : Bool) → (r ≡ true → word ≡ take (c.word_end-end.result - here.loop-at.at) ahead) × (word ≡ take (c.word_end-end.result - here.loop-at.at) ahead → r ≡ true) → r ≡ is_name word (front ahead)
  told r e = rw part-is at (name_told word (take (c.word_end-end.result - here.loop-at.at) ahead) r e.0 e.1)

  rest : drop (c.word_end-end.result + 1) text ≡ drop (suc (length (front ahead))) ahead
  rest =
      let e : c.word_end-end.result + 1 ≡ here.loop-at.at + suc (length (front ahead)) = (let e = end_is in omega arith) in
      ap (λ (n : ℕ). drop n text) e ∙ sym (drop-drop (suc (length (front ahead))) here.loop-at.at text)

loop-holds : tie.Need-loop-at-init invariant-loop decreases-loop
loop-holds c = (omega arith, omega arith)

word-end-requires : tie.Need-word_end-end-requires invariant-loop decreases-loop
word-end-requires c κs = search rules

sub_same : tie.Need-slice_bounds-same-count invariant-loop decreases-loop
sub_same c = (within c).0

part-same-start : tie.Need-slice_bounds-same-start invariant-loop decreases-loop
part-same-start c = (within c).0

part-same-end : tie.Need-slice_bounds-same-end invariant-loop decreases-loop
part-same-end c = (within c).1

same-requires : tie.Need-same-requires invariant-loop decreases-loop
same-requires c κs = search rules

returns : tie.Need-returns-then-same invariant-loop decreases-loop
returns c =
    let k = c.before.before.before in
    let e = c.same.ensures in
    let n = place_here (word k) (ahead k) (some k) (sym (told k c.same.result e) ∙ c.if-same.true) in
    let j = (here k).loop-at.invariant.1 in
    omega arith

add_at : tie.Need-overflow_add-at invariant-loop decreases-loop
add_at c = let w = within c.before.before.before in search rules

add-i : tie.Need-overflow_add-i invariant-loop decreases-loop
add-i c = search rules

loop-less : tie.Need-loop-at-smaller invariant-loop decreases-loop
loop-less c = let w = within c.before.before.before in omega arith

loop-again : tie.Need-loop-at-preserved invariant-loop decreases-loop
loop-again c =
    let k = c.before.before.before in
    let e = c.same.ensures in
    let w = within k in
    let n = place-later (word k) (ahead k) (some k) (sym (told k c.same.result e) ∙ c.if-same.false) in
    let j = (here k).loop-at.invariant.1 in
    (omega arith, rw (rest k) (omega arith))

returns-2 : tie.Need-returns invariant-loop decreases-loop
unfolding place_of words_of
returns-2 c =
    let l = c in
    let e = drop_of_length-le l.args.text.now c.loop-at-test.false in
    let j = rw e at l.loop-at.invariant.1 in
    omega arith

pub place_of_spec : {M : Type 1} → statement M
place_of_spec =
    tie.close
    (tie.spec
    invariant-loop
    decreases-loop
    loop-holds
    word-end-requires
    sub_same
    part-same-start
    part-same-end
    same-requires
    returns
    add_at
    add-i
    loop-less
    loop-again
    returns-2)
