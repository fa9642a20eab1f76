-- `leading` meets its contract: the numbers so far, with those to come, are those of the line. Assumes nothing.
use Prim.Native.Nat.{ℕ, suc, ◌+◌, ◌-◌, ◌^◌, ◌≤◌, ◌<◌}
use mathlib.Core.Path.{◌≡◌, refl, sym, ap, ◌∙◌}
use mathlib.Core.List.{List, [], ◌∷◌, ◌++◌}
use native.Mathlib.Nat.{sub-zero}
use native.Mathlib.Omega.{arith}
use lib.IntN.{ℤ}
use lib.ListN.{length, take, set, length-set}
use lib.Seq.{take-suc-set}
use mir.Syntax.{w64}
use mir.Val.{SFits}
use mir.Facts.{to_z-of_z}
use Rattle.text_scan.specs.Number.{value as number, read_of}
use Rattle.text_words.specs.Numbers.{word_at, leading_with, leading_from, leading-of, leading-bad, leading_end, leading-full, leading-none, leading-more}
use borrow.Author.Rules.{rules}
use Rattle.text_words.proofs.leading.Statement.{statement}
use Rattle.text_words.proofs.leading.Tie as tie

abbrev invariant-loop : tie.invariant-loop-at
invariant-loop line from most values₀ count₀ at₀ values count at =
    (count ≤ most) × (length values ≡ 16) × (leading_with (most - count) line at (take count values) ≡ leading_from most line from)

abbrev decreases-loop : tie.decreases-loop-at
decreases-loop line from most values₀ count₀ at₀ values count at = most - count

suc_is : (n : ℕ) → n + 1 ≡ suc n
suc_is n = omega arith

-- a turn of the loop
module _ (l : tie.At-loop-at invariant-loop decreases-loop) where
  abbrev start : tie.Start invariant-loop decreases-loop
  start = l.before.before.before

  abbrev line : List ℕ
  line = start.args.line.now

  abbrev room : ℕ
  room = start.args.most - l.loop-at.count

  abbrev so_far : List ℤ
  so_far = take l.loop-at.count l.loop-at.values

-- a word that is a number
module _ (c : tie.In-Value invariant-loop decreases-loop) where
  abbrev here : tie.At-loop-at invariant-loop decreases-loop
  here = c.before.before.before.before

  abbrev value : ℤ
  value = c.in-Value.v

  abbrev next : ℕ
  next = c.in-Value.next

  fits : SFits w64 value
  fits = search rules

  told : word_at (2 ^ 63) (line here) here.loop-at.at ≡ number value next
  told = sym c.word_at-n.ensures ∙ ap read_of c.in-Value.is

  left : room here ≡ suc ((start here).args.most - (here.loop-at.count + 1))
  left = let e = c.if-most-count.false in omega arith

spaces-from-requires : tie.Need-spaces_from-at-requires invariant-loop decreases-loop
spaces-from-requires c κs = search rules

loop-holds : tie.Need-loop-at-init invariant-loop decreases-loop
unfolding leading_from
loop-holds c = (omega arith, refl, rw (c.spaces_from-at.ensures, sub-zero) refl)

counted-requires : tie.Need-counted-requires invariant-loop decreases-loop
counted-requires c κs = search rules

returns : tie.Need-returns-then-most-count invariant-loop decreases-loop
returns c =
    let l = c.before.before.before in
    let e = c.counted.ensures in
    let f : room l ≡ 0 = let e = c.if-most-count.true in omega arith in (
      leading-of c.counted.result _ _ _ e ∙ sym (leading-full (room l) (line l) l.loop-at.at (so_far l) f) ∙ l.loop-at.invariant.2,
      (let h = (start l).requires in let b = l.loop-at.invariant.0 in let n = e.1 in omega arith),
      ap length e.0 ∙ l.loop-at.invariant.1,
    )

word-at-requires : tie.Need-word_at-n-requires invariant-loop decreases-loop
word-at-requires c κs = search rules

enum-known-n : tie.Need-enum_known-n invariant-loop decreases-loop
enum-known-n c = search rules

enum_told : tie.Need-enum_told-1 invariant-loop decreases-loop
enum_told c = search rules

no-numbers-requires : tie.Need-no_numbers-requires invariant-loop decreases-loop
no-numbers-requires c κs = search rules

returns-2 : tie.Need-returns-in_default invariant-loop decreases-loop
returns-2 c =
    let l = c.before.before.before.before.before in
    let n = c in
    let e : room l ≡ suc ((start l).args.most - (l.loop-at.count + 1)) = let e = n.if-most-count.false in omega arith in
    let f = c.no_numbers.ensures in (
      leading-bad c.no_numbers.result f.0 ∙ sym (leading-none (room l) (line l) l.loop-at.at (so_far l) n.loop-at-test.true _ e (sym n.word_at-n.ensures ∙ ap read_of c.in_default.is)) ∙ l.loop-at.invariant.2,
      (let h = f.1 in omega arith),
      f.2,
    )

mul-values : tie.Need-offset_bounds-values-count invariant-loop decreases-loop
mul-values c = search rules

array-set-from-values : tie.Need-bounds-values-count invariant-loop decreases-loop
array-set-from-values c = search rules

add-count : tie.Need-overflow_add-count invariant-loop decreases-loop
add-count c = search rules

loop-less : tie.Need-loop-at-smaller invariant-loop decreases-loop
loop-less c = search rules

loop-again : tie.Need-loop-at-preserved invariant-loop decreases-loop
loop-again c =
    let k = c in
    let l = here k in
    let small : l.loop-at.count < length l.loop-at.values = let e = l.loop-at.invariant.1 in let f = k.if-most-count.false in omega arith in
    let more = leading-more (room l) (line l) l.loop-at.at (so_far l) k.loop-at-test.true _ (value k) (next k) (left k) (told k) in
    let put : take (l.loop-at.count + 1) (set l.loop-at.values l.loop-at.count (value k)) ≡ so_far l ++ (value k ∷ []) = rw (suc_is l.loop-at.count) (take-suc-set l.loop-at.values l.loop-at.count (value k) small) in
    (omega arith, length-set l.loop-at.values l.loop-at.count _ ∙ l.loop-at.invariant.1, rw (to_z-of_z (fits k), put) (sym more ∙ l.loop-at.invariant.2))

counted-requires-2 : tie.Need-counted-requires-2 invariant-loop decreases-loop
counted-requires-2 c κs = search rules

returns-3 : tie.Need-returns invariant-loop decreases-loop
returns-3 c =
    let l = c.before.before in
    let e = c.counted-2.ensures in (
      leading-of c.counted-2.result _ _ _ e ∙ sym (leading_end (room l) (line l) l.loop-at.at (so_far l) c.loop-at-test.false) ∙ l.loop-at.invariant.2,
      (let h = (start l).requires in let b = l.loop-at.invariant.0 in let n = e.1 in omega arith),
      ap length e.0 ∙ l.loop-at.invariant.1,
    )

pub leading_spec : {M : Type 1} → statement M
leading_spec =
    tie.close
    (tie.spec
    invariant-loop
    decreases-loop
    spaces-from-requires
    loop-holds
    counted-requires
    returns
    word-at-requires
    enum-known-n
    enum_told
    no-numbers-requires
    returns-2
    mul-values
    array-set-from-values
    add-count
    loop-less
    loop-again
    counted-requires-2
    returns-3)
