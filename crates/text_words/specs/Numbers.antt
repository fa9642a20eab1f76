-- The numbers of a line. They serve the lines of SPEC, "Console". Assumes nothing.
use Rattle.std.specs.Prelude.{ℕ, zero, suc, ◌^◌, ◌<◌, ◌≤◌, ◌≡◌, Bool, true, false, cond, List, [], ◌∷◌, ◌++◌, ltb, leb, eqb, ℤ, nat_abs, length, get_or, take, Option, Some, None}
use Rattle.std.proofs.Math.Path.{refl}
use Rattle.std.specs.Int.Signed.{non_neg}
use borrow.Author.Tests.{lt-ltb, le-ltb, le-leb, lt-leb}
use Rattle.integers_wide.specs.Meaning.{meaning}
use Rattle.text_scan.specs.Run.{spaces_from}
use Rattle.text_scan.specs.Number as scan
use Rattle.text_scan.specs.Number.{Read, value, number_at}
use Rattle.text_words.specs.declared.Numbers.{Numbers}
use Rattle.text_words.specs.declared.Pair.{Pair}
use Rattle.text_words.specs.declared.Pair.TheVariants as pair

-- the numbers, or a line that is not read
pub data Listed : Type 0 where
  numbers : List ℤ → Listed
  bad : Listed

-- the numbers and where the word after them begins, or a line that is not read
pub data Leading : Type 0 where
  leading : List ℤ → ℕ → Leading
  none : Leading

abbrev pub listed_of : Numbers → Listed
listed_of r = cond r.good (numbers (take r.count r.values)) bad

abbrev pub leading_of : Numbers → Leading
leading_of r = cond r.good (leading (take r.count r.values) r.end) none

abbrev pub pair_of : Pair → Listed
pair_of (pair.Both p q) = numbers (meaning p ∷ meaning q ∷ [])
pair_of pair.Bad = bad

-- a space or the end of the line
unfoldable pub ends_word : List ℕ → ℕ → Bool
ends_word line at = cond (ltb at (length line)) (eqb (get_or line at 0) 32) true

-- a number has to end its word; the next word begins after the spaces
abbrev pub whole : List ℕ → Read → Read
whole line (value v end) = cond (ends_word line end) (value v (spaces_from line end)) scan.bad
whole line scan.bad = scan.bad

-- the number that is the word at a place, and where the next word begins
unfoldable pub word_at : ℕ → List ℕ → ℕ → Read
word_at top line at = whole line (number_at top line at)

abbrev pub onward : List ℤ → (ℕ → List ℤ → Leading) → Read → Leading
onward ns next (value v at) = next at (ns ++ (v ∷ []))
onward ns next scan.bad = none

-- the numbers ns with those from a place on, which has no space, at most `most` of them
unfoldable pub leading_with : ℕ → List ℕ → ℕ → List ℤ → Leading
leading_with zero line at ns = leading ns at
leading_with (suc most) line at ns = cond (ltb at (length line)) (onward ns (leading_with most line) (word_at (2 ^ 63) line at)) (leading ns at)

-- at most `most` numbers of one word from a place on
unfoldable pub leading_from : ℕ → List ℕ → ℕ → Leading
leading_from most line from = leading_with most line (spaces_from line from) []

-- nothing is left
abbrev pub when_all : List ℕ → Leading → Listed
when_all line (leading ns at) = cond (ltb at (length line)) bad (numbers ns)
when_all line none = bad

-- at most 16 numbers of one word from a place on, and nothing else
unfoldable pub numbers_from : List ℕ → ℕ → Listed
numbers_from line from = when_all line (leading_from 16 line from)

-- they are n
abbrev pub when_many : ℕ → Leading → Leading
when_many n (leading ns at) = cond (eqb (length ns) n) (leading ns at) none
when_many n none = none

-- the first n numbers of one word from a place on, at most 16
unfoldable pub numbers_before : ℕ → List ℕ → ℕ → Leading
numbers_before n line from = cond (leb n 16) (when_many n (leading_from n line from)) none

abbrev pub second : List ℕ → ℤ → Read → Listed
second line p (value q end) = cond (ltb end (length line)) bad (numbers (p ∷ q ∷ []))
second line p scan.bad = bad

abbrev pub first : List ℕ → Read → Listed
first line (value p at) = second line p (word_at (2 ^ 127) line at)
first line scan.bad = bad

-- two numbers of two words from a place on, and nothing else
unfoldable pub pair_from : List ℕ → ℕ → Listed
pair_from line from = first line (word_at (2 ^ 127) line (spaces_from line from))

pub leading_end : (most : ℕ) (line : List ℕ) (at : ℕ) (ns : List ℤ) → length line ≤ at → leading_with most line at ns ≡ leading ns at
unfolding leading_with
leading_end zero line at ns h = refl
leading_end (suc most) line at ns h = rw (le-ltb at (length line) h) refl

pub leading-full : (most : ℕ) (line : List ℕ) (at : ℕ) (ns : List ℤ) → most ≡ 0 → leading_with most line at ns ≡ leading ns at
unfolding leading_with
leading-full most line at ns e = rw e refl

module _ (most : ℕ) (line : List ℕ) (at : ℕ) (ns : List ℤ) (some : at < length line) where
  pub leading-none : (r : ℕ) → most ≡ suc r → word_at (2 ^ 63) line at ≡ scan.bad → leading_with most line at ns ≡ none
  unfolding leading_with
  leading-none r e n = rw (e, lt-ltb at (length line) some, n) refl

  pub leading-more : (r : ℕ) (v : ℤ) (next : ℕ) → most ≡ suc r → word_at (2 ^ 63) line at ≡ value v next → leading_with most line at ns ≡ leading_with r line next (ns ++ (v ∷ []))
  unfolding leading_with
  leading-more r v next e n = rw (e, lt-ltb at (length line) some, n) refl

pub leading-of : (r : Numbers) (vs : List ℤ) (n at : ℕ) → (r.values ≡ vs) × (r.count ≡ n) × (r.end ≡ at) × (r.good ≡ true) → leading_of r ≡ leading (take n vs) at
leading-of r vs n at e = rw (e.3, e.0, e.1, e.2) refl

pub leading-bad : (r : Numbers) → r.good ≡ false → leading_of r ≡ none
leading-bad r e = rw e refl

pub listed-bad : (r : Numbers) → r.good ≡ false → listed_of r ≡ bad
listed-bad r e = rw e refl

all-some : (g : Bool) (line : List ℕ) (ns : List ℤ) (at : ℕ) → at < length line → when_all line (cond g (leading ns at) none) ≡ bad
all-some true line ns at h = rw (lt-ltb at (length line) h) refl
all-some false line ns at h = refl

all_none : (g : Bool) (line : List ℕ) (ns : List ℤ) (at : ℕ) → length line ≤ at → when_all line (cond g (leading ns at) none) ≡ cond g (numbers ns) bad
all_none true line ns at h = rw (le-ltb at (length line) h) refl
all_none false line ns at h = refl

module _ (n : Numbers) (line : List ℕ) (from : ℕ) (e : leading_of n ≡ leading_from 16 line from) where
  pub numbers-some : n.end < length line → numbers_from line from ≡ bad
  unfolding numbers_from
  numbers-some h = rw (← e) (all-some n.good line _ n.end h)

  pub numbers-none : length line ≤ n.end → numbers_from line from ≡ listed_of n
  unfolding numbers_from
  numbers-none h = rw (← e) (all_none n.good line _ n.end h)

many_other : (g : Bool) (n : ℕ) (ns : List ℤ) (at : ℕ) → eqb (length ns) n ≡ false → when_many n (cond g (leading ns at) none) ≡ none
many_other true n ns at h = rw h refl
many_other false n ns at h = refl

many_same : (g : Bool) (n : ℕ) (ns : List ℤ) (at : ℕ) → eqb (length ns) n ≡ true → when_many n (cond g (leading ns at) none) ≡ cond g (leading ns at) none
many_same true n ns at h = rw h refl
many_same false n ns at h = refl

pub before-over : (n : ℕ) (line : List ℕ) (from : ℕ) → 16 < n → numbers_before n line from ≡ none
unfolding numbers_before
before-over n line from h = rw (lt-leb n 16 h) refl

module _ (l : Numbers) (n : ℕ) (line : List ℕ) (from : ℕ) (few : n ≤ 16) (e : leading_of l ≡ leading_from n line from) where
  pub before-other : eqb (length (take l.count l.values)) n ≡ false → numbers_before n line from ≡ none
  unfolding numbers_before
  before-other h = rw (le-leb n 16 few, ← e) (many_other l.good n _ l.end h)

  pub before_same : eqb (length (take l.count l.values)) n ≡ true → numbers_before n line from ≡ leading_of l
  unfolding numbers_before
  before_same h = rw (le-leb n 16 few, ← e) (many_same l.good n _ l.end h)

module _ (top : ℕ) (line : List ℕ) (at : ℕ) where
  pub word_none : number_at top line at ≡ scan.bad → word_at top line at ≡ scan.bad
  unfolding word_at
  word_none n = rw n refl

  pub word-run-on : (v : ℤ) (end : ℕ) → number_at top line at ≡ value v end → ends_word line end ≡ false → word_at top line at ≡ scan.bad
  unfolding word_at
  word-run-on v end n w = rw (n, w) refl

  pub word-whole : (v : ℤ) (end : ℕ) → number_at top line at ≡ value v end → ends_word line end ≡ true → word_at top line at ≡ value v (spaces_from line end)
  unfolding word_at
  word-whole v end n w = rw (n, w) refl

module _ (line : List ℕ) (from : ℕ) where
  pub pair-none : word_at (2 ^ 127) line (spaces_from line from) ≡ scan.bad → pair_from line from ≡ bad
  unfolding pair_from
  pair-none n = rw n refl

  module _ (p : ℤ) (at : ℕ) (one : word_at (2 ^ 127) line (spaces_from line from) ≡ value p at) where
    pub pair_one : word_at (2 ^ 127) line at ≡ scan.bad → pair_from line from ≡ bad
    unfolding pair_from
    pair_one n = rw (one, n) refl

    module _ (q : ℤ) (end : ℕ) (two : word_at (2 ^ 127) line at ≡ value q end) where
      pub pair-more : end < length line → pair_from line from ≡ bad
      unfolding pair_from
      pair-more h = rw (one, two, lt-ltb end (length line) h) refl

      pub pair-both : length line ≤ end → pair_from line from ≡ numbers (p ∷ q ∷ [])
      unfolding pair_from
      pair-both h = rw (one, two, le-ltb end (length line) h) refl

-- a length from 0 to top
unfoldable pub length_of : ℕ → ℤ → Option ℕ
length_of top n = cond (non_neg n) (cond (leb (nat_abs n) top) (Some (nat_abs n)) None) None

module _ (top : ℕ) (n : ℤ) where
  pub length-negative : non_neg n ≡ false → length_of top n ≡ None
  unfolding length_of
  length-negative e = rw e refl

  pub length-within : non_neg n ≡ true → nat_abs n ≤ top → length_of top n ≡ Some (nat_abs n)
  unfolding length_of
  length-within e h = rw (e, le-leb (nat_abs n) top h) refl

  pub length-long : non_neg n ≡ true → top < nat_abs n → length_of top n ≡ None
  unfolding length_of
  length-long e h = rw (e, lt-leb (nat_abs n) top h) refl
