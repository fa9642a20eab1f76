-- How long the texts of the pattern program are.
use Prim.Native.Nat.{ℕ, ◌≤◌, ◌<◌, ◌^◌}
use mathlib.Core.Path.{◌≡◌, refl}
use mathlib.Core.Bool.{Bool, true, false, cond, ◌&&◌}
use mathlib.Core.List.{List}
use native.Mathlib.Omega.{arith}
use lib.Dec.{leb, lit≤}
use lib.ListN.{length, length-append}
use borrow.Author.Tests.{leb-true}
use Rattle.ring.specs.declared.Point.{Point}
use Rattle.record_ranges.specs.Ranges.{top_scale}
use Rattle.entry_equation.specs.Equation.{completes}
use Rattle.record_kinds.specs.declared.Refusal.{Refusal}
use Rattle.record_kinds.specs.declared.Refusal.TheVariants.{NoKind, UnknownKind, Short, OutOfRange, NotPositive, OddParity, NotSpecial, OutOfTurn, NoJob, Ended, NoDirection, NoPattern}
use Rattle.record_kinds.specs.Kinds.{number}
use Rattle.text.proofs.Lengths.{unsigned_length}
use Rattle.list_lines.specs.Lines.{refusal_line, count_text}
use Rattle.gate_theory.specs.Table.{Letter}
use Rattle.gates.specs.Written.{bytes, length-bytes}
use Rattle.gate_words.specs.declared.Answer.TheVariants as A
use Rattle.gate_words.specs.declared.Refusal.TheVariants as R
use Rattle.gate_words.specs.Words.{answer_of, named, word_u, word_tUT, fit, is_fewer}

number_small : (f : Refusal) → number f ≤ 14
number_small NoKind = lit≤ tt
number_small UnknownKind = lit≤ tt
number_small Short = lit≤ tt
number_small OutOfRange = lit≤ tt
number_small NotPositive = lit≤ tt
number_small OddParity = lit≤ tt
number_small NotSpecial = lit≤ tt
number_small OutOfTurn = lit≤ tt
number_small NoJob = lit≤ tt
number_small Ended = lit≤ tt
number_small NoDirection = lit≤ tt
number_small NoPattern = lit≤ tt

pub refusal-size : (f : Refusal) (p : ℕ) → p < 2 ^ 64 → length (refusal_line (number f) p) ≤ 53
unfolding refusal_line count_text
refusal-size f p h =
    let k = number_small f in
    let a = unsigned_length (number f) (omega arith) in
    let b = unsigned_length p h in
    simp length-append (omega arith)

both : (p q : Bool) → true ≡ (p && q) → (p ≡ true) × (q ≡ true)
both true true h = (refl, refl)
both true false h = absurd (let z : ◌≡◌ {A = ℕ} 0 1 = cc in omega arith)
both false q h = absurd (let z : ◌≡◌ {A = ℕ} 0 1 = cc in omega arith)

short : (x y : List Letter) (b c d e : Bool) → d ≡ (leb (length x) 128 && leb (length y) 128)
    → length (named x y (cond b (cond c (cond d (cond e (A.Second (length y)) (A.First (length x))) (A.Refused R.NoRoom)) (A.Refused R.NotUnitary)) (A.Refused R.OutOfRange))) ≤ 128
short x y true true true true h = leb-true (length y) 128 (both (leb (length x) 128) (leb (length y) 128) h).1
short x y true true true false h = leb-true (length x) 128 (both (leb (length x) 128) (leb (length y) 128) h).0
short x y true true false e h = lit≤ tt
short x y true false d e h = lit≤ tt
short x y false c d e h = lit≤ tt

pub word_size : (k : ℕ) (u t : Point) → length (bytes (named (word_u k u t) (word_tUT k u t) (answer_of k u t 128 128))) ≤ 128
unfolding answer_of
word_size k u t = rw length-bytes (short (word_u k u t) (word_tUT k u t) (leb k top_scale) (completes k u t) (fit k u t 128 128) (is_fewer k u t) refl)
