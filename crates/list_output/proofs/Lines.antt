-- Pieces of one line: how long they are, and how they stand in a slice. Assumes nothing.
use Prim.Native.Nat.{ℕ, ◌^◌, ◌≤◌, ◌<◌}
use mathlib.Core.Path.{◌≡◌, refl, sym, ap, subst, ◌∙◌}
use mathlib.Core.List.{List, []}
use native.Mathlib.Nat.{lt_of_lt_of_le}
use native.Mathlib.Omega.{arith}
use borrow.Author.Tests.{lt-ltb, le-ltb}
use lib.Dec.{lit≤}
use lib.ListN.{length, length-append}
use Rattle.record_kinds.specs.declared.Refusal.{Refusal}
use Rattle.record_kinds.specs.declared.Refusal.TheVariants as F
use Rattle.record_kinds.specs.Kinds.{number}
use Rattle.text.specs.Append.{Appended, appended}
use Rattle.integers_wide.specs.Meaning.{size_of}
use Rattle.text.specs.Written.{written, after}
use Rattle.integers_wide.specs.declared.Size.{Size}
use Rattle.text.proofs.Lengths.{decimal-length}
use Rattle.text.proofs.Words.{value-below}
use Rattle.list_lines.specs.Lines.{end_line, refusal_line, count_text}
use Rattle.list_states.specs.declared.Piece.{Piece}
use Rattle.list_states.specs.State.{State, done, state_of}
use Rattle.list_output.specs.Pieces.{Part, part_of, piece_of, Filled, FilledPart}

-- nothing at the start of a slice
none-appended : (xs : List ℕ) → Appended xs 0 [] xs 0
none-appended xs = record { text = refl; end = refl; same = refl; past = refl }

-- ---- a slice without room for a line, and one with it
pub filled_none : (s : State) (r : Piece) (xs : List ℕ) → length xs < 126 → r.length ≡ 0 → state_of r.next ≡ s → Filled s r xs xs
unfolding piece_of
filled_none s r xs h e f =
    let t = lt-ltb (length xs) 126 h in
    record { text = rw (t, e) (none-appended xs); next = rw t f }

pub filled_part : (s : State) (r : Piece) (old new : List ℕ) → 126 ≤ length old → FilledPart s r old new → Filled s r old new
unfolding piece_of
filled_part s r old new h p = let t = le-ltb (length old) 126 h in record { text = rw t p.text; next = rw t p.next }

-- ---- one line, after which nothing is left
pub line-part : (s : State) (r : Piece) (old mid line : List ℕ) (n : ℕ) → part_of (length old) s ≡ record { text = line; next = done } → length line ≤ 126 → 126 ≤ length old
    → (mid ≡ written old 0 line) × (n ≡ after old 0 line) → (state_of r.next ≡ done) × (r.length ≡ n) → FilledPart s r old mid
line-part s r old mid line n e l h p q =
    let a = appended old 0 line mid n (omega arith) p.0 p.1 in
    let b = subst (λ (x : Part). Appended old 0 x.text mid n) (sym e) a in
    record { text = subst (λ (i : ℕ). Appended old 0 (part_of (length old) s).text mid i) (sym q.1) b; next = q.0 ∙ sym (ap (λ (x : Part). x.next) e) }

pub none-part : (s : State) (r : Piece) (xs : List ℕ) → part_of (length xs) s ≡ record { text = []; next = done } → (state_of r.next ≡ done) × (r.length ≡ 0) → FilledPart s r xs xs
none-part s r xs e q =
    let b = subst (λ (x : Part). Appended xs 0 x.text xs 0) (sym e) (none-appended xs) in
    record { text = subst (λ (i : ℕ). Appended xs 0 (part_of (length xs) s).text xs i) (sym q.1) b; next = q.0 ∙ sym (ap (λ (x : Part). x.next) e) }

-- ---- lengths
number_small : (f : Refusal) → number f < 10 ^ 2
number_small F.NoKind = lit≤ tt
number_small F.UnknownKind = lit≤ tt
number_small F.Short = lit≤ tt
number_small F.OutOfRange = lit≤ tt
number_small F.NotPositive = lit≤ tt
number_small F.OddParity = lit≤ tt
number_small F.NotSpecial = lit≤ tt
number_small F.OutOfTurn = lit≤ tt
number_small F.NoJob = lit≤ tt
number_small F.Ended = lit≤ tt
number_small F.NoDirection = lit≤ tt
number_small F.NoPattern = lit≤ tt

pub refusal-short : (f : Refusal) (p : ℕ) → p < 2 ^ 64 → length (refusal_line (number f) p) ≤ 126
unfolding refusal_line count_text
refusal-short f p h =
    let a = decimal-length 1 (number f) (number_small f) in
    let b = decimal-length 19 p (lt_of_lt_of_le h (lit≤ tt)) in
    simp length-append (omega arith)

pub end_short : (w : Size) → w.hi < 2 ^ 64 → w.lo < 2 ^ 64 → length (end_line (size_of w)) ≤ 126
unfolding end_line count_text
end_short w h l = let a = decimal-length 38 (size_of w) (value-below w h l) in simp length-append (omega arith)
