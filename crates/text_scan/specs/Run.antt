-- Runs of bytes that pass a test. They serve the lines of SPEC, "Console". Assumes nothing.
use Rattle.std.specs.Prelude.{ℕ, ◌+◌, ◌≤◌, Bool, true, false, cond, not, List, [], ◌∷◌, eqb, length, drop}
use Rattle.std.proofs.Common.{arith, length-drop}

-- the longest run of bytes at the front that pass
unfoldable pub run : (ℕ → Bool) → List ℕ → List ℕ
run p [] = []
run p (b ∷ bs) = cond (p b) (b ∷ run p bs) []

-- the place after the longest run from `at` on: `at` itself where `at` is at the end or past it
unfoldable pub end_of_run : (ℕ → Bool) → List ℕ → ℕ → ℕ
end_of_run p s at = at + length (run p (drop at s))

-- x is b, where `same`; x is not b, where not
abbrev pub is_byte : ℕ → Bool → ℕ → Bool
is_byte b same x = cond same (eqb x b) (not (eqb x b))

-- the first place at or after `at` that holds no space, or the length
abbrev pub spaces_from : List ℕ → ℕ → ℕ
spaces_from = end_of_run (is_byte 32 true)

-- the first place at or after `at` that holds a space, or the length
abbrev pub word_end : List ℕ → ℕ → ℕ
word_end = end_of_run (is_byte 32 false)

-- the first place at or after `at` that holds a line feed, or the length
abbrev pub line_end : List ℕ → ℕ → ℕ
line_end = end_of_run (is_byte 10 false)

-- a run ends where it begins or later, and within the bytes
run_short : (p : ℕ → Bool) (l : List ℕ) → length (run p l) ≤ length l
unfolding run
run_short p [] = omega arith
run_short p (b ∷ l) = go (p b) (run_short p l)
  where
    go : (t : Bool) → length (run p l) ≤ length l → length (cond t (b ∷ run p l) []) ≤ length (b ∷ l)
    go true h = omega arith
    go false h = omega arith

pub run_end-within : (p : ℕ → Bool) (s : List ℕ) (at : ℕ) → at ≤ length s → (at ≤ end_of_run p s at) × (end_of_run p s at ≤ length s)
unfolding end_of_run
run_end-within p s at h =
    let r = run_short p (drop at s) in
    let d = length-drop at s in
    (omega arith, omega arith)
