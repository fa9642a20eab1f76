-- Bytes put at a place of a list, where they fit: SPEC, "List program". Assumes nothing.
use Rattle.std.specs.Prelude.{ℕ, ◌+◌, cond, List, ◌++◌, leb, length, take, drop}

-- xs with ys at `at`, or xs where they do not fit there
unfoldable pub written : List ℕ → ℕ → List ℕ → List ℕ
written xs at ys = cond (leb (at + length ys) (length xs)) (take at xs ++ ys ++ drop (at + length ys) xs) xs

-- the place after ys at `at`, or `at` where they do not fit there
unfoldable pub after : List ℕ → ℕ → List ℕ → ℕ
after xs at ys = cond (leb (at + length ys) (length xs)) (at + length ys) at
