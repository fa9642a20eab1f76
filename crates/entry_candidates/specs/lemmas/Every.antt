-- A test of every number below n.
use Rattle.std.specs.Prelude.{◌≡◌, Bool, true, ◌&&◌, ℕ, zero, suc, ◌<◌}
use Rattle.std.proofs.Common.{ap, ◌∙◌, arith}
use Rattle.std.proofs.Math.Decide.{dec_lt}
use Rattle.integers.specs.lemmas.Booleans.{both_true}

abbrev pub every : ℕ → (ℕ → Bool) → Bool
every zero t = true
every (suc n) t = t n && every n t

pub every-at : (n : ℕ) (t : ℕ → Bool) → every n t ≡ true → (i : ℕ) → i < n → t i ≡ true
every-at zero t e i h = absurd (omega arith)
every-at (suc n) t e i h = go (dec_lt i n) (every-at n t (both_true (t n) (every n t) e).1 i)
  where
    go : Dec (i < n) → (i < n → t i ≡ true) → t i ≡ true
    go (yes l) f = f l
    go (no l) f = let j : i ≡ n = omega arith in ap t j ∙ (both_true (t n) (every n t) e).0
