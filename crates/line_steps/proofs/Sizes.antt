-- What the code computes fits 64 bits.
use Prim.Native.Nat.{ℕ, ◌≤◌}
use native.Mathlib.Omega.{arith}
use lib.IntN.{ℤ}
use mir.Syntax.{w64}
use mir.Val.{SFits}
use Rattle.integers.specs.lemmas.Size.{size→fits}
use Rattle.line_steps.specs.Ends.{Divided}

pub divided_fits : (k : ℕ) (n x : ℤ) → Divided k n x → k ≤ 20000 → SFits w64 n × SFits w64 x
divided_fits k n x d h = let a = d.scale in let b = d.size in (size→fits (omega arith), size→fits (omega arith))
