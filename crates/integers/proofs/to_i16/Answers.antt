-- `try_from` gives the number where it fits, and `short_of` tests the same bound.
use Rattle.std.specs.Prelude.{Result, Ok, Err, OkIff}
use Rattle.std.specs.Result.{result_ok}
use Rattle.std.proofs.Common.{◌≡◌, sym, ◌∙◌, arith, ℤ, w16, FitsSigned, to_z-of_z}
use Rattle.integers.specs.Narrow.{short_of, short-fits, short-wide}
use Rattle.integers.proofs.to_i16.Goals as goal

fitted : {E : Type 0} (z : ℤ) (r : Result ℤ E) → OkIff r (FitsSigned w16 z) z → result_ok r ≡ short_of z
fitted z (Ok x) h = rw h.1 (sym (short-fits z h.0.sfits))
fitted z (Err why) h = sym (short-wide z (grind (arith, h)))

pub returns : goal.returns
returns c = c.ok.ensures.value ∙ fitted _ _ (simp (to_z-of_z c.ranges.a) at c.try_from.ensures)
