-- What passes 2^128 is not in the two words.
use Rattle.std.proofs.Common.{◌≡◌, ℕ, ◌+◌, ◌/◌, ◌%◌, ◌∙◌, arith}
use Rattle.integers_wide.specs.Meaning.{size_of, wrapped}
use Rattle.integers_wide.proofs.Size.plus.Goals as goal

wrapped_again : (x : ℕ) → wrapped (x % 340282366920938463463374607431768211456) ≡ wrapped x
unfolding wrapped
wrapped_again x =
    let h : x % 340282366920938463463374607431768211456 / 18446744073709551616 % 18446744073709551616 ≡ x / 18446744073709551616 % 18446744073709551616 = omega arith in
    let l : x % 340282366920938463463374607431768211456 % 18446744073709551616 ≡ x % 18446744073709551616 = omega arith in
    rw (h, l)

pub returns : goal.returns
returns c = c.of.ensures.wrapped ∙ rw (c.number.ensures, c.from.ensures) (wrapped_again (size_of c.args.self + c.args.n))
