-- `numbers_before` meets its contract. Assumes nothing.
use Prim.Native.Nat.{ℕ, ◌≤◌}
use mathlib.Core.Path.{◌≡◌, sym, ◌∙◌}
use mathlib.Core.List.{List}
use native.Mathlib.Omega.{arith}
use lib.IntN.{ℤ}
use lib.ListN.{length, take}
use lib.Seq.{length-take-le}
use borrow.Author.Tests.{eq-eqb, ne_eqb}
use Rattle.text_words.specs.Numbers.{leading-bad, before-over, before-other, before_same}
use borrow.Author.Rules.{rules}
use Rattle.text_words.proofs.numbers_before.Statement.{statement}
use Rattle.text_words.proofs.numbers_before.Tie as tie

module _ (c : tie.After-leading-l) where
  abbrev n : ℕ
  n = c.args.n

  abbrev front : List ℤ
  front = take c.leading-l.result.count c.leading-l.result.values

  few : n ≤ 16
  few = let e = c.if-n-gt16.false in omega arith

  -- as many numbers as are counted
  count : length front ≡ c.leading-l.result.count
  count = let e = c.leading-l.ensures in length-take-le _ _ (let h = e.1 in let n = e.2 in omega arith)

no-numbers-requires : tie.Need-no_numbers-requires
no-numbers-requires c κs = search rules

returns : tie.Need-returns-then-n-gt16
returns c = leading-bad c.no_numbers.result c.no_numbers.ensures.0 ∙ sym (before-over _ _ _ c.if-n-gt16.true)

leading-requires : tie.Need-leading-l-requires
leading-requires c κs = search rules

no-numbers-requires-2 : tie.Need-no_numbers-requires-then-l-n
no-numbers-requires-2 c κs = search rules

returns-2 : tie.Need-returns-then-l-n
returns-2 c =
    let l = c.before.before.before in
    let other = c.if-l-n.true in
    leading-bad c.no_numbers-then-l-n.result c.no_numbers-then-l-n.ensures.0 ∙ sym (before-other l.leading-l.result (n l) _ _ (few l) l.leading-l.ensures.0 (ne_eqb (length (front l)) (n l) (λ e. omega (arith, count l))))

returns-3 : tie.Need-returns
returns-3 c =
    let l = c.before.before in
    let same = c.if-l-n.false in
    sym (before_same l.leading-l.result (n l) _ _ (few l) l.leading-l.ensures.0 (eq-eqb (length (front l)) (n l) (omega (arith, count l))))

pub numbers_before_spec : {M : Type 1} → statement M
numbers_before_spec =
    tie.close
    (tie.spec
    no-numbers-requires
    returns
    leading-requires
    no-numbers-requires-2
    returns-2
    returns-3)
