use mathlib.Core.Path.{◌≡◌, sym, ◌∙◌, subst}
use mathlib.Core.Logic.{inl, inr}
use native.Mathlib.Omega.{arith}
use mir.Syntax.{w64}
use mir.Val.{to_z, of_z}
use mir.Facts.{to_z-of_z}
use borrow.Author.Rules.{rules}
use borrow.Author.Tests.{not-true}
use Rattle.integers.specs.lemmas.Size.{size→fits}
use Rattle.line_rows.specs.declared.Band.{Band}
use Rattle.line_rows.specs.Row.{Small, First}
use Rattle.question_problems.specs.Rows.{middle, top, joined_of, joined_small}
use Rattle.question_problems.specs.Lines.{LineWith, line-with, line-empty}
use Rattle.question_problems.proofs.with_rows.Statement.{statement}
use Rattle.question_problems.proofs.with_rows.Tie as tie

is-proper-requires : tie.Need-is_proper-requires
is-proper-requires c κs = c.requires.0

without-rows-requires : tie.Need-without_rows-requires
without-rows-requires c κs = search rules

returns : tie.Need-returns-then-not-is_proper
returns c =
    let p = c in
    let s = p in
    subst (LineWith c.args.s c.args.back) (sym c.without_rows.ensures) (line-empty c.args.s c.args.back c.requires.0 c.requires.1 c.requires.2 (inl (sym c.is_proper.ensures ∙ c.if-not-is_proper.true)))

is-proper-requires-2 : tie.Need-is_proper-requires-2
is-proper-requires-2 c κs = c.requires.1

without-rows-requires-2 : tie.Need-without_rows-requires-then-not-is_proper-2
without-rows-requires-2 c κs = search rules

returns-2 : tie.Need-returns-then-not-is_proper-2
returns-2 c =
    let p = c in
    let s = p in
    subst (LineWith c.args.s c.args.back) (sym c.without_rows-then-not-is_proper-2.ensures) (line-empty c.args.s c.args.back c.requires.0 c.requires.1 c.requires.2 (inr (sym c.is_proper-2.ensures ∙ c.if-not-is_proper-2.true)))

joined-requires : tie.Need-joined-j-requires
joined-requires c κs = let p = c.requires in (p.0, p.1)

-- the rows' strip, and its upper end as a strip of its own
module _ (c : tie.After-joined-j) where
  abbrev s : tie.Start
  s = c.before.before.before.before.before.before.before

  abbrev j : Band
  j = c.joined-j.result

  j-is : j ≡ joined_of s.args.s.first s.args.s.second
  j-is = c.joined-j.ensures

  j-small : Small j
  j-small = subst Small (sym j-is) (joined_small s.args.s.first s.args.s.second s.requires.0 s.requires.1)

  m-is : to_z w64 (of_z w64 j.m) ≡ j.m
  m-is = to_z-of_z {w = w64} (size→fits (omega (arith, j-small.scale)))

  abbrev end : Band → Band
  end j = record { m = j.m; lo = j.hi; hi = j.hi }

  end-small : Small (end j)
  end-small = let k = j-small in record { scale = k.scale; positive = k.positive; lo = k.hi; hi = k.hi }

first-requires : tie.Need-first-requires
first-requires c κs = (j-small c.before.before, omega arith, omega arith)

first-requires-2 : tie.Need-first-requires-2
first-requires-2 c κs = let d = c.before.before.before in rw (m-is d) (end-small d, omega arith, omega arith)

add-t12 : tie.Need-overflow_add-result
add-t12 c = omega (arith, c.first-2.ensures.within)

returns-3 : tie.Need-returns
returns-3 c =
    let d = c.before.before.before.before in
    let e = rw (m-is d) at c.first-2.ensures in
    line-with (s d).args.s (s d).args.back c.first.result c.first-2.result (s d).requires.0 (s d).requires.1 (s d).requires.2
    (subst (λ x. First middle top x c.first.result) (j-is d) c.first.ensures)
    (subst (λ x. First middle top (end d x) c.first-2.result) (j-is d) e)

pub with_rows_spec : {M : Type 1} → statement M
with_rows_spec =
    tie.close
    (tie.spec
    is-proper-requires
    without-rows-requires
    returns
    is-proper-requires-2
    without-rows-requires-2
    returns-2
    joined-requires
    first-requires
    first-requires-2
    add-t12
    returns-3)
