use mathlib.Core.Path.{◌≡◌, sym, subst}
use Prim.Native.Nat.{◌*◌}
use native.Mathlib.Omega.{arith}
use borrow.Author.Rules.{rules}
use borrow.Author.Tests.{not-true, not-false}
use Rattle.line_rows.specs.Row.{Small, First}
use Rattle.line_steps.specs.Walk.{begun-plain, begun-row, rows_small}
use Rattle.line_steps.proofs.pair_rows.start.Statement.{statement}
use Rattle.line_steps.proofs.pair_rows.start.Tie as tie

add-t9 : tie.Need-overflow_add-result
add-t9 c = search rules

add-t10 : tie.Need-overflow_add-result-then-not-c
add-t10 c = search rules

returns : tie.Need-returns-then-not-c
returns c =
    let i = c in
    let s = i in
    let t = not-true _ i.if-not-c.true in
    let e = (s.requires.0.plain t).0 in
    let a = s.requires.1.a_in in
    let b = s.requires.1.b-in in
    record { row = omega arith; column = omega arith; ahead = begun-plain s.args.c s.requires.0 s.args.p t }

row-strip-requires : tie.Need-row_strip-w-requires
row-strip-requires c κs = search rules

mul-first : tie.Need-overflow_mul-c
mul-first c = search rules

first-requires : tie.Need-first-requires
first-requires c κs =
    let r = c in
    let s = r in
    let h = s.requires.0.half in
    (subst Small (sym r.row_strip-w.ensures) (rows_small s.args.c s.requires.0 s.args.p s.requires.1.a_in), omega arith, omega arith)

returns-2 : tie.Need-returns
returns-2 c =
    let r = c in
    let i = r in
    let s = i in
    let h = s.args.c.half in
    record {
      row = c.first.ensures.within;
      column = omega arith;
      ahead = begun-row s.args.c s.requires.0 s.args.p (not-false _ i.if-not-c.false) _ (subst (λ w. First h (2 * h) w c.first.result) r.row_strip-w.ensures c.first.ensures);
    }

pub start_spec : {M : Type 1} → statement M
start_spec =
    tie.close
    (tie.spec add-t9 add-t10 returns row-strip-requires mul-first first-requires returns-2)
