use mathlib.Core.Path.{sym, ◌∙◌}
use Prim.Native.Nat.{◌*◌}
use native.Mathlib.Omega.{arith}
use Rattle.line_rows.specs.Row.{coordinate, row-none, row_before, row-found}
use Rattle.line_steps.specs.Sized.{scaled, small}
use Rattle.line_steps.specs.Walk.{near, solved-row}
use Rattle.line_steps.proofs.pair_rows.in_row.Statement.{statement}
use Rattle.line_steps.proofs.pair_rows.in_row.Tie as tie

mul-top : tie.Need-overflow_mul-top
mul-top c = let h = c.requires.2 in omega arith

least-requires : tie.Need-least-r-requires
least-requires c κs = let h = c.requires.2 in let x = c.requires.3 in (near _ _ c.args.half c.args.x (2 * c.args.half) c.requires.0 c.requires.1 h (omega arith) (omega arith), c.requires.4)

upper-requires : tie.Need-upper-requires
upper-requires c κs = let s = c in let h = s.requires.2 in let x = s.requires.3 in let l = c.least-r.ensures.within in near _ _ s.args.half s.args.x c.least-r.result s.requires.0 s.requires.1 h (omega arith) (omega arith)

returns : tie.Need-returns-then-upper
returns c =
    let d = c in
    let s = d in
    let f = s.args.f in
    let g = s.args.g in
    let h = s.args.half in
    let a = coordinate h s.args.x in
    let p = (small scaled f (omega arith) s.requires.0).positive in
    let q = (small scaled g (omega arith) s.requires.1).positive in
    let l = d.least-r.ensures in
    let y = s.args.y in
    let r = d.least-r.result in
    record {
      from = l.from;
      within = l.within;
      before = λ k i b. solved-row f g a (coordinate h k) ∙ row_before f g p q a h y (2 * h) r l k i b;
      found = λ i. solved-row f g a (coordinate h r) ∙ row-found f g p q a h y (2 * h) r l i (sym c.upper.ensures ∙ c.if-upper.true);
    }

returns-2 : tie.Need-returns-else-upper
returns-2 c =
    let d = c in
    let s = d in
    let f = s.args.f in
    let g = s.args.g in
    let h = s.args.half in
    let a = coordinate h s.args.x in
    let p = (small scaled f (omega arith) s.requires.0).positive in
    let q = (small scaled g (omega arith) s.requires.1).positive in
    let l = d.least-r.ensures in
    let y = s.args.y in
    let r = d.least-r.result in
    record {
      from = s.requires.4;
      within = omega arith;
      before = λ k i b. solved-row f g a (coordinate h k) ∙ row-none f g p q a h y (2 * h) r l (λ _. sym c.upper.ensures ∙ c.if-upper.false) k i b;
      found = λ i. absurd (omega arith);
    }

returns-3 : tie.Need-returns-else-r-top
returns-3 c =
    let d = c in
    let s = d in
    let f = s.args.f in
    let g = s.args.g in
    let h = s.args.half in
    let a = coordinate h s.args.x in
    let p = (small scaled f (omega arith) s.requires.0).positive in
    let q = (small scaled g (omega arith) s.requires.1).positive in
    let l = d.least-r.ensures in
    let y = s.args.y in
    let r = d.least-r.result in
    record {
      from = s.requires.4;
      within = omega arith;
      before = λ k i b. solved-row f g a (coordinate h k) ∙ row-none f g p q a h y (2 * h) r l (λ i. absurd (omega (arith, c.if-r-top.false))) k i b;
      found = λ i. absurd (omega arith);
    }

pub in_row_spec : {M : Type 1} → statement M
in_row_spec = tie.close (tie.spec mul-top least-requires upper-requires returns returns-2 returns-3)
