-- The run's end from a place of the loop is its end from the start.
use Rattle.std.proofs.Common.{◌≡◌, ℕ, Bool, true, false, cond, not, List, length, get_or, max, refl, ◌∙◌, arith}
use mathlib.Core.Bool.{beq}
use borrow.Author.Tests.{not-true, not-false}
use lib.Dec.{eqb}
use Rattle.text_scan.specs.Run.{end_of_run, is_byte}
use Rattle.text_scan.proofs.Runs.{run-at-end, run_none, run_end-more, run_end-here}
use Rattle.text_scan.proofs.run_end.Goals as goal

beq-cond : (t same : Bool) → cond same t (not t) ≡ beq t same
beq-cond true true = refl
beq-cond true false = refl
beq-cond false true = refl
beq-cond false false = refl

-- the code's test
isByte-beq : (b : ℕ) (same : Bool) (x : ℕ) → is_byte b same x ≡ beq (eqb x b) same
isByte-beq b same x = beq-cond (eqb x b) same

pub returns-then-s-i : goal.returns-then-s-i
returns-then-s-i c =
    let s : List ℕ = c.args.s.now in
    let i : ℕ = c.loop-i.i in
    let p : ℕ → Bool = is_byte c.args.b c.args.same in
    run_end-here p s i (run_none p s i (omega arith) (isByte-beq c.args.b c.args.same (get_or s i 0) ∙ not-true _ c.if-s-i.true)) ∙ c.loop-i.invariant.0

pub loop-i-preserved : goal.loop-i-preserved
loop-i-preserved c =
    let s : List ℕ = c.args.s.now in
    let i : ℕ = c.loop-i.i in
    let p : ℕ → Bool = is_byte c.args.b c.args.same in
    (run_end-more p s i (omega arith) (isByte-beq c.args.b c.args.same (get_or s i 0) ∙ not-false _ c.if-s-i.false) ∙ c.loop-i.invariant.0, omega arith)

pub returns : goal.returns
returns c =
    let s : List ℕ = c.args.s.now in
    let i : ℕ = c.loop-i.i in
    let p : ℕ → Bool = is_byte c.args.b c.args.same in
    let e : c.max.result ≡ i = omega (arith, c.max.ensures) in
    e ∙ run_end-here p s i (run-at-end p s i (omega arith)) ∙ c.loop-i.invariant.0
