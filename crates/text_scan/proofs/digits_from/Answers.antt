-- Counting on from a place of the loop ends as counting from the start does.
use Rattle.std.proofs.Common.{◌≡◌, ℕ, ◌+◌, ◌^◌, List, length, get_or, max, refl, arith}
use Rattle.integers_wide.specs.Meaning.{size_of}
use Rattle.text_scan.specs.Number.{is_digit}
use Rattle.text_scan.proofs.Runs.{run-at-end, run_none}
use Rattle.text_scan.proofs.Saturation.{counted_none, counted-more, is_digit-below, is_digit-above}
use Rattle.text_scan.proofs.digits_from.Goals as goal
use Rattle.text_scan.proofs.digits_from.Goals.{then-b-lt48-via-then-b-lt48, then-b-lt48-via-else-b-lt48+then-b-gt57}

pub loop-end-init : goal.loop-end-init
unfolding size_of
loop-end-init c = ((refl, refl), omega arith)

pub loop-end-preserved : goal.loop-end-preserved
loop-end-preserved c =
    (counted-more (2 ^ 127 + 1) c.args.s.now c.args.at (size_of c.loop-end.value) c.loop-end.end _ c.loop-end.invariant.0 (omega arith) (omega arith) (omega arith) c.grown-value.ensures, omega arith)

pub returns : goal.returns
returns c =
    let s : List ℕ = c.args.s.now in
    let i : ℕ = c.loop-end.end in
    let e : c.max.result ≡ i = omega (arith, c.max.ensures) in
    rw e (counted_none (2 ^ 127 + 1) s c.args.at (size_of c.loop-end.value) i c.loop-end.invariant.0 (run-at-end is_digit s i (omega arith)))

pub returns-then-b-lt48 : goal.returns-then-b-lt48
returns-then-b-lt48 c =
    let s : List ℕ = c.args.s.now in
    let i : ℕ = c.loop-end.end in
    counted_none (2 ^ 127 + 1) s c.args.at (size_of c.loop-end.value) i c.loop-end.invariant.0
    (run_none is_digit s i (omega arith)
    (elim c.then-b-lt48.branch [
      | then-b-lt48-via-then-b-lt48 w ↦ is_digit-below (get_or s i 0) w.if-b-lt48.true
      | then-b-lt48-via-else-b-lt48+then-b-gt57 w ↦ is_digit-above (get_or s i 0) w.if-b-lt48.false w.if-b-gt57.true
    ]))
