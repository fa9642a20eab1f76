-- `spelled_from` meets its contract. The capped value is as good as the value. Assumes nothing.
use Prim.Native.Nat.{◌^◌}
use mathlib.Core.Path.{◌≡◌, refl, ◌∙◌}
use native.Mathlib.Omega.{arith}
use borrow.Author.Rules.{rules}
use borrow.Author.Tests.{eq-eqb, ne_eqb}
use lib.ListN.{length}
use Rattle.text_scan.specs.Run.{end_of_run}
use Rattle.text_scan.specs.Number.{digits_at, value_of, fitted, number_from}
use Rattle.text_scan.proofs.Saturation.{fitted-capped}
use Rattle.text_scan.proofs.spelled_from.Statement.{statement}
use Rattle.text_scan.proofs.spelled_from.Tie as tie

digits-from-requires : tie.Need-digits_from-d-requires
digits-from-requires c κs = search rules

returns : tie.Need-returns-then-end-at
unfolding number_from end_of_run fitted
returns c top h =
    let t = c in
    rw (eq-eqb (length (digits_at t.args.s.now t.args.at)) 0 (omega (arith, c.digits_from-d.ensures.1)))

returns-2 : tie.Need-returns-else-end-at
unfolding number_from end_of_run
returns-2 c top h =
    let t = c in
    let ds = digits_at t.args.s.now t.args.at in
    let d = c.digits_from-d.ensures in
    let some : length ds ≡ 0 → ⊥ = λ e. c.if-end-at.false (d.1 ∙ omega arith) in
    fitted-capped (2 ^ 127) top h t.args.minus _ (value_of ds) _ d.0 ∙ rw (d.1, ne_eqb (length ds) 0 some) refl

pub spelled_from_spec : {M : Type 1} → statement M
spelled_from_spec = tie.close (tie.spec digits-from-requires returns returns-2)
