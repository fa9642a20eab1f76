use native.Mathlib.Omega.{arith}
use mathlib.Core.Path.{◌≡◌, sym}
use Prim.Native.Nat.{ℕ}
use lib.Seq.{length-take-le}
use Rattle.gate_qasm.proofs.Reading.{tested}
use Rattle.qasm_file.specs.lemmas.Laws.{begins-short}
use Rattle.qasm_file.specs.File.{header, begins_file}
use borrow.Author.Rules.{rules}
use Rattle.qasm_file.proofs.back.begins.Statement.{statement}
use Rattle.qasm_file.proofs.back.begins.Tie as tie

returns : tie.Need-returns-then-bytes-lt47
returns c = (begins-short c.args.bytes.now c.if-bytes-lt47.true, λ e. absurd (let y : ◌≡◌ {A = ℕ} 0 1 = cc in omega arith))

slice-aggregate-same : tie.Need-slice_bounds-same-end
slice-aggregate-same c = sym (length-take-le 47 c.args.bytes.now (omega arith))

same-requires : tie.Need-same-requires
same-requires c κs = search rules

returns-2 : tie.Need-returns
unfolding begins_file
returns-2 c = (tested _ header c.same.result c.same.ensures, λ e. omega arith)

pub begins_spec : {M : Type 1} → statement M
begins_spec =
    tie.close (tie.spec returns slice-aggregate-same same-requires returns-2)
