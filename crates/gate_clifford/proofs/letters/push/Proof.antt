use mathlib.Core.Path.{refl, ◌∙◌, ap}
use Prim.Native.Nat.{◌<◌}
use native.Mathlib.Numerals.{add-one}
use lib.ListN.{length, take, set}
use lib.Seq.{take-suc-set}
use borrow.Author.Rules.{rules}
use Rattle.gate_clifford.proofs.letters.push.Statement.{statement}
use Rattle.gate_clifford.proofs.letters.push.Tie as tie

array-write-a : tie.Need-bounds-a-n
array-write-a c = search rules

add-t8 : tie.Need-overflow_add-result
add-t8 c = search rules

returns : tie.Need-returns
returns c =
    let w = c.args.w in
    let h : w.len < length w.letters = search rules in
    (ap (λ n. take n (set w.letters w.len c.args.b)) (add-one w.len) ∙ take-suc-set w.letters w.len c.args.b h, refl)

pub push_spec : {M : Type 1} → statement M
push_spec = tie.close (tie.spec array-write-a add-t8 returns)
