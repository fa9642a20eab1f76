-- `shapes_of` meets its contract. The invariant: the first j shapes are made. Assumes nothing.
use Prim.Native.Nat.{◌-◌, ◌≤◌}
use mathlib.Core.Path.{◌≡◌, refl, ◌∙◌}
use mathlib.Core.List.{map-id}
use native.Mathlib.Omega.{arith}
use borrow.Author.Rules.{rules}
use lib.ListN.{length, length-set}
use Rattle.tray_list.specs.declared.Target.{Target}
use Rattle.library_numbers.specs.lemmas.Each.{Made, made-next, made_all}
use Rattle.library_trays.specs.Numbers.{target_of, target_is}
use Rattle.library_trays.proofs.forth.shapes_of.Statement.{statement}
use Rattle.library_trays.proofs.forth.shapes_of.Tie as tie

abbrev invariant-loop : tie.invariant-loop-j
invariant-loop from shapes₀ j₀ shapes j = (j ≤ 8) × (length shapes ≡ 8) × Made target_of (λ (t : Target). t) from shapes j

abbrev decreases-loop : tie.decreases-loop-j
decreases-loop from shapes₀ j₀ shapes j = 8 - j

loop-holds : tie.Need-loop-j-init invariant-loop decreases-loop
loop-holds c = (omega arith, refl, refl)

mul-t : tie.Need-offset_bounds-from-j invariant-loop decreases-loop
mul-t c = search rules

array-copy-out-t : tie.Need-bounds-from-j invariant-loop decreases-loop
array-copy-out-t c = search rules

shape-of-requires : tie.Need-shape_of-requires-in-loop-j invariant-loop decreases-loop
shape-of-requires c κs = search rules

mul-shapes : tie.Need-offset_bounds-shapes-j invariant-loop decreases-loop
mul-shapes c = search rules

array-set-from-shapes : tie.Need-bounds-shapes-j invariant-loop decreases-loop
array-set-from-shapes c = search rules

add-j : tie.Need-overflow_add-j invariant-loop decreases-loop
add-j c = search rules

loop-less : tie.Need-loop-j-smaller invariant-loop decreases-loop
loop-less c = search rules

loop-again : tie.Need-loop-j-preserved invariant-loop decreases-loop
loop-again c =
    let t = c in
    let s = t in
    let l : length c.args.from ≡ 8 = search rules in
    let m = c.loop-j.invariant.1 in
    (omega arith, simp length-set m, made-next _ _ c.args.from c.loop-j.shapes c.loop-j.j _ _ c.loop-j.invariant.2 (target_is c.shape_of.result c.shape_of.ensures) (omega arith) (omega arith))

returns : tie.Need-returns invariant-loop decreases-loop
returns c =
    let t = c in
    let s = t in
    let l : length c.args.from ≡ 8 = search rules in
    let m = c.loop-j.invariant.1 in
    made_all _ _ c.args.from c.loop-j.shapes c.loop-j.j c.loop-j.invariant.2 (omega arith) (omega arith) ∙ map-id c.args.from

pub shapes_of_spec : {M : Type 1} → statement M
shapes_of_spec =
    tie.close
    (tie.spec
    invariant-loop
    decreases-loop
    loop-holds
    mul-t
    array-copy-out-t
    shape-of-requires
    mul-shapes
    array-set-from-shapes
    add-j
    loop-less
    loop-again
    returns)
