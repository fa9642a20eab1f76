-- `targets_of` meets its contract. The invariant: the first j targets are made. Assumes nothing.
use Prim.Native.Nat.{◌-◌, ◌≤◌}
use mathlib.Core.Path.{◌≡◌, refl, sym, ◌∙◌}
use mathlib.Core.List.{map-id}
use native.Mathlib.Omega.{arith}
use borrow.Author.Rules.{rules}
use lib.ListN.{length, length-set}
use Rattle.tray_list.specs.declared.Target.{Target}
use Rattle.library_numbers.specs.lemmas.Each.{Made, made-next, made_all}
use Rattle.library_trays.specs.Numbers.{target_of}
use Rattle.library_trays.proofs.back.targets_of.Statement.{statement}
use Rattle.library_trays.proofs.back.targets_of.Tie as tie

abbrev invariant-loop : tie.invariant-loop-j
invariant-loop from targets₀ j₀ targets j = (j ≤ 8) × (length targets ≡ 8) × Made (λ (t : Target). t) target_of from targets j

abbrev decreases-loop : tie.decreases-loop-j
decreases-loop from targets₀ j₀ targets j = 8 - j

array-copy-out-target-of : tie.Need-bounds-from-0 invariant-loop decreases-loop
array-copy-out-target-of c = search rules

target-of-requires : tie.Need-target_of-targets-requires invariant-loop decreases-loop
target-of-requires c κs = search rules

loop-holds : tie.Need-loop-j-init invariant-loop decreases-loop
loop-holds c = (omega arith, refl, refl)

mul-target-of : tie.Need-offset_bounds-from-j invariant-loop decreases-loop
mul-target-of c = search rules

array-copy-out-target-of-2 : tie.Need-bounds-from-j invariant-loop decreases-loop
array-copy-out-target-of-2 c = search rules

target-of-requires-2 : tie.Need-target_of-requires invariant-loop decreases-loop
target-of-requires-2 c κs = search rules

mul-targets : tie.Need-offset_bounds-targets-j invariant-loop decreases-loop
mul-targets c = search rules

array-set-from-targets : tie.Need-bounds-targets-j invariant-loop decreases-loop
array-set-from-targets c = search rules

add-j : tie.Need-overflow_add-j invariant-loop decreases-loop
add-j c = search rules

loop-less : tie.Need-loop-j-smaller invariant-loop decreases-loop
loop-less c = search rules

loop-again : tie.Need-loop-j-preserved invariant-loop decreases-loop
loop-again c =
    let t = c in
    let s = t in
    let l : length c.args.from ≡ 8 = search rules in
    let m = c.loop-j.invariant.1 in
    (omega arith, simp length-set m, made-next _ _ c.args.from c.loop-j.targets c.loop-j.j _ _ c.loop-j.invariant.2 c.target_of.ensures (omega arith) (omega arith))

returns : tie.Need-returns invariant-loop decreases-loop
returns c =
    let t = c in
    let s = t in
    let l : length c.args.from ≡ 8 = search rules in
    let m = c.loop-j.invariant.1 in
    sym (map-id c.loop-j.targets) ∙ made_all _ _ c.args.from c.loop-j.targets c.loop-j.j c.loop-j.invariant.2 (omega arith) (omega arith)

pub targets_of_spec : {M : Type 1} → statement M
targets_of_spec =
    tie.close
    (tie.spec
    invariant-loop
    decreases-loop
    array-copy-out-target-of
    target-of-requires
    loop-holds
    mul-target-of
    array-copy-out-target-of-2
    target-of-requires-2
    mul-targets
    array-set-from-targets
    add-j
    loop-less
    loop-again
    returns)
