-- `tally_of` meets its contract. Assumes nothing.
use Rattle.std.proofs.Common.{◌≡◌, refl, sym, ap, ◌∙◌, List, length, length-set, map-id, rules, arith}
use Rattle.integers_wide.specs.declared.Size.{Size}
use Rattle.library_numbers.specs.lemmas.Each.{made-next, made_all}
use Rattle.library_numbers.proofs.tallies.tally_of.Goals as goal

pub loop-e-init : goal.loop-e-init
loop-e-init c = (search rules, refl)

pub loop-e-preserved : goal.loop-e-preserved
loop-e-preserved c = (simp length-set c.loop-e.invariant.0, made-next _ _ c.args.c.counts c.loop-e.counts c.loop-e.e _ _ c.loop-e.invariant.1 refl (search rules) (search rules))

pub returns : goal.returns
returns c =
    let n : length c.args.c.counts ≡ 21 = search rules in
    ap (λ (l : List Size). record { counts = l }) (sym (map-id c.loop-e.counts) ∙ made_all _ _ c.args.c.counts c.loop-e.counts c.loop-e.e c.loop-e.invariant.1 (search rules) (search rules))
