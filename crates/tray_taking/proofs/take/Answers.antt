use Rattle.std.proofs.Common.{eqb, sym, ap, ◌∙◌, rules}
use Rattle.tray_model.specs.Session as Model
use Rattle.tray_list.specs.declared.Target.{Target}
use Rattle.std.specs.Prelude.{List}
use Rattle.tray_taking.specs.Taking.{second_of, takes-scale, takes-byte, takes_none, takes-second}
use Rattle.tray_taking.proofs.take.Goals as goal
use Rattle.tray_taking.proofs.take.Goals.{then-k-gt20-via-then-k-gt20, then-k-gt20-via-else-k-gt20+then-byte-gt1}

pub returns-then-k-gt20 : goal.returns-then-k-gt20
returns-then-k-gt20 c =
    rw c.refused.ensures (elim c.then-k-gt20.branch [
      | then-k-gt20-via-then-k-gt20 w ↦ sym (takes-scale _ w.if-k-gt20.true)
      | then-k-gt20-via-else-k-gt20+then-byte-gt1 w ↦ sym (takes-byte _ w.if-k-gt20.false w.if-byte-gt1.true)
    ])

pub returns-then-is_empty : goal.returns-then-is_empty
returns-then-is_empty c =
    let e = c.if-is_empty.ensures in
    rw c.refused-then-is_empty.ensures (sym (takes_none _ c.if-k-gt20.false c.if-byte-gt1.false (search rules)))

pub returns : goal.returns
returns c =
    let e = c.if-is_empty.ensures in
    c.with_second.ensures
    ∙ ap (λ (x : Model.Taking (List Target)). second_of c.args.k (eqb c.args.byte 1) x c.args.b.now) c.regions.ensures
    ∙ sym (takes-second (record { scale = c.args.k; byte = c.args.byte; a = c.args.a.now; b = c.args.b.now }) c.if-k-gt20.false c.if-byte-gt1.false (search rules))
