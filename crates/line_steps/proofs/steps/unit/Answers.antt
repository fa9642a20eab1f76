use Rattle.std.specs.Prelude.{refl, pos, ◌^◌}
use Rattle.std.proofs.Common.{sym, ◌∙◌, ap, subst, inl, inr, arith}
use Rattle.std.proofs.lemmas.Bool.{false≢true}
use Rattle.ring.specs.RootTwo.Sized.{sized_more, conj_size}
use Rattle.line_rows.specs.Steps.{times_of}
use Rattle.line_steps.specs.Narrow.{Wide}
use Rattle.line_steps.specs.Sized.{Sized, Ends, scaled, size_of_unit, times-ends}
use Rattle.line_steps.proofs.steps.unit.Goals as goal

pub returns-then-not-thin : goal.returns-then-not-thin
returns-then-not-thin c = let p = c.power.ensures in record { even = p.0; size = p.1; plain = λ _. p.2 refl; wide = inl (p.2 refl) }

pub conjugate-requires : goal.conjugate-requires
conjugate-requires c = sized_more size_of_unit (2 ^ 60) _ (omega arith) c.power-u.ensures.1

pub scale-requires : goal.scale-requires
scale-requires c = (c.requires, subst (Sized size_of_unit) (sym c.conjugate.ensures) (conj_size size_of_unit _ c.power-u.ensures.1))

pub is_within-requires : goal.is_within-requires
is_within-requires c =
    let t = subst (Sized size_of_unit) (sym c.conjugate.ensures) (conj_size size_of_unit _ c.power-u.ensures.1) in
    (subst (Ends scaled) (sym c.scale.ensures) (times-ends _ _ c.requires t), omega arith)

pub returns-then-is_within : goal.returns-then-is_within
returns-then-is_within c =
    record {
      even = c.power-u.ensures.0;
      size = c.power-u.ensures.1;
      plain = λ h. absurd (false≢true (sym h ∙ c.if-not-thin.false));
      wide = inr (subst (Wide (pos 2)) (c.scale.ensures ∙ ap (times_of c.args.s) c.conjugate.ensures) (record { nn = sym c.is_within.ensures ∙ c.if-is_within.true }));
    }

pub returns : goal.returns
returns c = let p = c.power-2.ensures in record { even = p.0; size = p.1; plain = λ _. p.2 refl; wide = inl (p.2 refl) }
