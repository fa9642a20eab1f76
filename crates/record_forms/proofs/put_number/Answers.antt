use Rattle.std.proofs.Common.{refl, ap, ◌∙◌, pos}
use Rattle.std.specs.Int.{w64}
use Rattle.std.specs.Int.Signed.{lt_z}
use Rattle.std.proofs.Common.{to_z, of_z}
use mir.Facts.{to_z-of_z}
use Rattle.record_forms.specs.Laid.{laid}
use Rattle.record_forms.proofs.Steps.{number-room, number-again, number-done, number-whole}
use Rattle.record_forms.proofs.put_number.Goals as goal

pub loop-init : goal.loop-init
loop-init c = (number-room c.args.f c.args.z c.size_of-v.result c.requires (rw (to_z-of_z c.ranges.z) at c.size_of-v.ensures.0), refl)

pub loop-preserved : goal.loop-preserved
loop-preserved c =
    number-again (lt_z (to_z w64 (of_z w64 c.args.z)) (pos 0)) c.args.f.size c.loop.v c.loop.counter c.loop.out c.loop.a c.low_byte.result c.put_byte-a.new.out c.put_byte-a.result _ c.loop-test.true c.loop.invariant.0 c.loop.invariant.1 c.low_byte.ensures c.put_byte-a.ensures

pub returns : goal.returns
returns c =
    number-done (lt_z (to_z w64 (of_z w64 c.args.z)) (pos 0)) c.args.f.size c.loop.v c.loop.counter (c.loop.out, c.loop.a) _ c.loop-test.false c.loop.invariant.1
    ∙ ap (laid (c.args.out.now, c.args.at)) (number-whole c.args.f c.args.z _ c.size_of-v.result (to_z-of_z c.ranges.z) (rw (to_z-of_z c.ranges.z) at c.size_of-v.ensures.0))
