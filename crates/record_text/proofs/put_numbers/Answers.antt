use Rattle.std.proofs.Common.{sym, ◌∙◌, [], ◌∷◌, pos, get_or, rules, SFits}
use Rattle.std.specs.Int.{w64}
use mir.Facts.{to_z-of_z}
use Rattle.text.specs.Decimal.{signed_decimal}
use Rattle.record_text.specs.Texts.{put_one, numbers_more, numbers-end}
use Rattle.record_text.proofs.put_numbers.Goals as goal

pub loop-z-preserved : goal.loop-z-preserved
loop-z-preserved c =
    let l = c.loop-z in
    let p = c.put_byte-a in
    let q = c.put_signed-a in
    let zs = c.args.numbers.now in
    let h : SFits w64 (get_or zs l.z-index (pos 0)) = search rules in
    numbers_more (l.out, l.a) (p.new.out, p.result) (q.new.out, q.result) zs l.z-index c.loop-z-test.true (put_one l.out l.a (32 ∷ []) p.new.out p.result p.ensures) (put_one p.new.out p.result (signed_decimal (get_or zs l.z-index (pos 0))) q.new.out q.result (rw (to_z-of_z h) at q.ensures)) ∙ l.invariant

pub returns : goal.returns
returns c = sym (numbers-end (c.loop-z.out, c.loop-z.a) c.args.numbers.now c.loop-z.z-index c.loop-z-test.false) ∙ c.loop-z.invariant
