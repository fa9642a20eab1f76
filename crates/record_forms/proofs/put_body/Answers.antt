use Rattle.std.proofs.Common.{◌≡◌, refl, [], ◌∷◌, ◌++◌, ◌+◌, pos, length, get_or, arith, rules, SFits}
use Rattle.std.proofs.lemmas.List.{length-append}
use Rattle.std.specs.Int.{w64}
use mir.Facts.{to_z-of_z}
use Rattle.std.proofs.lemmas.Slice.Zip.{zip_turn, zip_end}
use Rattle.record_forms.specs.Forms.{fields_of}
use Rattle.record_forms.proofs.Steps.{takes-long, takes-here, body-again, body-done}
use Rattle.record_forms.proofs.put_body.Goals as goal

pub loop-f-init : goal.loop-f-init
loop-f-init c = (c.requires, refl)

pub put_number-a-requires : goal.put_number-a-requires
put_number-a-requires c =
    let t = zip_turn (fields_of c.args.kind) c.args.numbers.now c.loop-f.yielded c.into_iter-f-iterator.result c.loop-f.f-iterator c.next.new.self _ (cc) (cc) c.loop-f.yielded_by _ c.in-Some.is c.next.ensures.steps in
    let h : SFits w64 (get_or c.args.numbers.now (length c.loop-f.yielded) (pos 0)) = search rules in
    let fits : SFits w64 c.in-Some.z.now = rw (t.3 (pos 0)) h in
    rw (to_z-of_z fits) (takes-here _ _ (length c.loop-f.yielded) _ _ t.0 t.1 t.2 t.3 c.loop-f.invariant.0).0

pub loop-f-preserved : goal.loop-f-preserved
loop-f-preserved c =
    let t = zip_turn (fields_of c.args.kind) c.args.numbers.now c.loop-f.yielded c.into_iter-f-iterator.result c.loop-f.f-iterator c.next.new.self _ (cc) (cc) c.loop-f.yielded_by _ c.in-Some.is c.next.ensures.steps in
    let h : SFits w64 (get_or c.args.numbers.now (length c.loop-f.yielded) (pos 0)) = search rules in
    let fits : SFits w64 c.in-Some.z.now = rw (t.3 (pos 0)) h in
    let n : length (c.loop-f.yielded ++ ((c.in-Some.f, c.in-Some.z) ∷ [])) ≡ length c.loop-f.yielded + 1 = length-append c.loop-f.yielded ((c.in-Some.f, c.in-Some.z) ∷ []) in
    rw n (
      (takes-here _ _ (length c.loop-f.yielded) _ _ t.0 t.1 t.2 t.3 c.loop-f.invariant.0).1,
      body-again _ _ (length c.loop-f.yielded) _ _ t.0 t.1 t.2 t.3 (c.loop-f.out, c.loop-f.a) _ _ c.loop-f.invariant.1 (rw (to_z-of_z fits) at c.put_number-a.ensures),
    )

pub returns : goal.returns
returns c =
    let e = zip_end (fields_of c.args.kind) c.args.numbers.now c.loop-f.yielded c.into_iter-f-iterator.result c.loop-f.f-iterator c.next.new.self _ (cc) (cc) c.loop-f.yielded_by c.in-None.is c.next.ensures.steps in
    let n = takes-long _ _ c.requires in
    body-done (fields_of c.args.kind) c.args.numbers.now (length c.loop-f.yielded) (c.loop-f.out, c.loop-f.a) _ (omega arith) c.loop-f.invariant.1
