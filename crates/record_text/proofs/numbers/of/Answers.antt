-- What `of` reads of the fields of a form, one after another.
use Rattle.std.proofs.Common.{refl, sym, ap, ◌∙◌, arith, ◌≡◌, ◌+◌, ◌≤◌, ◌<◌, length, take, drop, ◌++◌, List, ℕ, w64}
use Rattle.std.proofs.Math.Path.{subst}
use Rattle.std.proofs.lemmas.List.{length-set}
use Rattle.std.specs.Prelude.{get_or}
use Rattle.integers.specs.lemmas.Size.{back}
use Rattle.record_kinds.specs.declared.Kind.{Kind}
use Rattle.record_kinds.specs.declared.Kind.TheVariants as K
use Rattle.record_forms.specs.declared.Field.{Field}
use Rattle.record_forms.specs.Forms.{u, fields_of, numbers_at}
use Rattle.record_text.specs.Fields.{Reads, AllRead, sizes, kind_reads, kind_sizes, reads_at, sizes-next, numbers-next, numbers-done}
use Rattle.record_text.proofs.numbers.of.Goals as goal

few : (k : Kind) → length (fields_of k) ≤ 8
unfolding fields_of
few K.Scale = omega arith
few K.Rectangle = omega arith
few K.Ellipse = omega arith
few K.Operator = omega arith
few K.Slice = omega arith
few K.Selection = omega arith
few K.Unknown = omega arith

-- the fields that a kind has
module _ (kind : Kind) (fs : List Field) (e : fs ≡ fields_of kind) where
  eight : length fs ≤ 8
  eight = rw e (few kind)

  reads : (i : ℕ) → i < length fs → Reads (get_or fs i (u 0))
  reads i h = reads_at fs i (u 0) (subst AllRead (sym e) (kind_reads kind)) h

pub loop-i-init : goal.loop-i-init
loop-i-init c = (refl, omega arith, (let e = ap sizes c.form_of-form.ensures.is ∙ kind_sizes _ in let h = c.requires in omega arith), refl)

pub number-requires : goal.number-requires
number-requires c =
    let e = c.form_of-form.ensures.is in
    let h = c.loop-i-test.true in
    (reads _ _ e _ h, (let n = sizes-next _ _ (u 0) h in let r = c.loop-i.invariant.2 in omega arith))

pub overflow_add-at : goal.overflow_add-at
overflow_add-at c =
    let e = c.form_of-form.ensures.is in
    let f = eight _ _ e in
    let h = c.loop-i-test.true in
    let m = (reads _ _ e _ h).most in
    let a = c.loop-i.invariant.1 in
    omega arith

pub bounds-values-i : goal.bounds-values-i
bounds-values-i c = let f = eight _ _ c.form_of-form.ensures.is in let h = c.loop-i-test.true in omega arith

pub loop-i-preserved : goal.loop-i-preserved
loop-i-preserved c =
    let e = c.form_of-form.ensures.is in
    let f = eight _ _ e in
    let h = c.loop-i-test.true in
    let fs = c.form_of-form.result.now in
    let w = c.loop-i.invariant.0 in (
      length-set c.loop-i.values c.loop-i.i _ ∙ w,
      (let m = (reads _ _ e _ h).most in let a = c.loop-i.invariant.1 in omega arith),
      (let n = sizes-next _ _ (u 0) h in let b = c.loop-i.invariant.2 in omega arith),
      rw (back w64 c.number.type_inv, c.number.ensures) (numbers-next fs c.loop-i.i (u 0) h c.args.s.now c.loop-i.at c.loop-i.values _ (omega arith) c.loop-i.invariant.3),
    )

pub returns : goal.returns
returns c =
    let e = c.form_of-form.ensures.is in
    let f = eight _ _ e in
    let h = c.loop-i-test.false in
    let b = c.loop-i.auto.i-end in
    let n : length c.form_of-form.result.now ≡ c.loop-i.i = omega arith in (
      ap (λ (n : ℕ). take n c.loop-i.values) n ∙ numbers-done c.form_of-form.result.now c.loop-i.i _ c.loop-i.at c.loop-i.values _ h c.loop-i.invariant.3
          ∙ ap (λ (l : List Field). numbers_at l c.args.s.now 0) e,
      f,
      c.loop-i.invariant.0,
    )
