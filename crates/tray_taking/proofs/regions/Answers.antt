use Rattle.std.proofs.Common.{◌≡◌, ℕ, suc, ◌+◌, ◌-◌, ◌<◌, ◌≤◌, List, [], ◌∷◌, ◌++◌, length, drop, refl, sym, ap, ◌∙◌, arith, rules, length-drop, length-append}
use mathlib.Core.List.{append-nil}
use mathlib.Core.Path.{ap₂}
use lib.Seq.{take_all, drop-drop}
use lib.ListN.{take, set}
use native.Mathlib.Nat.{le_of_eq}
use Rattle.refusals.specs.Refusals.{form}
use Rattle.region.specs.declared.Region.{Region}
use Rattle.record_kinds.specs.declared.Refusal.{Refusal}
use Rattle.record_kinds.specs.Kinds.{number}
use Rattle.tray_model.specs.Session as Model
use Rattle.tray_list.specs.declared.Target.{Target}
use Rattle.tray_taking.specs.Taking.{Regions, all_read, more, onward, one_of, padded, padded_of, regions_of}
use Rattle.tray_taking.specs.declared.Found.{Found}
use Rattle.tray_taking.specs.declared.Found.TheVariants as O
use Rattle.tray_taking.specs.lemmas.Records.{before, before_more, before-all, before-refused, padded-more, to_come_none, to_come_full, to_come_more, found-takes}
use Rattle.tray_taking.proofs.regions.Goals as goal

-- so many are read, and the rest is at a place of the bytes
module _ (a : List ℕ) (at count : ℕ) (rs : List Region) (counted : length rs ≡ count) (rest : regions_of 8 a ≡ before rs (regions_of (8 - count) (drop at a))) where
  module _ (more_bytes : at < length a) where
    -- a ninth would begin
    full : count ≡ 8 → padded_of (regions_of 8 a) ≡ Model.refuse form
    full e =
        let d = to_come_full (8 - count) (drop at a) (omega arith) (omega (arith, length-drop at a)) in
        ap padded_of (rest ∙ ap (before rs) d ∙ before-refused rs form)

    module _ (room : count < 8) (f : Found) (found : one_of (drop at a) ≡ f) where
      coming : regions_of 8 a ≡ before rs (onward (λ n. regions_of (7 - count) (drop n (drop at a))) f)
      coming =
          let one : 8 - count ≡ suc (7 - count) = omega arith in
          rest ∙ ap (before rs) (ap (λ (m : ℕ). regions_of m (drop at a)) one ∙ to_come_more (7 - count) (drop at a) f (omega (arith, length-drop at a)) found)

    -- one is refused
    failed : (room : count < 8) (why : Refusal) → one_of (drop at a) ≡ O.Refused why → padded_of (regions_of 8 a) ≡ Model.refuse (number why)
    failed room why found = ap padded_of (coming room (O.Refused why) found ∙ before-refused rs (number why))

  -- the bytes are at their end
  ended : (ts : List Target) → ts ≡ padded 8 rs → length a ≤ at → Model.accept count ts ≡ padded_of (regions_of 8 a)
  ended ts stored h =
      let d = to_come_none (8 - count) (drop at a) (omega (arith, length-drop at a)) in
      let e = rest ∙ ap (before rs) d ∙ before-all rs [] ∙ ap all_read (append-nil rs) in
      ap₂ Model.accept (sym counted) stored ∙ sym (ap padded_of e)

-- what the call reads is all that is left
found_at : (a : List ℕ) (at : ℕ) (f r : Found) → r ≡ f → r ≡ one_of (take (length a - at) (drop at a)) → one_of (drop at a) ≡ f
found_at a at f r e h = ap one_of (sym (take_all (length a - at) (drop at a) (le_of_eq (length-drop at a)))) ∙ sym h ∙ e

-- a region is read behind the others
within : (a : List ℕ) (at : ℕ) (g : Region) (n : ℕ) → at < length a → one_of (drop at a) ≡ O.Region g n → (1 ≤ n) × (at + n ≤ length a)
within a at g n h e =
    let w = found-takes g n (drop at a) e in
    let d = length-drop at a in
    (w.0, omega arith)

module _ (a : List ℕ) (at count : ℕ) (rs : List Region) (g : Region) (n : ℕ) (room : count < 8) where
  stored_at : (ts : List Target) → length rs ≡ count → ts ≡ padded 8 rs → set ts count (record { region = g }) ≡ padded 8 (rs ++ (g ∷ []))
  stored_at ts counted stored =
      ap₂ (λ (us : List Target) (x : ℕ). set us x (record { region = g })) stored (sym counted) ∙ padded-more 8 rs g (omega arith)

  onwards : regions_of 8 a ≡ before rs (onward (λ m. regions_of (7 - count) (drop m (drop at a))) (O.Region g n)) → regions_of 8 a ≡ before (rs ++ (g ∷ [])) (regions_of (8 - (count + 1)) (drop (at + n) a))
  onwards e =
      let less : 7 - count ≡ 8 - (count + 1) = omega arith in
      e ∙ ap (λ (x : Regions). before rs (more g x)) (ap₂ regions_of less (drop-drop n at a)) ∙ sym (before_more rs g _)

pub loop-at-init : goal.loop-at-init
loop-at-init c = (omega arith, omega arith, ([], refl, rw c.blank-targets.ensures refl, refl))

pub returns-then-count-eq8 : goal.returns-then-count-eq8
returns-then-count-eq8 c =
    let i = c.loop-at.invariant.2 in
    rw (full c.args.a.now c.loop-at.at c.loop-at.count i.0 i.1 i.3 c.loop-at-test.true c.if-count-eq8.true) (search rules)

pub offset_bounds-targets-count : goal.offset_bounds-targets-count
offset_bounds-targets-count c = omega arith

pub bounds-targets-count : goal.bounds-targets-count
bounds-targets-count c = omega arith

pub overflow_add-count : goal.overflow_add-count
overflow_add-count c = omega arith

pub overflow_add-at : goal.overflow_add-at
overflow_add-at c =
    let w = within c.args.a.now c.loop-at.at c.in-Region.g c.in-Region.n c.loop-at-test.true (found_at c.args.a.now c.loop-at.at _ _ refl c.in-Region.ensures) in
    record { fits = omega arith }

pub loop-at-smaller : goal.loop-at-smaller
loop-at-smaller c =
    let w = within c.args.a.now c.loop-at.at c.in-Region.g c.in-Region.n c.loop-at-test.true (found_at c.args.a.now c.loop-at.at _ _ refl c.in-Region.ensures) in
    omega arith

pub loop-at-preserved : goal.loop-at-preserved
loop-at-preserved c =
    let a = c.args.a.now in
    let at = c.loop-at.at in
    let count = c.loop-at.count in
    let i = c.loop-at.invariant.2 in
    let g = c.in-Region.g in
    let n = c.in-Region.n in
    let found = found_at a at (O.Region g n) _ refl c.in-Region.ensures in
    let w = within a at g n c.loop-at-test.true found in
    let room : count < 8 = omega (arith, c.if-count-eq8.false) in (
      w.1,
      omega arith,
      (
        i.0 ++ (g ∷ []),
        length-append i.0 (g ∷ []) ∙ ap (λ (x : ℕ). x + 1) i.1,
        stored_at a at count i.0 g n room c.loop-at.targets i.1 i.2,
        onwards a at count i.0 g n room (coming a at count i.0 i.1 i.3 c.loop-at-test.true room (O.Region g n) found),
      ),
    )

pub returns-in-Refused : goal.returns-in-Refused
returns-in-Refused c =
    let a = c.args.a.now in
    let at = c.loop-at.at in
    let i = c.loop-at.invariant.2 in
    let found = found_at a at (O.Refused c.in-Refused.why) _ refl c.in-Refused.ensures in
    let room : c.loop-at.count < 8 = omega (arith, c.if-count-eq8.false) in
    rw (failed a at c.loop-at.count i.0 i.1 i.3 c.loop-at-test.true room c.in-Refused.why found) (search rules)

pub returns : goal.returns
returns c =
    let i = c.loop-at.invariant.2 in
    ended c.args.a.now c.loop-at.at c.loop-at.count i.0 i.1 i.3 c.loop-at.targets i.2 c.loop-at-test.false
