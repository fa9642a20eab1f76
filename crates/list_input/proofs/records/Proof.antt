-- `records` meets its contract. The invariant: the records from here on come to what all of them come to. Assumes nothing.
use Prim.Native.Nat.{ℕ, ◌-◌, ◌≤◌}
use mathlib.Core.Path.{◌≡◌, refl, sym, ap, ◌∙◌}
use mathlib.Core.List.{List, []}
use native.Mathlib.Nat.{le_of_eq}
use native.Mathlib.Omega.{arith}
use borrow.Author.Rules.{rules}
use lib.ListN.{length, drop, take, length-drop}
use lib.Seq.{take_all}
use Rattle.session_model.specs.Session.{reading, step}
use Rattle.session_model.specs.Session as Model
use Rattle.session_stages.specs.declared.Answer.{Answer}
use Rattle.session_stages.specs.World.{world}
use Rattle.session_stages.specs.Session.{meaning, fresh, outcome}
use Rattle.list_input.specs.Load as Load
use Rattle.list_input.specs.lemmas.Reading.{records-end, records-stop, records-take, step-takes}
use Rattle.list_input.proofs.records.Statement.{statement}
use Rattle.list_input.proofs.records.Tie as tie

abbrev invariant-loop : tie.invariant-loop-at
invariant-loop bytes s₀ at₀ s at =
    (at ≤ length bytes)
    × ((most : ℕ) × (length bytes - at ≤ most) × (Load.records most (meaning s) at (drop at bytes) ≡ Load.records (length bytes) (meaning fresh) 0 bytes))

abbrev decreases-loop : tie.decreases-loop-at
decreases-loop bytes s₀ at₀ s at = length bytes - at

-- what the reading at a turn of the loop gave
module _ (c : tie.After-read-o invariant-loop decreases-loop) where
  abbrev here : tie.At-loop-at invariant-loop decreases-loop
  here = c.before.before.before

  abbrev bytes : List ℕ
  bytes = here.args.bytes.now

  abbrev at : ℕ
  at = here.loop-at.at

  all : take (length bytes - at) (drop at bytes) ≡ drop at bytes
  all = take_all (length bytes - at) (drop at bytes) (le_of_eq (length-drop at bytes))

  stepped : outcome [] c.read-o.result.session c.read-o.result.answer ≡ step world (reading (drop at bytes)) (meaning here.loop-at.s)
  stepped = c.read-o.ensures.0.met ∙ ap (λ (b : List ℕ). step world (reading b) (meaning here.loop-at.s)) all

  -- the same with the answer that the match found
  found : (a : Answer) → c.read-o.result.answer ≡ a → outcome [] c.read-o.result.session a ≡ step world (reading (drop at bytes)) (meaning here.loop-at.s)
  found a e = ap (outcome [] c.read-o.result.session) (sym e) ∙ stepped

  -- a reading after which there is none ends it all
  stop : (a : Answer) → c.read-o.result.answer ≡ a → (z : Load.Loaded) → ((next : ℕ → Model.Session world → Load.Loaded) → Load.onward next (meaning here.loop-at.s) at (outcome [] c.read-o.result.session a) ≡ z)
      → z ≡ Load.records (length bytes) (meaning fresh) 0 bytes
  stop a e z f =
      let i = here.loop-at.invariant.1 in
      sym (records-stop (meaning here.loop-at.s) at bytes c.loop-at-test.true i.0 i.1 (outcome [] c.read-o.result.session a) (found a e) z f) ∙ i.2

-- the bytes that an accepted record took
module _ (c : tie.In-Taken invariant-loop decreases-loop) where
  abbrev given : tie.After-read-o invariant-loop decreases-loop
  given = c.before

  abbrev took : ℕ
  took = c.in-Taken.n

  within : (1 ≤ took) × (took ≤ length (bytes given) - at given)
  within =
      let t = step-takes took (meaning given.read-o.result.session) (drop (at given) (bytes given)) (meaning (here given).loop-at.s) (sym (found given _ c.in-Taken.is)) in
      (t.0, rw length-drop at t.1)

start-requires : tie.Need-start-s-requires invariant-loop decreases-loop
start-requires c κs = search rules

loop-holds : tie.Need-loop-at-init invariant-loop decreases-loop
loop-holds c =
    let b = c.args.bytes.now in
    (omega arith, (length b, omega arith, ap (λ s. Load.records (length b) (meaning s) 0 b) c.start-s.ensures))

sub_read : tie.Need-slice_bounds-read-count invariant-loop decreases-loop
sub_read c = search rules

part-read-start : tie.Need-slice_bounds-read-start invariant-loop decreases-loop
part-read-start c = search rules

part-read-end : tie.Need-slice_bounds-read-end invariant-loop decreases-loop
part-read-end c = search rules

read-requires : tie.Need-read-o-requires invariant-loop decreases-loop
read-requires c κs = search rules

enum-known-a : tie.Need-enum_known-a invariant-loop decreases-loop
enum-known-a c = search rules

add_at : tie.Need-overflow_add-at invariant-loop decreases-loop
add_at c =
    let w = within c in
    let h = (here (given c)).loop-at.invariant.0 in
    record { fits = omega arith }

enum-known-a-2 : tie.Need-enum_known-a-in-Refused-1 invariant-loop decreases-loop
enum-known-a-2 c = search rules

returns : tie.Need-returns-in-Refused invariant-loop decreases-loop
returns c = let r = c.before.before.before in stop c.before _ c.in-Refused.is _ (λ f. refl)

enum_told : tie.Need-enum_told-1 invariant-loop decreases-loop
enum_told c = search rules

finished-requires : tie.Need-finished-requires invariant-loop decreases-loop
finished-requires c κs = search rules

returns-2 : tie.Need-returns-in-Handed invariant-loop decreases-loop
returns-2 c = let r = c.before.before.before in c.finished.ensures ∙ stop c.before.before _ c.in-Handed.is _ (λ f. refl)

enum-told-2 : tie.Need-enum_told-in-Done invariant-loop decreases-loop
enum-told-2 c = search rules

finished-requires-2 : tie.Need-finished-requires-in-Done invariant-loop decreases-loop
finished-requires-2 c κs = search rules

returns-3 : tie.Need-returns-in-Done invariant-loop decreases-loop
returns-3 c = let r = c.before.before.before in c.finished-in-Done.ensures ∙ stop c.before.before _ c.in-Done.is _ (λ f. refl)

enum-told-3 : tie.Need-enum_told-in-Says invariant-loop decreases-loop
enum-told-3 c = search rules

finished-requires-3 : tie.Need-finished-requires-in-Says invariant-loop decreases-loop
finished-requires-3 c κs = search rules

returns-4 : tie.Need-returns-in-Says invariant-loop decreases-loop
returns-4 c = let r = c.before.before.before in c.finished-in-Says.ensures ∙ stop c.before.before _ c.in-Says.is _ (λ f. refl)

enum-told-4 : tie.Need-enum_told-in-Least invariant-loop decreases-loop
enum-told-4 c = search rules

finished-requires-4 : tie.Need-finished-requires-in-Least invariant-loop decreases-loop
finished-requires-4 c κs = search rules

returns-5 : tie.Need-returns-in-Least invariant-loop decreases-loop
returns-5 c = let r = c.before.before.before in c.finished-in-Least.ensures ∙ stop c.before.before _ c.in-Least.is _ (λ f. refl)

loop-less : tie.Need-loop-at-smaller invariant-loop decreases-loop
loop-less c = let w = within c.before in omega arith

loop-again : tie.Need-loop-at-preserved invariant-loop decreases-loop
loop-again c =
    let k = c.before in
    let r = given c.before in
    let i = (here r).loop-at.invariant.1 in
    let w = within c.before in
    let h = (here r).loop-at.invariant.0 in
    let n = records-take (meaning (here r).loop-at.s) (at r) (bytes r) r.before.before.loop-at-test.true i.0 i.1 (took c.before) (meaning r.read-o.result.session) (found r _ c.in-Taken.is) in
    (omega arith, (n.0, n.1, n.2 ∙ i.2))

finished-requires-5 : tie.Need-finished-requires-2 invariant-loop decreases-loop
finished-requires-5 c κs = search rules

returns-6 : tie.Need-returns invariant-loop decreases-loop
returns-6 c =
    let l = c in
    let i = c.loop-at.invariant.1 in
    c.finished-2.ensures
    ∙ sym (records-end i.0 (meaning c.loop-at.s) c.loop-at.at c.args.bytes.now c.loop-at-test.false)
    ∙ i.2

pub records_spec : {M : Type 1} → statement M
records_spec =
    tie.close
    (tie.spec
    invariant-loop
    decreases-loop
    start-requires
    loop-holds
    sub_read
    part-read-start
    part-read-end
    read-requires
    enum-known-a
    add_at
    enum-known-a-2
    returns
    enum_told
    finished-requires
    returns-2
    enum-told-2
    finished-requires-2
    returns-3
    enum-told-3
    finished-requires-3
    returns-4
    enum-told-4
    finished-requires-4
    returns-5
    loop-less
    loop-again
    finished-requires-5
    returns-6)
