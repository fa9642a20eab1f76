-- `count_page` counts the points that it leaves out. Assumes nothing.
use Prim.Native.Nat.{◌/◌, ◌≤◌}
use mathlib.Core.Path.{◌≡◌, refl, sym, ap, ◌∙◌}
use mathlib.Core.Bool.{false}
use mathlib.Core.List.{List, [], ◌∷◌}
use lib.IntN.{ℤ}
use types.Run.{OneOf, miss}
use denote.Enum.Declared.{tag_of}
use lib.Dec.{lit≤}
use lib.ListN.{length}
use Rattle.session_model.specs.Session.{handOut, step}
use Rattle.session_stages.specs.declared.Answer.{Answer}
use Rattle.session_stages.specs.declared.Answer.TheVariants as A
use Rattle.session_stages.specs.contracts.Answer.{the_type}
use Rattle.list_pages.specs.Given.{is_handed}
use Rattle.session_stages.specs.World.{world}
use Rattle.session_stages.specs.Session.{meaning, outcome, answer_of}
use Rattle.list_printing.specs.Counting.{handed-counts, refused_counts}
use borrow.Author.Rules.{rules}
use Rattle.list_printing.proofs.counting.count_page.Statement.{statement}
use Rattle.list_printing.proofs.counting.count_page.Tie as tie

-- what the hand-out met, with the answer that the match found
met : (h : tie.After-hand_out-o) (a : Answer) → h.hand_out-o.result.answer ≡ a
    → outcome h.hand_out-o.new.out h.hand_out-o.result.session a ≡ step world (handOut h.point_buffer-points.result) (meaning h.args.s)
met h a e = ap (outcome h.hand_out-o.new.out h.hand_out-o.result.session) (sym e) ∙ h.hand_out-o.ensures.0.met

-- an answer that is no hand-out's, by the number of its case
not-handed : (l : List ℤ) (a : Answer) → OneOf (0 ∷ 2 ∷ 3 ∷ 4 ∷ 5 ∷ []) (tag_of the_type a) → is_handed (answer_of l a) ≡ false
not-handed l (A.Taken n) k = refl
not-handed l (A.Handed n e) k = absurd (miss (0 ∷ 2 ∷ 3 ∷ 4 ∷ 5 ∷ []) 1 tt k)
not-handed l A.Done k = refl
not-handed l (A.Says b) k = refl
not-handed l (A.Least n u t) k = refl
not-handed l (A.Refused f) k = refl

point-buffer-requires : tie.Need-point_buffer-points-requires
point-buffer-requires c κs = search rules

slice-aggregate-hand-out : tie.Need-slice_bounds-hand_out-end
slice-aggregate-hand-out c = search rules

hand-out-requires : tie.Need-hand_out-o-requires
hand-out-requires c κs = search rules

enum-known-a : tie.Need-enum_known-a
enum-known-a c = search rules

returns : tie.Need-returns-in_default
returns c =
    let h = c in
    let b = h in
    let new = c.hand_out-o.new.out in
    refused_counts c.point_buffer-points.result (answer_of new c.hand_out-o.result.answer) (meaning c.hand_out-o.result.session) (meaning c.args.s) (not-handed new c.hand_out-o.result.answer c.in_default.in_default-own.keys2) c.hand_out-o.ensures.0.met

returns-2 : tie.Need-returns
returns-2 c =
    let k = c in
    let h = k.before.before.before.before in
    let b = h in
    let m = meaning c.args.s in
    let old = c.point_buffer-points.result in
    let room : 1 ≤ length old / 4 = rw (← c.point_buffer-points.ensures) (lit≤ tt) in
    handed-counts old c.hand_out-o.new.out c.in-Handed.count c.in-Handed.end (meaning c.hand_out-o.result.session) m room (met c.before.before.before _ c.in-Handed.is)

pub count_page_spec : {M : Type 1} → statement M
count_page_spec =
    tie.close
    (tie.spec
    point-buffer-requires
    slice-aggregate-hand-out
    hand-out-requires
    enum-known-a
    returns
    returns-2)
