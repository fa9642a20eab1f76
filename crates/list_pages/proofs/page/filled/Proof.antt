-- `filled` meets its contract. Assumes nothing.
use Prim.Native.Nat.{ℕ, ◌*◌, ◌/◌}
use mathlib.Core.Path.{◌≡◌, refl, sym, ap, subst, ◌∙◌}
use mathlib.Core.Bool.{false}
use mathlib.Core.List.{List, []}
use native.Mathlib.Omega.{arith}
use lib.IntN.{ℤ}
use lib.ListN.{length, take}
use Rattle.session_model.specs.Session.{handOut, step}
use Rattle.session_stages.specs.declared.Answer.{Answer}
use Rattle.session_stages.specs.World.{world}
use Rattle.session_stages.specs.Session.{meaning, answer_of, outcome}
use Rattle.text.specs.Append.{Appended}
use Rattle.list_pages.specs.declared.page.Page.{Page}
use Rattle.list_lines.specs.Lines.{lines_of}
use Rattle.list_pages.specs.Page.{page_of, Paged}
use Rattle.list_pages.specs.Given.{is_handed, Handing, page-handed, page-nothing}
use borrow.Author.Rules.{rules}
use Rattle.list_pages.proofs.page.filled.Statement.{statement}
use Rattle.list_pages.proofs.page.filled.Tie as tie

-- what the hand-out answered
module _ (h : tie.After-hand_out-o) where
  abbrev start : tie.Start
  start = h.before.before.before

  abbrev old : List ℤ
  old = start.args.points.now

  abbrev new : List ℤ
  new = h.hand_out-o.new.out

  -- with the answer that the match found
  met : (a : Answer) → h.hand_out-o.result.answer ≡ a → outcome new h.hand_out-o.result.session a ≡ step world (handOut old) (meaning start.args.s)
  met a e = ap (outcome new h.hand_out-o.result.session) (sym e) ∙ h.hand_out-o.ensures.0.met

  abbrev Space : ℕ
  Space = length old / 4

  -- a page of nothing
  empty : (a : Answer) → h.hand_out-o.result.answer ≡ a → is_handed (answer_of new a) ≡ false → (r : Page) → (r.session ≡ start.args.s) × (r.count ≡ 0) × (r.more ≡ false) × (r.length ≡ 0)
      → Paged (page_of Space (meaning start.args.s)) r start.args.out.now start.args.out.now
  empty a e f r q =
      let n = page-nothing old (answer_of new a) (meaning h.hand_out-o.result.session) f (meaning start.args.s) (met a e) in
      let xs = start.args.out.now in
      let none : Appended xs 0 [] xs 0 = record { text = refl; end = refl; same = refl; past = refl } in
      record {
        session = ap meaning q.0 ∙ n.session;
        count = q.1 ∙ n.count;
        more = q.2 ∙ n.more;
        text = subst (λ (i : ℕ). Appended xs 0 (page_of Space (meaning start.args.s)).text xs i) (sym q.3) (subst (λ (l : List ℕ). Appended xs 0 l xs 0) n.text none);
      }

-- a hand-out that was not refused
module _ (k : tie.In-Handed) where
  abbrev out : tie.After-hand_out-o
  out = k.before.before

  abbrev count : ℕ
  count = k.in-Handed.n

  handing : Handing count k.in-Handed.end (new out) (meaning (start out).args.s) (meaning out.hand_out-o.result.session) (Space out) (page_of (Space out) (meaning (start out).args.s))
  handing = page-handed (old out) (new out) count k.in-Handed.end (meaning out.hand_out-o.result.session) (meaning (start out).args.s) (met out _ k.in-Handed.is)

hand-out-requires : tie.Need-hand_out-o-requires
hand-out-requires c κs = search rules

enum-known-a : tie.Need-enum_known-a
enum-known-a c = search rules

scale-requires : tie.Need-scale-requires
scale-requires c κs = search rules

put-points-requires : tie.Need-put_points-length-requires
put-points-requires c κs =
    let k = c.before.before.before in
    let f = (handing c.before.before).fits in
    let l : length (new (out c.before.before)) ≡ length (old (out c.before.before)) = search rules in
    let p = (start (out c.before.before)).requires in
    (omega arith, omega arith)

enum_told : tie.Need-enum_told-1
enum_told c = search rules

nothing-requires : tie.Need-nothing-requires
nothing-requires c κs = search rules

enum-told-2 : tie.Need-enum_told-in-Taken
enum-told-2 c = search rules

nothing-requires-2 : tie.Need-nothing-requires-in-Taken
nothing-requires-2 c κs = search rules

enum-told-3 : tie.Need-enum_told-in-Done
enum-told-3 c = search rules

nothing-requires-3 : tie.Need-nothing-requires-in-Done
nothing-requires-3 c κs = search rules

enum-told-4 : tie.Need-enum_told-in-Says
enum-told-4 c = search rules

nothing-requires-4 : tie.Need-nothing-requires-in-Says
nothing-requires-4 c κs = search rules

enum-told-5 : tie.Need-enum_told-in-Least
enum-told-5 c = search rules

nothing-requires-5 : tie.Need-nothing-requires-in-Least
nothing-requires-5 c κs = search rules

same_length : tie.Need-shape_of-points-in-Handed
same_length c = search rules

same-length-2 : tie.Need-shape_of-out
same-length-2 c = search rules

returns : tie.Need-returns-in-Handed
returns c =
    let p = c in
    let g = p in
    let k = g.before.before.before in
    let s = start (out c.before.before.before.before.before.before) in
    let q = handing c.before.before.before.before.before.before in
    let e : lines_of c.scale.result (take (4 * count c.before.before.before.before.before.before) (new (out c.before.before.before.before.before.before))) ≡ (page_of (Space (out c.before.before.before.before.before.before)) (meaning s.args.s)).text = ap (λ (i : ℕ). lines_of i (take (4 * count c.before.before.before.before.before.before) (new (out c.before.before.before.before.before.before)))) c.scale.ensures ∙ q.text in
    record {
      session = q.session;
      count = q.count;
      more = q.more;
      text = subst (λ (l : List ℕ). Appended s.args.out.now 0 l c.put_points-length.new.out c.put_points-length.result) e c.put_points-length.ensures;
    }

same-length-3 : tie.Need-shape_of-points-in-Refused
same-length-3 c = search rules

returns-2 : tie.Need-returns-in-Refused
returns-2 c = let e = c in empty c.before.before.before _ c.in-Refused.is refl c.nothing.result c.nothing.ensures

same-length-4 : tie.Need-shape_of-points-in-Taken
same-length-4 c = search rules

returns-3 : tie.Need-returns-in-Taken
returns-3 c = let e = c in empty c.before.before.before _ c.in-Taken.is refl c.nothing-in-Taken.result c.nothing-in-Taken.ensures

same-length-5 : tie.Need-shape_of-points-in-Done
same-length-5 c = search rules

returns-4 : tie.Need-returns-in-Done
returns-4 c = let e = c in empty c.before.before.before _ c.in-Done.is refl c.nothing-in-Done.result c.nothing-in-Done.ensures

same-length-6 : tie.Need-shape_of-points-in-Says
same-length-6 c = search rules

returns-5 : tie.Need-returns-in-Says
returns-5 c = let e = c in empty c.before.before.before _ c.in-Says.is refl c.nothing-in-Says.result c.nothing-in-Says.ensures

same-length-7 : tie.Need-shape_of-points-in-Least
same-length-7 c = search rules

returns-6 : tie.Need-returns-in-Least
returns-6 c = let e = c in empty c.before.before.before _ c.in-Least.is refl c.nothing-in-Least.result c.nothing-in-Least.ensures

pub filled_spec : {M : Type 1} → statement M
filled_spec =
    tie.close
    (tie.spec
    hand-out-requires
    enum-known-a
    scale-requires
    put-points-requires
    enum_told
    nothing-requires
    enum-told-2
    nothing-requires-2
    enum-told-3
    nothing-requires-3
    enum-told-4
    nothing-requires-4
    enum-told-5
    nothing-requires-5
    same_length
    same-length-2
    returns
    same-length-3
    returns-2
    same-length-4
    returns-3
    same-length-5
    returns-4
    same-length-6
    returns-5
    same-length-7
    returns-6)
