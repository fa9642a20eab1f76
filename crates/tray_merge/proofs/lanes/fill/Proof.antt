use mathlib.Core.List.{List, ◌++◌}
use mathlib.Core.Path.{◌≡◌, refl, subst, ◌∙◌}
use Prim.Native.Nat.{ℕ, ◌+◌, ◌*◌, ◌-◌, ◌/◌, ◌≤◌}
use native.Mathlib.Omega.{arith}
use borrow.Rule.Slice.PartMut.{post_of, Post-is}
use borrow.Author.Rules.{rules}
use lib.Seq.{length-take-le}
use lib.ListN.{length, take, drop, length-drop}
use lib.IntN.{ℤ}
use Rattle.tray_merge.specs.Lane.{left_of, Elsewhere, filled_content, filled_few, filled_none, filled_elsewhere}
use Rattle.walk_list.specs.Walk.{numbers_in, spot_of}
use Rattle.ranks.specs.Handed.{Gave}
use Rattle.ranks.specs.Rest.{Place}
use Rattle.region.specs.declared.Job.{Job}
use Rattle.tray_merge.proofs.lanes.fill.Statement.{statement}
use Rattle.tray_merge.proofs.lanes.fill.Tie as tie

-- what the walk wrote to the lane's part of the queue
module _ (h : tie.After-walk_on) where
  abbrev start : tie.Start
  start = h.before.before

  abbrev job : Job
  job = start.args.s.job

  abbrev from : Place
  from = spot_of start.args.from

  abbrev count_of : ℕ
  count_of = start.args.n

  abbrev place : ℕ
  place = 2048 * start.args.j

  abbrev end : ℕ
  end = place + 4 * count_of

  abbrev queue : List ℤ
  queue = start.args.queue.now

  abbrev old : List ℤ
  old = take (end - place) (drop place queue)

  abbrev new : List ℤ
  new = h.walk_on.new.out

  abbrev front : List ℤ
  front = take place queue

  abbrev behind : List ℤ
  behind = post_of place (end - place) queue

  long : end ≤ length queue
  long = let p = start.requires in omega arith

  front_long : length front ≡ place
  front_long = length-take-le place queue (let l = long in omega arith)

  old-long : length old ≡ 4 * count_of
  old-long = let l = long in length-take-le (end - place) (drop place queue) (omega (arith, length-drop place queue)) ∙ omega arith

  gave : Gave numbers_in 4 (left_of job from) old count_of h.walk_on.result.count new (spot_of h.walk_on.result.spot)
  gave =
      let sized : length old / 4 ≡ count_of = let l = old-long in omega arith in
      subst (λ (m : ℕ). Gave numbers_in 4 (left_of job from) old m h.walk_on.result.count new (spot_of h.walk_on.result.spot)) sized h.walk_on.ensures

  elsewhere : Elsewhere start.args.j queue (front ++ (new ++ behind))
  elsewhere =
      let p = start.requires in
      let same : length new ≡ length old = search rules in
      filled_elsewhere job from count_of place old new front behind h.walk_on.result.count (spot_of h.walk_on.result.spot) gave front_long start.args.j queue refl p.2 (same ∙ old-long) refl
      (Post-is place end queue (omega arith)) long

mul-start : tie.Need-overflow_mul-start
mul-start c = search rules

mul-end : tie.Need-overflow_mul-end
mul-end c = search rules

add-end : tie.Need-overflow_add-end
add-end c = search rules

mul-walk-on : tie.Need-offset_bounds-queue-start
mul-walk-on c = search rules

sub-walk-on : tie.Need-slice_bounds-walk_on-count
sub-walk-on c = search rules

part-walk-on-start : tie.Need-slice_bounds-walk_on-start
part-walk-on-start c = search rules

part-walk-on-end : tie.Need-slice_bounds-walk_on-end
part-walk-on-end c = search rules

walk-on-requires : tie.Need-walk_on-requires
walk-on-requires c κs = c.requires.0

same_length : tie.Need-shape_of-queue
same_length c = search rules

returns : tie.Need-returns
returns c =
    let h = c.before in
    let s = start c.before in
    let p = s.requires in (
      filled_content (job c.before) (from c.before) (count_of c.before) (place c.before) (old c.before) (new c.before) (front c.before) (behind c.before) c.walk_on.result.count (spot_of c.walk_on.result.spot) (gave c.before) (front_long c.before) s.args.j refl,
      filled_few (job c.before) (from c.before) (count_of c.before) (place c.before) (old c.before) (new c.before) (front c.before) (behind c.before) c.walk_on.result.count (spot_of c.walk_on.result.spot) (gave c.before) (front_long c.before) p.2,
      filled_none (job c.before) (from c.before) (count_of c.before) (place c.before) (old c.before) (new c.before) (front c.before) (behind c.before) c.walk_on.result.count (spot_of c.walk_on.result.spot) (gave c.before) (front_long c.before) p.1,
      elsewhere c.before,
    )

pub fill_spec : {M : Type 1} → statement M
fill_spec =
    tie.close
    (tie.spec
    mul-start
    mul-end
    add-end
    mul-walk-on
    sub-walk-on
    part-walk-on-start
    part-walk-on-end
    walk-on-requires
    same_length
    returns)
