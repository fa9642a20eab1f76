use Rattle.std.specs.Prelude.{Option}
use mathlib.Core.List.{List}
use mathlib.Core.Path.{◌≡◌, refl, sym, ap, ap₂, subst, ◌∙◌}
use Prim.Native.Nat.{ℕ, suc, ◌+◌, ◌-◌, ◌*◌, ◌/◌, ◌<◌, ◌≤◌}
use native.Mathlib.Nat.{pow-le-pow_right, min-le_right}
use native.Mathlib.Omega.{arith}
use borrow.Author.Rules.{rules}
use lib.Seq.{sets, length-sets}
use lib.ListN.{length, set, replicate}
use lib.IntN.{ℤ, pos}
use Rattle.ring.specs.declared.Point.{Point}
use Rattle.tray_merge.specs.declared.lanes.Source.{Source}
use Rattle.tray_merge.specs.declared.lanes.Mark.{Mark}
use Rattle.tray_merge.specs.Past.{Near, nearest_of}
use Rattle.tray_merge.specs.Lanes.{source_at, mark_at, front_at, made-own, Within, Told', Stepped, Refilled, Lanes, Has, Stands, fronts_on, nearest_is, told-near, told-all, stands_on, step-mask, step-has, refilled, opened_within, opened_has, below_top}
use Rattle.tray_list.proofs.Bits.{bits_below}
use Rattle.tray_list.specs.Tray.{any_at, mask_at, five_of, left, size, holds}
use Rattle.tray_list.specs.declared.Tray.{Tray}
use Rattle.walk_list.specs.Walk.{rank_of, spot_of, numbers_in}
use Rattle.region.specs.declared.Job.{Job}
use Rattle.cuts.specs.Digits.{span}
use Rattle.ranks.specs.Handed.{Dealt}
use Rattle.ranks.proofs.Handed.{dealt_none, dealt_more, dealt_full, dealt_end}
use Rattle.ranks.specs.Rank.{top}
use Rattle.ranks.specs.Rest.{Place, place_of, left_at}
use Rattle.ranks.proofs.Rest.{left-found}
use Rattle.tray_merge.proofs.deal.Statement.{statement}
use Rattle.tray_merge.proofs.deal.Tie as tie

-- the jobs of the sources
abbrev jobsOf : List Source → ℕ → Job
jobsOf ls i = (source_at ls i).job

abbrev invariant-loop : tie.invariant-loop-k
invariant-loop t out₀ space size' sources queue₀ at₀ end₀ room after₀ f₀ far₀ k₀ out queue at end after f far k =
    Dealt (five_of t) 5 (left_at (any_at t) (top span) (spot_of f₀)) out₀ k out (spot_of f) × (k ≤ space) × (length out ≡ length out₀) × (length queue ≡ 16384) × (length at ≡ 8) × (length end ≡ 8)
    × Stands t (jobsOf sources) f queue at end after
    × (spot_of far ≡ nearest_of (size t) (mark_at after))

abbrev decreases-loop : tie.decreases-loop-k
decreases-loop t out₀ space size' sources queue₀ at₀ end₀ room after₀ f₀ far₀ k₀ out queue at end after f far k = space - k

-- lanes whose nearest front w was found: those that are filled as far as that go on past the place where the tray's list does
module _ (t : Tray) (J : ℕ → Job) (p : ℕ) (q : List ℤ) (xs es : List ℕ) (ws : List Mark) (w : Place) (has : Has t J p q xs es ws) (within : Within (size t) xs es) (front : w ≡ nearest_of (size t) (front_at q xs es)) where
  reached : Near (place_of (left t p)) w
  reached = subst (Near (place_of (left t p))) (sym front) (fronts_on t J p q xs es ws has within)

  module _ (q' : List ℤ) (xs' es' : List ℕ) (ws' : List Mark) (f : Refilled J (size t) q xs es ws w q' xs' es' ws') where
    again-has : Has t J p q' xs' es' ws'
    again-has = refilled t J p q xs es ws w q' xs' es' ws' has f

    again-told : Told' (size t) xs' es' ws' (place_of (left t p))
    again-told = told-near (size t) xs' es' ws' w (place_of (left t p)) reached f.told

    again-spot : nearest_of (size t) (front_at q' xs' es') ≡ place_of (left t p)
    again-spot = nearest_is t J p q' xs' es' ws' again-has f.within again-told

    again-stands : (s : Option Point) → spot_of s ≡ place_of (left t p) → Stands t J s q' xs' es' ws'
    again-stands s e = stands_on t J p q' xs' es' ws' s e again-has f.within again-told

-- after the first fill
module _ (r : tie.After-refill-near invariant-loop decreases-loop) where
  abbrev queue-of : tie.After-queue-queue invariant-loop decreases-loop
  queue-of = r.before.before.before.before

  abbrev opened : tie.After-open-sources invariant-loop decreases-loop
  opened = queue-of.before

  abbrev reach_of : tie.After-reach-close invariant-loop decreases-loop
  reach_of = opened.before

  abbrev floored : tie.After-floors-start invariant-loop decreases-loop
  floored = reach_of.before

  abbrev start_of : tie.Start invariant-loop decreases-loop
  start_of = floored.before.before

  abbrev tray : Tray
  tray = start_of.args.t

  abbrev place : ℕ
  place = rank_of start_of.args.from

  abbrev jobs : ℕ → Job
  jobs = jobsOf opened.open-sources.result

  -- so many regions count
  sized : floored.regions-size.result ≡ size tray
  sized = floored.regions-size.ensures

  abbrev first-queue : List ℤ
  first-queue = r.refill-near.new.queue

  abbrev first-at : List ℕ
  first-at = r.refill-near.new.at

  abbrev first-end : List ℕ
  first-end = r.refill-near.new.end

  abbrev none : List ℕ
  none = replicate 8 0

  first-long : length first-queue ≡ 16384
  first-long =
      let same : length first-queue ≡ length queue-of.queue-queue.result = search rules in
      same ∙ sym queue-of.queue-queue.ensures

  first-fill : Refilled jobs (size tray) queue-of.queue-queue.result none none floored.floors-start.result (spot_of reach_of.reach-close.result) first-queue first-at first-end r.refill-near.result
  first-fill = subst (λ (n : ℕ). Refilled jobs n queue-of.queue-queue.result none none floored.floors-start.result (spot_of reach_of.reach-close.result) first-queue first-at first-end r.refill-near.result) sized r.refill-near.ensures

  first-has : Has tray jobs place first-queue first-at first-end r.refill-near.result
  first-has =
      refilled tray jobs place queue-of.queue-queue.result none none floored.floors-start.result (spot_of reach_of.reach-close.result) first-queue first-at first-end r.refill-near.result
      (opened_has tray jobs queue-of.queue-queue.result floored.floors-start.result place (λ i b. (opened.open-sources.ensures i b).job) floored.floors-start.ensures) first-fill

-- the first front is found
module _ (n : tie.After-nearest-g invariant-loop decreases-loop) where
  abbrev fill-of : tie.After-refill-near invariant-loop decreases-loop
  fill-of = n.before.before.before.before.before

  first-front : spot_of n.nearest-g.result ≡ nearest_of (size (tray fill-of)) (front_at (first-queue fill-of) (first-at fill-of) (first-end fill-of))
  first-front = n.nearest-g.ensures ∙ ap (λ (m : ℕ). nearest_of m (front_at (first-queue fill-of) (first-at fill-of) (first-end fill-of))) (sized fill-of)

-- and the lanes are filled that it has come to
module _ (x : tie.After-refill-after invariant-loop decreases-loop) where
  abbrev front_of : tie.After-nearest-g invariant-loop decreases-loop
  front_of = x.before.before.before.before

  abbrev root : tie.After-refill-near invariant-loop decreases-loop
  root = fill-of front_of

  abbrev second-queue : List ℤ
  second-queue = x.refill-after.new.queue

  abbrev second_at : List ℕ
  second_at = x.refill-after.new.at

  abbrev second-end : List ℕ
  second-end = x.refill-after.new.end

  second-long : length second-queue ≡ 16384
  second-long =
      let same : length second-queue ≡ length (first-queue root) = search rules in
      same ∙ first-long root

  second-fill : Refilled (jobs root) (size (tray root)) (first-queue root) (first-at root) (first-end root) root.refill-near.result (spot_of front_of.nearest-g.result) second-queue second_at second-end x.refill-after.result
  second-fill =
      subst (λ (n : ℕ). Refilled (jobs root) n (first-queue root) (first-at root) (first-end root) root.refill-near.result (spot_of front_of.nearest-g.result) second-queue second_at second-end x.refill-after.result) (sized root) x.refill-after.ensures

-- at the first point
module _ (n : tie.After-nearest-f invariant-loop decreases-loop) where
  abbrev fill2-of : tie.After-refill-after invariant-loop decreases-loop
  fill2-of = n.before.before.before.before.before

  abbrev ground : tie.After-refill-near invariant-loop decreases-loop
  ground = root fill2-of

  first-spot : spot_of n.nearest-f.result ≡ place_of (left (tray ground) (place ground))
  first-spot =
      n.nearest-f.ensures ∙ ap (λ (m : ℕ). nearest_of m (front_at (second-queue fill2-of) (second_at fill2-of) (second-end fill2-of))) (sized ground)
      ∙ again-spot (tray ground) (jobs ground) (place ground) (first-queue ground) (first-at ground) (first-end ground) ground.refill-near.result (spot_of (front_of fill2-of).nearest-g.result) (first-has ground) (first-fill ground).within (first-front (front_of fill2-of)) (second-queue fill2-of) (second_at fill2-of) (second-end fill2-of) fill2-of.refill-after.result (second-fill fill2-of)

  first-stands : Stands (tray ground) (jobs ground) n.nearest-f.result (second-queue fill2-of) (second_at fill2-of) (second-end fill2-of) fill2-of.refill-after.result
  first-stands =
      again-stands (tray ground) (jobs ground) (place ground) (first-queue ground) (first-at ground) (first-end ground) ground.refill-near.result (spot_of (front_of fill2-of).nearest-g.result) (first-has ground) (first-fill ground).within (first-front (front_of fill2-of)) (second-queue fill2-of) (second_at fill2-of) (second-end fill2-of) fill2-of.refill-after.result (second-fill fill2-of)
      n.nearest-f.result first-spot

  -- what is left where the first point stands is what is left from the point on
  same_left : left_at (any_at (tray ground)) (top span) (spot_of n.nearest-f.result) ≡ left (tray ground) (place ground)
  same_left = left-found (any_at (tray ground)) (top span) (place ground) _ first-spot

mask-small : (t : Tray) (r : ℕ) → mask_at t r < 256
mask-small t r =
    let two : 0 < 2 = omega arith in
    let m = pow-le-pow_right two {i = size t} {j = 8} (min-le_right t.count 8) in
    let b = bits_below (size t) (holds t r) in
    omega arith

-- a point's four numbers, and then the fifth
five : (t : Tray) (r : ℕ) (l : List ℤ) (i m : ℕ) → m ≡ mask_at t r → set (sets l i (numbers_in r)) (i + 4) (pos m) ≡ sets l i (five_of t r)
five t r l i m e =
    let four : i + 4 ≡ suc (suc (suc (suc i))) = omega arith in
    ap₂ (λ (k n : ℕ). set (sets l i (numbers_in r)) k (pos n)) four e

-- at the point that is next
module _ (f : tie.In-Some invariant-loop decreases-loop) where
  abbrev loop-of : tie.At-loop-k invariant-loop decreases-loop
  loop-of = f.before.before

  abbrev from-of : tie.After-refill-near invariant-loop decreases-loop
  from-of = ground loop-of.before.before

  abbrev point : Point
  point = f.in-Some.v

  lanes_here : Lanes (tray from-of) (jobs from-of) (rank_of point) loop-of.loop-k.queue loop-of.loop-k.at loop-of.loop-k.end loop-of.loop-k.after
  lanes_here =
      subst (λ (w : Option Point). Stands (tray from-of) (jobs from-of) w loop-of.loop-k.queue loop-of.loop-k.at loop-of.loop-k.end loop-of.loop-k.after) f.in-Some.is loop-of.loop-k.invariant.6

  in-range : rank_of point < top span
  in-range = below_top (any_at (tray from-of)) (top span) loop-of.loop-k.k (rank_of point) (spot_of loop-of.before.before.nearest-f.result) (sym loop-of.loop-k.invariant.0.place ∙ ap spot_of f.in-Some.is)

-- behind it
module _ (a : tie.After-advance-s invariant-loop decreases-loop) where
  abbrev at_f : tie.In-Some invariant-loop decreases-loop
  at_f = a.before.before.before.before.before

  abbrev next-at : List ℕ
  next-at = a.advance-s.new.at

  abbrev now_of : tie.At-loop-k invariant-loop decreases-loop
  now_of = loop-of at_f

  abbrev base : tie.After-refill-near invariant-loop decreases-loop
  base = from-of at_f

  counted : a.regions-n.result ≡ size (tray base)
  counted = a.regions-n.ensures

  stepped : Stepped now_of.loop-k.queue now_of.loop-k.at next-at now_of.loop-k.end (size (tray base)) (rank_of (point at_f)) a.advance-s.result.mask (spot_of a.advance-s.result.spot)
  stepped =
      subst (λ (n : ℕ). Stepped now_of.loop-k.queue now_of.loop-k.at next-at now_of.loop-k.end n (rank_of (point at_f)) a.advance-s.result.mask (spot_of a.advance-s.result.spot)) counted a.advance-s.ensures

  mask_is : a.advance-s.result.mask ≡ mask_at (tray base) (rank_of (point at_f))
  mask_is = step-mask (tray base) (jobs base) (rank_of (point at_f)) (in-range at_f) now_of.loop-k.queue now_of.loop-k.at next-at now_of.loop-k.end now_of.loop-k.after _ _ (lanes_here at_f) stepped

  has-is : Has (tray base) (jobs base) (suc (rank_of (point at_f))) now_of.loop-k.queue next-at now_of.loop-k.end now_of.loop-k.after
  has-is = step-has (tray base) (jobs base) (rank_of (point at_f)) (in-range at_f) now_of.loop-k.queue now_of.loop-k.at next-at now_of.loop-k.end now_of.loop-k.after _ _ (lanes_here at_f) stepped

-- the point is written
module _ (o : tie.After-out-1 invariant-loop decreases-loop) where
  abbrev adv : tie.After-advance-s invariant-loop decreases-loop
  adv = o.before.before.before

  abbrev here : tie.At-loop-k invariant-loop decreases-loop
  here = now_of adv

  abbrev old : List ℤ
  old = (start_of (base adv)).args.out.now

  abbrev new : List ℤ
  new = sets here.loop-k.out (5 * here.loop-k.k) (five_of (tray (base adv)) (rank_of (point (at_f adv))))

  dealt : (w : Place) → w ≡ place_of (left (tray (base adv)) (suc (rank_of (point (at_f adv)))))
      → Dealt (five_of (tray (base adv))) 5 (left_at (any_at (tray (base adv))) (top span) (spot_of here.nearest-f.result)) old (here.loop-k.k + 1) new w
  dealt w e =
      let i = here.loop-k.invariant in
      let d = rw (ap spot_of (at_f adv).in-Some.is) at i.0 in
      let test = (at_f adv).loop-k-test.true in
      dealt_more (five_of (tray (base adv))) 5 (λ x. refl) (any_at (tray (base adv))) (top span) (spot_of here.nearest-f.result) old here.loop-k.k here.loop-k.out (rank_of (point (at_f adv))) w d (omega arith) e

  written : o.put_five.new.out ≡ new
  written = o.put_five.ensures ∙ five (tray (base adv)) (rank_of (point (at_f adv))) here.loop-k.out (5 * here.loop-k.k) adv.advance-s.result.mask (mask_is adv)

  new-long : length new ≡ length old
  new-long = length-sets here.loop-k.out (5 * here.loop-k.k) (five_of (tray (base adv)) (rank_of (point (at_f adv)))) ∙ here.loop-k.invariant.2

regions-requires : tie.Need-regions-size-requires invariant-loop decreases-loop
regions-requires c κs = search rules

floors-requires : tie.Need-floors-start-requires invariant-loop decreases-loop
floors-requires c κs = search rules

open-requires : tie.Need-open-sources-requires invariant-loop decreases-loop
open-requires c κs = search rules

queue-requires : tie.Need-queue-queue-requires invariant-loop decreases-loop
queue-requires c κs = search rules

add-room : tie.Need-overflow_add-room invariant-loop decreases-loop
add-room c = omega arith

few : (t : Tray) (n : ℕ) → n ≡ size t → n ≤ 8
few t n e = omega (arith, min-le_right t.count 8)

reach-requires : tie.Need-reach-close-requires invariant-loop decreases-loop
reach-requires c κs = let r = c in few c.args.t _ c.regions-size.ensures

slice-aggregate-refill : tie.Need-slice_bounds-refill-end invariant-loop decreases-loop
slice-aggregate-refill c = c.queue-queue.ensures

refill-requires : tie.Need-refill-near-requires invariant-loop decreases-loop
refill-requires c κs =
    let q = c in
    let o = q.before in
    let r = o in
    let l = few c.args.t _ c.regions-size.ensures in
    (l, omega arith, c.queue-queue.ensures, opened_within c.regions-size.result l, (λ i b. let m = c.open-sources.ensures i (omega (arith, c.regions-size.ensures)) in made-own _ _ m), refl, refl)

slice-aggregate-nearest : tie.Need-slice_bounds-nearest-end invariant-loop decreases-loop
slice-aggregate-nearest c = sym (first-long c.before.before)

nearest-requires : tie.Need-nearest-g-requires invariant-loop decreases-loop
nearest-requires c κs =
    let r = c.before.before.before.before in
    (few (tray c.before.before.before.before) _ (sized c.before.before.before.before), sym (first-long c.before.before.before.before), c.refill-near.ensures.within)

slice-aggregate-refill-2 : tie.Need-slice_bounds-refill-end-2 invariant-loop decreases-loop
slice-aggregate-refill-2 c = sym (first-long (fill-of c.before))

refill-requires-2 : tie.Need-refill-after-requires invariant-loop decreases-loop
refill-requires-2 c κs =
    let r = fill-of c.before.before.before in
    (few (tray r) _ (sized r), omega arith, sym (first-long r), r.refill-near.ensures.within, (λ i b. made-own _ _ ((opened r).open-sources.ensures i (omega (arith, sized r)))), r.refill-near.ensures.long.0, r.refill-near.ensures.long.1)

slice-aggregate-nearest-2 : tie.Need-slice_bounds-nearest-end-2 invariant-loop decreases-loop
slice-aggregate-nearest-2 c = sym (second-long c.before.before)

nearest-requires-2 : tie.Need-nearest-f-requires invariant-loop decreases-loop
nearest-requires-2 c κs =
    let x = c.before.before.before.before in
    (few (tray (root c.before.before.before.before)) _ (sized (root c.before.before.before.before)), sym (second-long c.before.before.before.before), c.refill-after.ensures.within)

reach-requires-2 : tie.Need-reach-far-requires invariant-loop decreases-loop
reach-requires-2 c κs = let r = ground c in few (tray r) _ (sized r)

loop-holds : tie.Need-loop-k-init invariant-loop decreases-loop
loop-holds c =
    let n = c.before in
    let x = fill2-of c.before in
    let t = tray (ground c.before) in (
      dealt_none (five_of t) 5 (λ x. refl) _ _ _ (first-spot c.before ∙ sym (ap place_of (same_left c.before))),
      omega arith,
      refl,
      second-long x,
      x.refill-after.ensures.long.0,
      x.refill-after.ensures.long.1,
      first-stands c.before,
      c.reach-far.ensures ∙ ap (λ (m : ℕ). nearest_of m (mark_at x.refill-after.result)) (sized (ground c.before)),
    )

enum-known-f : tie.Need-enum_known-f invariant-loop decreases-loop
enum-known-f c = search rules

regions-requires-2 : tie.Need-regions-n-requires invariant-loop decreases-loop
regions-requires-2 c κs = search rules

slice-aggregate-advance : tie.Need-slice_bounds-advance-end invariant-loop decreases-loop
slice-aggregate-advance c = sym c.loop-k.invariant.3

advance-requires : tie.Need-advance-s-requires invariant-loop decreases-loop
advance-requires c κs =
    let f = c.before.before.before.before in
    let a = loop-of f in
    let t = tray (from-of f) in
    let z = c.regions-n.ensures in
    let m = min-le_right t.count 8 in
    let h = lanes_here f in
    (omega arith, sym a.loop-k.invariant.3, (λ i b. h.within i (omega arith)), a.loop-k.invariant.4)

mul-put-five : tie.Need-overflow_mul-k invariant-loop decreases-loop
mul-put-five c =
    let a = now_of c.before in
    let s = start_of (base c.before) in
    let g = s.well_formed.1.1.0 in
    let t = (at_f c.before).loop-k-test.true in
    omega arith

put-five-requires : tie.Need-put_five-requires invariant-loop decreases-loop
put-five-requires c κs =
    let a = now_of c.before in
    let s = start_of (base c.before) in
    let t = (at_f c.before).loop-k-test.true in
    let e = a.loop-k.invariant.2 in
    let m = mask_is c.before in
    let b = mask-small (tray (base c.before)) (rank_of (point (at_f c.before))) in
    (omega arith, omega arith)

add-k : tie.Need-overflow_add-k invariant-loop decreases-loop
add-k c =
    let s = start_of (base (adv c)) in
    let g = s.well_formed.1.1.0 in
    let t = (at_f (adv c)).loop-k-test.true in
    omega arith

past-requires : tie.Need-past-requires invariant-loop decreases-loop
past-requires c κs = search rules

sub-room : tie.Need-overflow_sub-room invariant-loop decreases-loop
sub-room c = omega arith

add-room-2 : tie.Need-overflow_add-room-then-not-past invariant-loop decreases-loop
add-room-2 c =
    let o = c.before.before in
    let s = start_of (base (adv c.before.before)) in
    let g = s.well_formed.1.1.0 in
    let t = (at_f (adv c.before.before)).loop-k-test.true in
    omega arith

slice-aggregate-refill-3 : tie.Need-slice_bounds-refill-end-then-not-past invariant-loop decreases-loop
slice-aggregate-refill-3 c = sym (here c.before.before.before).loop-k.invariant.3

refill-requires-3 : tie.Need-refill-marks-requires invariant-loop decreases-loop
refill-requires-3 c κs =
    let o = c.before.before.before.before.before in
    let v = adv c.before.before.before.before.before in
    let i = (here c.before.before.before.before.before).loop-k.invariant in
    let z = counted v in
    let p = stepped v in
    (few (tray (base v)) _ z, omega arith, sym i.3, (λ x b. p.within x (omega arith)), (λ x b. made-own _ _ ((opened (base v)).open-sources.ensures x (omega arith))), p.long, i.5)

-- lanes are filled again
module _ (r : tie.After-refill-marks invariant-loop decreases-loop) where
  abbrev out_of : tie.After-out-1 invariant-loop decreases-loop
  out_of = r.before.before.before.before.before.before

  abbrev again-queue : List ℤ
  again-queue = r.refill-marks.new.queue

  abbrev again-at : List ℕ
  again-at = r.refill-marks.new.at

  abbrev again-end : List ℕ
  again-end = r.refill-marks.new.end

  again-long : length again-queue ≡ 16384
  again-long =
      let same : length again-queue ≡ length (here out_of).loop-k.queue = search rules in
      same ∙ (here out_of).loop-k.invariant.3

  again-fill : Refilled (jobs (base (adv out_of))) (size (tray (base (adv out_of)))) (here out_of).loop-k.queue (next-at (adv out_of)) (here out_of).loop-k.end (here out_of).loop-k.after (spot_of (adv out_of).advance-s.result.spot) again-queue again-at again-end r.refill-marks.result
  again-fill =
      subst (λ (n : ℕ). Refilled (jobs (base (adv out_of))) n (here out_of).loop-k.queue (next-at (adv out_of)) (here out_of).loop-k.end (here out_of).loop-k.after (spot_of (adv out_of).advance-s.result.spot) again-queue again-at again-end r.refill-marks.result) (counted (adv out_of)) r.refill-marks.ensures

slice-aggregate-nearest-3 : tie.Need-slice_bounds-nearest-end-then-not-past invariant-loop decreases-loop
slice-aggregate-nearest-3 c = sym (again-long c.before.before)

nearest-requires-3 : tie.Need-nearest-f-requires-then-not-past invariant-loop decreases-loop
nearest-requires-3 c κs =
    let r = c.before.before.before.before in
    let v = adv (out_of c.before.before.before.before) in
    (few (tray (base v)) _ (counted v), sym (again-long c.before.before.before.before), c.refill-marks.ensures.within)

reach-requires-3 : tie.Need-reach-far-requires-then-not-past invariant-loop decreases-loop
reach-requires-3 c κs = let v = adv (out_of c.before.before.before.before.before) in few (tray (base v)) _ (counted v)

loop-less : tie.Need-loop-k-smaller-then-not-past invariant-loop decreases-loop
loop-less c = let v = adv (out_of c.before.before.before.before.before.before) in let test = (at_f v).loop-k-test.true in omega arith

loop-again : tie.Need-loop-k-preserved-then-not-past invariant-loop decreases-loop
loop-again c =
    let m = c in
    let r = m.before.before.before.before.before in
    let o = out_of c.before.before.before.before.before.before in
    let v = adv o in
    let t = tray (base v) in
    let a = here o in
    let n = suc (rank_of (point (at_f v))) in
    let test = (at_f v).loop-k-test.true in
    let spot : spot_of c.nearest-f-then-not-past.result ≡ place_of (left t n) =
    c.nearest-f-then-not-past.ensures ∙ ap (λ (x : ℕ). nearest_of x (front_at (again-queue c.before.before.before.before.before.before) (again-at c.before.before.before.before.before.before) (again-end c.before.before.before.before.before.before))) (counted v)
    ∙ again-spot t (jobs (base v)) n a.loop-k.queue (next-at v) a.loop-k.end a.loop-k.after (spot_of v.advance-s.result.spot) (has-is v) (stepped v).within (stepped v).next (again-queue c.before.before.before.before.before.before) (again-at c.before.before.before.before.before.before) (again-end c.before.before.before.before.before.before) c.refill-marks.result (again-fill c.before.before.before.before.before.before) in (
      rw (written o) (dealt o (spot_of c.nearest-f-then-not-past.result) spot),
      omega arith,
      ap length (written o) ∙ new-long o,
      again-long c.before.before.before.before.before.before,
      c.refill-marks.ensures.long.0,
      c.refill-marks.ensures.long.1,
      again-stands t (jobs (base v)) n a.loop-k.queue (next-at v) a.loop-k.end a.loop-k.after (spot_of v.advance-s.result.spot) (has-is v) (stepped v).within (stepped v).next (again-queue c.before.before.before.before.before.before) (again-at c.before.before.before.before.before.before) (again-end c.before.before.before.before.before.before) c.refill-marks.result (again-fill c.before.before.before.before.before.before) c.nearest-f-then-not-past.result spot,
      c.reach-far-then-not-past.ensures ∙ ap (λ (x : ℕ). nearest_of x (mark_at c.refill-marks.result)) (counted v),
    )

loop-less-2 : tie.Need-loop-k-smaller invariant-loop decreases-loop
loop-less-2 c = omega arith

loop-again-2 : tie.Need-loop-k-preserved invariant-loop decreases-loop
loop-again-2 c =
    let p = c in
    let o = p.before in
    let v = adv c.before.before in
    let t = tray (base v) in
    let a = here c.before.before in
    let n = suc (rank_of (point (at_f v))) in
    let test = (at_f v).loop-k-test.true in
    let w = spot_of v.advance-s.result.spot in
    let told : Told' (size t) (next-at v) a.loop-k.end a.loop-k.after (place_of (left t n)) =
    told-all (size t) (next-at v) a.loop-k.end a.loop-k.after (spot_of a.loop-k.far) w (place_of (left t n)) (reached t (jobs (base v)) n a.loop-k.queue (next-at v) a.loop-k.end a.loop-k.after w (has-is v) (stepped v).within (stepped v).next) a.loop-k.invariant.7 (sym c.past.ensures ∙ c.if-not-past.false) in
    let spot : w ≡ place_of (left t n) = (stepped v).next ∙ nearest_is t (jobs (base v)) n a.loop-k.queue (next-at v) a.loop-k.end a.loop-k.after (has-is v) (stepped v).within told in (
      rw (written c.before.before) (dealt c.before.before w spot),
      omega arith,
      ap length (written c.before.before) ∙ new-long c.before.before,
      a.loop-k.invariant.3,
      (stepped v).long,
      a.loop-k.invariant.5,
      stands_on t (jobs (base v)) n a.loop-k.queue (next-at v) a.loop-k.end a.loop-k.after v.advance-s.result.spot spot (has-is v) (stepped v).within told,
      a.loop-k.invariant.7,
    )

enum_told : tie.Need-enum_told-1 invariant-loop decreases-loop
enum_told c = search rules

same_length : tie.Need-shape_of-out-after-loop-k invariant-loop decreases-loop
same_length c = c.loop-k.invariant.2

returns : tie.Need-returns-after-loop-k invariant-loop decreases-loop
returns c =
    let l = c in
    let r = ground c.before.before.before in
    let i = c.loop-k.invariant in
    let e : c.loop-k.k ≡ length (start_of r).args.out.now / 5 = omega arith in
    rw (← same_left c.before.before.before, ← e) (dealt_full (five_of (tray r)) 5 (λ x. refl) _ _ _ _ _ i.0)

same-length-2 : tie.Need-shape_of-out-in-None invariant-loop decreases-loop
same-length-2 c = c.loop-k.invariant.2

returns-2 : tie.Need-returns-in-None invariant-loop decreases-loop
returns-2 c =
    let l = c in
    let r = ground c.before.before.before.before in
    let i = c.loop-k.invariant in
    rw (← same_left c.before.before.before.before) (dealt_end (five_of (tray r)) 5 (λ x. refl) _ _ _ _ _ _ (ap spot_of c.in-None.is) i.0 i.1)

pub deal_spec : {M : Type 1} → statement M
deal_spec =
    tie.close
    (tie.spec
    invariant-loop
    decreases-loop
    regions-requires
    floors-requires
    reach-requires
    open-requires
    queue-requires
    add-room
    slice-aggregate-refill
    refill-requires
    slice-aggregate-nearest
    nearest-requires
    slice-aggregate-refill-2
    refill-requires-2
    slice-aggregate-nearest-2
    nearest-requires-2
    reach-requires-2
    loop-holds
    enum-known-f
    regions-requires-2
    slice-aggregate-advance
    advance-requires
    mul-put-five
    put-five-requires
    add-k
    past-requires
    sub-room
    add-room-2
    slice-aggregate-refill-3
    refill-requires-3
    slice-aggregate-nearest-3
    nearest-requires-3
    reach-requires-3
    loop-less
    loop-again
    loop-less-2
    loop-again-2
    enum_told
    same_length
    returns
    same-length-2
    returns-2)
