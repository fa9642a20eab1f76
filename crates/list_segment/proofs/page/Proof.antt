-- `page` meets its contract. Assumes nothing.
use Prim.Native.Nat.{ℕ, ◌*◌, ◌/◌, ◌≤◌, ◌<◌}
use mathlib.Core.Path.{◌≡◌, refl, sym, ap, subst, ◌∙◌}
use mathlib.Core.Bool.{true, false}
use mathlib.Core.List.{List, append-nil}
use native.Mathlib.Nat.{min-le_left}
use native.Mathlib.Omega.{arith}
use lib.IntN.{ℤ}
use lib.ListN.{length, take, length-take}
use mir.Facts.{to_z-of_z}
use Rattle.ring.specs.declared.Point.{Point}
use Rattle.ring_points.specs.Slices.{points_of}
use Rattle.ranks.specs.Rest.{Place, at, ended, rest}
use Rattle.ranks.specs.Rank.{top}
use Rattle.ranks.specs.Handed.{Gave}
use Rattle.ring_points.specs.Digits.{span}
use Rattle.walk_list.specs.Walk.{listed_at, rank_of, numbers_in, spot_of}
use Rattle.text.specs.Append.{Appended}
use Rattle.list_lines.specs.Lines.{lines_of}
use Rattle.list_segment.specs.declared.Piece.{Piece}
use Rattle.list_segment.specs.Leading.{leading}
use Rattle.list_segment.specs.Segment.{up_to, Paged, rank_lines, segment_from, cut_short, numbers, page-cut, page-last, page-more, page-some}
use borrow.Author.Rules.{rules}
use Rattle.list_segment.proofs.page.Statement.{statement}
use Rattle.list_segment.proofs.page.Tie as tie

-- the hand-out
module _ (h : tie.After-hand_out-h) where
  abbrev start : tie.Start
  start = h.before.before.before.before

  abbrev old : List ℤ
  old = h.point_buffer-points.result

  abbrev new : List ℤ
  new = h.hand_out-h.new.out

  abbrev all : List ℕ
  all = rest (listed_at start.args.job) (top span) (rank_of start.args.from)

  gave : Gave numbers_in 4 all old (length old / 4) h.hand_out-h.result.count new (spot_of h.hand_out-h.result.spot)
  gave = h.hand_out-h.ensures

  room : length old / 4 ≡ 1872
  room = let e = h.point_buffer-points.ensures in omega arith

  same : length new ≡ length old
  same = search rules

  few : h.hand_out-h.result.count ≤ 1872
  few = let c = gave.count in let l = length-take (length old / 4) all in let m = min-le_left (length old / 4) (length all) in let r = room in omega arith

-- the cut and the lines
module _ (p : tie.After-put_points-length) where
  abbrev cutting : tie.After-cut-n
  cutting = p.before.before.before

  abbrev out : tie.After-hand_out-h
  out = cutting.before.before.before

  abbrev args : tie.Start
  args = start out

  abbrev count : ℕ
  count = out.hand_out-h.result.count

  abbrev m : ℕ
  m = cutting.cut-n.result

  abbrev place : Place
  place = spot_of out.hand_out-h.result.spot

  abbrev page : List ℕ
  page = take (length (old out) / 4) (all out)

  abbrev segment : List ℕ
  segment = segment_from args.args.job args.args.hi (rank_of args.args.from)

  cut-is : m ≡ length (leading (up_to args.args.hi) (points_of (take (4 * count) (new out))))
  cut-is = rw (to_z-of_z args.ranges.hi) at cutting.cut-n.ensures

  shows : Appended args.args.out.now 0 (rank_lines args.args.job.k (take m page)) p.put_points-length.new.out p.put_points-length.result
  shows =
      subst (λ (l : List ℤ). Appended args.args.out.now 0 (lines_of args.args.job.k l) p.put_points-length.new.out p.put_points-length.result)
      (numbers args.args.job args.args.hi args.ranges.hi (rank_of args.args.from) (length (old out) / 4) (old out) (new out) count m place (gave out) cut-is) p.put_points-length.ensures

  -- a last page
  ends : (r : Piece) → (r.more ≡ false) × (r.length ≡ p.put_points-length.result) → take m page ≡ segment → Paged args.args.job args.args.hi args.args.from r args.args.out.now p.put_points-length.new.out
  ends r (e, f) s = record {
    shown = take m page;
    text = rw f shows;
    joined = rw e (append-nil (take m page) ∙ s);
    some = λ t. absurd (let z : true ≡ false = sym t ∙ e in let y : ◌≡◌ {A = ℕ} 0 1 = cc in omega arith);
  }

  stops : m < count → take m page ≡ segment
  stops = page-cut args.args.job args.args.hi args.ranges.hi (rank_of args.args.from) (length (old out) / 4) (old out) (new out) count m place (gave out) cut-is

  lasts : count ≤ m → place ≡ ended → take m page ≡ segment
  lasts = page-last args.args.job args.args.hi args.ranges.hi (rank_of args.args.from) (length (old out) / 4) (old out) (new out) count m place (gave out) cut-is

  -- one with more after it
  goes : (v : Point) (r : Piece) → place ≡ at (rank_of v) → count ≤ m → r.from ≡ v → r.more ≡ true → r.length ≡ p.put_points-length.result → Paged args.args.job args.args.hi args.args.from r args.args.out.now p.put_points-length.new.out
  goes v r w h e f g = record {
    shown = take m page;
    text = rw g shows;
    joined = rw (f, e) (page-more args.args.job args.args.hi args.ranges.hi (rank_of args.args.from) (length (old out) / 4) (old out) (new out) count m place (gave out) cut-is (rank_of v) h w);
    some = λ t. page-some args.args.job args.args.hi args.ranges.hi (rank_of args.args.from) (length (old out) / 4) (old out) (new out) count m place (gave out) cut-is (rank_of v) (let r = room out in omega arith) h w;
  }

point-buffer-requires : tie.Need-point_buffer-points-requires
point-buffer-requires c κs = search rules

slice-aggregate-hand-out : tie.Need-slice_bounds-hand_out-end
slice-aggregate-hand-out c = search rules

hand-out-requires : tie.Need-hand_out-h-requires
hand-out-requires c κs = search rules

slice-aggregate-cut : tie.Need-slice_bounds-cut-end
slice-aggregate-cut c = search rules

cut-requires : tie.Need-cut-n-requires
cut-requires c κs = let h = c.before.before in let f = few c.before.before in let s = same c.before.before in let r = room c.before.before in omega arith

slice-aggregate-put-points : tie.Need-slice_bounds-put_points-end
slice-aggregate-put-points c = search rules

put-points-requires : tie.Need-put_points-length-requires
put-points-requires c κs =
    let k = c in
    let h = k.before.before.before in
    let s = start c.before.before.before.before.before in
    let n = cut_short s.args.job s.args.hi s.ranges.hi (rank_of s.args.from) (length (old c.before.before.before.before.before) / 4) (old c.before.before.before.before.before) (new c.before.before.before.before.before) c.hand_out-h.result.count c.cut-n.result (spot_of c.hand_out-h.result.spot) (gave c.before.before.before.before.before) (rw (to_z-of_z s.ranges.hi) at c.cut-n.ensures) in
    let f = few c.before.before.before.before.before in
    let l = same c.before.before.before.before.before in
    let r = room c.before.before.before.before.before in
    let o = s.requires in
    (omega arith, omega arith)

last-requires : tie.Need-last-requires
last-requires c κs = search rules

same_length : tie.Need-shape_of-out-then-n-h
same_length c = search rules

returns : tie.Need-returns-then-n-h
returns c = let p = c.before.before.before.before.before in ends c.before.before.before.before.before c.last.result c.last.ensures (stops c.before.before.before.before.before c.if-n-h.true)

enum-known-s : tie.Need-enum_known-s
enum-known-s c = search rules

enum_told : tie.Need-enum_told-1
enum_told c = search rules

last-requires-2 : tie.Need-last-requires-in-None
last-requires-2 c κs = search rules

same-length-2 : tie.Need-shape_of-out-in-Some
same-length-2 c = search rules

returns-2 : tie.Need-returns-in-Some
returns-2 c = let p = c.before.before.before.before.before.before.before in goes c.before.before.before.before.before _ _ (ap spot_of c.in-Some.is) (search rules) refl refl refl

same-length-3 : tie.Need-shape_of-out-in-None
same-length-3 c = search rules

returns-3 : tie.Need-returns-in-None
returns-3 c = let p = c.before.before.before.before.before.before.before in ends c.before.before.before.before.before.before c.last-in-None.result c.last-in-None.ensures (lasts c.before.before.before.before.before.before (search rules) (ap spot_of c.in-None.is))

pub page_spec : {M : Type 1} → statement M
page_spec =
    tie.close
    (tie.spec
    point-buffer-requires
    slice-aggregate-hand-out
    hand-out-requires
    slice-aggregate-cut
    cut-requires
    slice-aggregate-put-points
    put-points-requires
    last-requires
    same_length
    returns
    enum-known-s
    enum_told
    last-requires-2
    same-length-2
    returns-2
    same-length-3
    returns-3)
