-- `next` meets its contract. Assumes nothing.
use Prim.Native.Nat.{ℕ, ◌*◌, ◌/◌, ◌≤◌, min}
use mathlib.Core.Path.{◌≡◌, sym, subst, ◌∙◌}
use native.Mathlib.Nat.{min-le_left, min-le_right}
use native.Mathlib.Omega.{arith}
use lib.ListN.{length, take}
use lib.Seq.{length-take-le}
use Rattle.session_stages.specs.Session.{meaning}
use Rattle.list_pages.specs.Page.{page_of, Paged}
use borrow.Author.Rules.{rules}
use Rattle.list_pages.proofs.page.next.Statement.{statement}
use Rattle.list_pages.proofs.page.next.Tie as tie

-- the numbers lent are room for as many points
module _ (c : tie.After-point_buffer-points) where
  abbrev room : ℕ
  room = c.least-room.result

  abbrev start : tie.Start
  start = c.before.before.before

  bounds : (room ≤ 2048) × (room ≤ length start.args.out.now / 70)
  bounds =
      let n = length start.args.out.now / 70 in
      let e : room ≡ min 2048 n = c.least-room.ensures in
      let l = min-le_left 2048 n in
      let r = min-le_right 2048 n in
      (omega arith, omega arith)

  lent : length (take (4 * room) c.point_buffer-points.result) ≡ 4 * room
  lent = let b = bounds.0 in let e = c.point_buffer-points.ensures in length-take-le (4 * room) c.point_buffer-points.result (omega arith)

  space : length (take (4 * room) c.point_buffer-points.result) / 4 ≡ room
  space = rw lent (omega arith)

least-requires : tie.Need-least-room-requires
least-requires c κs = search rules

point-buffer-requires : tie.Need-point_buffer-points-requires
point-buffer-requires c κs = search rules

mul-points : tie.Need-overflow_mul-points
mul-points c = search rules

array-borrow-prefix-points : tie.Need-slice_bounds-points-end
array-borrow-prefix-points c = search rules

slice-aggregate-filled : tie.Need-slice_bounds-filled-end
slice-aggregate-filled c = sym (lent c.before)

filled-requires : tie.Need-filled-requires
filled-requires c κs =
    let b = c.before.before in
    let h = (bounds c.before.before).1 in
    rw (space c.before.before) (omega arith)

same_length : tie.Need-shape_of-out
same_length c = search rules

returns : tie.Need-returns
returns c =
    let f = c in
    let b = f.before.before.before in
    let s = start c.before.before.before.before.before.before in
    subst (λ (n : ℕ). Paged (page_of n (meaning s.args.s)) c.filled.result s.args.out.now c.filled.new.out) (space c.before.before.before.before.before.before ∙ c.least-room.ensures) c.filled.ensures

pub next_spec : {M : Type 1} → statement M
next_spec =
    tie.close
    (tie.spec
    least-requires
    point-buffer-requires
    mul-points
    array-borrow-prefix-points
    slice-aggregate-filled
    filled-requires
    same_length
    returns)
