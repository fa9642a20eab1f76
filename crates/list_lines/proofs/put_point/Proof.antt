-- `put_point` meets its contract: the head and three texts, each after the one before. Assumes nothing.
use Prim.Native.Nat.{ℕ, ◌+◌, ◌≤◌}
use mathlib.Core.Path.{◌≡◌, refl, sym, ap, subst}
use mathlib.Core.List.{List, ◌++◌}
use native.Mathlib.Omega.{arith}
use lib.ListN.{length}
use mir.Syntax.{w32}
use mir.Val.{Fits, SFits}
use mir.Facts.{to_z-of_z}
use borrow.Author.Rules.{rules}
use Rattle.ring.specs.declared.Point.{Point}
use Rattle.ring.specs.Point.Exponent.{exponent_of, pulse_count, pulse_is}
use Rattle.text.specs.Append.{Appended, appended, append-more}
use Rattle.list_lines.specs.Lines.{coordinate_text, head_text, count_text, point_line}
use Rattle.list_lines.proofs.put_point.Statement.{statement}
use Rattle.list_lines.proofs.put_point.Tie as tie

line : (k : ℕ) (v : Point) (e m : ℕ) → e ≡ exponent_of k v → m ≡ pulse_count e → head_text v ++ coordinate_text v.d ++ count_text e 32 ++ count_text m 10 ≡ point_line k v
unfolding point_line head_text
line k v e m p q = rw (q, p) refl

-- the head stands, and has room
module _ (h : tie.After-put_bytes-d) where
  abbrev counted : tie.After-pulse_count-m
  counted = h.before.before

  abbrev start : tie.Start
  start = counted.before.before.before.before

  abbrev xs : List ℕ
  xs = start.args.out.now

  abbrev v : Point
  v = start.args.v

  short-head : length (head_text v) ≤ 36
  short-head = let e = ap length start.requires.1 in let l = start.requires.2 in omega arith

  begun : Appended xs start.args.at (head_text v) h.put_bytes-d.new.out h.put_bytes-d.result
  begun =
      let l = short-head in
      let r = start.requires.0 in
      let e = rw start.requires.1 at h.put_bytes-d.ensures in
      appended xs start.args.at (head_text v) h.put_bytes-d.new.out h.put_bytes-d.result (omega arith) e.0 e.1

-- what stands after the five numbers before the last
module _ (c : tie.After-put_short-g) where
  abbrev z : tie.After-put_last-f
  z = c.before.before.before.before

  abbrev h : tie.After-put_bytes-d
  h = z.before.before.before.before.before

  abbrev front : List ℕ
  front = head_text (v h) ++ coordinate_text (v h).d ++ count_text (counted h).before.exponent-e.result 32

  stands : Appended (xs h) (start h).args.at front c.put_short-g.new.out c.put_short-g.result
  stands =
      let at = (start h).args.at in
      let hd : SFits w32 (v h).d = search rules in
      let m1 = h.put_bytes-d.new.out in
      let m2 = z.put_last-f.new.out in
      let a2 = append-more (xs h) at (head_text (v h)) (coordinate_text (v h).d) m1 m2 h.put_bytes-d.result z.put_last-f.result (begun h) (rw (to_z-of_z hd) at z.put_last-f.ensures.0) in
      append-more (xs h) at (head_text (v h) ++ coordinate_text (v h).d) (count_text (counted h).before.exponent-e.result 32) m2 c.put_short-g.new.out z.put_last-f.result c.put_short-g.result a2 c.put_short-g.ensures.0

  short : c.put_short-g.result ≤ (start h).args.at + 59
  short =
      let l = short-head h in
      let b1 = (begun h).end in
      let b2 = z.put_last-f.ensures.1 in
      let b3 = c.put_short-g.ensures.1 in
      omega arith

exponent-requires : tie.Need-exponent-e-requires
exponent-requires c κs = search rules

pulse-count-requires : tie.Need-pulse_count-m-requires
pulse-count-requires c κs = search rules

put-bytes-requires : tie.Need-put_bytes-d-requires
put-bytes-requires c κs = search rules

put-last-requires : tie.Need-put_last-f-requires
put-last-requires c κs =
    let h = c.before.before.before.before in
    let l = short-head h in
    let b = begun h in
    let e = b.end in
    let s = b.same in
    let r = (start h).requires.0 in
    omega arith

cast-put-short : tie.Need-overflow_cast-e
cast-put-short c = search rules

put-short-requires : tie.Need-put_short-g-requires
put-short-requires c κs =
    let z = c in
    let h = z.before.before.before.before.before in
    let l = short-head h.before.before.before in
    let e = (begun h.before.before.before).end in
    let f = (begun h.before.before.before).same in
    let b = z.put_last-f.ensures.1 in
    let s = z.put_last-f.ensures.0.same in
    let r = (start h.before.before.before).requires.0 in
    let x : Fits w32 (counted h.before.before.before).before.exponent-e.result = search rules in
    let y = x.fits in
    (omega arith, omega arith)

put-short-requires-2 : tie.Need-put_short-requires
put-short-requires-2 c κs =
    let p = c.before.before.before in
    let l = (stands p).same in
    let s = short p in
    let r = (start (h p)).requires.0 in
    let x : Fits w32 (counted (h p)).before.exponent-e.result = search rules in
    let y = x.fits in
    let m = (counted (h p)).pulse_count-m.ensures in
    let i = pulse_is (counted (h p)).before.exponent-e.result in
    (omega arith, rw l (omega arith))

same_length : tie.Need-shape_of-out
same_length c =
    let q = c in
    let p = q.before.before.before.before in
    search rules

returns : tie.Need-returns
returns c =
    let q = c in
    let p = q.before.before.before.before in
    let b = h p.before.before in
    let e = (counted b).before.exponent-e.ensures in
    let m = (counted b).pulse_count-m.ensures in
    let last = q.put_short.ensures in
    let all = append-more (xs b) (start b).args.at (front p.before.before) (count_text (counted b).pulse_count-m.result 10) p.put_short-g.new.out q.put_short.new.out p.put_short-g.result q.put_short.result (stands p.before.before) last.0 in
    let s = short p.before.before in
    let l = last.1 in
    (subst (λ (t : List ℕ). Appended (xs b) (start b).args.at t q.put_short.new.out q.put_short.result) (line (start b).args.k (v b) (counted b).before.exponent-e.result (counted b).pulse_count-m.result e m) all, omega arith)

pub put_point_spec : {M : Type 1} → statement M
put_point_spec =
    tie.close
    (tie.spec
    exponent-requires
    pulse-count-requires
    put-bytes-requires
    put-last-requires
    cast-put-short
    put-short-requires
    put-short-requires-2
    same_length
    returns)
