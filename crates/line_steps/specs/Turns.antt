-- The pairs of the scaled problem are those of the two intervals: what the walk asks for holds, and what it meets is said of the problem itself.
use Rattle.std.specs.Prelude.{◌≡◌, refl, Bool, true, false, ◌&&◌, [], ◌∷◌, ◌⊎◌, ℕ, ◌^◌, ◌≤◌, ◌<◌, ℤ, pos, neg_ℤ, nat_abs, ◌+ℤ◌, ◌-ℤ◌, ◌*ℤ◌}
use Rattle.std.proofs.Common.{sym, ◌∙◌, ap, ap₂, subst, subst₂, inl, inr, ⊎_elim, arith}
use Rattle.std.proofs.lemmas.Bool.{false≢true}
use Rattle.std.specs.Int.Signed.{le_z}
use Rattle.integers.specs.lemmas.Booleans.{both_true, both_of, iff}
use Rattle.integers.specs.Difference.{by⊖, zz, ◌≼◌, ◌≺◌}
use Rattle.integers.specs.lemmas.Order.{≼_trans, nn-*}
use Rattle.integers.specs.lemmas.Ring.{poly, by_ring}
use Rattle.integers.specs.lemmas.Size.{size-*≤}
use Rattle.ring.specs.declared.RootTwo.{RootTwo}
use Rattle.ring.specs.RootTwo.{◌⊞◌, ◌⊟◌, ◌⊠◌, conj, num, num_parts, num-+, num_neg, ⊠-one, conj_num, conj_parts, conj_conj, ring√}
use Rattle.ring.specs.RootTwo.Order.{nn_by, num-⊑}
use Rattle.ring.specs.RootTwo.Sized.{conj_size, less-size, product-size, combined_size}
use Rattle.line_rows.specs.declared.Band.{Band}
use Rattle.line_rows.specs.Row.{at, above, below, Small}
use Rattle.line_rows.specs.Steps.{solved, shift_of, Even}
use Rattle.line_steps.specs.declared.Interval.{Interval}
use Rattle.line_steps.specs.declared.Scaled.{Scaled}
use Rattle.line_steps.specs.Line.{bound, span, coordinate, accepted, in_range, solves, holds}
use Rattle.line_steps.specs.Strips.{strip_of, solves-row, Ranged, both-ranged, size-within, le_true}
use Rattle.line_steps.specs.Ends.{lo-divided, hi-divided}
use Rattle.line_steps.specs.Bounds.{Within, solution_within}
use Rattle.line_steps.specs.Narrow.{Wide, NotBefore, image, origin, first_of, second_of, rows_of, steps_hold, image-origin, origin-image, rises, same_row, wide-one, row_last, row_from}
use Rattle.line_steps.specs.Sized.{Sized, Ends, whole, shifted, scaled, size_of_unit, shift-ends, times-ends}
use Rattle.line_steps.specs.Scaled.{scaled_of, half_of, rows_band, Stepped, Chosen, Before, back_by, back_of, there_of}
use Rattle.line_steps.specs.Walk.{Ready, solved-row, before-not}

-- a pair solves the problem of intervals if and only if it solves that of their strips
pub solves-solved : (i j : Interval) (a b : ℤ) → solves i j a b ≡ solved (strip_of i) (strip_of j) (at a b)
solves-solved i j a b = solves-row i j a b ∙ sym (solved-row (strip_of i) (strip_of j) a b)

pub interval_ends : (i : Interval) → Ranged (strip_of i) → Ends whole (strip_of i)
interval_ends i r =
    let l = lo-divided (strip_of i) r in
    let h = hi-divided (strip_of i) r in
    record {
      one = r.one;
      scale = omega (arith, l.scale);
      lo = record { p = omega (arith, l.size); q = omega arith };
      hi = record { p = omega (arith, h.size); q = omega arith };
    }

-- turned twice
twice : (b : ℤ) → neg_ℤ (neg_ℤ b) ≡ b
twice = by⊖ _ λ p p'. simp zz (omega arith)

turned-back : (a b : ℤ) → conj (at a (neg_ℤ b)) ≡ at a b
turned-back a b = conj_parts (at a (neg_ℤ b)) ∙ ap (at a) (twice b)

-- the pair seen from the other side: a stays and b turns
pub solves-turned : (i j : Interval) (a b : ℤ) → solves i j a b ≡ true → solves j i a (neg_ℤ b) ≡ true
unfolding solves
solves-turned i j a b e =
    subst₂ (λ (x y : RootTwo). holds j x && holds i y ≡ true) (conj_parts (at a b)) (sym (turned-back a b)) (swap (holds i (at a b)) (holds j (conj (at a b))) e)
  where
    swap : (x y : Bool) → x && y ≡ true → y && x ≡ true
    swap true true e = refl
    swap true false e = e
    swap false true e = e
    swap false false e = e

turned_same : (i j : Interval) (a b : ℤ) → solves i j a b ≡ solves j i a (neg_ℤ b)
turned_same i j a b = iff (solves i j a b) (solves j i a (neg_ℤ b)) (solves-turned i j a b) (λ h. subst (λ k. solves i j a k ≡ true) (twice b) (solves-turned j i a (neg_ℤ b) h))

pub accepted-turned : (i j : Interval) → accepted i j ≡ true → accepted j i ≡ true
accepted-turned i j ok = let (e, f) = both_true (in_range i) (in_range j) ok in both_of f e

-- ---- an eighth wide is at most 1 wide
pub thin_wide : (i : Interval) → Ranged (strip_of i) → le_z (pos 8 *ℤ (i.hi -ℤ i.lo)) i.n ≡ true → Wide (pos 1) (strip_of i)
thin_wide i r e = nn_by (ap₂ ◌⊟◌ (sym (⊠-one (num i.n))) width) (num-⊑ (go i.hi i.lo i.n (le_true _ _ e) r.one))
  where
    go : (h l n : ℤ) → pos 8 *ℤ (h -ℤ l) ≼ n → pos 1 ≼ n → h -ℤ l ≼ n
    go = by⊖ _ λ p p'. by⊖ _ λ q q'. by⊖ _ λ r r'. simp zz (omega arith)

    width : num (i.hi -ℤ i.lo) ≡ at i.hi (pos 0) ⊟ at i.lo (pos 0)
    width = num-+ i.hi (neg_ℤ i.lo) ∙ ap (λ x. num i.hi ⊞ x) (num_neg i.lo) ∙ ap₂ ◌⊟◌ (num_parts i.hi) (num_parts i.lo)

-- ---- the pairs there are those here
pub record Turns (i j : Interval) (c : Scaled) : Type 0 where
  pub ready : Ready c
  pub out : (z : RootTwo) → solved c.f c.g z ≡ true → solves i j (back_of c z).p (back_of c z).q ≡ true
  pub same : (a b : ℤ) → solves i j a b ≡ solved c.f c.g (there_of c (at a b))
  pub back : (a b : ℤ) → back_of c (there_of c (at a b)) ≡ at a b

conj_q : (w : RootTwo) → ((conj w).p ≡ w.p) × ((conj w).q ≡ neg_ℤ w.q)
conj_q w = (ap (λ (x : RootTwo). x.p) (conj_parts w), ap (λ (x : RootTwo). x.q) (conj_parts w))

within-turned : (k : ℤ) (w : RootTwo) → Within k w.p w.q → Within k (conj w).p (conj w).q
within-turned k w h =
    subst₂ (Within k) (sym (conj_q w).0) (sym (conj_q w).1)
    (record { a-from = h.a-from; a-to = h.a-to; b-from = low k w.q h.b-to; b-to = high k w.q h.b-from })
  where
    low : (k b : ℤ) → b ≼ k → neg_ℤ k ≼ neg_ℤ b
    low = by⊖ _ λ p p'. by⊖ _ λ q q'. simp zz (omega arith)

    high : (k b : ℤ) → neg_ℤ k ≼ b → neg_ℤ b ≼ k
    high = by⊖ _ λ p p'. by⊖ _ λ q q'. simp zz (omega arith)

-- the steps for one α₀ and one power of λ
module _ (i j : Interval) (ok : accepted i j ≡ true) (o u : RootTwo) (o-size : Sized whole o) (e : Even u) (u-size : Sized size_of_unit u) where
  abbrev s : Band
  s = strip_of i

  abbrev t : Band
  t = strip_of j

  abbrev f : Band
  f = first_of s o u

  abbrev g : Band
  g = second_of t o u

  shift-first : Ends shifted (shift_of s o)
  shift-first = shift-ends s o (interval_ends i (both-ranged i j ok).0) o-size

  shift-second : Ends shifted (shift_of t (conj o))
  shift-second = shift-ends t (conj o) (interval_ends j (both-ranged i j ok).1) (conj_size whole o o-size)

  first-scaled : Ends scaled f
  first-scaled = times-ends (shift_of s o) u shift-first u-size

  second-scaled : Ends scaled g
  second-scaled = times-ends (shift_of t (conj o)) (conj u) shift-second (conj_size size_of_unit u u-size)

  f-nn : pos 0 ≼ f.m
  f-nn = ≼_trans (pos 0) (pos 1) f.m (record { le = tt }) first-scaled.one

  g-nn : pos 0 ≼ g.m
  g-nn = ≼_trans (pos 0) (pos 1) g.m (record { le = tt }) second-scaled.one

  rows-size : Small (rows_band f g)
  rows-size =
      record {
        scale = omega (arith, size-*≤ (pos 2 *ℤ f.m) g.m 400 200 (size-*≤ (pos 2) f.m 2 200 (omega arith) first-scaled.scale) second-scaled.scale);
        positive = nn-* (pos 2 *ℤ f.m) g.m (nn-* (pos 2) f.m (record { le = tt }) f-nn) g-nn;
        lo = combined_size g.m f.m f.lo g.lo 200 scaled 200 scaled (2 ^ 60) second-scaled.scale first-scaled.lo first-scaled.scale second-scaled.lo (omega arith);
        hi = combined_size g.m f.m f.hi g.hi 200 scaled 200 scaled (2 ^ 60) second-scaled.scale first-scaled.hi first-scaled.scale second-scaled.hi (omega arith);
      }

  -- a pair there, back here
  module _ (z : RootTwo) (hz : solved f g z ≡ true) where
    unscaled : solved s t (origin o u z) ≡ true
    unscaled = steps_hold s t o u (origin o u z) e ∙ ap (solved f g) (image-origin o u z e) ∙ hz

    pair : solves i j (origin o u z).p (origin o u z).q ≡ true
    pair = solves-solved i j (origin o u z).p (origin o u z).q ∙ unscaled

    box : Within (pos bound) (origin o u z).p (origin o u z).q
    box = solution_within i j ok (origin o u z).p (origin o u z).q pair

    -- sizes of the scaled pair
    image-size : Sized (2 ^ 31) z
    image-size =
        let h = box in
        let b : Sized 10000 (origin o u z) = record { p = size-within bound _ h.a-from h.a-to; q = size-within bound _ h.b-from h.b-to } in
        subst (Sized (2 ^ 31)) (image-origin o u z e) (product-size u _ size_of_unit 42768 u-size (less-size 10000 whole 42768 (origin o u z) o b o-size (omega arith)) (2 ^ 31) (omega arith))

  there-same : (a b : ℤ) → solves i j a b ≡ solved f g (image o u (at a b))
  there-same a b = solves-solved i j a b ∙ steps_hold s t o u (at a b) e

  -- ---- a thin second side
  module _ (narrow : Wide (pos 1) t) (wide : Wide (pos 2) g) (turned : Bool) where
    abbrev c : Scaled
    c = scaled_of s t true turned o u

    rising : (z v : RootTwo) → solved f g z ≡ true → solved f g v ≡ true → Before (back_of c v) (back_of c z) → NotBefore z v → ⊥
    rising z v hz hv b n = go turned b
      where
        zb : RootTwo
        zb = origin o u z

        vb : RootTwo
        vb = origin o u v

        by-p : vb.p ≺ zb.p → ⊥
        by-p l = rises s t o u e shift-second.one narrow wide zb vb (unscaled z hz) (unscaled v hv) l (subst₂ NotBefore (sym (image-origin o u z e)) (sym (image-origin o u v e)) n)

        by-q : vb.p ≡ zb.p → (vb.q ≺ zb.q) ⊎ (zb.q ≺ vb.q) → ⊥
        by-q l k = same_row s t shift-second.one narrow vb zb (unscaled v hv) (unscaled z hz) l k

        opposite : (a b : ℤ) → neg_ℤ a ≺ neg_ℤ b → b ≺ a
        opposite = by⊖ _ λ p p'. by⊖ _ λ q q'. simp zz (omega arith)

        go : (x : Bool) → Before (back_by x vb) (back_by x zb) → ⊥
        go false (inl l) = by-p l
        go false (inr l) = by-q l.0 (inl l.1)
        go true (inl l) = by-p (subst₂ ◌≺◌ (conj_q vb).0 (conj_q zb).0 l)
        go true (inr l) = by-q (sym (conj_q vb).0 ∙ l.0 ∙ (conj_q zb).0) (inr (opposite vb.q zb.q (subst₂ ◌≺◌ (conj_q vb).1 (conj_q zb).1 l.1)))

    back_p : (x : Bool) (w : RootTwo) → (back_by x w).p ≡ w.p
    back_p true w = (conj_q w).0
    back_p false w = refl

    back_in : (x : Bool) (w : RootTwo) → Within (pos bound) w.p w.q → Within (pos bound) (back_by x w).p (back_by x w).q
    back_in true w h = within-turned (pos bound) w h
    back_in false w h = h

    ready-thin : Ready c
    ready-thin = record {
      first = first-scaled;
      second = second-scaled;
      shift = shift-second;
      rows = rows-size;
      unit_size = u-size;
      origin-size = o-size;
      half = omega arith;
      plain = λ h. absurd (false≢true (sym h));
      rising = rising;
      last = λ z hz. row_last f g z f-nn g-nn hz;
      from = λ h a z hz l.
          subst (λ x. above (rows_of t o u (coordinate a) (coordinate 20000)) (at x.p (pos 0)) ≡ true) (image-origin o u z e)
          (row_from s t o u e shift-second.one (origin o u z) (unscaled z hz) (coordinate a) (coordinate 20000) (subst (λ k. coordinate a ≼ k) (back_p turned (origin o u z)) l));
      inside = λ z hz. back_in turned (origin o u z) (box z hz);
      size = λ z hz. let b = image-size z hz in (omega (arith, b.p), omega (arith, b.q));
    }

-- ---- the three ways of the code
module _ (i j : Interval) (ok : accepted i j ≡ true) (c : Scaled) where
  chosen-wide : (t : Band) (o u : RootTwo) → pos 1 ≼ t.m → Wide (pos 1) t → Chosen (shift_of t (conj o)) true u → Wide (pos 2) (second_of t o u)
  chosen-wide t o u one n h = ⊎_elim (λ k. wide-one t o u one k n) (λ k. k) h.wide

  pub turns_second : Wide (pos 1) (strip_of j) → Stepped (strip_of i) (strip_of j) true false c → Turns i j c
  turns_second n h =
      let e = h.unit.even in
      let z = (both-ranged i j ok).1.one in
      subst (Turns i j) (sym h.is)
      (record {
        ready = ready-thin i j ok c.o c.u h.origin-size e h.unit.size n (chosen-wide (strip_of j) c.o c.u z n h.unit) false;
        out = λ z hz. pair i j ok c.o c.u h.origin-size e h.unit.size z hz;
        same = there-same i j ok c.o c.u h.origin-size e h.unit.size;
        back = λ a b. origin-image c.o c.u (at a b) e;
      })

  pub turns_first : Wide (pos 1) (strip_of i) → Stepped (strip_of j) (strip_of i) true true c → Turns i j c
  turns_first n h =
      let e = h.unit.even in
      let k = accepted-turned i j ok in
      let z = (both-ranged i j ok).0.one in
      subst (Turns i j) (sym h.is)
      (record {
        ready = ready-thin j i k c.o c.u h.origin-size e h.unit.size n (chosen-wide (strip_of i) c.o c.u z n h.unit) true;
        out = λ z hz.
            let w = origin c.o c.u z in
            subst₂ (λ a b. solves i j a b ≡ true) (sym (conj_q w).0) (sym (conj_q w).1) (solves-turned j i w.p w.q (pair j i k c.o c.u h.origin-size e h.unit.size z hz));
        same = λ a b.
            turned_same i j a b ∙ there-same j i k c.o c.u h.origin-size e h.unit.size a (neg_ℤ b)
            ∙ ap (λ w. solved (first_of (strip_of j) c.o c.u) (second_of (strip_of i) c.o c.u) (image c.o c.u w)) (sym (conj_parts (at a b)));
        back = λ a b. ap conj (origin-image c.o c.u (conj (at a b)) e) ∙ conj_conj (at a b);
      })

  pub turns_plain : Stepped (strip_of i) (strip_of j) false false c → Turns i j c
  turns_plain h =
      let o = at (pos 0) (pos 0) in
      let u = at (pos 1) (pos 0) in
      let d : Stepped (strip_of i) (strip_of j) false false c = h in
      let is : c ≡ scaled_of (strip_of i) (strip_of j) false false o u = h.is ∙ ap₂ (scaled_of (strip_of i) (strip_of j) false false) (h.origin-plain refl) (h.unit.plain refl) in
      let e : Even u = subst Even (h.unit.plain refl) h.unit.even in
      let o-size : Sized whole o = record { p = omega arith; q = omega arith } in
      let u-size : Sized size_of_unit u = record { p = omega arith; q = omega arith } in
      let p = pair i j ok o u o-size e u-size in
      let b = box i j ok o u o-size e u-size in
      subst (Turns i j) (sym is)
      (record {
        ready = record {
          first = first-scaled i j ok o u o-size e u-size;
          second = second-scaled i j ok o u o-size e u-size;
          shift = shift-second i j ok o u o-size e u-size;
          rows = rows-size i j ok o u o-size e u-size;
          unit_size = u-size;
          origin-size = o-size;
          half = omega arith;
          plain = λ _. (refl, same);
          rising = λ z v hz hv l n. before-not _ _ (subst₂ Before (same v) (same z) l) n;
          last = λ z hz. row_last (first_of (strip_of i) o u) (second_of (strip_of j) o u) z (f-nn i j ok o u o-size e u-size) (g-nn i j ok o u o-size e u-size) hz;
          from = λ k. absurd (false≢true k);
          inside = b;
          size = λ z hz. let w = subst (λ v. Within (pos bound) v.p v.q) (same z) (b z hz) in (omega (arith, size-within bound _ w.a-from w.a-to), omega (arith, size-within bound _ w.b-from w.b-to));
        };
        out = p;
        same = there-same i j ok o u o-size e u-size;
        back = λ a b. origin-image o u (at a b) e;
      })
    where
      same : (z : RootTwo) → origin (at (pos 0) (pos 0)) (at (pos 1) (pos 0)) z ≡ z
      same z = ap₂ (λ x y. x ⊠ z ⊞ y) (ap conj (sym (num_parts (pos 1))) ∙ conj_num (pos 1)) (sym (num_parts (pos 0))) ∙ step z
        where
          step : (z : RootTwo) → num (pos 1) ⊠ z ⊞ num (pos 0) ≡ z
          step z = by_ring ring√ (z ∷ []) (search poly depth 30) refl
