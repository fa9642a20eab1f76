-- The walk through the pairs of the scaled problem, by a' and then b': it passes over no pair from a given place on, and the first that it meets is the first of them.
use Rattle.std.specs.Prelude.{◌≡◌, refl, true, false, ◌&&◌, ℕ, ◌+◌, ◌*◌, ◌^◌, ◌≤◌, ◌<◌, ℤ, pos, nat_abs, ◌+ℤ◌, ◌-ℤ◌, ◌*ℤ◌}
use Rattle.std.proofs.Common.{sym, ◌∙◌, ap, subst, inl, inr, zero-le, le_of_eq, arith, lt→ltb}
use Rattle.std.proofs.lemmas.Bool.{false≢true}
use Rattle.std.proofs.Math.Decide.{dec_lt}
use Rattle.integers.specs.Difference.{by⊖, zz, ◌≼◌, ◌≺◌}
use Rattle.integers.specs.lemmas.Order.{≼_trans, ≼-antisym, ≺→≼, ≺-irrefl}
use Rattle.integers.specs.lemmas.Size.{size--, size-*≤}
use Rattle.ring.specs.declared.RootTwo.{RootTwo}
use Rattle.ring.specs.RootTwo.{conj, ext}
use Rattle.ring.specs.RootTwo.Sized.{sized_more}
use Rattle.line_rows.specs.declared.Band.{Band}
use Rattle.line_rows.specs.Row.{at, coordinate, coordinate-mono, pair_at, above, below, below-anti, whole-⊑, lower, upper, Small, First, Digit, digit-of}
use Rattle.line_rows.specs.Row as Row
use Rattle.line_rows.specs.lemmas.Both.{regroup}
use Rattle.line_rows.specs.Steps.{solved}
use Rattle.line_steps.specs.declared.Digits.{Digits}
use Rattle.line_steps.specs.declared.Scaled.{Scaled}
use Rattle.line_steps.specs.Line.{bound, span}
use Rattle.line_steps.specs.Line as Line
use Rattle.line_steps.specs.Bounds.{Within}
use Rattle.line_steps.specs.Past.{past_of, from_past, at-past, past-some}
use Rattle.line_steps.specs.Narrow.{NotBefore}
use Rattle.line_steps.specs.Sized.{Sized, Ends, whole, shifted, scaled, row_end, size_of_unit, small, end-size, coordinate-size}
use Rattle.line_steps.specs.Scaled.{Near, Inside, point_of, Before, back_of, rows_from, FoundAt}

-- ---- digits, and their order
module _ (h : ℕ) where
  digit-≺ : (x y : ℕ) → x < y → coordinate h x ≺ coordinate h y
  digit-≺ x y l = go (pos x) (pos y) (pos h) (record { lt = lt→ltb x y l })
    where
      go : (x y h : ℤ) → x ≺ y → x -ℤ h ≺ y -ℤ h
      go = by⊖ _ λ p p'. by⊖ _ λ q q'. by⊖ _ λ r r'. simp zz (omega arith)

  pub ≺-digit : (x y : ℕ) → coordinate h x ≺ coordinate h y → x < y
  ≺-digit x y l = go (dec_lt x y)
    where
      go : Dec (x < y) → x < y
      go (yes k) = k
      go (no k) = absurd (≺-irrefl _ _ l (coordinate-mono h y x (omega arith)))

  pub ≼-digit : (x y : ℕ) → coordinate h x ≼ coordinate h y → x ≤ y
  ≼-digit x y l = go (dec_lt y x)
    where
      go : Dec (y < x) → x ≤ y
      go (yes k) = absurd (≺-irrefl _ _ (digit-≺ y x k) l)
      go (no k) = omega arith

pub ≡→≼ : (a b : ℤ) → a ≡ b → a ≼ b
≡→≼ = by⊖ _ λ p p'. by⊖ _ λ q q'. simp zz (omega arith)

pub before-not : (w v : RootTwo) → Before w v → NotBefore v w → ⊥
before-not w v (inl h) (inl k) = ≺-irrefl _ _ h (≺→≼ _ _ k)
before-not w v (inl h) (inr k) = ≺-irrefl _ _ h (≡→≼ _ _ k.0)
before-not w v (inr h) (inl k) = ≺-irrefl _ _ k (≡→≼ _ _ h.0)
before-not w v (inr h) (inr k) = ≺-irrefl _ _ h.1 k.1

-- ---- rows
pub solved-row : (s t : Band) (a b : ℤ) → solved s t (at a b) ≡ lower s t a b && upper s t a b
solved-row s t a b = regroup (above s (at a b)) (below s (at a b)) (above t (conj (at a b))) (below t (conj (at a b)))

pub near : (s t : Band) (h x y : ℕ) → Ends scaled s → Ends scaled t → h ≤ 2 ^ 32 → x ≤ 2 ^ 40 → y ≤ 2 ^ 40 → Row.Near s t h x y
near s t h x y e f l i k = record { first = small scaled s (omega arith) e; second = small scaled t (omega arith) f; middle = omega arith; row = i; column = k }

-- the first pair of the row x from y on, or the number of digits
pub record InRow (s t : Band) (h x y r : ℕ) : Type 0 where
  pub from : y ≤ r
  pub within : r ≤ 2 * h
  pub before : (k : ℕ) → y ≤ k → k < r → solved s t (pair_at h x k) ≡ false
  pub found : r < 2 * h → solved s t (pair_at h x r) ≡ true

-- ---- what the walk is given
pub record Ready (c : Scaled) : Type 0 where
  pub first : Ends scaled c.f
  pub second : Ends scaled c.g
  pub shift : Ends shifted c.t
  pub rows : Small c.rows
  pub unit_size : Sized size_of_unit c.u
  pub origin-size : Sized whole c.o
  pub half : c.half ≤ 2 ^ 32
  -- where nothing is scaled, nothing is moved
  pub plain : c.thin ≡ false → (c.half ≡ 10001) × ((z : RootTwo) → back_of c z ≡ z)
  -- the order of the pairs is that of the scaled ones
  pub rising : (z v : RootTwo) → solved c.f c.g z ≡ true → solved c.f c.g v ≡ true → Before (back_of c v) (back_of c z) → NotBefore z v → ⊥
  pub last : (z : RootTwo) → solved c.f c.g z ≡ true → below c.rows (at z.p (pos 0)) ≡ true
  pub from : c.thin ≡ true → (a : ℕ) (z : RootTwo) → solved c.f c.g z ≡ true → Line.coordinate a ≼ (back_of c z).p → above (rows_from c a) (at z.p (pos 0)) ≡ true
  pub inside : (z : RootTwo) → solved c.f c.g z ≡ true → Within (pos bound) (back_of c z).p (back_of c z).q
  pub size : (z : RootTwo) → solved c.f c.g z ≡ true → (nat_abs z.p < c.half) × (nat_abs z.q < c.half)

-- all pairs from p on lie from (x, y) on
abbrev pub Ahead : Scaled → Digits → ℕ → ℕ → Type 0
Ahead c p x y = (z : RootTwo) → solved c.f c.g z ≡ true → NotBefore (point_of p) (back_of c z) → NotBefore (pair_at c.half x y) z

pub record Begun (c : Scaled) (p q : Digits) : Type 0 where
  pub row : q.a ≤ 2 * c.half
  pub column : q.b ≤ 2 * c.half
  pub ahead : Ahead c p q.a q.b

-- the digits of a coordinate within ±10,000
past_is : (z : ℤ) → (l : Line.coordinate 0 ≼ z) → z ≼ pos bound → (past_of z < span) × (Line.coordinate (past_of z) ≡ z)
past_is z l h =
    let b = past-some z l h in
    let i : past_of z < span = omega (arith, b.1, b.2) in
    (i, ≼-antisym _ _ (at-past z l) (from_past z (past_of z) i (le_of_eq refl)))

module _ (c : Scaled) (ready : Ready c) (p : Digits) where
  abbrev h : ℕ
  h = c.half

  from_row : (z : RootTwo) → solved c.f c.g z ≡ true → (x : ℕ) (d : Digit h z.p) → x ≤ d.digit → NotBefore (pair_at h x 0) z
  from_row z hz x d l = go (dec_lt x d.digit)
    where
      e : Digit h z.q
      e = digit-of h z.q (ready.size z hz).1

      go : Dec (x < d.digit) → NotBefore (pair_at h x 0) z
      go (yes k) = inl (subst (λ j. coordinate h x ≺ j) d.stands (digit-≺ h x d.digit k))
      go (no k) =
          let same : x ≡ d.digit = omega arith in
          inr (ap (coordinate h) same ∙ d.stands, subst (λ j. coordinate h 0 ≼ j) e.stands (coordinate-mono h 0 e.digit zero-le))

  row-digit : (z : RootTwo) → solved c.f c.g z ≡ true → Digit h z.p
  row-digit z hz = digit-of h z.p (ready.size z hz).0

  -- ---- where the rows begin
  not-before-p : (w : RootTwo) → NotBefore (point_of p) w → Line.coordinate p.a ≼ w.p
  not-before-p w (inl k) = ≺→≼ _ _ k
  not-before-p w (inr k) = ≡→≼ _ _ k.0

  pub begun-row : c.thin ≡ true → (r : ℕ) → First h (2 * h) (rows_from c p.a) r → Ahead c p r 0
  begun-row t r l z hz n = from_row z hz r d (go (dec_lt d.digit r))
    where
      d : Digit h z.p
      d = row-digit z hz

      go : Dec (d.digit < r) → r ≤ d.digit
      go (yes k) = absurd (false≢true (sym (l.before d.digit zero-le k) ∙ ap (λ j. above (rows_from c p.a) (at j (pos 0))) d.stands ∙ ready.from t p.a z hz (not-before-p _ n)))
      go (no k) = omega arith

  pub begun-plain : c.thin ≡ false → Ahead c p (p.a + 1) (p.b + 1)
  begun-plain t z hz n =
      let (e, back) = ready.plain t in
      subst (λ w. NotBefore w z) (sym (ext (same p.a e) (same p.b e))) (subst (NotBefore (point_of p)) (back z) n)
    where
      moved : (x : ℤ) → x +ℤ pos 1 -ℤ pos 10001 ≡ x -ℤ pos bound
      moved = by⊖ _ λ p p'. simp zz (omega arith)

      same : (x : ℕ) → h ≡ 10001 → coordinate h (x + 1) ≡ Line.coordinate x
      same x e = ap (λ k. coordinate k (x + 1)) e ∙ moved (pos x)

  -- ---- one row
  module _ (x y r : ℕ) (ahead : Ahead c p x y) (l : InRow c.f c.g h x y r) where
    -- a pair of the row from y on is at r or later
    from-column : (z : RootTwo) → solved c.f c.g z ≡ true → coordinate h x ≡ z.p → coordinate h y ≼ z.q → (d : Digit h z.q) → r ≤ d.digit
    from-column z hz e k d = go (dec_lt d.digit r)
      where
        go : Dec (d.digit < r) → r ≤ d.digit
        go (yes i) =
            absurd (false≢true
            (sym (l.before d.digit (≼-digit h y d.digit (subst (λ j. coordinate h y ≼ j) (sym d.stands) k)) i) ∙ ap (solved c.f c.g) (ext e d.stands) ∙ hz))
        go (no i) = omega arith

    column-digit : (z : RootTwo) → solved c.f c.g z ≡ true → Digit h z.q
    column-digit z hz = digit-of h z.q (ready.size z hz).1

    pub ahead-row : 2 * h ≤ r → Ahead c p (x + 1) 0
    ahead-row k z hz n = go (ahead z hz n)
      where
        go : NotBefore (pair_at h x y) z → NotBefore (pair_at h (x + 1) 0) z
        go (inl i) =
            let d = row-digit z hz in
            let b = ≺-digit h x d.digit (subst (λ j. coordinate h x ≺ j) (sym d.stands) i) in
            from_row z hz (x + 1) d (omega arith)
        go (inr i) = let d = column-digit z hz in let b = from-column z hz i.0 i.1 d in let j = d.inside in absurd (omega arith)

    pub ahead-column : Before (back_of c (pair_at h x r)) (point_of p) → Ahead c p x (r + 1)
    ahead-column k z hz n = go (ahead z hz n)
      where
        go : NotBefore (pair_at h x y) z → NotBefore (pair_at h x (r + 1)) z
        go (inl i) = inl i
        go (inr i) = next (dec_lt r d.digit)
          where
            d : Digit h z.q
            d = column-digit z hz

            b : r ≤ d.digit
            b = from-column z hz i.0 i.1 d

            next : Dec (r < d.digit) → NotBefore (pair_at h x (r + 1)) z
            next (yes j) = inr (i.0, subst (λ w. coordinate h (r + 1) ≼ w) d.stands (coordinate-mono h (r + 1) d.digit (omega arith)))
            next (no j) =
                let same : r ≡ d.digit = omega (arith, b) in
                let e : z ≡ pair_at h x r = sym (ext i.0 (ap (coordinate h) same ∙ d.stands)) in
                absurd (before-not _ _ k (subst (λ w. NotBefore (point_of p) (back_of c w)) e n))

    pub found_here : r < 2 * h → (w : RootTwo) → w ≡ back_of c (pair_at h x r) → NotBefore (point_of p) w → (q : Digits) → q.a ≡ past_of w.p → q.b ≡ past_of w.q → FoundAt c p q
    found_here k w e n q f g =
        record {
          inside = record { a_in = subst (λ i. i < span) (sym f) a.0; b-in = subst (λ i. i < span) (sym g) b.0 };
          pair = pair_at h x r;
          solves = l.found k;
          is = sym e ∙ place;
          from = subst (NotBefore (point_of p)) place n;
          none = λ z hz m o. ready.rising (pair_at h x r) z (l.found k) hz (subst (Before (back_of c z)) (sym place ∙ e) o) (go z hz (ahead z hz m));
        }
      where
        box : Within (pos bound) w.p w.q
        box = subst (λ v. Within (pos bound) v.p v.q) (sym e) (ready.inside (pair_at h x r) (l.found k))

        a : (past_of w.p < span) × (Line.coordinate (past_of w.p) ≡ w.p)
        a = past_is w.p box.a-from box.a-to

        b : (past_of w.q < span) × (Line.coordinate (past_of w.q) ≡ w.q)
        b = past_is w.q box.b-from box.b-to

        place : w ≡ point_of q
        place = ext (sym (ap Line.coordinate f ∙ a.1)) (sym (ap Line.coordinate g ∙ b.1))

        go : (z : RootTwo) → solved c.f c.g z ≡ true → NotBefore (pair_at h x y) z → NotBefore (pair_at h x r) z
        go z hz (inl i) = inl i
        go z hz (inr i) =
            let d = column-digit z hz in
            inr (i.0, subst (λ j. coordinate h r ≼ j) d.stands (coordinate-mono h r d.digit (from-column z hz i.0 i.1 d)))

  -- ---- nothing is left once the rows are past
  module _ (x y : ℕ) (ahead : Ahead c p x y) where
    row-≼ : (z : RootTwo) → solved c.f c.g z ≡ true → NotBefore (point_of p) (back_of c z) → coordinate h x ≼ z.p
    row-≼ z hz n = go (ahead z hz n)
      where
        go : NotBefore (pair_at h x y) z → coordinate h x ≼ z.p
        go (inl k) = ≺→≼ _ _ k
        go (inr k) = ≡→≼ _ _ k.0

    pub ended-top : 2 * h ≤ x → (z : RootTwo) → solved c.f c.g z ≡ true → NotBefore (point_of p) (back_of c z) → ⊥
    ended-top k z hz n = let d = row-digit z hz in let i = d.inside in omega (arith, ≼-digit h x d.digit (subst (λ j. coordinate h x ≼ j) (sym d.stands) (row-≼ z hz n)))

    pub ended-rows : below c.rows (at (coordinate h x) (pos 0)) ≡ false → (z : RootTwo) → solved c.f c.g z ≡ true → NotBefore (point_of p) (back_of c z) → ⊥
    ended-rows k z hz n =
        false≢true (sym k ∙ below-anti c.rows (at (coordinate h x) (pos 0)) (at z.p (pos 0)) ready.rows.positive (whole-⊑ (coordinate h x) z.p (row-≼ z hz n)) (ready.last z hz))

  -- ---- p itself is a pair of a problem that is not scaled
  pub found_plain : c.thin ≡ false → solved c.f c.g (point_of p) ≡ true → FoundAt c p p
  found_plain t s =
      let back = (ready.plain t).1 in
      let w = subst (λ v. Within (pos bound) v.p v.q) (back (point_of p)) (ready.inside (point_of p) s) in
      record {
        inside = record { a_in = top p.a w.a-to; b-in = top p.b w.b-to };
        pair = point_of p;
        solves = s;
        is = back (point_of p);
        from = inr (refl, ≡→≼ _ _ refl);
        none = λ z hz n b. before-not _ _ b n;
      }
    where
      top : (x : ℕ) → Line.coordinate x ≼ pos bound → x < span
      top x l = let i = ≼-digit bound x 20000 l in omega arith

  -- ---- sizes of the strip of rows
  pub rows_small : p.a ≤ span → Small (rows_from c p.a)
  rows_small l =
      record {
        scale = omega (arith, m);
        positive = double c.t.m ready.shift.one;
        lo = sized_more row_end (2 ^ 60) _ (omega arith) (end-size c.u _ _ _ ready.unit_size (reach p.a l) ready.shift.hi ready.second.lo).2;
        hi = sized_more row_end (2 ^ 60) _ (omega arith) (end-size c.u _ _ _ ready.unit_size (reach 20000 (omega arith)) ready.shift.lo ready.second.hi).2;
      }
    where
      double : (m : ℤ) → pos 1 ≼ m → pos 0 ≼ pos 2 *ℤ m
      double = by⊖ _ λ p p'. simp zz (omega arith)

      m : nat_abs (pos 2 *ℤ c.t.m) ≤ 400
      m = size-*≤ (pos 2) c.t.m 2 200 (omega arith) ready.shift.scale

      reach : (x : ℕ) → x ≤ span → nat_abs (pos 2 *ℤ c.t.m *ℤ (Line.coordinate x -ℤ c.o.p)) ≤ shifted
      reach x h =
          let d : nat_abs (Line.coordinate x -ℤ c.o.p) ≤ 62769 = omega (arith, size-- (Line.coordinate x) c.o.p, coordinate-size bound x 30001 (omega arith), ready.origin-size.p) in
          omega (arith, size-*≤ (pos 2 *ℤ c.t.m) (Line.coordinate x -ℤ c.o.p) 400 62769 m d)
