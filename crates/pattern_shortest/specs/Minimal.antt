-- No u and t that solve the equation, with u in A and its conjugate in B, up to the top scale, have a smaller m than the pattern's: SPEC, "Shortest pattern".
use Rattle.std.specs.Prelude.{◌≡◌, refl, Bool, true, not, List, [], ◌∷◌, ◌↔◌, ℕ, zero, suc, ◌+◌, ◌≤◌, ◌<◌, Option, Some, None}
use Rattle.std.proofs.Common.{sym, ap, subst, ◌∙◌, arith, eqb-true}
use Rattle.std.proofs.lemmas.Bool.{false≢true}
use mathlib.Core.List.Memᴰ
use Rattle.std.proofs.Math.Decide.{dec_lt}
use Rattle.ring.specs.declared.Point.{Point}
use Rattle.ring.specs.Point.Divide.{divide_root2, halves, divide_whole}
use Rattle.ring.specs.Point.Exponent.{exponent_of, exponent_zero, exponent_not, pulse_count}
use Rattle.ranks.specs.Rest.{is_nil}
use Rattle.ranks.specs.Rank.{top}
use Rattle.ranks.proofs.Members.{rest-sound}
use Rattle.ring_points.specs.Digits.{span}
use Rattle.ring_points.specs.Points.{Fits32, point_of}
use Rattle.ring_points.specs.Listed.{passing, all_hold}
use Rattle.region.specs.declared.Job.{Job}
use Rattle.region.specs.Region.{top_scale, solves}
use Rattle.region.specs.lemmas.Membership.{solves-true}
use Rattle.region.specs.Selection.{is_new, is_listed, listed-selected, new_zero, new_not, exponent_most}
use Rattle.entry_equation.specs.Equation.{completes}
use Rattle.entry.specs.Entry.{full}
use Rattle.entry_equation.specs.Size.{within-bound, given-within}
use Rattle.entry.specs.Full.{full-holds, within-fits}
use Rattle.pattern_shortest.specs.declared.Pattern.{Pattern}
use Rattle.pattern_shortest.specs.declared.Pattern.TheVariants as P
use Rattle.pattern_pairing.specs.declared.Found.{Found}
use Rattle.pattern_pairing.specs.declared.Found.TheVariants as F
use Rattle.pattern_shortest.specs.Pattern.{at, has_entry, qualifies, pair_of, first_of, found_at, or_else, from_scale, pattern_of}
use Rattle.pattern_shortest.specs.lemmas.Pair.{over-both, step, m_rises}
use Rattle.pattern_shortest.specs.lemmas.Scale.{scale-law}
use Rattle.pattern_pairing.specs.Disk.{head_completes, entry_completes, qualifies-listed, qualifies-entry, qualifies-solves}

-- u in A and its conjugate in B, and u and t solve the equation of SPEC, "Other entry", at scale i
pub record Pairs (j : Job) (i : ℕ) (u t : Point) : Type 0 where
  pub inside : solves (at j i) u ≡ true
  pub equation : completes i u t ≡ true

-- ---- a pair at scale i is one at its exponent, where u is new
has_entry_lem : (k : ℕ) (v w : Point) → k ≤ top_scale → completes k v w ≡ true → has_entry k v ≡ true
has_entry_lem k v w ok e = go (full k v) refl
  where
    go : (l : List ℕ) → full k v ≡ l → not (is_nil l) ≡ true
    go [] f = let h = (full-holds k ok v w).0 e in absurd (Memᴰ.not-nil (rw f at h.held))
    go (r ∷ l) f = refl

qualified : (j : Job) (i : ℕ) (u t : Point) → Pairs j i u t → is_new i u ≡ true → qualifies (at j i) u ≡ true
unfolding qualifies
qualified j i u t p new = rw (is_listed (at j i) u new p.inside, has_entry_lem i u t (solves-true (at j i) u p.inside).scale p.equation) refl

pub record Qualified (j : Job) (e : ℕ) : Type 0 where
  pub point : Point
  pub is : qualifies (at j e) point ≡ true

pub reduced : (j : Job) (i : ℕ) (u t : Point) → Pairs j i u t → Qualified j (exponent_of i u)
reduced j zero u t p = rw (exponent_zero u) (record { point = u; is = qualified j 0 u t p (new_zero 0 u refl) })
reduced j (suc i) u t p = go (divide_root2 u) refl (λ x y q. reduced j i x y q)
  where
    go : (q : Option Point) → divide_root2 u ≡ q → ((x y : Point) → Pairs j i x y → Qualified j (exponent_of i x)) → Qualified j (exponent_of (suc i) u)
    go (Some x) d ih =
        subst (Qualified j) (sym (step i u x d))
        (ih x (halves t) (record {
          inside = sym (scale-law j i u x (solves-true (at j (suc i)) u p.inside).scale (divide_whole u x d)) ∙ p.inside;
          equation = over-both i u t x p.equation d;
        }))
    go None d ih = subst (Qualified j) (exponent_not (suc i) u (omega arith) d) (record { point = u; is = qualified j (suc i) u t p (new_not (suc i) u d) })

-- ---- what is found at one scale
qualifies-fits : (j : Job) (v : Point) → qualifies j v ≡ true → Fits32 v
qualifies-fits j v h =
    let c = entry_completes j.k v (qualifies-entry j v h) in
    within-fits v (within-bound j.k (solves-true j v (qualifies-solves j v h)).scale v (given-within j.k v c.w c.is))

listed-qualifies : (j : Job) (r : ℕ) (l : List ℕ) → passing (qualifies j) 0 ≡ r ∷ l → qualifies j (point_of r) ≡ true
listed-qualifies j r l e = (rest-sound (λ r. qualifies j (point_of r)) (top span) 0 r (rw e (Memᴰ.head refl))).2

some-found : (j : Job) (v : Point) → qualifies j v ≡ true → found_at j ≡ F.Missing → ⊥
unfolding found_at
some-found j v h e = go (passing (qualifies j) 0) refl
  where
    one : (r : ℕ) (l : List ℕ) → full j.k (point_of r) ≡ l → not (is_nil l) ≡ true → pair_of (point_of r) l ≡ F.Missing → ⊥
    one r [] f n m = false≢true n
    one r (s ∷ l) f n m = let z : ◌≡◌ {A = ℕ} 0 1 = cc in omega arith

    go : (l : List ℕ) → passing (qualifies j) 0 ≡ l → ⊥
    go [] f = let m = (all_hold (qualifies j) (qualifies-fits j) v).0 h in Memᴰ.not-nil (rw f at m.held)
    go (r ∷ l) f = one r (full j.k (point_of r)) refl (qualifies-entry j (point_of r) (listed-qualifies j r l f)) (ap (first_of j.k) (sym f) ∙ e)

found-sound : (j : Job) (u t : Point) → found_at j ≡ F.At u t → (qualifies j u ≡ true) × (completes j.k u t ≡ true)
unfolding found_at
found-sound j u t e = go (passing (qualifies j) 0) refl
  where
    one : (r : ℕ) (l : List ℕ) → qualifies j (point_of r) ≡ true → full j.k (point_of r) ≡ l → pair_of (point_of r) l ≡ F.At u t → (qualifies j u ≡ true) × (completes j.k u t ≡ true)
    one r [] q f m = let z : ◌≡◌ {A = ℕ} 0 1 = cc in absurd (omega arith)
    one r (s ∷ l) q f m =
        let x : point_of r ≡ u = cc in
        let y : point_of s ≡ t = cc in
        (ap (qualifies j) (sym x) ∙ q, subst (λ v. completes j.k v t ≡ true) x (subst (λ w. completes j.k (point_of r) w ≡ true) y (head_completes j.k (point_of r) s l f)))

    go : (l : List ℕ) → passing (qualifies j) 0 ≡ l → (qualifies j u ≡ true) × (completes j.k u t ≡ true)
    go [] f = let m : F.Missing ≡ F.At u t = ap (first_of j.k) (sym f) ∙ e in let z : ◌≡◌ {A = ℕ} 0 1 = cc in absurd (omega arith)
    go (r ∷ l) f = one r (full j.k (point_of r)) (listed-qualifies j r l f) refl (ap (first_of j.k) (sym f) ∙ e)

-- ---- scales in turn
pub record FoundBy (p : Pattern) (e : ℕ) : Type 0 where
  pub scale : ℕ
  pub u : Point
  pub t : Point
  pub is : p ≡ P.Found scale u t
  pub by : scale ≤ e

found-by : (j : Job) (n i e : ℕ) → i ≤ e → e < i + n → Qualified j e → FoundBy (from_scale j n i) e
unfolding from_scale
found-by j zero i e a b q = absurd (omega arith)
found-by j (suc n) i e a b q = go (found_at (at j i)) refl (λ c. found-by j n (suc i) e c (omega arith) q)
  where
    go : (f : Found) → found_at (at j i) ≡ f → (suc i ≤ e → FoundBy (from_scale j n (suc i)) e) → FoundBy (or_else i (from_scale j n (suc i)) f) e
    go (F.At u t) f ih = record { scale = i; u = u; t = t; is = refl; by = a }
    go F.Missing f ih = elim (dec_lt i e) [
      | yes l ↦ ih (omega arith)
      | no l ↦ (let s : e ≡ i = omega arith in absurd (some-found (at j i) q.point (subst (λ x. qualifies (at j x) q.point ≡ true) s q.is) f))
    ]

found_from : (j : Job) (n i s : ℕ) (u t : Point) → from_scale j n i ≡ P.Found s u t → (s < i + n) × (found_at (at j s) ≡ F.At u t)
unfolding from_scale
found_from j zero i s u t e = let z : ◌≡◌ {A = ℕ} 0 1 = cc in absurd (omega arith)
found_from j (suc n) i s u t e = go (found_at (at j i)) refl e (λ g. let (a, b) = found_from j n (suc i) s u t g in (omega arith, b))
  where
    go : (f : Found) → found_at (at j i) ≡ f → or_else i (from_scale j n (suc i)) f ≡ P.Found s u t → (from_scale j n (suc i) ≡ P.Found s u t → (s < i + suc n) × (found_at (at j s) ≡ F.At u t))
        → (s < i + suc n) × (found_at (at j s) ≡ F.At u t)
    go (F.At v w) f e ih =
        let x : i ≡ s = cc in
        let y : v ≡ u = cc in
        let z : w ≡ t = cc in
        (omega arith, ap (λ n. found_at (at j n)) (sym x) ∙ f ∙ rw (y, z) refl)
    go F.Missing f e ih = ih e

-- ---- the theorem
-- some pair is found, and its m is no larger than that of any other
pub minimal : (j : Job) (i : ℕ) (u t : Point) → i ≤ j.k → Pairs j i u t → FoundBy (pattern_of j) (exponent_of i u)
unfolding pattern_of
minimal j i u t h p = let m = exponent_most i u in found-by j (suc j.k) 0 (exponent_of i u) (omega arith) (omega arith) (reduced j i u t p)

-- what is found is a pair of new points, so its m is that of its scale
pub found-pair : (j : Job) (s : ℕ) (u t : Point) → pattern_of j ≡ P.Found s u t → (s ≤ j.k) × Pairs j s u t × (exponent_of s u ≡ s)
unfolding pattern_of is_new
found-pair j s u t e =
    let (a, f) = found_from j (suc j.k) 0 s u t e in
    let (q, c) = found-sound (at j s) u t f in
    (omega arith, record { inside = qualifies-solves (at j s) u q; equation = c }, eqb-true _ _ (listed-selected (at j s) u (qualifies-listed (at j s) u q)))

pub fewest : (j : Job) (s i : ℕ) (u t v w : Point) → pattern_of j ≡ P.Found s u t → i ≤ j.k → Pairs j i v w → pulse_count (exponent_of s u) ≤ pulse_count (exponent_of i v)
fewest j s i u t v w e h p =
    let m = minimal j i v w h p in
    let x : P.Found m.scale m.u m.t ≡ P.Found s u t = sym m.is ∙ e in
    let y : m.scale ≡ s = cc in
    let b = m.by in
    rw (found-pair j s u t e).2 (m_rises s (exponent_of i v) (omega arith))

-- nothing is found just where there is no pair
pub missing_pair : (j : Job) → (pattern_of j ≡ P.Missing) ↔ ((i : ℕ) (u t : Point) → i ≤ j.k → Pairs j i u t → ⊥)
missing_pair j = ((λ e i u t h p. let m = minimal j i u t h p in let z : ◌≡◌ {A = ℕ} 0 1 = cc in omega arith), λ f. none (pattern_of j) refl f)
  where
    none : (p : Pattern) → pattern_of j ≡ p → ((i : ℕ) (u t : Point) → i ≤ j.k → Pairs j i u t → ⊥) → p ≡ P.Missing
    none (P.Found s u t) e f = let (h, p, n) = found-pair j s u t e in absurd (f s u t h p)
    none P.Missing e f = refl

-- the job's own byte does not matter
abbrev with_byte : Job → Bool → Job
with_byte j b = record { k = j.k; all = b; a = j.a; b = j.b }

same-scales : (j : Job) (b : Bool) (n i : ℕ) → from_scale (with_byte j b) n i ≡ from_scale j n i
unfolding from_scale
same-scales j b zero i = refl
same-scales j b (suc n) i = ap (λ p. or_else i p (found_at (at j i))) (same-scales j b n (suc i))

pub either_byte : (j : Job) (b : Bool) → pattern_of (with_byte j b) ≡ pattern_of j
unfolding pattern_of
either_byte j b = same-scales j b (suc j.k) 0
