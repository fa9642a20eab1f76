-- The full list of the line problem: SPEC, "Line problem". A pair solves if and only if it has a rank in the list, which rises, each once; what is left after a
-- place is those of the list that come strictly after it.
use Rattle.std.specs.Prelude.{◌≡◌, refl, Bool, true, false, ◌↔◌, ℤ, pos, ◌-ℤ◌}
use Rattle.std.proofs.Common.{sym, ◌∙◌, ap, ap₂, ⊎_elim, arith}
use Rattle.std.proofs.lemmas.Bool.{false≢true}
use mathlib.Core.List.Memᴰ
use mathlib.Core.List.{List, [], ◌∷◌, Memᴰ}
use Prim.Native.Nat.{ℕ, ◌*◌, ◌/◌, ◌%◌, ◌<◌, zero-le}
use Rattle.std.proofs.Math.Decide.{dec_lt}
use Rattle.integers.specs.Difference.{by⊖, zz}
use Rattle.ranks.specs.Members.{Rising}
use Rattle.ranks.proofs.Members.{rest-rising, rest-sound, rest-complete}
use Rattle.ranks.specs.Digits.{pair, pair-high, pair-low}
use Rattle.line_steps.specs.declared.Interval.{Interval}
use Rattle.line.specs.declared.Place.{Place}
use Rattle.line.specs.declared.Place.TheVariants.{After}
use Rattle.line.specs.Line.{bound, span, coordinate, pair_of, accepted, solves, solves_at, full, is_after, those, left}
use Rattle.line_steps.specs.Past.{digit, coordinate-≺}
use Rattle.line_steps.specs.Bounds.{solution_within}
use Rattle.line.specs.Start.{rank_of, start_of, left_is, after_first, after-second}
use Rattle.line.specs.Next.{pair-below}

-- the order of ranks is that of the pairs, a then b as signed numbers, and a pair has one rank
pub order_holds : (r q : ℕ) → r < q → is_after (After (coordinate (r / span)) (coordinate (r % span))) (coordinate (q / span)) (coordinate (q % span)) ≡ true
order_holds r q h = go (dec_lt (r / span) (q / span))
  where
    go : Dec (r / span < q / span) → is_after (After (coordinate (r / span)) (coordinate (r % span))) (coordinate (q / span)) (coordinate (q % span)) ≡ true
    go (yes l) = after_first (coordinate (r / span)) (coordinate (r % span)) (coordinate (q / span)) (coordinate (q % span)) (coordinate-≺ (r / span) (q / span) l)
    go (no l) =
        let e : r / span ≡ q / span = omega arith in
        after-second (coordinate (r / span)) (coordinate (r % span)) (coordinate (q / span)) (coordinate (q % span)) (ap coordinate e) (coordinate-≺ (r % span) (q % span) (omega arith))

coordinate-inj : (x y : ℕ) → coordinate x ≡ coordinate y → x ≡ y
coordinate-inj x y e = pos_inj (go (pos x) (pos y) e)
  where
    go : (x y : ℤ) → x -ℤ pos bound ≡ y -ℤ pos bound → x ≡ y
    go = by⊖ _ λ p p'. by⊖ _ λ q q'. simp zz (omega arith)

    pos_inj : {x y : ℕ} → pos x ≡ pos y → x ≡ y
    pos_inj e = cc

pub pair-once : (r q : ℕ) → pair_of r ≡ pair_of q → r ≡ q
pair-once r q e =
    let a : coordinate (r / span) ≡ coordinate (q / span) = cc in
    let b : coordinate (r % span) ≡ coordinate (q % span) = cc in
    omega (arith, coordinate-inj (r / span) (q / span) a, coordinate-inj (r % span) (q % span) b)

those-holds : (t : ℕ → Bool) (r : ℕ) (l : List ℕ) → Memᴰ r (those t l) ↔ (Memᴰ r l × (t r ≡ true))
unfolding those
those-holds t r [] = ((λ m. absurd (Memᴰ.not-nil m)), λ w. absurd (Memᴰ.not-nil w.0))
those-holds t r (q ∷ l) = go (t q) refl (those-holds t r l)
  where
    go : (b : Bool) → t q ≡ b → Memᴰ r (those t l) ↔ (Memᴰ r l × (t r ≡ true))
        → Memᴰ r (elim b [ true ↦ q ∷ those t l | false ↦ those t l ]) ↔ (Memᴰ r (q ∷ l) × (t r ≡ true))
    go true e ih = (
      (λ m. ⊎_elim (λ f. (Memᴰ.head f, ap t f ∙ e)) (λ k. let w = ih.0 k in (Memᴰ.tail w.0, w.1)) (Memᴰ.cases_cons m)),
      λ w. ⊎_elim (λ f. Memᴰ.head f) (λ k. Memᴰ.tail (ih.1 (k, w.1))) (Memᴰ.cases_cons w.0),
    )
    go false e ih = (
      (λ m. let w = ih.0 m in (Memᴰ.tail w.0, w.1)),
      λ w. ⊎_elim (λ f. absurd (false≢true (sym e ∙ sym (ap t f) ∙ w.1))) (λ k. ih.1 (k, w.1)) (Memᴰ.cases_cons w.0),
    )

module _ (i j : Interval) where
  full-sound : (r : ℕ) → Memᴰ r (full i j) → (r < span * span) × (solves_at i j r ≡ true)
  unfolding full
  full-sound r m = let (a, b, c) = rest-sound (solves_at i j) (span * span) 0 r m in (b, c)

  full-complete : (r : ℕ) → r < span * span → solves_at i j r ≡ true → Memᴰ r (full i j)
  unfolding full
  full-complete r h t = rest-complete (solves_at i j) (span * span) 0 r zero-le h t

  -- every pair that solves stands in the list, and every pair of the list solves
  pub full-holds : accepted i j ≡ true → (a b : ℤ) → (solves i j a b ≡ true) ↔ ((r : ℕ) × Memᴰ r (full i j) × (pair_of r ≡ a ∷ b ∷ []))
  full-holds ok a b = (to, from)
    where
      to : solves i j a b ≡ true → (r : ℕ) × Memᴰ r (full i j) × (pair_of r ≡ a ∷ b ∷ [])
      to t =
          let w = solution_within i j ok a b t in
          let (x, x-in, x-is) = digit a w.a-from w.a-to in
          let (y, y-in, y-is) = digit b w.b-from w.b-to in
          let h = pair-high span x y y-in in
          let l = pair-low span x y y-in in
          (pair span x y, full-complete (pair span x y) (pair-below x y x-in y-in) (rw (h, l, ← x-is, ← y-is) t), rw (h, l, ← x-is, ← y-is) refl)

      from : ((r : ℕ) × Memᴰ r (full i j) × (pair_of r ≡ a ∷ b ∷ [])) → solves i j a b ≡ true
      from w =
          let (r, m, e) = w in
          let f : coordinate (r / span) ≡ a = cc in
          let g : coordinate (r % span) ≡ b = cc in
          sym (ap₂ (solves i j) f g) ∙ (full-sound r m).1

  -- in rising order, each once
  pub full-rising : Rising 0 (full i j)
  unfolding full
  full-rising = rest-rising (solves_at i j) (span * span) 0

  pub left_rising : (p : Place) → Rising (rank_of (start_of p)) (left i j p)
  left_rising p = rw left_is (rest-rising (solves_at i j) (span * span) (rank_of (start_of p)))

  -- what is left: of the full list, what comes strictly after the place
  pub left-holds : (p : Place) (r : ℕ) → Memᴰ r (left i j p) ↔ (Memᴰ r (full i j) × (is_after p (coordinate (r / span)) (coordinate (r % span)) ≡ true))
  unfolding left
  left-holds p r = those-holds (λ (r : ℕ). is_after p (coordinate (r / span)) (coordinate (r % span))) r (full i j)
