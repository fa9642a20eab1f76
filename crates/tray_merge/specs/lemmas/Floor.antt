-- Where a job's list goes on from a point at the earliest, by a range of a.
use Rattle.std.specs.Prelude.{◌≡◌, refl, [], ℕ, ◌≤◌, ◌<◌}
use Rattle.std.proofs.Common.{sym, ap, ◌∙◌, inl, arith}
use Rattle.std.proofs.Math.Decide.{dec_lt}
use Rattle.ring.specs.declared.Point.{Point}
use Rattle.region.specs.declared.Job.{Job}
use Rattle.region.specs.Selection.{listed}
use Rattle.ranks.specs.Rank.{rank}
use Rattle.cuts.specs.declared.Range.{Range}
use Rattle.cuts.specs.Digits.{span, digit, digit-coordinate, digit-below, Digits, point_ranked, Raised}
use Rattle.cuts.specs.Level.{SomeA, start-A, end-A}
use Rattle.cuts.specs.Range.{HasA, Covers}
use Rattle.walk_list.specs.Walk.{left, rank_of}
use Rattle.walk_list.proofs.lemmas.Points.{Fits32, digits_rank}
use Rattle.walk_list.proofs.lemmas.Left.{left-top, listed-a}

module _ (j : Job) (v : Point) (f : Fits32 v) (a : ℕ) (e : a ≡ digit v.a) (r : Range) (h : Covers (HasA j) a r) where
  digits : Digits a (digit v.b) (digit v.c) (digit v.d)
  digits = record { a_in = rw e (digit-below v.a f.a); b-in = digit-below v.b f.b; c-in = digit-below v.c f.c; d-in = digit-below v.d f.d }

  own : rank span a (digit v.b) (digit v.c) (digit v.d) ≡ rank_of v
  own = digits_rank v e refl refl refl

  raised-none : Raised a a
  raised-none = record { from = omega arith; inside = λ l. l; skips = λ s l m. absurd (omega arith) }

  covered : Covers (SomeA (listed j)) a r
  covered = listed-a j a a raised-none h

  none : r.end ≤ r.start → (w : ℕ) → a ≤ w → Dec (w < r.start) → SomeA (listed j) w → ⊥
  none l w m (yes k) = covered.before w m k
  none l w m (no k) = covered.after w (omega arith)

  -- no a is left
  pub floor-none : r.end ≤ r.start → [] ≡ left j (rank_of v)
  floor-none l = sym (ap (left j) (sym own) ∙ end-A (listed j) a (digit v.b) (digit v.c) (digit v.d) digits (λ w m. none l w m (dec_lt w r.start)) ∙ left-top j)

  -- the first that is left comes later
  pub floor-at : a < r.start → left j (rank_of (point_ranked r.start 0 0 0)) ≡ left j (rank_of v)
  floor-at l =
      let to : rank_of (point_ranked r.start 0 0 0) ≡ rank span r.start 0 0 0 = rw (digit-coordinate r.start, digit-coordinate 0) in
      ap (left j) to
      ∙ sym (start-A (listed j) a (digit v.b) (digit v.c) (digit v.d) r.start digits covered.from (inl (l, refl)) (inl (l, refl)) (inl (l, refl)) covered.before)
      ∙ ap (left j) own
