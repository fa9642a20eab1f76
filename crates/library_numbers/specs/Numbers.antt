-- What plain numbers mean as the bench's session: SPEC, "Library". Every value of the struct has a meaning. And an answer as plain numbers.
use Rattle.std.specs.Prelude.{◌≡◌, Bool, true, false, not, cond, List, [], ◌∷◌, map, ℕ, eqb, ℤ, pos, Option, Some, None}
use Rattle.std.proofs.Math.Path.{refl}
use Rattle.std.proofs.Common.{ap, ◌∙◌}
use borrow.Author.Tests.{ne_eqb}
use Rattle.ring.specs.declared.Point.{Point}
use Rattle.operator.specs.declared.Operator.{Operator}
use Rattle.region.specs.declared.Rectangle.{Rectangle}
use Rattle.region.specs.declared.Ellipse.{Ellipse}
use Rattle.region.specs.declared.Slice.{Slice}
use Rattle.region.specs.declared.Region.{Region}
use Rattle.region.specs.declared.Region.TheVariants as R
use Rattle.session_model.specs.Session.{refused, taken, handed, done, says, best}
use Rattle.session_model.specs.Session as Model
use Rattle.integers_wide.specs.declared.Size.{Size}
use Rattle.session_tally.specs.declared.Tally.{Tally}
use Rattle.session_tallying.specs.declared.Tallied.{Tallied}
use Rattle.session_tallying.specs.declared.Outcome.{Outcome}
use Rattle.session_stages.specs.declared.Parts.TheVariants.{Nothing, Scaled, Selected, First}
use Rattle.session_stages.specs.declared.Course.{Course}
use Rattle.session_stages.specs.declared.Stage.{Stage}
use Rattle.session_stages.specs.declared.Stage.TheVariants as S
use Rattle.session_stages.specs.declared.Session.{Session}
use Rattle.session_stages.specs.World.{world}
use Rattle.session_stages.specs.declared.Answer.{Answer}
use Rattle.session_stages.specs.declared.Answer.TheVariants as A
use Rattle.session_stages.specs.Session.{answer_of}
use Rattle.library_numbers.specs.declared.Four.{Four}
use Rattle.library_numbers.specs.declared.Eight.{Eight}
use Rattle.library_numbers.specs.declared.Shape.{Shape}
use Rattle.library_numbers.specs.declared.Count.{Count}
use Rattle.library_numbers.specs.declared.Counts.{Counts}
use Rattle.library_numbers.specs.declared.State.{State}
use Rattle.library_numbers.specs.declared.Reply.{Reply}
use Rattle.library_numbers.specs.declared.Left.{Left}

abbrev pub is_set : ℕ → Bool
is_set x = not (eqb x 0)

abbrev pub point_of : Four → Point
point_of f = record { a = f.a; b = f.b; c = f.c; d = f.d }

abbrev pub operator_of : Eight → Operator
operator_of f = record { a = f.a; b = f.b; c = f.c; d = f.d; ai = f.ai; bi = f.bi; ci = f.ci; di = f.di }

abbrev pub rectangle_of : Shape → Rectangle
rectangle_of s = record { n = s.n; xl = s.xl; xh = s.xh; yl = s.yl; yh = s.yh }

abbrev pub ellipse_of : Shape → Ellipse
ellipse_of s = record { n = s.n; cx = s.cx; cy = s.cy; p = s.p; q = s.q; r = s.r; s = s.s }

abbrev pub slice_of : Shape → Slice
slice_of s = record { n = s.n; zx = s.zx; zy = s.zy; w = s.w }

unfoldable pub region_of : Shape → Region
region_of s = cond (eqb s.kind 2) (R.Rectangle (rectangle_of s)) (cond (eqb s.kind 3) (R.Ellipse (ellipse_of s)) (R.Slice (slice_of s)))

unfoldable pub spot_of : ℕ → Point → Option Point
spot_of e v = cond (eqb e 0) (Some v) None

abbrev pub course_of : State → Course
course_of s = record {
  job = record { k = s.k; all = is_set s.all; a = region_of s.a; b = region_of s.b };
  spot = spot_of s.ended (point_of s.spot);
  operator = operator_of s.operator;
}

unfoldable pub stage_of : State → Stage
stage_of s =
    cond (eqb s.stage 1) (S.Early (Scaled s.k))
    (cond (eqb s.stage 2) (S.Early (Selected s.k (is_set s.all)))
    (cond (eqb s.stage 3) (S.Early (First s.k (is_set s.all) (region_of s.a)))
    (cond (eqb s.stage 4) (S.Walking (course_of s)) (S.Early Nothing))))

abbrev pub session_of : State → Session
session_of s = record { stage = stage_of s }

abbrev pub size_from : Count → Size
size_from n = record { hi = n.hi; lo = n.lo }

abbrev pub tally_of : Counts → Tally
tally_of c = record { counts = map size_from c.counts }

-- the session with its counts
abbrev pub bench_of : State → Tallied
bench_of s = record { session = session_of s; tally = tally_of s.tally }

-- ---- numbers of what is meant
abbrev pub bit : Bool → ℕ
bit true = 1
bit false = 0

abbrev pub four_of : Point → Four
four_of v = record { a = v.a; b = v.b; c = v.c; d = v.d }

abbrev pub eight_of : Operator → Eight
eight_of g = record { a = g.a; b = g.b; c = g.c; d = g.d; ai = g.ai; bi = g.bi; ci = g.ci; di = g.di }

abbrev pub count_from : Size → Count
count_from n = record { hi = n.hi; lo = n.lo }

abbrev pub counts_of : Tally → Counts
counts_of t = record { counts = map count_from t.counts }

abbrev pub origin : Four
origin = record { a = pos 0; b = pos 0; c = pos 0; d = pos 0 }

-- an answer: its kind, the number of a refusal, yes or no, a count; a pattern has its scale and two points. What does not belong to it is 0
abbrev pub told : ℕ → ℕ → Bool → ℕ → Reply
told kind number b count = record { kind = kind; number = number; flag = bit b; scale = 0; count = count; u = origin; t = origin }

abbrev pub least_of : ℕ → Point → Point → Reply
least_of k u t = record { kind = 5; number = 0; flag = 0; scale = k; count = 0; u = four_of u; t = four_of t }

abbrev pub reply_of : Model.Answer world → Reply
reply_of (refused n) = told 0 n false 0
reply_of (taken n) = told 1 0 false n
reply_of (handed n e l) = told 2 0 e n
reply_of done = told 3 0 false 0
reply_of (says b) = told 4 0 b 0
reply_of (best b) = least_of b.scale b.u b.t

-- ---- regions by their tags
module _ (s : Shape) where
  pub shape_2 : {x : Rectangle} → s.kind ≡ 2 → rectangle_of s ≡ x → region_of s ≡ R.Rectangle x
  unfolding region_of
  shape_2 e f = rw e (ap R.Rectangle f)

  pub shape_3 : {x : Ellipse} → s.kind ≡ 3 → ellipse_of s ≡ x → region_of s ≡ R.Ellipse x
  unfolding region_of
  shape_3 e f = rw e (ap R.Ellipse f)

  pub shape_other : {x : Slice} → (s.kind ≡ 2 → ⊥) → (s.kind ≡ 3 → ⊥) → slice_of s ≡ x → region_of s ≡ R.Slice x
  unfolding region_of
  shape_other e f g = rw (ne_eqb _ 2 e, ne_eqb _ 3 f) (ap R.Slice g)

  pub shape_5 : {x : Slice} → s.kind ≡ 5 → slice_of s ≡ x → region_of s ≡ R.Slice x
  unfolding region_of
  shape_5 e f = rw e (ap R.Slice f)

-- ---- stages by their tags
module _ (s : State) where
  pub stage_0 : s.stage ≡ 0 → stage_of s ≡ S.Early Nothing
  unfolding stage_of
  stage_0 e = rw e refl

  pub stage_1 : {k : ℕ} → s.stage ≡ 1 → s.k ≡ k → stage_of s ≡ S.Early (Scaled k)
  unfolding stage_of
  stage_1 e f = rw (e, f) refl

  pub stage_2 : {k : ℕ} {all : Bool} → s.stage ≡ 2 → s.k ≡ k → is_set s.all ≡ all → stage_of s ≡ S.Early (Selected k all)
  unfolding stage_of
  stage_2 e f g = rw (e, f, g) refl

  pub stage_3 : {k : ℕ} {all : Bool} {a : Region} → s.stage ≡ 3 → s.k ≡ k → is_set s.all ≡ all → region_of s.a ≡ a → stage_of s ≡ S.Early (First k all a)
  unfolding stage_of
  stage_3 e f g h = rw (e, f, g, h) refl

  pub stage_4 : s.stage ≡ 4 → stage_of s ≡ S.Walking (course_of s)
  unfolding stage_of
  stage_4 e = rw e refl

  pub stage_other : (s.stage ≡ 1 → ⊥) → (s.stage ≡ 2 → ⊥) → (s.stage ≡ 3 → ⊥) → (s.stage ≡ 4 → ⊥) → stage_of s ≡ S.Early Nothing
  unfolding stage_of
  stage_other e f g h = rw (ne_eqb _ 1 e, ne_eqb _ 2 f, ne_eqb _ 3 g, ne_eqb _ 4 h) refl

-- ---- there and back
pub bit-set : (b : Bool) → is_set (bit b) ≡ b
bit-set true = refl
bit-set false = refl

sizes-back : (l : List Size) → map size_from (map count_from l) ≡ l
sizes-back [] = refl
sizes-back (n ∷ l) = ap (λ (m : List Size). n ∷ m) (sizes-back l)

pub tally-back : (t : Tally) → tally_of (counts_of t) ≡ t
tally-back t = λ i. record { counts = sizes-back t.counts i }

pub bench_is : (s : State) {b : Tallied} → stage_of s ≡ b.session.stage → s.tally ≡ counts_of b.tally → bench_of s ≡ b
bench_is s {b} e f = let g = ap tally_of f ∙ tally-back b.tally in λ i. record { session = record { stage = e i }; tally = g i }

-- the numbers of an answer do not hold the lent slice
pub reply_any : (a : Answer) (l : List ℤ) → reply_of (answer_of [] a) ≡ reply_of (answer_of l a)
reply_any (A.Taken n) l = refl
reply_any (A.Handed n e) l = refl
reply_any A.Done l = refl
reply_any (A.Says b) l = refl
reply_any (A.Least k u t) l = refl
reply_any (A.Refused f) l = refl

-- what a call leaves
pub record LeftOf (o : Outcome) (r : Left) : Type 0 where
  pub session : bench_of r.session ≡ o.session
  pub reply : r.reply ≡ reply_of (answer_of [] o.answer)
