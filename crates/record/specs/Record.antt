-- One reading: SPEC, "Records" and "Refusals". It takes one record from the front of the bytes, or refuses it.
use Rattle.record_kinds.specs.declared.Refusal.{Refusal}
use Rattle.std.specs.Prelude.{◌≡◌, true, false, cond, List, [], ◌∷◌, ℕ, ◌-◌, eqb, leb, ltb, length, drop, get_or, Result, Ok, Err}
use Rattle.std.proofs.Math.Path.{refl}
use Rattle.std.proofs.Common.{ap, arith, length-drop}
use Rattle.std.proofs.Math.Option.{Option}
use Rattle.std.proofs.Math.Option as Opt
use borrow.Author.Tests.{ne_eqb}
use Rattle.region.specs.declared.Rectangle.{Rectangle}
use Rattle.region.specs.declared.Ellipse.{Ellipse}
use Rattle.region.specs.declared.Slice.{Slice}
use Rattle.region.specs.declared.Region.{Region}
use Rattle.region.specs.declared.Region.TheVariants as Shape
use Rattle.region.specs.declared.Refusal.TheVariants as R
use Rattle.region.specs.declared.Refusal as RegionCheck
use Rattle.region.specs.Region as Reg
use Rattle.operator.specs.declared.Operator.{Operator}
use Rattle.operator.specs.declared.Refusal.TheVariants as O
use Rattle.operator.specs.declared.Refusal as OperatorCheck
use Rattle.operator.specs.Operator as Op
use Rattle.record_kinds.specs.declared.Kind.{Kind}
use Rattle.record_kinds.specs.declared.Kind.TheVariants as K
use Rattle.record_kinds.specs.declared.Turn.{Turn}
use Rattle.record.specs.declared.Record.{Record}
use Rattle.record.specs.declared.Record.TheVariants as Rec
use Rattle.record_kinds.specs.declared.Refusal.TheVariants.{NoKind, UnknownKind, OutOfRange, NotPositive, OddParity, NotSpecial, NoDirection}
use Rattle.record.specs.declared.Reading.{Reading}
use Rattle.record.specs.declared.Reading.TheVariants.{Accepted, Refused}
use Rattle.record_kinds.specs.Kinds.{number, kind_of, body_length, in_turn, is_known, admission_of}
use Rattle.record_fields.specs.Field.{unsigned_at, signed_at, one}

-- ---- bodies
-- 01: scale k, 0 to 20
unfoldable pub scale_of : List ℕ → Reading
scale_of s = cond (leb (unsigned_at 1 s 0) Reg.top_scale) (Accepted (Rec.Scale (unsigned_at 1 s 0)) 2) (Refused OutOfRange)

-- 02: n, then xl, xh, yl, yh
unfoldable pub rectangle_of : List ℕ → Rectangle
rectangle_of s = record { n = unsigned_at 2 s 0; xl = signed_at 4 s 2; xh = signed_at 4 s 6; yl = signed_at 4 s 10; yh = signed_at 4 s 14 }

-- 03: n, cx, cy, P, Q, R, S
unfoldable pub ellipse_of : List ℕ → Ellipse
ellipse_of s = record { n = unsigned_at 2 s 0; cx = signed_at 4 s 2; cy = signed_at 4 s 6; p = unsigned_at 2 s 10; q = signed_at 2 s 12; r = unsigned_at 2 s 14; s = unsigned_at 4 s 16 }

-- 05: n, zx, zy, w
unfoldable pub slice_of : List ℕ → Slice
slice_of s = record { n = unsigned_at 2 s 0; zx = signed_at 2 s 2; zy = signed_at 2 s 4; w = signed_at 4 s 6 }

-- 04: G(1) as a, b, c, d, then G(i) as a', b', c', d'
unfoldable pub operator_of : List ℕ → Operator
operator_of s = record {
  a = signed_at 2 s 0;
  b = signed_at 2 s 2;
  c = signed_at 2 s 4;
  d = signed_at 2 s 6;
  ai = signed_at 2 s 8;
  bi = signed_at 2 s 10;
  ci = signed_at 2 s 12;
  di = signed_at 2 s 14;
}

-- 06: 0 for new points only, 1 for all
unfoldable pub selection_of : List ℕ → Reading
selection_of s =
    cond (eqb (unsigned_at 1 s 0) 0) (Accepted (Rec.Selection false) 2)
    (cond (eqb (unsigned_at 1 s 0) 1) (Accepted (Rec.Selection true) 2) (Refused OutOfRange))

-- what the check of a region, and of an operator, makes of a reading that took n bytes
abbrev pub region_reading : Result Unit RegionCheck.Refusal → Region → ℕ → Reading
region_reading (Ok tt) r n = Accepted (Rec.Region r) n
region_reading (Err R.OutOfRange) r n = Refused OutOfRange
region_reading (Err R.NotPositive) r n = Refused NotPositive
region_reading (Err R.NoDirection) r n = Refused NoDirection

abbrev pub operator_reading : Result Unit OperatorCheck.Refusal → Operator → ℕ → Reading
operator_reading (Ok tt) g n = Accepted (Rec.Operator g) n
operator_reading (Err O.OutOfRange) g n = Refused OutOfRange
operator_reading (Err O.OddParity) g n = Refused OddParity
operator_reading (Err O.NotSpecial) g n = Refused NotSpecial

unfoldable pub body_of : Kind → List ℕ → Reading
body_of K.Scale s = scale_of s
body_of K.Rectangle s = let r = Shape.Rectangle (rectangle_of s) in region_reading (Reg.check_of r) r 19
body_of K.Ellipse s = let r = Shape.Ellipse (ellipse_of s) in region_reading (Reg.check_of r) r 21
body_of K.Slice s = let r = Shape.Slice (slice_of s) in region_reading (Reg.check_of r) r 11
body_of K.Operator s = let g = operator_of s in operator_reading (Op.check_of g) g 17
body_of K.Selection s = selection_of s
body_of K.Unknown s = Refused UnknownKind

-- a body that is read where nothing is refused before
abbrev pub admitted : Result Unit Refusal → Reading → Reading
admitted (Err why) r = Refused why
admitted (Ok tt) r = r

abbrev pub kind_reading : Kind → List ℕ → Turn → Reading
kind_reading k body t = admitted (admission_of (is_known k) (in_turn k t) (ltb (length body) (body_length k))) (body_of k body)

unfoldable pub reading_of : List ℕ → Turn → Reading
reading_of [] t = Refused NoKind
reading_of (b ∷ body) t = kind_reading (kind_of b) body t

-- the kind of a record
abbrev pub shape_kind : Region → Kind
shape_kind (Shape.Rectangle r) = K.Rectangle
shape_kind (Shape.Ellipse e) = K.Ellipse
shape_kind (Shape.Slice s) = K.Slice

abbrev pub record_kind : Record → Kind
record_kind (Rec.Scale k) = K.Scale
record_kind (Rec.Selection all) = K.Selection
record_kind (Rec.Region r) = shape_kind r
record_kind (Rec.Operator g) = K.Operator

-- the values of each case (SPEC, "Refusals"): the refusal's number, 0 where there is none, the bytes taken, and the kind. A refused reading takes none, and has none
pub record Values : Type 0 where
  pub refusal : ℕ
  pub taken : ℕ
  pub kind : Option Kind

abbrev pub values_of : Reading → Values
values_of (Accepted x n) = record { refusal = 0; taken = n; kind = Opt.some (record_kind x) }
values_of (Refused f) = record { refusal = number f; taken = 0; kind = Opt.none }

-- an answer: the case, and its values
pub record Reads (bytes : List ℕ) (t : Turn) (r : Reading) : Type 0 where
  pub reading : r ≡ reading_of bytes t
  pub values : values_of r ≡ values_of (reading_of bytes t)

pub reads : {bytes : List ℕ} {t : Turn} {r : Reading} → r ≡ reading_of bytes t → Reads bytes t r
reads e = record { reading = e; values = ap values_of e }

-- ---- what the code meets, step by step
pub scale_in : (s : List ℕ) → leb (get_or s 0 0) Reg.top_scale ≡ true → scale_of s ≡ Accepted (Rec.Scale (get_or s 0 0)) 2
unfolding scale_of
scale_in s h = rw (one s 0, h) refl

pub scale-out : (s : List ℕ) → leb (get_or s 0 0) Reg.top_scale ≡ false → scale_of s ≡ Refused OutOfRange
unfolding scale_of
scale-out s h = rw (one s 0, h) refl

-- the three answers to a selection's byte
module _ (s : List ℕ) where
  pub selection-new : get_or s 0 0 ≡ 0 → selection_of s ≡ Accepted (Rec.Selection false) 2
  unfolding selection_of
  selection-new e = rw (one s 0, e) refl

  pub selection-all : get_or s 0 0 ≡ 1 → selection_of s ≡ Accepted (Rec.Selection true) 2
  unfolding selection_of
  selection-all e = rw (one s 0, e) refl

  pub selection-out : (get_or s 0 0 ≡ 0 → ⊥) → (get_or s 0 0 ≡ 1 → ⊥) → selection_of s ≡ Refused OutOfRange
  unfolding selection_of
  selection-out f g = rw (one s 0, ne_eqb (get_or s 0 0) 0 f, ne_eqb (get_or s 0 0) 1 g) refl

module _ (k : Kind) (s : List ℕ) where
  pub body-scale : k ≡ K.Scale → body_of k s ≡ scale_of s
  unfolding body_of
  body-scale e = rw e refl

  pub body-rectangle : k ≡ K.Rectangle → (r : Rectangle) → r ≡ rectangle_of s → body_of k s ≡ region_reading (Reg.check_of (Shape.Rectangle r)) (Shape.Rectangle r) 19
  unfolding body_of
  body-rectangle e r f = rw (e, f) refl

  pub body-ellipse : k ≡ K.Ellipse → (r : Ellipse) → r ≡ ellipse_of s → body_of k s ≡ region_reading (Reg.check_of (Shape.Ellipse r)) (Shape.Ellipse r) 21
  unfolding body_of
  body-ellipse e r f = rw (e, f) refl

  pub body-slice : k ≡ K.Slice → (r : Slice) → r ≡ slice_of s → body_of k s ≡ region_reading (Reg.check_of (Shape.Slice r)) (Shape.Slice r) 11
  unfolding body_of
  body-slice e r f = rw (e, f) refl

  pub body-operator : k ≡ K.Operator → (g : Operator) → g ≡ operator_of s → body_of k s ≡ operator_reading (Op.check_of g) g 17
  unfolding body_of
  body-operator e g f = rw (e, f) refl

  pub body-selection : k ≡ K.Selection → body_of k s ≡ selection_of s
  unfolding body_of
  body-selection e = rw e refl

  pub body-unknown : k ≡ K.Unknown → body_of k s ≡ Refused UnknownKind
  unfolding body_of
  body-unknown e = rw e refl

pub reading_none : (l : List ℕ) (t : Turn) → length l ≡ 0 → reading_of l t ≡ Refused NoKind
unfolding reading_of
reading_none [] t h = refl
reading_none (b ∷ l) t h = absurd (omega arith)

reading_kind : (l : List ℕ) (t : Turn) → (length l ≡ 0 → ⊥) → reading_of l t ≡ kind_reading (kind_of (get_or l 0 0)) (drop 1 l) t
unfolding reading_of
reading_kind [] t h = absurd (h refl)
reading_kind (b ∷ l) t h = refl

pub reading_admitted : (l : List ℕ) (t : Turn) (k : Kind) → (length l ≡ 0 → ⊥) → k ≡ kind_of (get_or l 0 0) → (a : Result Unit Refusal) → a ≡ admission_of (is_known k) (in_turn k t) (ltb (length l - 1) (body_length k)) → reading_of l t ≡ admitted a (body_of k (drop 1 l))
reading_admitted l t k some e a f = rw (reading_kind l t some, ← e, length-drop 1 l, ← f) refl
