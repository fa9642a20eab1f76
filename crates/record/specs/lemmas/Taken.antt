-- An accepted reading takes its kind byte and its body: one byte at least, and no more than there are.
use Rattle.std.specs.Prelude.{◌≡◌, refl, Bool, true, false, cond, eqb, ltb, leb, Result, Ok, Err}
use mathlib.Core.List.{List, [], ◌∷◌}
use Prim.Native.Nat.{ℕ, suc, ◌≤◌}
use native.Mathlib.Omega.{arith}
use Rattle.std.proofs.Math.ListN.{length}
use borrow.Author.Tests.{ltb-false}
use Rattle.region.specs.declared.Region.{Region}
use Rattle.region.specs.declared.Region.TheVariants as Shape
use Rattle.region.specs.declared.Refusal.TheVariants as R
use Rattle.region.specs.declared.Refusal as RegionCheck
use Rattle.region.specs.Region as Reg
use Rattle.operator.specs.declared.Operator.{Operator}
use Rattle.operator.specs.declared.Refusal.TheVariants as O
use Rattle.operator.specs.declared.Refusal as OperatorCheck
use Rattle.operator.specs.Operator as Op
use Rattle.record_kinds.specs.declared.Kind.{Kind}
use Rattle.record_kinds.specs.declared.Kind.TheVariants as K
use Rattle.record_kinds.specs.declared.Turn.{Turn}
use Rattle.record.specs.declared.Record.{Record}
use Rattle.record.specs.declared.Record.TheVariants as Rec
use Rattle.record_kinds.specs.declared.Refusal.{Refusal}
use Rattle.record_kinds.specs.declared.Refusal.TheVariants.{OutOfRange}
use Rattle.record.specs.declared.Reading.{Reading}
use Rattle.record.specs.declared.Reading.TheVariants.{Accepted, Refused}
use Rattle.record_fields.specs.Field.{unsigned_at}
use Rattle.record_kinds.specs.Kinds.{body_length, is_known, in_turn, admission_of, kind_of, whole_long}
use Rattle.record.specs.Record.{body_of, scale_of, selection_of, rectangle_of, ellipse_of, slice_of, operator_of, region_reading, operator_reading, admitted, reading_of}

module _ (x : Record) (n : ℕ) where
  never : {P : Type 0} (f : Refusal) → Refused f ≡ Accepted x n → P
  never f e = absurd (let z : ◌≡◌ {A = ℕ} 0 1 = cc in omega arith)

  same : (y : Record) (m : ℕ) → Accepted y m ≡ Accepted x n → n ≡ m
  same y m e = cc

  picked : (b : Bool) (y : Record) (m : ℕ) (f : Refusal) → cond b (Accepted y m) (Refused f) ≡ Accepted x n → n ≡ m
  picked true y m f e = same y m e
  picked false y m f e = never f e

  selected : (b c : Bool) → cond b (Accepted (Rec.Selection false) 2) (cond c (Accepted (Rec.Selection true) 2) (Refused OutOfRange)) ≡ Accepted x n → n ≡ 2
  selected true c e = same _ 2 e
  selected false c e = picked c (Rec.Selection true) 2 OutOfRange e

  region-takes : (c : Result Unit RegionCheck.Refusal) (r : Region) (m : ℕ) → region_reading c r m ≡ Accepted x n → n ≡ m
  region-takes (Ok tt) r m e = same _ m e
  region-takes (Err R.OutOfRange) r m e = never _ e
  region-takes (Err R.NotPositive) r m e = never _ e
  region-takes (Err R.NoDirection) r m e = never _ e

  operator-takes : (c : Result Unit OperatorCheck.Refusal) (g : Operator) (m : ℕ) → operator_reading c g m ≡ Accepted x n → n ≡ m
  operator-takes (Ok tt) g m e = same _ m e
  operator-takes (Err O.OutOfRange) g m e = never _ e
  operator-takes (Err O.OddParity) g m e = never _ e
  operator-takes (Err O.NotSpecial) g m e = never _ e

  body-takes : (k : Kind) (s : List ℕ) → body_of k s ≡ Accepted x n → n ≡ suc (body_length k)
  unfolding body_of scale_of selection_of
  body-takes K.Scale s e = picked (leb (unsigned_at 1 s 0) Reg.top_scale) (Rec.Scale (unsigned_at 1 s 0)) 2 OutOfRange e
  body-takes K.Rectangle s e = region-takes (Reg.check_of (Shape.Rectangle (rectangle_of s))) (Shape.Rectangle (rectangle_of s)) 19 e
  body-takes K.Ellipse s e = region-takes (Reg.check_of (Shape.Ellipse (ellipse_of s))) (Shape.Ellipse (ellipse_of s)) 21 e
  body-takes K.Slice s e = region-takes (Reg.check_of (Shape.Slice (slice_of s))) (Shape.Slice (slice_of s)) 11 e
  body-takes K.Operator s e = operator-takes (Op.check_of (operator_of s)) (operator_of s) 17 e
  body-takes K.Selection s e = selected (eqb (unsigned_at 1 s 0) 0) (eqb (unsigned_at 1 s 0) 1) e
  body-takes K.Unknown s e = never _ e

  admitted-whole : (a : Result Unit Refusal) (r : Reading) → admitted a r ≡ Accepted x n → (a ≡ (Ok tt)) × (r ≡ Accepted x n)
  admitted-whole (Err why) r e = never why e
  admitted-whole (Ok tt) r e = (refl, e)

  pub reading_takes : (l : List ℕ) (t : Turn) → reading_of l t ≡ Accepted x n → (1 ≤ n) × (n ≤ length l)
  unfolding reading_of
  reading_takes [] t e = never _ e
  reading_takes (b ∷ s) t e =
      let k = kind_of b in
      let a = admitted-whole (admission_of (is_known k) (in_turn k t) (ltb (length s) (body_length k))) (body_of k s) e in
      let long : body_length k ≤ length s = ltb-false (length s) (body_length k) (whole_long (is_known k) (in_turn k t) (ltb (length s) (body_length k)) a.0) in
      let m : n ≡ suc (body_length k) = body-takes k s a.1 in
      (omega arith, omega arith)
