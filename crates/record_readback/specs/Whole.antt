-- A reading that is accepted took a whole record, and its numbers are those that a line of words says. Assumes nothing.
use Rattle.std.specs.Prelude.{◌≡◌, refl, Bool, cond, List, [], ◌∷◌, eqb, leb, ltb, pos, length, Result, Ok, Err}
use Rattle.std.proofs.Common.{ap, inl, inr, arith, eqb-true, ltb-false, le-leb}
use Rattle.std.proofs.Math.Bool.{true, false}
use Prim.Native.Nat.{ℕ, suc, ◌≤◌}
use Rattle.region.specs.declared.Region.{Region}
use Rattle.region.specs.declared.Region.TheVariants as Shape
use Rattle.region.specs.declared.Refusal as RegionCheck
use Rattle.region.specs.declared.Refusal.TheVariants as R
use Rattle.region.specs.Region as Reg
use Rattle.operator.specs.declared.Operator.{Operator}
use Rattle.operator.specs.declared.Refusal as OperatorCheck
use Rattle.operator.specs.declared.Refusal.TheVariants as O
use Rattle.operator.specs.Operator as Op
use Rattle.record_kinds.specs.declared.Kind.{Kind}
use Rattle.record_kinds.specs.declared.Kind.TheVariants as K
use Rattle.record_kinds.specs.declared.Turn.{Turn}
use Rattle.record_kinds.specs.Kinds.{kind_of, body_length, is_known, in_turn, admission_of}
use Rattle.record_fields.specs.Field.{unsigned_at}
use Rattle.record_kinds.specs.declared.Refusal.TheVariants.{OutOfRange}
use Rattle.record.specs.declared.Record.{Record}
use Rattle.record.specs.declared.Record.TheVariants as Rec
use Rattle.record.specs.declared.Reading.{Reading}
use Rattle.record.specs.declared.Reading.TheVariants.{Accepted, Refused}
use Rattle.record.specs.Record.{scale_of, rectangle_of, ellipse_of, slice_of, operator_of, selection_of, region_reading, operator_reading, body_of, admitted, reading_of}
use Rattle.record_forms.specs.Forms.{fields_of, number_at, numbers_at}
use Rattle.record_text.specs.Records.{is_whole}
use Rattle.job_record_lines.specs.Rows.{Chosen}

-- what an accepted reading of a body took, and that a selection is 0 or 1
abbrev Good : Kind → List ℕ → Reading → Type 0
Good k s (Accepted x n) = (n ≡ suc (body_length k)) × Chosen k (numbers_at (fields_of k) s 0)
Good k s (Refused f) = Unit {0}

module _ (s : List ℕ) where
  region-good : (k : Kind) → Chosen k (numbers_at (fields_of k) s 0) → (c : Result Unit RegionCheck.Refusal) (r : Region) → Good k s (region_reading c r (suc (body_length k)))
  region-good k h (Ok tt) r = (refl, h)
  region-good k h (Err R.OutOfRange) r = tt
  region-good k h (Err R.NotPositive) r = tt
  region-good k h (Err R.NoDirection) r = tt

  operator-good : (c : Result Unit OperatorCheck.Refusal) (g : Operator) → Good K.Operator s (operator_reading c g 17)
  operator-good (Ok tt) g = (refl, tt)
  operator-good (Err O.OutOfRange) g = tt
  operator-good (Err O.OddParity) g = tt
  operator-good (Err O.NotSpecial) g = tt

  scale-good : Good K.Scale s (scale_of s)
  unfolding scale_of
  scale-good = go (leb (unsigned_at 1 s 0) Reg.top_scale)
    where
      go : (b : Bool) → Good K.Scale s (cond b (Accepted (Rec.Scale (unsigned_at 1 s 0)) 2) (Refused OutOfRange))
      go true = (refl, tt)
      go false = tt

  selection-good : Good K.Selection s (selection_of s)
  unfolding selection_of numbers_at fields_of number_at
  selection-good = go (eqb n 0) (eqb n 1) (eqb-true n 0) (eqb-true n 1)
    where
      n : ℕ
      n = unsigned_at 1 s 0

      go : (b c : Bool) → (b ≡ true → n ≡ 0) → (c ≡ true → n ≡ 1) → Good K.Selection s (cond b (Accepted (Rec.Selection false) 2) (cond c (Accepted (Rec.Selection true) 2) (Refused OutOfRange)))
      go true c e f = (refl, inl (ap (λ (m : ℕ). pos m ∷ []) (e refl)))
      go false true e f = (refl, inr (ap (λ (m : ℕ). pos m ∷ []) (f refl)))
      go false false e f = tt

  body-good : (k : Kind) → Good k s (body_of k s)
  unfolding body_of
  body-good K.Scale = scale-good
  body-good K.Rectangle = region-good K.Rectangle tt (Reg.check_of (Shape.Rectangle (rectangle_of s))) (Shape.Rectangle (rectangle_of s))
  body-good K.Ellipse = region-good K.Ellipse tt (Reg.check_of (Shape.Ellipse (ellipse_of s))) (Shape.Ellipse (ellipse_of s))
  body-good K.Slice = region-good K.Slice tt (Reg.check_of (Shape.Slice (slice_of s))) (Shape.Slice (slice_of s))
  body-good K.Operator = operator-good (Op.check_of (operator_of s)) (operator_of s)
  body-good K.Selection = selection-good
  body-good K.Unknown = tt

pub accepted-whole : (b : ℕ) (s : List ℕ) (t : Turn) (x : Record) (n : ℕ) → reading_of (b ∷ s) t ≡ Accepted x n
    → (is_whole (kind_of b) (length s) ≡ true) × (n ≡ suc (body_length (kind_of b))) × Chosen (kind_of b) (numbers_at (fields_of (kind_of b)) s 0)
unfolding reading_of admission_of
accepted-whole b s t x n e = go (is_known k) (in_turn k t) (ltb (length s) (body_length k)) refl refl (body_of k s) refl e
  where
    k : Kind
    k = kind_of b

    go : (known fits short : Bool) → is_known k ≡ known → ltb (length s) (body_length k) ≡ short → (r : Reading) → body_of k s ≡ r → admitted (admission_of known fits short) r ≡ Accepted x n
        → (is_whole k (length s) ≡ true) × (n ≡ suc (body_length k)) × Chosen k (numbers_at (fields_of k) s 0)
    go false fits short p q r g f = absurd (let y : ◌≡◌ {A = ℕ} 0 1 = cc in omega arith)
    go true false short p q r g f = absurd (let y : ◌≡◌ {A = ℕ} 0 1 = cc in omega arith)
    go true true true p q r g f = absurd (let y : ◌≡◌ {A = ℕ} 0 1 = cc in omega arith)
    go true true false p q r g f =
        let l : body_length k ≤ length s = ltb-false (length s) (body_length k) q in
        let h : Good k s (Accepted x n) = rw (g, f) at (body-good s k) in
        (rw (p, le-leb (body_length k) (length s) l) refl, h.0, h.1)
