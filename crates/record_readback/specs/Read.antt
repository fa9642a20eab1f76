-- A record that was written is read again: one reading of its bytes gives the record that its numbers say (SPEC, "Records"). Assumes nothing.
use Rattle.std.specs.Prelude.{◌≡◌, refl, Bool, true, false, cond, List, [], ◌++◌, ℕ, ltb, leb, eqb, ℤ, pos, nat_abs, length, get_or}
use Rattle.std.proofs.Common.{ap, ◌∙◌, arith, length-append, le-ltb}
use Rattle.region.specs.declared.Region.TheVariants as Shape
use Rattle.region.specs.Region as Reg
use Rattle.operator.specs.declared.Operator.{Operator}
use Rattle.operator.specs.Operator as Op
use Rattle.record_kinds.specs.declared.Kind.{Kind}
use Rattle.record_kinds.specs.declared.Kind.TheVariants as K
use Rattle.record_kinds.specs.declared.Turn.{Turn}
use Rattle.record_kinds.specs.declared.Refusal.TheVariants.{UnknownKind, OutOfRange, OutOfTurn}
use Rattle.record_kinds.specs.Kinds.{kind_of, body_length, in_turn, is_known, admission_of}
use Rattle.record.specs.declared.Record.TheVariants as Rec
use Rattle.record.specs.declared.Reading.{Reading}
use Rattle.record.specs.declared.Reading.TheVariants.{Accepted, Refused}
use Rattle.record.specs.Record.{scale_of, rectangle_of, ellipse_of, slice_of, operator_of, selection_of, region_reading, operator_reading, body_of, admitted, reading_of}
use Rattle.record_forms.specs.Forms.{fields_of, kind_byte, takes_all, number_at, numbers_at, body_bytes, record_bytes}
use Rattle.record_forms.specs.Back.{numbers-back, sized, size-kind, length-body}

-- ---- the record that numbers say
abbrev at : List ℤ → ℕ → ℤ
at zs i = get_or zs i (pos 0)

abbrev size : List ℤ → ℕ → ℕ
size zs i = nat_abs (at zs i)

unfoldable pub said_of : Kind → List ℤ → Reading
said_of K.Scale zs = cond (leb (size zs 0) Reg.top_scale) (Accepted (Rec.Scale (size zs 0)) 2) (Refused OutOfRange)
said_of K.Rectangle zs =
    let r = Shape.Rectangle (record { n = size zs 0; xl = at zs 1; xh = at zs 2; yl = at zs 3; yh = at zs 4 }) in
    region_reading (Reg.check_of r) r 19
said_of K.Ellipse zs =
    let r = Shape.Ellipse (record { n = size zs 0; cx = at zs 1; cy = at zs 2; p = size zs 3; q = at zs 4; r = size zs 5; s = size zs 6 }) in
    region_reading (Reg.check_of r) r 21
said_of K.Slice zs =
    let r = Shape.Slice (record { n = size zs 0; zx = at zs 1; zy = at zs 2; w = at zs 3 }) in
    region_reading (Reg.check_of r) r 11
said_of K.Operator zs =
    let g : Operator = record { a = at zs 0; b = at zs 1; c = at zs 2; d = at zs 3; ai = at zs 4; bi = at zs 5; ci = at zs 6; di = at zs 7 } in
    operator_reading (Op.check_of g) g 17
said_of K.Selection zs = cond (eqb (size zs 0) 0) (Accepted (Rec.Selection false) 2) (cond (eqb (size zs 0) 1) (Accepted (Rec.Selection true) 2) (Refused OutOfRange))
said_of K.Unknown zs = Refused UnknownKind

-- a body says what its numbers say
body-said : (k : Kind) (s : List ℕ) → body_of k s ≡ said_of k (numbers_at (fields_of k) s 0)
unfolding body_of said_of numbers_at number_at fields_of scale_of rectangle_of ellipse_of slice_of operator_of selection_of
body-said K.Scale s = refl
body-said K.Rectangle s = refl
body-said K.Ellipse s = refl
body-said K.Slice s = refl
body-said K.Operator s = refl
body-said K.Selection s = refl
body-said K.Unknown s = refl

never : {P : Type 0} → false ≡ true → P
never e = absurd (let y : ◌≡◌ {A = ℕ} 0 1 = cc in omega arith)

-- ---- what was written is read
kind_back : (k : Kind) → is_known k ≡ true → kind_of (kind_byte k) ≡ k
unfolding kind_of
kind_back K.Scale e = refl
kind_back K.Rectangle e = refl
kind_back K.Ellipse e = refl
kind_back K.Operator e = refl
kind_back K.Slice e = refl
kind_back K.Selection e = refl
kind_back K.Unknown e = never e

pub record_back : (k : Kind) (zs : List ℤ) (rest : List ℕ) (t : Turn) → is_known k ≡ true → takes_all (fields_of k) zs ≡ true
    → reading_of (record_bytes k zs ++ rest) t ≡ cond (in_turn k t) (said_of k zs) (Refused OutOfTurn)
unfolding reading_of record_bytes admission_of
record_back k zs rest t known h = rw (kind_back k known, known, long) (go (in_turn k t))
  where
    body : List ℕ
    body = body_bytes (fields_of k) zs ++ rest

    long : ltb (length body) (body_length k) ≡ false
    long = le-ltb (length body) (body_length k) (omega (arith, length-append (body_bytes (fields_of k) zs) rest, length-body (fields_of k) zs h, size-kind k))

    go : (b : Bool) → admitted (admission_of true b false) (body_of k body) ≡ cond b (said_of k zs) (Refused OutOfTurn)
    go true = body-said k body ∙ ap (said_of k) (numbers-back (fields_of k) zs [] rest (sized k) h)
    go false = refl
