-- What a take comes to: SPEC, "Trays". Refused are, in this order: the scale or the byte out of its range (4); no byte of A (16); then records as they are read, those of A in
-- turn, 16 where a ninth would begin, B last; 16 where bytes follow B.
use Rattle.std.specs.Prelude.{◌≡◌, Bool, true, false, cond, ◌&&◌, List, [], ◌∷◌, ℕ, zero, suc, ◌≤◌, ◌<◌, eqb, leb, ltb, length, drop, replicate, Result, Ok, Err}
use Rattle.std.proofs.Math.Path.{refl}
use Rattle.std.proofs.Common.{ap, arith}
use borrow.Author.Tests.{le-leb, lt-leb}
use Rattle.refusals.specs.Refusals.{beyond_range, form}
use Rattle.region.specs.declared.Region.{Region}
use Rattle.record_kinds.specs.declared.Refusal.TheVariants.{OutOfTurn}
use Rattle.record_kinds.specs.declared.Turn.TheVariants as T
use Rattle.record_kinds.specs.Kinds.{number}
use Rattle.record.specs.declared.Record.{Record}
use Rattle.record.specs.declared.Record.TheVariants as Rec
use Rattle.record.specs.declared.Reading.{Reading}
use Rattle.record.specs.declared.Reading.TheVariants as R
use Rattle.record.specs.Record.{reading_of}
use Rattle.tray_model.specs.Session as Model
use Rattle.tray_list.specs.declared.Target.{Target}
use Rattle.tray_list.specs.declared.Tray.{Tray}
use Rattle.tray_list.specs.Tray.{blank}
use Rattle.tray_taking.specs.declared.Refusal.{Refusal}
use Rattle.tray_taking.specs.declared.Refusal.TheVariants as F
use Rattle.tray_taking.specs.declared.Found.{Found}
use Rattle.tray_taking.specs.declared.Found.TheVariants as O
use Rattle.tray_taking.specs.declared.Records.{Records}

-- what a take is given
pub record Given : Type 0 where
  pub scale : ℕ
  pub byte : ℕ
  pub a : List ℕ
  pub b : List ℕ

-- the number of each refusal
abbrev pub number_of : Refusal → ℕ
number_of (F.Record f) = number f
number_of F.Form = form

-- ---- one record: a region with the bytes it took, or its refusal (8 for another kind)
abbrev pub found_in : Record → ℕ → Found
found_in (Rec.Region r) n = O.Region r n
found_in (Rec.Scale k) n = O.Refused OutOfTurn
found_in (Rec.Selection all) n = O.Refused OutOfTurn
found_in (Rec.Operator g) n = O.Refused OutOfTurn

abbrev pub found_by : Reading → Found
found_by (R.Accepted x n) = found_in x n
found_by (R.Refused f) = O.Refused f

abbrev pub one_of : List ℕ → Found
one_of l = found_by (reading_of l T.First)

-- ---- records of A back to back: their regions, or a refusal's number
pub data Regions : Type 0 where
  all_read : List Region → Regions
  refused : ℕ → Regions

abbrev pub more : Region → Regions → Regions
more r (all_read l) = all_read (r ∷ l)
more r (refused n) = refused n

abbrev pub onward : (ℕ → Regions) → Found → Regions
onward next (O.Region r n) = more r (next n)
onward next (O.Refused f) = refused (number f)

-- there is room for so many: where one more would begin, 16
unfoldable pub regions_of : ℕ → List ℕ → Regions
regions_of zero [] = all_read []
regions_of zero (b ∷ l) = refused form
regions_of (suc room) [] = all_read []
regions_of (suc room) (b ∷ l) = onward (λ n. regions_of room (drop n (b ∷ l))) (one_of (b ∷ l))

-- as a tray holds them
abbrev pub padded : ℕ → List Region → List Target
padded zero l = []
padded (suc n) [] = blank ∷ padded n []
padded (suc n) (r ∷ l) = record { region = r } ∷ padded n l

abbrev pub padded_of : Regions → Model.Taking (List Target)
padded_of (all_read l) = Model.accept (length l) (padded 8 l)
padded_of (refused n) = Model.refuse n

-- what the code says of them
abbrev read_by : Result Unit Refusal → ℕ → List Target → Model.Taking (List Target)
read_by (Ok tt) n ts = Model.accept n ts
read_by (Err f) n ts = Model.refuse (number_of f)

abbrev pub read_of : Records → Model.Taking (List Target)
read_of r = read_by r.verdict r.count r.targets

-- ---- B last: one region record, and nothing behind it
abbrev pub tray_of : ℕ → Bool → ℕ → List Target → Region → Tray
tray_of k all n ts b = record { k = k; all = all; b = b; count = n; targets = ts }

abbrev pub ended_by : Model.Taking Tray → Bool → Model.Taking Tray
ended_by t true = Model.refuse form
ended_by t false = t

abbrev pub last_of : ℕ → Bool → ℕ → List Target → List ℕ → Found → Model.Taking Tray
last_of k all n ts l (O.Region b m) = ended_by (Model.accept n (tray_of k all n ts b)) (ltb m (length l))
last_of k all n ts l (O.Refused f) = Model.refuse (number f)

abbrev pub second_of : ℕ → Bool → Model.Taking (List Target) → List ℕ → Model.Taking Tray
second_of k all (Model.accept n ts) l = last_of k all n ts l (one_of l)
second_of k all (Model.refuse r) l = Model.refuse r

-- ---- the take
abbrev pub is_nil : List ℕ → Bool
is_nil [] = true
is_nil (b ∷ l) = false

unfoldable pub takes : Given → Model.Taking Tray
takes g =
    cond (leb g.scale 20 && leb g.byte 1)
    (cond (is_nil g.a) (Model.refuse form) (second_of g.scale (eqb g.byte 1) (padded_of (regions_of 8 g.a)) g.b))
    (Model.refuse beyond_range)

-- what the code says of it
abbrev pub take_of : Result Unit Refusal → Tray → Model.Taking Tray
take_of (Ok tt) t = Model.accept t.count t
take_of (Err f) t = Model.refuse (number_of f)

-- a tray without regions
abbrev pub no_tray : Tray
no_tray = record { k = 0; all = false; b = blank.region; count = 0; targets = replicate 8 blank }

-- ---- what the code meets, step by step
module _ (g : Given) where
  pub takes-scale : 20 < g.scale → takes g ≡ Model.refuse beyond_range
  unfolding takes
  takes-scale h = rw (lt-leb g.scale 20 h) refl

  module _ (low : g.scale ≤ 20) where
    pub takes-byte : 1 < g.byte → takes g ≡ Model.refuse beyond_range
    unfolding takes
    takes-byte h = rw (le-leb g.scale 20 low, lt-leb g.byte 1 h) refl

    module _ (bit : g.byte ≤ 1) where
      nil_is : (l : List ℕ) → length l ≡ 0 → is_nil l ≡ true
      nil_is [] h = refl
      nil_is (b ∷ l) h = absurd (omega arith)

      some_is : (l : List ℕ) → (length l ≡ 0 → ⊥) → is_nil l ≡ false
      some_is [] h = absurd (h refl)
      some_is (b ∷ l) h = refl

      pub takes_none : length g.a ≡ 0 → takes g ≡ Model.refuse form
      unfolding takes
      takes_none h = rw (le-leb g.scale 20 low, le-leb g.byte 1 bit, nil_is g.a h) refl

      pub takes-second : (length g.a ≡ 0 → ⊥) → takes g ≡ second_of g.scale (eqb g.byte 1) (padded_of (regions_of 8 g.a)) g.b
      unfolding takes
      takes-second h = rw (le-leb g.scale 20 low, le-leb g.byte 1 bit, some_is g.a h) refl

-- the records of A are read, or refused
module _ (k : ℕ) (all : Bool) (r : Records) (l : List ℕ) where
  pub second-refused : (f : Refusal) → r.verdict ≡ Err f → second_of k all (read_of r) l ≡ Model.refuse (number_of f)
  second-refused f e = rw e refl

  pub second-last : (f : Found) → r.verdict ≡ (Ok tt) → one_of l ≡ f → second_of k all (read_of r) l ≡ last_of k all r.count r.targets l f
  second-last f e o = rw e (ap (last_of k all r.count r.targets l) o)
