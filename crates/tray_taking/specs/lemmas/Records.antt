-- The records of A, one after another: what is read so far and what is still to come.
use Rattle.std.specs.Prelude.{◌≡◌, refl, Bool, true, false, cond, ◌&&◌, List, [], ◌∷◌, ◌++◌, ℕ, zero, suc, ◌≤◌, ◌<◌, eqb, leb, ltb, length, drop, set}
use Rattle.std.proofs.Common.{sym, ap, arith}
use Rattle.refusals.specs.Refusals.{beyond_range, form}
use Rattle.region.specs.declared.Region.{Region}
use Rattle.record_kinds.specs.declared.Turn.TheVariants as T
use Rattle.record.specs.declared.Record.TheVariants as Rec
use Rattle.record.specs.declared.Reading.{Reading}
use Rattle.record.specs.declared.Reading.TheVariants as R
use Rattle.record.specs.Record.{reading_of}
use Rattle.record.specs.lemmas.Taken.{reading_takes}
use Rattle.record_kinds.specs.Kinds.{number}
use Rattle.tray_model.specs.Session as Model
use Rattle.tray_list.specs.declared.Target.{Target}
use Rattle.tray_list.specs.declared.Tray.{Tray}
use Rattle.tray_taking.specs.Taking.{Regions, all_read, refused, more, onward, found_by, one_of, regions_of, padded, padded_of, tray_of, ended_by, last_of, second_of, is_nil, Given, takes}
use Rattle.tray_taking.specs.declared.Found.{Found}
use Rattle.tray_taking.specs.declared.Found.TheVariants as O

-- more regions in front
abbrev pub before : List Region → Regions → Regions
before [] x = x
before (r ∷ l) x = more r (before l x)

pub before_more : (l : List Region) (r : Region) (x : Regions) → before (l ++ (r ∷ [])) x ≡ before l (more r x)
before_more [] r x = refl
before_more (q ∷ l) r x = ap (more q) (before_more l r x)

pub before-all : (l m : List Region) → before l (all_read m) ≡ all_read (l ++ m)
before-all [] m = refl
before-all (r ∷ l) m = ap (more r) (before-all l m)

pub before-refused : (l : List Region) (n : ℕ) → before l (refused n) ≡ refused n
before-refused [] n = refl
before-refused (r ∷ l) n = ap (more r) (before-refused l n)

-- a region more is stored behind the others
pub padded-more : (n : ℕ) (l : List Region) (r : Region) → length l < n → set (padded n l) (length l) (record { region = r }) ≡ padded n (l ++ (r ∷ []))
padded-more zero l r h = absurd (omega arith)
padded-more (suc n) [] r h = refl
padded-more (suc n) (q ∷ l) r h = ap (λ (ts : List Target). record { region = q } ∷ ts) (padded-more n l r (omega arith))

-- ---- what is still to come
pub to_come_none : (room : ℕ) (l : List ℕ) → length l ≡ 0 → regions_of room l ≡ all_read []
unfolding regions_of
to_come_none zero [] h = refl
to_come_none (suc room) [] h = refl
to_come_none room (b ∷ l) h = absurd (omega arith)

pub to_come_full : (room : ℕ) (l : List ℕ) → room ≡ 0 → 0 < length l → regions_of room l ≡ refused form
unfolding regions_of
to_come_full room [] e h = absurd (omega arith)
to_come_full zero (b ∷ l) e h = refl
to_come_full (suc room) (b ∷ l) e h = absurd (omega arith)

pub to_come_more : (room : ℕ) (l : List ℕ) (f : Found) → 0 < length l → one_of l ≡ f → regions_of (suc room) l ≡ onward (λ n. regions_of room (drop n l)) f
unfolding regions_of
to_come_more room [] f h e = absurd (omega arith)
to_come_more room (b ∷ l) f h e = ap (onward (λ n. regions_of room (drop n (b ∷ l)))) e

-- an accepted region record takes a byte at least, and no more than there are
found-reading : (r : Region) (n : ℕ) (x : Reading) → found_by x ≡ O.Region r n → x ≡ R.Accepted (Rec.Region r) n
found-reading r n (R.Accepted (Rec.Region q) m) e = cc
found-reading r n (R.Accepted (Rec.Scale k) m) e = cc
found-reading r n (R.Accepted (Rec.Selection all) m) e = cc
found-reading r n (R.Accepted (Rec.Operator g) m) e = cc
found-reading r n (R.Refused f) e = cc

pub found-takes : (r : Region) (n : ℕ) (l : List ℕ) → one_of l ≡ O.Region r n → (1 ≤ n) × (n ≤ length l)
found-takes r n l e = reading_takes (Rec.Region r) n l T.First (found-reading r n (reading_of l T.First) e)

-- ---- a tray that is taken has no more than eight regions, and its number of them is what the take answers
few_more : (room : ℕ) (r : Region) (x : Regions) (l : List Region) → ((m : List Region) → x ≡ all_read m → length m ≤ room) → more r x ≡ all_read l → length l ≤ suc room
few_more room r (all_read m) l ih e =
    let q : r ∷ m ≡ l = cc in
    let n = ap length q in
    let k = ih m refl in
    omega arith
few_more room r (refused n) l ih e = absurd (let z : ◌≡◌ {A = ℕ} 0 1 = cc in omega arith)

few_onward : (room : ℕ) (next : ℕ → Regions) (f : Found) (l : List Region) → ((n : ℕ) (m : List Region) → next n ≡ all_read m → length m ≤ room) → onward next f ≡ all_read l → length l ≤ suc room
few_onward room next (O.Region r n) l ih e = few_more room r (next n) l (ih n) e
few_onward room next (O.Refused f) l ih e = absurd (let z : ◌≡◌ {A = ℕ} 0 1 = cc in omega arith)

none_read : (l : List Region) (room : ℕ) → all_read [] ≡ all_read l → length l ≤ room
none_read l room e = let q : [] ≡ l = cc in let n = ap length q in omega arith

pub regions_few : (room : ℕ) (b : List ℕ) (l : List Region) → regions_of room b ≡ all_read l → length l ≤ room
unfolding regions_of
regions_few zero [] l e = none_read l 0 e
regions_few zero (b ∷ bs) l e = absurd (let z : ◌≡◌ {A = ℕ} 0 1 = cc in omega arith)
regions_few (suc room) [] l e = none_read l (suc room) e
regions_few (suc room) (b ∷ bs) l e = few_onward room (λ n. regions_of room (drop n (b ∷ bs))) (one_of (b ∷ bs)) l (λ n m. regions_few room (drop n (b ∷ bs)) m) e

never : (r m : ℕ) (t : Tray) → {P : Type 0} → ◌≡◌ {A = Model.Taking Tray} (Model.refuse r) (Model.accept m t) → P
never r m t e = absurd (let z : ◌≡◌ {A = ℕ} 0 1 = cc in omega arith)

module _ (k : ℕ) (all : Bool) (n : ℕ) (ts : List Target) (m : ℕ) (t : Tray) where
  ended-taken : (b : Region) (x : Bool) → ended_by (Model.accept n (tray_of k all n ts b)) x ≡ Model.accept m t → (t.count ≡ n) × (m ≡ n)
  ended-taken b true e = never form m t e
  ended-taken b false e =
      let q : tray_of k all n ts b ≡ t = cc in
      let i : n ≡ m = cc in
      (ap (λ (u : Tray). u.count) (sym q), sym i)

  last_taken : (l : List ℕ) (f : Found) → last_of k all n ts l f ≡ Model.accept m t → (t.count ≡ n) × (m ≡ n)
  last_taken l (O.Region b x) e = ended-taken b (ltb x (length l)) e
  last_taken l (O.Refused f) e = never (number f) m t e

pub taken_few : (g : Given) (m : ℕ) (t : Tray) → takes g ≡ Model.accept m t → (t.count ≡ m) × (m ≤ 8)
unfolding takes
taken_few g m t e = go (leb g.scale 20 && leb g.byte 1) (is_nil g.a) (regions_of 8 g.a) refl e
  where
    go : (x y : Bool) (r : Regions) → regions_of 8 g.a ≡ r → cond x (cond y (Model.refuse form) (second_of g.scale (eqb g.byte 1) (padded_of r) g.b)) (Model.refuse beyond_range) ≡ Model.accept m t → (t.count ≡ m) × (m ≤ 8)
    go false y r f e = never beyond_range m t e
    go true true r f e = never form m t e
    go true false (refused n) f e = never n m t e
    go true false (all_read l) f e =
        let h = regions_few 8 g.a l f in
        let q = last_taken g.scale (eqb g.byte 1) (length l) (padded 8 l) m t g.b (one_of g.b) e in
        (omega arith, omega arith)
