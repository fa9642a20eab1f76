-- What the code of `record_forms` meets, step by step. Assumes nothing.
use mathlib.Core.Path.{◌≡◌, refl, sym, ap, ap₂, subst, ◌∙◌}
use mathlib.Core.Bool.{Bool, true, false, cond}
use mathlib.Core.List.{List, [], ◌∷◌, ◌++◌}
use Prim.Native.Nat.{ℕ, zero, suc, ◌+◌, ◌-◌, ◌*◌, ◌/◌, ◌%◌, ◌^◌, ◌<◌, ◌≤◌}
use native.Mathlib.Omega.{arith}
use native.Mathlib.Numerals.{add-one}
use native.Mathlib.Nat.{pow-suc, two-pow-succ, div-add-mod', mod-lt, add-mul-mod_self_left, add-mul-div_left, mod-eq_of_lt, div-eq_of_lt}
use lib.Dec.{ltb, eqb}
use lib.IntN.{ℤ, pos, negsuc, nat_abs}
use lib.Signed.{mag, lt_z}
use lib.ListN.{length, get_or, drop, drop_of_length-le}
use lib.Seq.{drop-cons}
use borrow.Author.Tests.{ltb-true, ltb-false, lt-ltb, le-ltb, eqb-true, eqb-false}
use Rattle.std.specs.Bool.{MatchBool}
use Rattle.std.specs.List.{AllWithin, HoldsAt, zip}
use Rattle.record_fields.specs.Bytes.{little_endian, bits_of}
use Rattle.record_forms.specs.declared.Field.{Field}
use Rattle.record_kinds.specs.declared.Kind.{Kind}
use Rattle.record_forms.specs.Forms.{fields_of, kind_byte, takes, takes_all, field_bytes, body_bytes, record_bytes}
use Rattle.record_forms.specs.Back.{bits-bytes}
use Rattle.record_forms.specs.Laid.{Slate, laid, laid-append, laid_one}
use Rattle.text.specs.Written.{written, after}

-- two comparisons that go over into each other
same : (a b c d : ℕ) → (a < b → c < d) → (b ≤ a → d ≤ c) → ltb a b ≡ ltb c d
same a b c d f g = go (ltb a b) refl
  where
    go : (t : Bool) → ltb a b ≡ t → t ≡ ltb c d
    go true e = sym (lt-ltb c d (f (ltb-true a b e)))
    go false e = sym (le-ltb c d (g (ltb-false a b e)))

-- ---- at most so many bytes
pub below_step : (w m : ℕ) → ltb (w / 256) (256 ^ m) ≡ ltb w (256 ^ suc m)
below_step w m =
    let d = div-add-mod' w 256 in
    let r = mod-lt w {m = 256} (omega arith) in
    let p = pow-suc 256 m in
    same (w / 256) (256 ^ m) w (256 ^ suc m) (λ h. omega arith) (λ h. omega arith)

pub below_end : (w : ℕ) → eqb w 0 ≡ ltb w 1
below_end w = go (eqb w 0) refl
  where
    some : (w : ℕ) → eqb w 0 ≡ false → 1 ≤ w
    some zero e = absurd (eqb-false 0 0 e refl)
    some (suc w) e = omega arith

    go : (t : Bool) → eqb w 0 ≡ t → t ≡ ltb w 1
    go true e = let z = eqb-true w 0 e in sym (lt-ltb w 1 (omega arith))
    go false e = sym (le-ltb w 1 (some w e))

-- the loop of `below`: i bytes are gone, w is left
module _ (v size : ℕ) where
  pub below-start : ltb v (256 ^ (size - 0)) ≡ ltb v (256 ^ size)
  below-start = let e : size - 0 ≡ size = omega arith in ap (λ (k : ℕ). ltb v (256 ^ k)) e

  module _ (w i : ℕ) (left : ltb w (256 ^ (size - i)) ≡ ltb v (256 ^ size)) where
    pub below_again : i < size → ltb (w / 256) (256 ^ (size - (i + 1))) ≡ ltb v (256 ^ size)
    below_again h =
        let e : suc (size - (i + 1)) ≡ size - i = omega arith in
        below_step w (size - (i + 1)) ∙ ap (λ (k : ℕ). ltb w (256 ^ k)) e ∙ left

    pub below-done : size ≤ i → eqb w 0 ≡ ltb v (256 ^ size)
    below-done h = let e : 0 ≡ size - i = omega arith in below_end w ∙ ap (λ (k : ℕ). ltb w (256 ^ k)) e ∙ left

half : (n s : ℕ) → ltb (2 * n) (256 ^ s) ≡ ltb n (2 ^ (8 * s - 1))
half n zero = same (2 * n) 1 n 1 (λ h. omega arith) (λ h. omega arith)
half n (suc s) =
    let e : 8 * suc s ≡ suc (8 * suc s - 1) = omega arith in
    let d : 256 ^ suc s ≡ 2 ^ (8 * suc s - 1) + 2 ^ (8 * suc s - 1) = sym (bits-bytes (suc s)) ∙ ap (λ (k : ℕ). 2 ^ k) e ∙ two-pow-succ (8 * suc s - 1) in
    same (2 * n) (256 ^ suc s) n (2 ^ (8 * suc s - 1)) (λ h. omega arith) (λ h. omega arith)

-- ---- room for a number
pub takes-signed : (f : Field) (z : ℤ) → f.signed ≡ true → ltb (2 * mag z) (256 ^ f.size) ≡ takes f z
unfolding takes
takes-signed f (pos n) e = rw e (half n f.size)
takes-signed f (negsuc n) e = rw e (half n f.size)

pub takes-plain : (f : Field) (z : ℤ) → f.signed ≡ false → lt_z z (pos 0) ≡ false → ltb (mag z) (256 ^ f.size) ≡ takes f z
unfolding takes
takes-plain f (pos n) e h = rw e (ap (ltb n) (sym (bits-bytes f.size)))
takes-plain f (negsuc n) e h = absurd (let y : ◌≡◌ {A = ℕ} 0 1 = cc in omega arith)

pub takes-negative : (f : Field) (z : ℤ) → f.signed ≡ false → lt_z z (pos 0) ≡ true → false ≡ takes f z
unfolding takes
takes-negative f (pos n) e h = let k : n < 0 = ltb-true n 0 h in absurd (omega arith)
takes-negative f (negsuc n) e h = rw e refl

pub size_below : (z : ℤ) → lt_z z (pos 0) ≡ true → nat_abs z ≡ suc (mag z)
size_below (pos n) h = let k : n < 0 = ltb-true n 0 h in absurd (omega arith)
size_below (negsuc n) h = refl

pub size-not_below : (z : ℤ) → lt_z z (pos 0) ≡ false → nat_abs z ≡ mag z
size-not_below (pos n) h = refl
size-not_below (negsuc n) h = absurd (let y : ◌≡◌ {A = ℕ} 0 1 = cc in omega arith)

-- ---- field by field
-- what an array of fields holds past its end
abbrev pub none : Field
none = record { signed = false; size = 0 }

next : {A : Type 0} (l : List A) (i : ℕ) (d : A) → i < length l → drop i l ≡ get_or l i d ∷ drop (i + 1) l
next l i d h = rw (add-one, drop-cons l i d h) refl

pub takes-length : (fs : List Field) (zs : List ℤ) → (length fs ≡ length zs → ⊥) → takes_all fs zs ≡ false
unfolding takes_all
takes-length [] [] h = absurd (h refl)
takes-length [] (z ∷ zs) h = refl
takes-length (f ∷ fs) [] h = refl
takes-length (f ∷ fs) (z ∷ zs) h = go (takes f z) (takes-length fs zs (λ e. h (ap suc e)))
  where
    go : (b : Bool) → takes_all fs zs ≡ false → cond b (takes_all fs zs) false ≡ false
    go true e = e
    go false e = refl

module _ (fs : List Field) (zs : List ℤ) (i : ℕ) (d : Field) (e : ℤ) (p : i < length fs) (q : i < length zs) where
  pub takes-drop : takes_all (drop i fs) (drop i zs) ≡ cond (takes (get_or fs i d) (get_or zs i e)) (takes_all (drop (i + 1) fs) (drop (i + 1) zs)) false
  unfolding takes_all
  takes-drop = rw (next fs i d p, next zs i e q) refl

  pub body-drop : body_bytes (drop i fs) (drop i zs) ≡ field_bytes (get_or fs i d) (get_or zs i e) ++ body_bytes (drop (i + 1) fs) (drop (i + 1) zs)
  unfolding body_bytes
  body-drop = rw (next fs i d p, next zs i e q) refl

pub both : (a b : Bool) → cond a b false ≡ true → (a ≡ true) × (b ≡ true)
both true b e = (refl, e)
both false b e = absurd (let y : ◌≡◌ {A = ℕ} 0 1 = cc in omega arith)

-- ---- byte by byte
-- the s bytes of v, or of −1 − v
abbrev pub bytes_from : Bool → ℕ → ℕ → List ℕ
bytes_from m s v = little_endian s (cond m (256 ^ s - suc v) v)

pub bytes-first : (m : Bool) (s v : ℕ) → v < 256 ^ suc s → bytes_from m (suc s) v ≡ cond m (255 - v % 256) (v % 256) ∷ bytes_from m s (v / 256)
unfolding little_endian
bytes-first false s v h = refl
bytes-first true s v h =
    let d = div-add-mod' v 256 in
    let l = mod-lt v {m = 256} (omega arith) in
    let p = pow-suc 256 s in
    let b = 255 - v % 256 in
    let r = 256 ^ s - suc (v / 256) in
    let w : 256 ^ suc s - suc v ≡ b + 256 * r = omega arith in
    let small : b < 256 = omega arith in
    let low : (b + 256 * r) % 256 ≡ b = add-mul-mod_self_left b 256 r ∙ mod-eq_of_lt small in
    let high : (b + 256 * r) / 256 ≡ r = add-mul-div_left b r {y = 256} (omega arith) ∙ ap (λ (x : ℕ). x + r) (div-eq_of_lt small) ∙ omega arith in
    rw (w, low, high) refl

pub bytes-start : (f : Field) (z : ℤ) → bytes_from (lt_z z (pos 0)) f.size (mag z) ≡ field_bytes f z
unfolding bits_of
bytes-start f (pos n) = rw (le-ltb n 0 (omega arith)) refl
bytes-start f (negsuc n) = rw (bits-bytes f.size) refl

pub bytes-room : (f : Field) (z : ℤ) → takes f z ≡ true → mag z < 256 ^ f.size
bytes-room f z h = go f.signed refl (lt_z z (pos 0)) refl
  where
    go : (s : Bool) → f.signed ≡ s → (m : Bool) → lt_z z (pos 0) ≡ m → mag z < 256 ^ f.size
    go true e m k = let l = ltb-true (2 * mag z) (256 ^ f.size) (takes-signed f z e ∙ h) in omega arith
    go false e false k = ltb-true (mag z) (256 ^ f.size) (takes-plain f z e k ∙ h)
    go false e true k = absurd (let t : false ≡ true = takes-negative f z e k ∙ h in let y : ◌≡◌ {A = ℕ} 0 1 = cc in omega arith)

-- ---- the loop of `put_number`: i bytes are put, v is left
less-bytes : (v m : ℕ) → v < 256 ^ suc m → v / 256 < 256 ^ m
less-bytes v m h = let d = div-add-mod' v 256 in let q = pow-suc 256 m in omega arith

pub number-room : (f : Field) (z : ℤ) (v : ℕ) → takes f z ≡ true → v ≡ mag z → v < 256 ^ (f.size - 0)
number-room f z v h e = let k = bytes-room f z h in let n : f.size - 0 ≡ f.size = omega arith in rw (n, e) k

pub number-again : (minus : Bool) (size v i : ℕ) (xs : List ℕ) (a b : ℕ) (out : List ℕ) (r : ℕ) (end : Slate) → i < size → v < 256 ^ (size - i)
    → laid (xs, a) (bytes_from minus (size - i) v) ≡ end → b ≡ cond minus (255 - v % 256) (v % 256) → (out ≡ written xs a (b ∷ [])) × (r ≡ after xs a (b ∷ []))
    → (v / 256 < 256 ^ (size - (i + 1))) × (laid (out, r) (bytes_from minus (size - (i + 1)) (v / 256)) ≡ end)
number-again minus size v i xs a b out r end h l e f p =
    let n : size - i ≡ suc (size - (i + 1)) = omega arith in
    let k : v < 256 ^ suc (size - (i + 1)) = subst (λ (j : ℕ). v < 256 ^ j) n l in
    let rest = bytes_from minus (size - (i + 1)) (v / 256) in (
      less-bytes v (size - (i + 1)) k,
      ap (λ (s : Slate). laid s rest) (laid_one xs a b out r p)
          ∙ sym (laid-append (xs, a) (b ∷ []) rest)
          ∙ ap (λ (x : ℕ). laid (xs, a) (x ∷ rest)) f
          ∙ ap (laid (xs, a)) (sym (bytes-first minus (size - (i + 1)) v k))
          ∙ ap (λ (j : ℕ). laid (xs, a) (bytes_from minus j v)) (sym n)
          ∙ e,
    )

pub number-done : (minus : Bool) (size v i : ℕ) (s end : Slate) → size ≤ i → laid s (bytes_from minus (size - i) v) ≡ end → s ≡ end
unfolding laid little_endian
number-done minus size v i s end h e = let n : size - i ≡ 0 = omega arith in subst (λ (j : ℕ). laid s (bytes_from minus j v) ≡ end) n e

pub number-whole : (f : Field) (z y : ℤ) (v : ℕ) → y ≡ z → v ≡ mag z → bytes_from (lt_z y (pos 0)) (f.size - 0) v ≡ field_bytes f z
number-whole f z y v e k =
    let n : f.size - 0 ≡ f.size = omega arith in
    ap (λ (j : ℕ). bytes_from (lt_z y (pos 0)) j v) n ∙ ap₂ (λ (x : ℤ) (w : ℕ). bytes_from (lt_z x (pos 0)) f.size w) e k ∙ bytes-start f z

-- ---- the loops over fields: i of them are behind
pub takes-long : (fs : List Field) (zs : List ℤ) → takes_all fs zs ≡ true → length fs ≡ length zs
unfolding takes_all
takes-long [] [] h = refl
takes-long [] (z ∷ zs) h = absurd (let y : ◌≡◌ {A = ℕ} 0 1 = cc in omega arith)
takes-long (f ∷ fs) [] h = absurd (let y : ◌≡◌ {A = ℕ} 0 1 = cc in omega arith)
takes-long (f ∷ fs) (z ∷ zs) h = ap suc (takes-long fs zs (both (takes f z) (takes_all fs zs) h).1)

module _ (fs : List Field) (zs : List ℤ) (i : ℕ) (f : Field) (z : ℤ) (p : i < length fs) (q : i < length zs) (fi : (d : Field) → f ≡ get_or fs i d) (zi : (e : ℤ) → z ≡ get_or zs i e) where
  pub takes-here : takes_all (drop i fs) (drop i zs) ≡ true → (takes f z ≡ true) × (takes_all (drop (i + 1) fs) (drop (i + 1) zs) ≡ true)
  takes-here h = rw (fi none, zi (pos 0)) (both _ _ (sym (takes-drop fs zs i none (pos 0) p q) ∙ h))

  pub body-again : (s t end : Slate) → laid s (body_bytes (drop i fs) (drop i zs)) ≡ end → t ≡ laid s (field_bytes f z) → laid t (body_bytes (drop (i + 1) fs) (drop (i + 1) zs)) ≡ end
  body-again s t end h l =
      let rest = body_bytes (drop (i + 1) fs) (drop (i + 1) zs) in
      let e : body_bytes (drop i fs) (drop i zs) ≡ field_bytes f z ++ rest = rw (fi none, zi (pos 0)) (body-drop fs zs i none (pos 0) p q) in
      ap (λ (x : Slate). laid x rest) l ∙ sym (laid-append s (field_bytes f z) rest) ∙ ap (laid s) (sym e) ∙ h

pub body-done : (fs : List Field) (zs : List ℤ) (i : ℕ) (s end : Slate) → length fs ≤ i → laid s (body_bytes (drop i fs) (drop i zs)) ≡ end → s ≡ end
unfolding laid body_bytes
body-done fs zs i s end h e = subst (λ (l : List Field). laid s (body_bytes l (drop i zs)) ≡ end) (drop_of_length-le fs h) e

-- a kind's byte, and the body after it
pub record_whole : (k : Kind) (zs : List ℤ) (xs : List ℕ) (at b : ℕ) (mid : List ℕ) (m : ℕ) (s : Slate) → b ≡ kind_byte k → (mid ≡ written xs at (b ∷ [])) × (m ≡ after xs at (b ∷ []))
    → s ≡ laid (mid, m) (body_bytes (fields_of k) zs) → s ≡ laid (xs, at) (record_bytes k zs)
unfolding record_bytes
record_whole k zs xs at b mid m s f p e =
    let body = body_bytes (fields_of k) zs in
    e ∙ ap (λ (x : Slate). laid x body) (laid_one xs at b mid m p) ∙ sym (laid-append (xs, at) (b ∷ []) body) ∙ ap (λ (x : ℕ). laid (xs, at) (x ∷ body)) f

-- ---- fields and numbers pair by pair
pub taken_zip : (fs : List Field) (zs : List ℤ) → length fs ≡ length zs → AllWithin (λ p. takes p.0 p.1 ≡ true) (zip fs zs) 0 (length (zip fs zs)) → true ≡ takes_all fs zs
unfolding takes_all
taken_zip [] [] e h = refl
taken_zip [] (z ∷ zs) e h = absurd (omega arith)
taken_zip (f ∷ fs) [] e h = absurd (omega arith)
taken_zip (f ∷ fs) (z ∷ zs) e h =
    rw (h 0 (f, z) (omega arith) (omega arith)) (taken_zip fs zs (omega arith) (λ k d a b. h (suc k) d (omega arith) (omega arith)))

pub untaken_zip : (fs : List Field) (zs : List ℤ) (k : ℕ) → k < length (zip fs zs) → HoldsAt (λ p. takes p.0 p.1 ≡ false) (zip fs zs) k → false ≡ takes_all fs zs
unfolding takes_all
untaken_zip [] zs k a h = absurd (omega arith)
untaken_zip (f ∷ fs) [] k a h = absurd (omega arith)
untaken_zip (f ∷ fs) (z ∷ zs) zero a h = rw (h (f, z)) refl
untaken_zip (f ∷ fs) (z ∷ zs) (suc k) a h = go (takes f z) (untaken_zip fs zs k (omega arith) h)
  where
    go : (b : Bool) → false ≡ takes_all fs zs → false ≡ cond b (takes_all fs zs) false
    go true e = e
    go false e = refl

pub takes_zip : (fs : List Field) (zs : List ℤ) (r : Bool) → length fs ≡ length zs → MatchBool r (AllWithin (λ p. takes p.0 p.1 ≡ true) (zip fs zs) 0 (length (zip fs zs))) ((k : ℕ) × (k < length (zip fs zs)) × HoldsAt (λ p. takes p.0 p.1 ≡ false) (zip fs zs) k) → r ≡ takes_all fs zs
takes_zip fs zs true e h = taken_zip fs zs e h
takes_zip fs zs false e (k, a, h) = untaken_zip fs zs k a h
