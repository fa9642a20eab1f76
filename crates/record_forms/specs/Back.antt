-- Numbers written as the bytes of fields are read again; and bytes read as numbers are written again. Assumes nothing.
use Rattle.std.proofs.Math.Path.{◌≡◌, refl, ap}
use Rattle.std.proofs.Common.{sym, ap₂, ◌∙◌, add-one, length-append, length-drop, pow-add}
use Rattle.std.specs.Prelude.{Bool, cond, ℤ}
use Rattle.std.proofs.Math.Bool.{true, false}
use mathlib.Core.List.{List, [], ◌∷◌, ◌++◌, append_assoc}
use Prim.Native.Nat.{ℕ, zero, suc, ◌+◌, ◌-◌, ◌*◌, ◌/◌, ◌%◌, ◌^◌, ◌<◌, ◌≤◌}
use native.Mathlib.Omega.{arith}
use Rattle.std.proofs.Math.Nat.{pow-suc, two-pow-succ, mod-eq_of_lt, div-eq_of_lt, add-mul-mod_self_left, add-mul-div_left}
use Rattle.std.proofs.Math.Dec.{ltb}
use Rattle.std.proofs.Math.IntN.{pos, negsuc}
use Rattle.std.specs.Int.Signed.{mag}
use Rattle.std.proofs.Math.ListN.{length, get_or, take, drop}
use Rattle.std.proofs.Math.Seq.{drop-cons, take-add, drop-drop}
use borrow.Author.Tests.{ltb-true, ltb-false, lt-ltb}
use Rattle.record_kinds.specs.declared.Kind.{Kind}
use Rattle.record_kinds.specs.declared.Kind.TheVariants as K
use Rattle.record_kinds.specs.Kinds.{body_length}
use Rattle.record_fields.specs.Field.{unsigned_at, signed_at, signed_is, twos, twos-low, twos-high}
use Rattle.record_fields.specs.Bytes.{little_endian, bits_of, length-bytes, unsigned_back, signed_back}
use Rattle.record_forms.specs.declared.Field.{Field}
use Rattle.record_forms.specs.Forms.{fields_of, takes, takes_all, number_at, numbers_at, field_bytes, body_bytes}

-- bits and bytes
pub bits-bytes : (n : ℕ) → 2 ^ (8 * n) ≡ 256 ^ n
bits-bytes zero = refl
bits-bytes (suc n) =
    let e : 8 * suc n ≡ 8 * n + 8 = omega arith in
    ap (λ (k : ℕ). 2 ^ k) e ∙ pow-add 2 (8 * n) 8 ∙ ap (λ (x : ℕ). x * 256) (bits-bytes n) ∙ sym (pow-suc 256 n)

-- a number that is not negative has its own bits
bits_pos : (b n : ℕ) → bits_of b (pos n) ≡ n
unfolding bits_of
bits_pos b n = refl

-- ---- written, then read
module _ (f : Field) (some : 0 < f.size) (front back : List ℕ) where
  unsigned : (n : ℕ) → f.signed ≡ false → takes f (pos n) ≡ true → number_at f (front ++ (field_bytes f (pos n) ++ back)) (length front) ≡ pos n
  unfolding number_at takes bits_of
  unsigned n e h =
      let k : n < 256 ^ f.size = rw bits-bytes at (ltb-true n (2 ^ (8 * f.size)) (rw e at h)) in
      rw e (ap pos (unsigned_back f.size n front back k))

  whole : (z : ℤ) → f.signed ≡ true → mag z < 2 ^ (8 * f.size - 1) → number_at f (front ++ (field_bytes f z ++ back)) (length front) ≡ z
  unfolding number_at
  whole z e h = rw e (signed_back f.size z front back some h (bits-bytes f.size))

  pub number-back : (z : ℤ) → takes f z ≡ true → number_at f (front ++ (field_bytes f z ++ back)) (length front) ≡ z
  unfolding takes
  number-back (pos n) h = go f.signed refl
    where
      go : (b : Bool) → f.signed ≡ b → number_at f (front ++ (field_bytes f (pos n) ++ back)) (length front) ≡ pos n
      go true e = whole (pos n) e (ltb-true n (2 ^ (8 * f.size - 1)) (rw e at h))
      go false e = unsigned n e h
  number-back (negsuc n) h = go f.signed refl
    where
      go : (b : Bool) → f.signed ≡ b → number_at f (front ++ (field_bytes f (negsuc n) ++ back)) (length front) ≡ negsuc n
      go true e = whole (negsuc n) e (ltb-true n (2 ^ (8 * f.size - 1)) (rw e at h))
      go false e = absurd (let q = rw e at h in let y : ◌≡◌ {A = ℕ} 0 1 = cc in omega arith)

-- how many bytes fields have together
unfoldable pub size_of : List Field → ℕ
size_of [] = 0
size_of (f ∷ fs) = f.size + size_of fs

-- every field has a byte at least
unfoldable pub Sized : List Field → Type 0
Sized [] = Unit {0}
Sized (f ∷ fs) = (0 < f.size) × Sized fs

never : {P : Type 0} → false ≡ true → P
never e = absurd (let y : ◌≡◌ {A = ℕ} 0 1 = cc in omega arith)

pub numbers-back : (fs : List Field) (zs : List ℤ) (front back : List ℕ) → Sized fs → takes_all fs zs ≡ true → numbers_at fs (front ++ (body_bytes fs zs ++ back)) (length front) ≡ zs
unfolding numbers_at body_bytes takes_all Sized
numbers-back [] [] front back s h = refl
numbers-back [] (z ∷ zs) front back s h = never h
numbers-back (f ∷ fs) [] front back s h = never h
numbers-back (f ∷ fs) (z ∷ zs) front back s h = go (takes f z) refl h (numbers-back fs zs (front ++ field_bytes f z) back s.1)
  where
    go : (b : Bool) → takes f z ≡ b → cond b (takes_all fs zs) false ≡ true
        → (takes_all fs zs ≡ true → numbers_at fs ((front ++ field_bytes f z) ++ (body_bytes fs zs ++ back)) (length (front ++ field_bytes f z)) ≡ zs)
        → (number_at f (front ++ ((field_bytes f z ++ body_bytes fs zs) ++ back)) (length front) ∷ numbers_at fs (front ++ ((field_bytes f z ++ body_bytes fs zs) ++ back)) (length front + f.size)) ≡ z ∷ zs
    go true e k rest =
        let a : (field_bytes f z ++ body_bytes fs zs) ++ back ≡ field_bytes f z ++ (body_bytes fs zs ++ back) = append_assoc (field_bytes f z) (body_bytes fs zs) back in
        let b : front ++ (field_bytes f z ++ (body_bytes fs zs ++ back)) ≡ (front ++ field_bytes f z) ++ (body_bytes fs zs ++ back) = sym (append_assoc front (field_bytes f z) (body_bytes fs zs ++ back)) in
        let n : length front + f.size ≡ length (front ++ field_bytes f z) = omega (arith, length-append front (field_bytes f z), length-bytes f.size (bits_of (8 * f.size) z)) in
        rw a (ap₂ ◌∷◌ (number-back f s.0 front (body_bytes fs zs ++ back) z e) (rw (b, n) (rest k)))
    go false e k rest = never k

-- ---- read, then written
-- every number of a list is a byte
abbrev pub Bytes : List ℕ → Type 0
Bytes s = (i : ℕ) → get_or s i 0 < 256

module _ (s : List ℕ) (bytes : Bytes s) where
  pub unsigned_less : (n k : ℕ) → unsigned_at n s k < 256 ^ n
  unfolding unsigned_at
  unsigned_less zero k = omega arith
  unsigned_less (suc n) k = omega (arith, pow-suc 256 n, bytes k, unsigned_less n (k + 1))

  pub bytes-again : (n k : ℕ) → k + n ≤ length s → little_endian n (unsigned_at n s k) ≡ take n (drop k s)
  unfolding unsigned_at little_endian
  bytes-again zero k h = refl
  bytes-again (suc n) k h =
      let b = get_or s k 0 in
      let r = unsigned_at n s (k + 1) in
      let low : (b + 256 * r) % 256 ≡ b = add-mul-mod_self_left b 256 r ∙ mod-eq_of_lt (bytes k) in
      let high : (b + 256 * r) / 256 ≡ r = add-mul-div_left b r {y = 256} (omega arith) ∙ ap (λ (x : ℕ). x + r) (div-eq_of_lt (bytes k)) ∙ omega arith in
      let in-s : k < length s = omega arith in
      let d : drop k s ≡ b ∷ drop (k + 1) s = rw (add-one, drop-cons s k 0 in-s) refl in
      rw (d, low, high) (ap (λ (l : List ℕ). b ∷ l) (bytes-again n (k + 1) (omega arith)))

  module _ (f : Field) (some : 0 < f.size) (k : ℕ) (room : k + f.size ≤ length s) where
    abbrev read : ℕ
    read = unsigned_at f.size s k

    abbrev bits : ℕ
    bits = 8 * f.size

    less : read < 2 ^ bits
    less = rw bits-bytes (unsigned_less f.size k)

    double : 2 ^ bits ≡ 2 ^ (bits - 1) + 2 ^ (bits - 1)
    double = let e : bits ≡ suc (bits - 1) = omega arith in ap (λ (b : ℕ). 2 ^ b) e ∙ two-pow-succ (bits - 1)

    -- a signed number has the bits that were read, and room in its field
    signed-again : (bits_of bits (twos bits read) ≡ read) × (mag (twos bits read) < 2 ^ (bits - 1))
    unfolding bits_of
    signed-again = go (ltb read (2 ^ (bits - 1))) refl
      where
        go : (b : Bool) → ltb read (2 ^ (bits - 1)) ≡ b → (bits_of bits (twos bits read) ≡ read) × (mag (twos bits read) < 2 ^ (bits - 1))
        go true e = let h = ltb-true read (2 ^ (bits - 1)) e in rw (twos-low bits read h) (refl, h)
        go false e =
            let h = ltb-false read (2 ^ (bits - 1)) e in
            rw (twos-high bits read h less) (omega (arith, less), omega (arith, less, double))

    pub number-takes : takes f (number_at f s k) ≡ true
    unfolding number_at takes
    number-takes = go f.signed refl
      where
        signed : (z : ℤ) → f.signed ≡ true → mag z < 2 ^ (bits - 1) → takes f z ≡ true
        signed (pos n) e h = rw e (lt-ltb n (2 ^ (bits - 1)) h)
        signed (negsuc n) e h = rw e (lt-ltb n (2 ^ (bits - 1)) h)

        go : (b : Bool) → f.signed ≡ b → takes f (cond b (signed_at f.size s k) (pos read)) ≡ true
        go true e = signed (signed_at f.size s k) e (rw signed_is signed-again.1)
        go false e = rw e (lt-ltb read (2 ^ bits) less)

    pub number-again : field_bytes f (number_at f s k) ≡ take f.size (drop k s)
    unfolding number_at
    number-again = go f.signed
      where
        go : (b : Bool) → little_endian f.size (bits_of bits (cond b (signed_at f.size s k) (pos read))) ≡ take f.size (drop k s)
        go true = rw (signed_is, signed-again.0) (bytes-again f.size k room)
        go false = rw bits_pos (bytes-again f.size k room)

  pub all-taken : (fs : List Field) (k : ℕ) → Sized fs → k + size_of fs ≤ length s → takes_all fs (numbers_at fs s k) ≡ true
  unfolding takes_all numbers_at Sized size_of
  all-taken [] k p h = refl
  all-taken (f ∷ fs) k p h = rw (number-takes f p.0 k (omega arith)) (all-taken fs (k + f.size) p.1 (omega arith))

  pub numbers-again : (fs : List Field) (k : ℕ) → Sized fs → k + size_of fs ≤ length s → body_bytes fs (numbers_at fs s k) ≡ take (size_of fs) (drop k s)
  unfolding body_bytes numbers_at Sized size_of
  numbers-again [] k p h = refl
  numbers-again (f ∷ fs) k p h =
      rw (number-again f p.0 k (omega arith), numbers-again fs (k + f.size) p.1 (omega arith), take-add f.size (size_of fs) (drop k s), drop-drop f.size k s) refl

-- ---- lengths of bodies
pub sized : (k : Kind) → Sized (fields_of k)
unfolding Sized fields_of
sized K.Scale = (omega arith, tt)
sized K.Rectangle = (omega arith, (omega arith, (omega arith, (omega arith, (omega arith, tt)))))
sized K.Ellipse = (omega arith, (omega arith, (omega arith, (omega arith, (omega arith, (omega arith, (omega arith, tt)))))))
sized K.Operator = (omega arith, (omega arith, (omega arith, (omega arith, (omega arith, (omega arith, (omega arith, (omega arith, tt))))))))
sized K.Slice = (omega arith, (omega arith, (omega arith, (omega arith, tt))))
sized K.Selection = (omega arith, tt)
sized K.Unknown = tt

pub size-kind : (k : Kind) → size_of (fields_of k) ≡ body_length k
unfolding size_of fields_of
size-kind K.Scale = refl
size-kind K.Rectangle = refl
size-kind K.Ellipse = refl
size-kind K.Operator = refl
size-kind K.Slice = refl
size-kind K.Selection = refl
size-kind K.Unknown = refl

pub length-body : (fs : List Field) (zs : List ℤ) → takes_all fs zs ≡ true → length (body_bytes fs zs) ≡ size_of fs
unfolding takes_all body_bytes size_of
length-body [] zs h = refl
length-body (f ∷ fs) [] h = never h
length-body (f ∷ fs) (z ∷ zs) h = go (takes f z) h (length-body fs zs)
  where
    go : (b : Bool) → cond b (takes_all fs zs) false ≡ true → (takes_all fs zs ≡ true → length (body_bytes fs zs) ≡ size_of fs) → length (field_bytes f z ++ body_bytes fs zs) ≡ f.size + size_of fs
    go true e rest = length-append (field_bytes f z) (body_bytes fs zs) ∙ ap₂ ◌+◌ (length-bytes f.size (bits_of (8 * f.size) z)) (rest e)
    go false e rest = never e
