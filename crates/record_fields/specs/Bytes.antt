-- A number as the bytes of a field: SPEC, "Records". What is read of them is the number again.
use Rattle.std.specs.Prelude.{◌≡◌, refl, true, false, List, [], ◌∷◌, ◌++◌, ℤ, pos, nat_abs, length, get_or}
use Rattle.std.proofs.Common.{sym, ap₂, ◌∙◌, append_assoc, arith, div-add-mod', div-lt_iff_lt-mul, pow-suc, length-append, ltb-true}
use Rattle.std.proofs.Math.Path.{ap}
use Prim.Native.Nat.{ℕ, zero, suc, ◌+◌, ◌-◌, ◌*◌, ◌/◌, ◌%◌, ◌^◌, ◌<◌, ◌≤◌}
use Rattle.std.proofs.Math.Nat.{two-pow-succ}
use Rattle.std.proofs.Math.IntN.{negsuc}
use Rattle.std.specs.Int.Signed.{mag, lt_z}
use Rattle.std.proofs.lemmas.List.{get_or_at}
use Rattle.record_fields.specs.Field.{unsigned_at, signed_at, signed_is, twos, twos-low, twos-high}

-- n bytes, the first the least
unfoldable pub little_endian : ℕ → ℕ → List ℕ
little_endian zero v = []
little_endian (suc n) v = v % 256 ∷ little_endian n (v / 256)

-- two's complement of b bits: a number as it is, a negative one and 2^b
unfoldable pub bits_of : ℕ → ℤ → ℕ
bits_of b (pos n) = n
bits_of b (negsuc n) = 2 ^ b - suc n

pub length-bytes : (n v : ℕ) → length (little_endian n v) ≡ n
unfolding little_endian
length-bytes zero v = refl
length-bytes (suc n) v = ap suc (length-bytes n (v / 256))

-- ---- read where it was written
pub unsigned_back : (n v : ℕ) (front back : List ℕ) → v < 256 ^ n → unsigned_at n (front ++ (little_endian n v ++ back)) (length front) ≡ v
unfolding unsigned_at little_endian
unsigned_back zero v front back h = omega arith
unsigned_back (suc n) v front back h =
    let first : List ℕ = v % 256 ∷ [] in
    let rest : List ℕ = little_endian n (v / 256) ++ back in
    let small : v / 256 < 256 ^ n = (div-lt_iff_lt-mul {k = 256} {x = v} {y = 256 ^ n} (omega arith)).1 (rw pow-suc at h) in
    let l : length (front ++ first) ≡ length front + 1 = length-append front first in
    let a : get_or (front ++ (v % 256 ∷ rest)) (length front) 0 ≡ v % 256 = get_or_at front (v % 256) rest 0 (length front) refl in
    let b : unsigned_at n (front ++ (v % 256 ∷ rest)) (length front + 1) ≡ v / 256 =
    ap₂ (unsigned_at n) (sym (append_assoc front first rest)) (sym l) ∙ unsigned_back n (v / 256) (front ++ first) back small in
    ap₂ (λ (x y : ℕ). x + 256 * y) a b ∙ omega (arith, div-add-mod' v 256)

-- ---- two's complement and back
module _ (b : ℕ) (some : 0 < b) where
  double : 2 ^ b ≡ 2 ^ (b - 1) + 2 ^ (b - 1)
  double = let e : b ≡ suc (b - 1) = omega arith in ap (λ (k : ℕ). 2 ^ k) e ∙ two-pow-succ (b - 1)

  pub bits_small : (z : ℤ) → mag z < 2 ^ (b - 1) → bits_of b z < 2 ^ b
  unfolding bits_of
  bits_small (pos n) h = omega (arith, double)
  bits_small (negsuc n) h = omega (arith, double)

  pub twos_back : (z : ℤ) → mag z < 2 ^ (b - 1) → twos b (bits_of b z) ≡ z
  unfolding bits_of
  twos_back (pos n) h = twos-low b n h
  twos_back (negsuc n) h =
      let e : 2 ^ b - suc (2 ^ b - suc n) ≡ n = omega (arith, double) in
      twos-high b (2 ^ b - suc n) (omega (arith, double)) (omega (arith, double)) ∙ ap negsuc e

-- a signed number read where it was written
pub signed_back : (n : ℕ) (z : ℤ) (front back : List ℕ) → 0 < n → mag z < 2 ^ (8 * n - 1) → 2 ^ (8 * n) ≡ 256 ^ n
    → signed_at n (front ++ (little_endian n (bits_of (8 * n) z) ++ back)) (length front) ≡ z
signed_back n z front back p h e =
    signed_is n (front ++ (little_endian n (bits_of (8 * n) z) ++ back)) (length front)
    ∙ ap (twos (8 * n)) (unsigned_back n (bits_of (8 * n) z) front back (rw e at (bits_small (8 * n) (omega arith) z h)))
    ∙ twos_back (8 * n) (omega arith) z h

-- ---- the sign, as the code tests it
pub bits_below : (b : ℕ) (z : ℤ) → lt_z z (pos 0) ≡ true → bits_of b z ≡ 2 ^ b - nat_abs z
unfolding bits_of
bits_below b (pos n) e = let h : n < 0 = ltb-true n 0 e in absurd (omega arith)
bits_below b (negsuc n) e = refl

pub bits-not_below : (b : ℕ) (z : ℤ) → lt_z z (pos 0) ≡ false → bits_of b z ≡ nat_abs z
unfolding bits_of
bits-not_below b (pos n) e = refl
bits-not_below b (negsuc n) e = let h : ◌≡◌ {A = ℕ} 0 1 = cc in absurd (omega arith)

pub size_below : (z : ℤ) → lt_z z (pos 0) ≡ true → 0 < nat_abs z
size_below (pos n) e = let h : n < 0 = ltb-true n 0 e in absurd (omega arith)
size_below (negsuc n) e = omega arith
