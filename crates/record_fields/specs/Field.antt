-- A field of a record: SPEC, "Records". Little-endian, signed ones in two's complement; the size is a parameter.
use Rattle.std.specs.Prelude.{◌≡◌, refl, cond, List, ℕ, zero, suc, ◌+◌, ◌-◌, ◌*◌, ◌^◌, ◌<◌, ◌≤◌, ltb, ℤ, pos, negsuc, ◌-ℤ◌, get_or}
use Rattle.std.proofs.Common.{arith, lt-ltb, le-ltb}

-- the n bytes from place k on, the first the least
unfoldable pub unsigned_at : ℕ → List ℕ → ℕ → ℕ
unsigned_at zero s k = 0
unsigned_at (suc n) s k = get_or s k 0 + 256 * unsigned_at n s (k + 1)

-- a number of b bits as it is below 2^(b − 1), another less 2^b
unfoldable pub twos : ℕ → ℕ → ℤ
twos b u = cond (ltb u (2 ^ (b - 1))) (pos u) (pos u -ℤ pos (2 ^ b))

unfoldable pub signed_at : ℕ → List ℕ → ℕ → ℤ
signed_at n s k = twos (8 * n) (unsigned_at n s k)

pub signed_is : (n : ℕ) (s : List ℕ) (k : ℕ) → signed_at n s k ≡ twos (8 * n) (unsigned_at n s k)
unfolding signed_at
signed_is n s k = refl

-- ---- the two halves of two's complement
pub less : (u m : ℕ) → u < m → pos u -ℤ pos m ≡ negsuc (m - suc u)
less u zero h = absurd (omega arith)
less u (suc m) h = rw (lt-ltb u (suc m) h) refl

pub twos-low : (b u : ℕ) → u < 2 ^ (b - 1) → twos b u ≡ pos u
unfolding twos
twos-low b u h = rw (lt-ltb u (2 ^ (b - 1)) h) refl

pub twos-high : (b u : ℕ) → 2 ^ (b - 1) ≤ u → u < 2 ^ b → twos b u ≡ negsuc (2 ^ b - suc u)
unfolding twos
twos-high b u h k = rw (le-ltb u (2 ^ (b - 1)) h) (less u (2 ^ b) k)

-- ---- fields of one, of two and of four bytes, as the code reads them
pub one : (s : List ℕ) (k : ℕ) → unsigned_at 1 s k ≡ get_or s k 0
unfolding unsigned_at
one s k = omega arith

pub two : (s : List ℕ) (k : ℕ) → unsigned_at 2 s k ≡ get_or s k 0 + 256 * get_or s (k + 1) 0
unfolding unsigned_at
two s k = omega arith

pub four : (s : List ℕ) (k : ℕ) → unsigned_at 4 s k ≡ unsigned_at 2 s k + 65536 * unsigned_at 2 s (k + 2)
unfolding unsigned_at
four s k =
    let e : k + 1 + 1 ≡ k + 2 = omega arith in
    rw e (omega arith)
