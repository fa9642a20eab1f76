-- Sizes in Z[√2]: the parts of a number, and of its sums, products, conjugate and of the powers of √2.
use Rattle.std.specs.Prelude.{◌≡◌, refl, [], ◌∷◌, ℕ, ◌+◌, ◌*◌, ◌/◌, ◌%◌, ◌^◌, ◌≤◌, ◌<◌, ℤ, pos, nat_abs, ◌+ℤ◌, ◌-ℤ◌, ◌*ℤ◌}
use Rattle.std.proofs.Common.{inl, inr, eq-zero-or-pos, arith, pow_mono}
use Rattle.integers.specs.lemmas.Size.{size-+, size-neg, size-*≤}
use Rattle.ring.specs.declared.RootTwo.{RootTwo}
use Rattle.ring.specs.RootTwo.{◌⊞◌, ◌⊟◌, ◌⊠◌, neg, conj, num, parts, sum-parts, product-parts, neg_parts, conj_parts, num_parts, by_parts, poly√}
use Rattle.ring.specs.RootTwo.Power.{√2^, power-even, power-odd}

pub record Sized (m n : ℕ) (x : RootTwo) : Type 0 where
  pub p : nat_abs x.p ≤ m
  pub q : nat_abs x.q ≤ n

pub sized_more : (m n : ℕ) (x : RootTwo) → m ≤ n → Sized m m x → Sized n n x
sized_more m n x l h = record { p = omega (arith, h.p); q = omega (arith, h.q) }

-- ---- m x + n y and m x − n y
-- both fit 64 bits
pub record Room (m : ℤ) (x : RootTwo) (n : ℤ) (y : RootTwo) : Type 0 where
  pub p : nat_abs (m *ℤ x.p) + nat_abs (n *ℤ y.p) < 2 ^ 63
  pub q : nat_abs (m *ℤ x.q) + nat_abs (n *ℤ y.q) < 2 ^ 63

pub room : (m n : ℤ) (x y : RootTwo) (a b c d : ℕ) → nat_abs m ≤ a → Sized b b x → nat_abs n ≤ c → Sized d d y → a * b + c * d < 2 ^ 63 → Room m x n y
room m n x y a b c d hm hx hn hy l =
    record { p = omega (arith, size-*≤ m x.p a b hm hx.p, size-*≤ n y.p c d hn hy.p); q = omega (arith, size-*≤ m x.q a b hm hx.q, size-*≤ n y.q c d hn hy.q) }

pub combined_parts : (m : ℤ) (x : RootTwo) (n : ℤ) (y : RootTwo) → num m ⊠ x ⊞ num n ⊠ y ≡ record { p = m *ℤ x.p +ℤ n *ℤ y.p; q = m *ℤ x.q +ℤ n *ℤ y.q }
combined_parts m x n y = simp parts (by_parts (m ∷ n ∷ x.p ∷ x.q ∷ y.p ∷ y.q ∷ []) (search poly√ depth 40) refl refl)

pub offset-parts : (m : ℤ) (x : RootTwo) (n : ℤ) (y : RootTwo) → num m ⊠ x ⊟ num n ⊠ y ≡ record { p = m *ℤ x.p -ℤ n *ℤ y.p; q = m *ℤ x.q -ℤ n *ℤ y.q }
offset-parts m x n y = simp parts (by_parts (m ∷ n ∷ x.p ∷ x.q ∷ y.p ∷ y.q ∷ []) (search poly√ depth 40) refl refl)

pub combined_size : (m n : ℤ) (x y : RootTwo) (a b c d e : ℕ) → nat_abs m ≤ a → Sized b b x → nat_abs n ≤ c → Sized d d y → a * b + c * d ≤ e → Sized e e (num m ⊠ x ⊞ num n ⊠ y)
combined_size m n x y a b c d e hm hx hn hy l =
    rw combined_parts (record {
      p = omega (arith, size-+ (m *ℤ x.p) (n *ℤ y.p), size-*≤ m x.p a b hm hx.p, size-*≤ n y.p c d hn hy.p);
      q = omega (arith, size-+ (m *ℤ x.q) (n *ℤ y.q), size-*≤ m x.q a b hm hx.q, size-*≤ n y.q c d hn hy.q);
    })

-- ---- x y
-- what its parts are made of is at most t
pub record ProductSizes (t : ℕ) (x y : RootTwo) : Type 0 where
  pub roots : nat_abs (x.q *ℤ y.q) ≤ t
  pub p : nat_abs (x.p *ℤ y.p) + nat_abs (pos 2 *ℤ (x.q *ℤ y.q)) ≤ t
  pub q : nat_abs (x.p *ℤ y.q) + nat_abs (x.q *ℤ y.p) ≤ t

-- x y fits 64 bits
abbrev pub Products : RootTwo → RootTwo → Type 0
Products x y = ProductSizes (2 ^ 62) x y

pub product-sizes : (t : ℕ) (x y : RootTwo) (a b c d : ℕ) → Sized a b x → Sized c d y → a * c + 2 * (b * d) ≤ t → a * d + b * c ≤ t → ProductSizes t x y
product-sizes t x y a b c d hx hy l r =
    let pp = size-*≤ x.p y.p a c hx.p hy.p in
    let qq = size-*≤ x.q y.q b d hx.q hy.q in
    let rr = size-*≤ (pos 2) (x.q *ℤ y.q) 2 (b * d) (omega arith) qq in
    let pq = size-*≤ x.p y.q a d hx.p hy.q in
    let qp = size-*≤ x.q y.p b c hx.q hy.p in
    record { roots = omega arith; p = omega arith; q = omega arith }

pub product-sized : (t : ℕ) (x y : RootTwo) → ProductSizes t x y → Sized t t (x ⊠ y)
product-sized t x y s = rw product-parts (record { p = omega (arith, size-+ (x.p *ℤ y.p) (pos 2 *ℤ (x.q *ℤ y.q)), s.p); q = omega (arith, size-+ (x.p *ℤ y.q) (x.q *ℤ y.p), s.q) })

module _ (x y : RootTwo) (a b : ℕ) (hx : Sized a a x) (hy : Sized b b y) where
  pub products : a * b ≤ 2 ^ 60 → Products x y
  products l = product-sizes (2 ^ 62) x y a a b b hx hy (omega arith) (omega arith)

  pub product-size : (c : ℕ) → 3 * (a * b) ≤ c → Sized c c (x ⊠ y)
  product-size c l = product-sized c x y (product-sizes c x y a a b b hx hy (omega arith) (omega arith))

-- ---- −x, x•, x + y, x − y, a whole number and a power of √2
pub neg_size : (n : ℕ) (x : RootTwo) → Sized n n x → Sized n n (neg x)
neg_size n x h = rw neg_parts (record { p = rw (size-neg x.p) h.p; q = rw (size-neg x.q) h.q })

pub conj_size : (n : ℕ) (x : RootTwo) → Sized n n x → Sized n n (conj x)
conj_size n x h = rw conj_parts (record { p = h.p; q = rw (size-neg x.q) h.q })

pub sum-size : (a b c : ℕ) (x y : RootTwo) → Sized a a x → Sized b b y → a + b ≤ c → Sized c c (x ⊞ y)
sum-size a b c x y h k l = rw sum-parts (record { p = omega (arith, size-+ x.p y.p, h.p, k.p); q = omega (arith, size-+ x.q y.q, h.q, k.q) })

pub less-size : (a b c : ℕ) (x y : RootTwo) → Sized a a x → Sized b b y → a + b ≤ c → Sized c c (x ⊟ y)
less-size a b c x y h k l = sum-size a b c x (neg y) h (neg_size b y k) l

pub num_size : (n : ℕ) (k : ℤ) → nat_abs k ≤ n → Sized n n (num k)
num_size n k h = rw num_parts (record { p = h; q = omega arith })

pub √2^-size : (k n : ℕ) → k / 2 ≤ n → Sized (2 ^ n) (2 ^ n) (√2^ k)
√2^-size k n h = elim (eq-zero-or-pos (k % 2)) [
  | inl e ↦ rw (power-even k e) (record { p = pow_mono h; q = omega arith })
  | inr l ↦ rw (power-odd k (omega arith)) (record { p = omega arith; q = pow_mono h })
]
