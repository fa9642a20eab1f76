-- Lengths and quotients, rounded up.
use Rattle.std.specs.Prelude.{◌≡◌, refl, [], ◌∷◌, ℕ, ◌+◌, ◌*◌, ◌^◌, ◌≤◌, ℤ, pos, neg_ℤ, nat_abs, ◌+ℤ◌, ◌-ℤ◌, ◌*ℤ◌}
use Rattle.std.proofs.Common.{sym, ◌∙◌, zero-le, le_refl, arith, le→leb, leb-true, le-leb}
use Rattle.std.specs.Int.Signed.{yes_non_neg, pos-nat_abs}
use Rattle.integers.specs.Difference.{by⊖, zz, ◌≼◌, ◌≺◌}
use Rattle.integers.specs.lemmas.RingZ.{polyZ, by_ring}
use Rattle.plane_lengths.specs.Least.{ceil_div, ceil_div-≤}

-- n √(a² + b²), rounded up
pub record Length (n : ℕ) (a b : ℤ) (m : ℕ) : Type 0 where
  pub enough : n * n * (nat_abs a * nat_abs a + nat_abs b * nat_abs b) ≤ m * m
  pub size : m ≤ 2 ^ 30

-- a quotient's limit
abbrev pub limit : ℕ
limit = 2 ^ 31

-- t/q, rounded up, and not below −2³¹
pub record Quotient (t : ℤ) (q : ℕ) (h : ℤ) : Type 0 where
  pub above : t ≼ pos q *ℤ h
  pub low : neg_ℤ (pos limit) ≼ h

pub quotient_low : (t : ℤ) (q : ℕ) → t +ℤ pos limit *ℤ pos q ≺ pos 0 → Quotient t q (neg_ℤ (pos limit))
quotient_low t q h = record { above = go t q h; low = record { le = tt } }
  where
    go : (t : ℤ) (q : ℕ) → t +ℤ pos limit *ℤ pos q ≺ pos 0 → t ≼ pos q *ℤ neg_ℤ (pos limit)
    go = by⊖ _ λ p n q. simp zz (omega arith)

pub quotient_high : (t : ℤ) (q : ℕ) → 1 ≤ q → pos 0 ≼ t +ℤ pos limit *ℤ pos q → Quotient t q (pos (ceil_div (nat_abs (t +ℤ pos limit *ℤ pos q)) q) -ℤ pos limit)
quotient_high t q one h =
    let s = nat_abs (t +ℤ pos limit *ℤ pos q) in
    let c = ceil_div s q in
    record { above = go s c (pos-nat_abs _ (yes_non_neg h)) (leb-true s (c * q) (sym (ceil_div-≤ s q c one) ∙ le-leb c c (le_refl c))); low = below (pos c) (pos limit) (record { le = le→leb 0 c zero-le }) }
  where
    turned : (t k h : ℤ) (s : ℕ) → pos s ≡ t +ℤ k → pos s ≼ k +ℤ h → t ≼ h
    turned = by⊖ _ λ a a'. by⊖ _ λ b b'. by⊖ _ λ c c' s. simp zz (omega arith)

    spread : (q c k : ℤ) → k *ℤ q +ℤ q *ℤ (c -ℤ k) ≡ c *ℤ q
    spread q c k = by_ring (q ∷ c ∷ k ∷ []) (search polyZ depth 30) refl

    go : (s c : ℕ) → pos s ≡ t +ℤ pos limit *ℤ pos q → s ≤ c * q → t ≼ pos q *ℤ (pos c -ℤ pos limit)
    go s c e l = turned t (pos limit *ℤ pos q) _ s e (rw (spread (pos q) (pos c) (pos limit)) (record { le = le→leb s (c * q) l }))

    below : (c k : ℤ) → pos 0 ≼ c → neg_ℤ k ≼ c -ℤ k
    below = by⊖ _ λ a a'. by⊖ _ λ b b'. simp zz (omega arith)
