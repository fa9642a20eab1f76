-- The two steps that Algorithm 2.2 of the Note takes before it counts a and b: the shift by α₀ (Lemma 2.3) and the scaling by λ^n (Lemma 2.4), over bands with ends
-- in Z[√2]. Each is an equation of two tests, so that no pair is lost and none is added, whatever the bands are: of one point, empty, or the wrong way round.
use Rattle.std.specs.Prelude.{◌≡◌, refl, Bool, true, false, not, ◌&&◌, [], ◌∷◌, ℕ, zero, suc, ℤ, pos, negsuc, ◌+ℤ◌, ◌*ℤ◌}
use Rattle.std.proofs.Common.{sym, ◌∙◌, ap, ap₂, subst}
use Rattle.integers.specs.lemmas.Booleans.{iff}
use Rattle.integers.specs.lemmas.Ring.{poly, by_ring}
use Rattle.ring.specs.declared.RootTwo.{RootTwo}
use Rattle.ring.specs.RootTwo.{◌⊞◌, ◌⊟◌, ◌⊠◌, neg, conj, num, √2, lambda, ring√, parts, num_parts, product-parts, √2_sq, conj-⊞, conj-⊠, conj_neg, conj_num, conj-√2}
use Rattle.ring.specs.RootTwo.Order.{nonneg, Nn, nn_by, nn-+, nn-*, nn_num, nn-√2, one⊑√2}
use Rattle.ring.specs.RootTwo.Power.{turn, turn-zero, turn_suc, turn-num}
use Rattle.line_rows.specs.declared.Band.{Band}
use Rattle.line_rows.specs.Row.{at, above, below}

-- lo ≤ m·z ≤ hi
abbrev pub meets : Band → RootTwo → Bool
meets s z = above s z && below s z

-- the line problem over bands: z in the first and z• in the second
abbrev pub solved : Band → Band → RootTwo → Bool
solved s t z = meets s z && meets t (conj z)

-- ---- the shift: I − α₀ and J − α₀•
abbrev pub shift_of : Band → RootTwo → Band
shift_of s w = record { m = s.m; lo = s.lo ⊟ num s.m ⊠ w; hi = s.hi ⊟ num s.m ⊠ w }

meets-shift : (s : Band) (w z : RootTwo) → meets s z ≡ meets (shift_of s w) (z ⊟ w)
meets-shift s w z = ap₂ ◌&&◌ (ap nonneg (low (num s.m) z w s.lo)) (ap nonneg (high (num s.m) z w s.hi))
  where
    low : (m z w l : RootTwo) → m ⊠ z ⊟ l ≡ m ⊠ (z ⊟ w) ⊟ (l ⊟ m ⊠ w)
    low m z w l = by_ring ring√ (m ∷ z ∷ w ∷ l ∷ []) (search poly depth 30) refl

    high : (m z w l : RootTwo) → l ⊟ m ⊠ z ≡ l ⊟ m ⊠ w ⊟ m ⊠ (z ⊟ w)
    high m z w l = by_ring ring√ (m ∷ z ∷ w ∷ l ∷ []) (search poly depth 30) refl

pub conj-⊟ : (z w : RootTwo) → conj (z ⊟ w) ≡ conj z ⊟ conj w
conj-⊟ z w = conj-⊞ z (neg w) ∙ ap (λ t. conj z ⊞ t) (conj_neg w)

-- a pair solves the problem if and only if the pair less α₀ solves the shifted one, for every α₀
pub shift-holds : (s t : Band) (α₀ z : RootTwo) → solved s t z ≡ solved (shift_of s α₀) (shift_of t (conj α₀)) (z ⊟ α₀)
shift-holds s t w z = ap₂ ◌&&◌ (meets-shift s w z) (meets-shift t (conj w) (conj z) ∙ ap (meets (shift_of t (conj w))) (sym (conj-⊟ z w)))

-- ---- factors with an inverse, both not negative, keep the sign
pub record Inverse (u v : RootTwo) : Type 0 where
  pub one : u ⊠ v ≡ num (pos 1)
  pub nn : Nn u
  pub inverse-nn : Nn v

pub inverse_sym : {u v : RootTwo} → Inverse u v → Inverse v u
inverse_sym {u} {v} e = record { one = by_ring ring√ (u ∷ v ∷ []) (search poly depth 30) refl ∙ e.one; nn = e.inverse-nn; inverse-nn = e.nn }

one-⊠ : (z : RootTwo) → num (pos 1) ⊠ z ≡ z
one-⊠ z = by_ring ring√ (z ∷ []) (search poly depth 30) refl

pub undo : {u v : RootTwo} → Inverse u v → (z : RootTwo) → v ⊠ (u ⊠ z) ≡ z
undo {u} {v} e z = regroup u v z ∙ ap (λ t. t ⊠ z) e.one ∙ one-⊠ z
  where
    regroup : (u v z : RootTwo) → v ⊠ (u ⊠ z) ≡ u ⊠ v ⊠ z
    regroup u v z = by_ring ring√ (u ∷ v ∷ z ∷ []) (search poly depth 30) refl

sign_same : {u v : RootTwo} → Inverse u v → (x : RootTwo) → nonneg x ≡ nonneg (u ⊠ x)
sign_same {u} {v} e x = iff (nonneg x) (nonneg (u ⊠ x)) (λ h. (nn-* e.nn (record { nn = h })).nn) (λ h. (nn_by (undo e x) (nn-* e.inverse-nn (record { nn = h }))).nn)

-- ---- bands times a number; a negative one exchanges the ends
abbrev pub times_of : Band → RootTwo → Band
times_of s u = record { m = s.m; lo = u ⊠ s.lo; hi = u ⊠ s.hi }

abbrev pub exchanged : Band → Band
exchanged s = record { m = s.m; lo = s.hi; hi = s.lo }

module _ (s : Band) {u v : RootTwo} (e : Inverse u v) (z : RootTwo) where
  pub meets-times : meets s z ≡ meets (times_of s u) (u ⊠ z)
  meets-times = ap₂ ◌&&◌ (sign_same e _ ∙ ap nonneg (low u (num s.m) z s.lo)) (sign_same e _ ∙ ap nonneg (high u (num s.m) z s.hi))
    where
      low : (u m z l : RootTwo) → u ⊠ (m ⊠ z ⊟ l) ≡ m ⊠ (u ⊠ z) ⊟ u ⊠ l
      low u m z l = by_ring ring√ (u ∷ m ∷ z ∷ l ∷ []) (search poly depth 30) refl

      high : (u m z l : RootTwo) → u ⊠ (l ⊟ m ⊠ z) ≡ u ⊠ l ⊟ m ⊠ (u ⊠ z)
      high u m z l = by_ring ring√ (u ∷ m ∷ z ∷ l ∷ []) (search poly depth 30) refl

  meets-turned : meets s z ≡ meets (exchanged (times_of s (neg u))) (neg u ⊠ z)
  meets-turned = swap (above s z) (below s z) ∙ ap₂ ◌&&◌ (sign_same e _ ∙ ap nonneg (high u (num s.m) z s.hi)) (sign_same e _ ∙ ap nonneg (low u (num s.m) z s.lo))
    where
      swap : (a b : Bool) → a && b ≡ b && a
      swap true true = refl
      swap true false = refl
      swap false true = refl
      swap false false = refl

      high : (u m z l : RootTwo) → u ⊠ (l ⊟ m ⊠ z) ≡ m ⊠ (neg u ⊠ z) ⊟ neg u ⊠ l
      high u m z l = by_ring ring√ (u ∷ m ∷ z ∷ l ∷ []) (search poly depth 30) refl

      low : (u m z l : RootTwo) → u ⊠ (m ⊠ z ⊟ l) ≡ neg u ⊠ l ⊟ m ⊠ (neg u ⊠ z)
      low u m z l = by_ring ring√ (u ∷ m ∷ z ∷ l ∷ []) (search poly depth 30) refl

-- ---- the powers of λ = 1 + √2, and of its inverse √2 − 1
pub power : RootTwo → ℕ → RootTwo
power u zero = num (pos 1)
power u (suc k) = u ⊠ power u k

pub power_zero : (u : RootTwo) → power u 0 ≡ num (pos 1)
unfolding power
power_zero u = refl

pub power-suc : (u : RootTwo) (k : ℕ) → power u (suc k) ≡ u ⊠ power u k
unfolding power
power-suc u k = refl

abbrev pub mu : RootTwo
mu = √2 ⊟ num (pos 1)

abbrev pub λ^ : ℤ → RootTwo
λ^ (pos k) = power lambda k
λ^ (negsuc k) = power mu (suc k)

abbrev pub evenℕ : ℕ → Bool
evenℕ zero = true
evenℕ (suc k) = not (evenℕ k)

abbrev pub even : ℤ → Bool
even (pos k) = evenℕ k
even (negsuc k) = evenℕ (suc k)

-- (λ•)^n J: for odd n the factor is negative, and the ends are exchanged
abbrev pub conj_times : Bool → Band → RootTwo → Band
conj_times true t u = times_of t u
conj_times false t u = exchanged (times_of t u)

power-inverse : {u v : RootTwo} → Inverse u v → (k : ℕ) → Inverse (power u k) (power v k)
unfolding power
power-inverse e zero = record { one = by_ring ring√ [] (search poly depth 30) refl; nn = nn_num (record { le = tt }); inverse-nn = nn_num (record { le = tt }) }
power-inverse {u} {v} e (suc k) =
    let i = power-inverse e k in
    record { one = regroup u v (power u k) (power v k) ∙ ap₂ ◌⊠◌ e.one i.one ∙ one-⊠ (num (pos 1)); nn = nn-* e.nn i.nn; inverse-nn = nn-* e.inverse-nn i.inverse-nn }
  where
    regroup : (u v x y : RootTwo) → u ⊠ x ⊠ (v ⊠ y) ≡ u ⊠ v ⊠ (x ⊠ y)
    regroup u v x y = by_ring ring√ (u ∷ v ∷ x ∷ y ∷ []) (search poly depth 30) refl

-- the conjugate of u^k is (−1)^k v^k, where that of u is −v
power-conj : (u v : RootTwo) → conj u ≡ neg v → (k : ℕ) → conj (power u k) ≡ turn k (power v k)
unfolding power
power-conj u v e zero = conj_num (pos 1) ∙ sym (turn-zero (num (pos 1)))
power-conj u v e (suc k) =
    conj-⊠ u (power u k) ∙ ap₂ ◌⊠◌ e (power-conj u v e k ∙ turn-num k (power v k)) ∙ step v (turn k (num (pos 1))) (power v k)
    ∙ ap neg (sym (turn-num k (v ⊠ power v k))) ∙ sym (turn_suc k (v ⊠ power v k))
  where
    step : (s t x : RootTwo) → neg s ⊠ (t ⊠ x) ≡ neg (t ⊠ (s ⊠ x))
    step s t x = by_ring ring√ (s ∷ t ∷ x ∷ []) (search poly depth 20) refl

abbrev signed : Bool → RootTwo → RootTwo
signed true z = z
signed false z = neg z

turn_signed : (k : ℕ) (z : RootTwo) → turn k z ≡ signed (evenℕ k) z
turn_signed zero z = turn-zero z
turn_signed (suc k) z = turn_suc k z ∙ ap neg (turn_signed k z) ∙ next (evenℕ k)
  where
    next : (b : Bool) → neg (signed b z) ≡ signed (not b) z
    next true = refl
    next false = by_ring ring√ (z ∷ []) (search poly depth 20) refl

module _ {u v : RootTwo} (e : Inverse u v) (turned : conj u ≡ neg v) (s t : Band) (k : ℕ) (z : RootTwo) where
  conj-power : (b : Bool) → conj (power u k) ≡ signed b (power v k) → meets t (conj z) ≡ meets (conj_times b t (conj (power u k))) (conj (power u k ⊠ z))
  conj-power true f = meets-times t (inverse_sym (power-inverse e k)) (conj z) ∙ ap₂ (λ x y. meets (times_of t x) y) (sym f) (ap (λ x. x ⊠ conj z) (sym f) ∙ sym (conj-⊠ (power u k) z))
  conj-power false f = meets-turned t (inverse_sym (power-inverse e k)) (conj z) ∙ ap₂ (λ x y. meets (exchanged (times_of t x)) y) (sym f) (ap (λ x. x ⊠ conj z) (sym f) ∙ sym (conj-⊠ (power u k) z))

  power-holds : solved s t z ≡ solved (times_of s (power u k)) (conj_times (evenℕ k) t (conj (power u k))) (power u k ⊠ z)
  power-holds = ap₂ ◌&&◌ (meets-times s (power-inverse e k) z) (conj-power (evenℕ k) (power-conj u v turned k ∙ turn_signed k (power v k)))

λ_inverse : Inverse lambda mu
λ_inverse = record { one = expand √2 ∙ ap (λ x. x ⊟ num (pos 1)) √2_sq ∙ by_ring ring√ [] (search poly depth 30) refl; nn = nn-+ (nn_num (record { le = tt })) nn-√2; inverse-nn = one⊑√2 }
  where
    expand : (r : RootTwo) → (num (pos 1) ⊞ r) ⊠ (r ⊟ num (pos 1)) ≡ r ⊠ r ⊟ num (pos 1)
    expand r = by_ring ring√ (r ∷ []) (search poly depth 30) refl

λ_conj : conj lambda ≡ neg mu
λ_conj = conj-⊞ (num (pos 1)) √2 ∙ ap₂ ◌⊞◌ (conj_num (pos 1)) conj-√2 ∙ step √2
  where
    step : (r : RootTwo) → num (pos 1) ⊞ neg r ≡ neg (r ⊟ num (pos 1))
    step r = by_ring ring√ (r ∷ []) (search poly depth 30) refl

mu-conj : conj mu ≡ neg lambda
mu-conj = conj-⊟ √2 (num (pos 1)) ∙ ap₂ ◌⊟◌ conj-√2 (conj_num (pos 1)) ∙ step √2
  where
    step : (r : RootTwo) → neg r ⊟ num (pos 1) ≡ neg (num (pos 1) ⊞ r)
    step r = by_ring ring√ (r ∷ []) (search poly depth 30) refl

-- a pair solves the problem if and only if the pair times λ^n solves the scaled one, I' = λ^n I and J' = (λ•)^n J, for every n, negative ones too
pub scale-holds : (s t : Band) (n : ℤ) (z : RootTwo) → solved s t z ≡ solved (times_of s (λ^ n)) (conj_times (even n) t (conj (λ^ n))) (λ^ n ⊠ z)
scale-holds s t (pos k) z = power-holds λ_inverse λ_conj s t k z
scale-holds s t (negsuc k) z = power-holds (inverse_sym λ_inverse) mu-conj s t (suc k) z

-- the conjugate of an even power is its inverse
pub even-inverse : (n : ℤ) → even n ≡ true → Inverse (λ^ n) (conj (λ^ n))
even-inverse (pos k) h = subst (Inverse (power lambda k)) (sym (power-conj lambda mu λ_conj k ∙ turn_signed k (power mu k) ∙ ap (λ b. signed b (power mu k)) h)) (power-inverse λ_inverse k)
even-inverse (negsuc k) h =
    subst (Inverse (power mu (suc k))) (sym (power-conj mu lambda mu-conj (suc k) ∙ turn_signed (suc k) (power lambda (suc k)) ∙ ap (λ b. signed b (power lambda (suc k))) h)) (power-inverse (inverse_sym λ_inverse) (suc k))

-- ---- an even power of λ, positive or negative: no band is turned
pub record Even (u : RootTwo) : Type 0 where
  pub n : ℤ
  pub parity : even n ≡ true
  pub is : u ≡ λ^ n

pub even-unit : {u : RootTwo} → Even u → Inverse u (conj u)
even-unit e = subst (λ x. Inverse x (conj x)) (sym e.is) (even-inverse e.n e.parity)

-- the law of the scaling where the power is even
pub scale-even : (s t : Band) (u z : RootTwo) → Even u → solved s t z ≡ solved (times_of s u) (times_of t (conj u)) (u ⊠ z)
scale-even s t u z e =
    scale-holds s t e.n z ∙ ap (λ b. solved (times_of s (λ^ e.n)) (conj_times b t (conj (λ^ e.n))) (λ^ e.n ⊠ z)) e.parity
    ∙ ap (λ x. solved (times_of s x) (times_of t (conj x)) (x ⊠ z)) (sym e.is)

-- the conjugate of λ^n is λ^(−n)
pub even-conj : {u : RootTwo} → Even u → Even (conj u)
even-conj {u} e = go e.n e.parity e.is
  where
    opposite : (x y : RootTwo) → conj x ≡ neg y → (k : ℕ) → evenℕ k ≡ true → u ≡ power x k → conj u ≡ power y k
    opposite x y f k h d = ap conj d ∙ power-conj x y f k ∙ turn_signed k (power y k) ∙ ap (λ b. signed b (power y k)) h

    go : (n : ℤ) → even n ≡ true → u ≡ λ^ n → Even (conj u)
    go (pos zero) h d = record { n = pos zero; parity = refl; is = opposite lambda mu λ_conj zero h d ∙ power_zero mu ∙ sym (power_zero lambda) }
    go (pos (suc k)) h d = record { n = negsuc k; parity = h; is = opposite lambda mu λ_conj (suc k) h d }
    go (negsuc k) h d = record { n = pos (suc k); parity = h; is = opposite mu lambda mu-conj (suc k) h d }

-- (3 + 2√2)^k = λ^(2k), by its parts
abbrev pub power_is_even : ℕ → RootTwo
power_is_even zero = at (pos 1) (pos 0)
power_is_even (suc k) = at (pos 3 *ℤ (power_is_even k).p +ℤ pos 2 *ℤ (pos 2 *ℤ (power_is_even k).q)) (pos 3 *ℤ (power_is_even k).q +ℤ pos 2 *ℤ (power_is_even k).p)

pub even_power : (k : ℕ) → Even (power_is_even k)
even_power k = record { n = pos (twice k); parity = twice-even k; is = go k }
  where
    twice : ℕ → ℕ
    twice zero = zero
    twice (suc k) = suc (suc (twice k))

    twice-even : (k : ℕ) → evenℕ (twice k) ≡ true
    twice-even zero = refl
    twice-even (suc k) = ap (λ b. not (not b)) (twice-even k)

    square : lambda ⊠ lambda ≡ at (pos 3) (pos 2)
    square = simp parts refl

    regroup : (u x : RootTwo) → u ⊠ u ⊠ x ≡ u ⊠ (u ⊠ x)
    regroup u x = by_ring ring√ (u ∷ x ∷ []) (search poly depth 30) refl

    go : (k : ℕ) → power_is_even k ≡ power lambda (twice k)
    go zero = sym (power_zero lambda ∙ num_parts (pos 1))
    go (suc k) =
        sym (product-parts (at (pos 3) (pos 2)) (power_is_even k)) ∙ ap₂ ◌⊠◌ (sym square) (go k) ∙ regroup lambda (power lambda (twice k))
        ∙ sym (power-suc lambda (suc (twice k)) ∙ ap (λ t. lambda ⊠ t) (power-suc lambda (twice k)))
