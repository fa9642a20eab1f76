-- What a region says of a coordinate ζ with √2 ζ = u X + v Y: a strip lo ≤ n ζ ≤ hi. What a job says of ζ and its conjugate: two strips.
use Rattle.std.specs.Prelude.{◌≡◌, refl, true, [], ◌∷◌, ℕ, zero, suc, ◌+◌, ◌*◌, ◌/◌, ◌%◌, ◌^◌, ◌≤◌, pos, nat_abs}
use Rattle.std.proofs.Common.{sym, ◌∙◌, ap, ap₂, inl, inr, eq-zero-or-pos, arith, le→leb, pow_mono}
use Rattle.integers.specs.Difference.{◌≼◌}
use Rattle.integers.specs.lemmas.Ring.{poly, by_ring}
use Rattle.ring.specs.declared.Point.{Point}
use Rattle.ring.specs.declared.RootTwo.{RootTwo}
use Rattle.ring.specs.RootTwo.{◌⊞◌, ◌⊟◌, ◌⊠◌, neg, conj, num, √2, ring√, conj-⊞, conj-⊠, conj-√2}
use Rattle.ring.specs.RootTwo.Order.{Nn, nn_by, nn_cancel, one⊑√2}
use Rattle.ring.specs.RootTwo.Power.{√2^, √2^-suc, √2^-nn, power-even, power-odd, turn, turn-zero, turn_suc, turn_two}
use Rattle.ring.specs.Point.{√2x, √2y, conjω, √2x_conj, √2y_conj}
use Rattle.ring.specs.RootTwo.Sized.{Sized, product-sizes, product-sized, neg_size}
use Rattle.line_rows.specs.declared.Band.{Band}
use Rattle.line_rows.specs.Row.{above, below}
use Rattle.region.specs.declared.Region.{Region}
use Rattle.region.specs.declared.Job.{Job}
use Rattle.region.specs.Region.{top_scale, holds, solves}
use Rattle.region.specs.lemmas.Membership.{solves-true}
use Rattle.region.specs.Over.{scale}
use Rattle.question_strips.specs.declared.Strips.{Strips}
use Rattle.question_strips.specs.Reach.{reach_size, Reaches}

-- ---- sizes of a strip's numbers
abbrev pub end_size : ℕ
end_size = 2 ^ 37

pub record Ends (s : Band) : Type 0 where
  pub one : pos 1 ≼ s.m
  pub scale : nat_abs s.m ≤ 100
  pub lo : Sized end_size end_size s.lo
  pub hi : Sized end_size end_size s.hi

pub power_size : (k : ℕ) (x : RootTwo) (a : ℕ) → k ≤ top_scale → Sized a a x → Sized (a * 1024) (a * 1024) (x ⊠ √2^ k)
power_size k x a h s = elim (eq-zero-or-pos (k % 2)) [
  | inl e ↦ rw (power-even k e) (by 1024 0 _ (record { p = pow_mono {i = k / 2} {j = 10} (omega arith); q = omega arith }) (omega arith))
  | inr l ↦ rw (power-odd k (omega arith)) (by 0 512 _ (record { p = omega arith; q = pow_mono {i = k / 2} {j = 9} (omega arith) }) (omega arith))
]
  where
    by : (m n : ℕ) (y : RootTwo) → Sized m n y → a * m + 2 * (a * n) ≤ a * 1024 → Sized (a * 1024) (a * 1024) (x ⊠ y)
    by m n y w l = product-sized (a * 1024) x y (product-sizes (a * 1024) x y a a m n s w l (omega arith))

-- ---- one region
pub record StripOf (r : Region) (k : ℕ) (u v : RootTwo) (s : Band) : Type 0 where
  pub ends : Ends s
  pub follows : (X Y z : RootTwo) → holds r (√2^ (suc k)) X Y ≡ true → √2 ⊠ z ≡ u ⊠ X ⊞ v ⊠ Y → (above s z ≡ true) × (below s z ≡ true)

pub strip_of_lem : (r : Region) (k : ℕ) (u v h l : RootTwo) → (1 ≤ scale r) × (scale r ≤ 100) → k ≤ top_scale → Reaches r u v h → Reaches r (neg u) (neg v) l
    → StripOf r k u v (record { m = pos (scale r); lo = neg (l ⊠ √2^ k); hi = h ⊠ √2^ k })
strip_of_lem r k u v h l n kk a b =
    record {
      ends = record {
        one = record { le = le→leb 1 (scale r) n.0 };
        scale = n.1;
        lo = neg_size end_size (l ⊠ √2^ k) (fits l b.size);
        hi = fits h a.size;
      };
      follows = λ X Y z t e. (
        (nn_cancel √2 _ one⊑√2 (nn_by (low (num (pos (scale r))) l (√2^ k) u v X Y ∙ ap (λ w. w ⊠ num (pos (scale r)) ⊞ √2 ⊠ (l ⊠ √2^ k)) (sym e) ∙ low2 (num (pos (scale r))) l (√2^ k) z √2) (widen (neg u) (neg v) l b X Y t))).nn,
        (nn_cancel √2 _ one⊑√2 (nn_by (high (num (pos (scale r))) h (√2^ k) u v X Y ∙ ap (λ w. √2 ⊠ (h ⊠ √2^ k) ⊟ w ⊠ num (pos (scale r))) (sym e) ∙ high2 (num (pos (scale r))) h (√2^ k) z √2) (widen u v h a X Y t))).nn,
      );
    }
  where
    fits : (x : RootTwo) → Sized reach_size reach_size x → Sized end_size end_size (x ⊠ √2^ k)
    fits x s = let f = power_size k x reach_size kk s in record { p = omega (arith, f.p); q = omega (arith, f.q) }

    widen : (u v h : RootTwo) → Reaches r u v h → (X Y : RootTwo) → holds r (√2^ (suc k)) X Y ≡ true → Nn (h ⊠ (√2 ⊠ √2^ k) ⊟ (u ⊠ (num (pos (scale r)) ⊠ X) ⊞ v ⊠ (num (pos (scale r)) ⊠ Y)))
    widen u v h a X Y t = nn_by (ap (λ w. h ⊠ w ⊟ (u ⊠ (num (pos (scale r)) ⊠ X) ⊞ v ⊠ (num (pos (scale r)) ⊠ Y))) (√2^-suc k)) (a.over (√2^ (suc k)) X Y (√2^-nn (suc k)) t)

    high : (n h w u v X Y : RootTwo) → h ⊠ (√2 ⊠ w) ⊟ (u ⊠ (n ⊠ X) ⊞ v ⊠ (n ⊠ Y)) ≡ √2 ⊠ (h ⊠ w) ⊟ (u ⊠ X ⊞ v ⊠ Y) ⊠ n
    high n h w u v X Y = by_ring ring√ (n ∷ h ∷ w ∷ u ∷ v ∷ X ∷ Y ∷ √2 ∷ []) (search poly depth 30) refl

    high2 : (n h w z t : RootTwo) → t ⊠ (h ⊠ w) ⊟ t ⊠ z ⊠ n ≡ t ⊠ (h ⊠ w ⊟ n ⊠ z)
    high2 n h w z t = by_ring ring√ (n ∷ h ∷ w ∷ z ∷ t ∷ []) (search poly depth 30) refl

    low : (n l w u v X Y : RootTwo) → l ⊠ (√2 ⊠ w) ⊟ (neg u ⊠ (n ⊠ X) ⊞ neg v ⊠ (n ⊠ Y)) ≡ (u ⊠ X ⊞ v ⊠ Y) ⊠ n ⊞ √2 ⊠ (l ⊠ w)
    low n l w u v X Y = by_ring ring√ (n ∷ l ∷ w ∷ u ∷ v ∷ X ∷ Y ∷ √2 ∷ []) (search poly depth 30) refl

    low2 : (n l w z t : RootTwo) → t ⊠ z ⊠ n ⊞ t ⊠ (l ⊠ w) ≡ t ⊠ (n ⊠ z ⊟ neg (l ⊠ w))
    low2 n l w z t = by_ring ring√ (n ∷ l ∷ w ∷ z ∷ t ∷ []) (search poly depth 30) refl

-- ---- both regions: B speaks of the conjugate, with the direction turned
pub record Meets (s t : Band) (z : RootTwo) : Type 0 where
  pub lo : above s z ≡ true
  pub hi : below s z ≡ true
  pub conj-lo : above t (conj z) ≡ true
  pub conj-hi : below t (conj z) ≡ true

pub record StripsOf (j : Job) (u v : RootTwo) (s : Strips) : Type 0 where
  pub first : Ends s.first
  pub second : Ends s.second
  pub meets : (w : Point) (z : RootTwo) → solves j w ≡ true → √2 ⊠ z ≡ u ⊠ √2x w ⊞ v ⊠ √2y w → Meets s.first s.second z

-- (−1)^k, by the parity of k
pub turn_even : (k : ℕ) (z : RootTwo) → k % 2 ≡ 0 → turn k z ≡ z
turn_even zero z e = turn-zero z
turn_even (suc zero) z e = absurd (omega arith)
turn_even (suc (suc k)) z e = turn_two k z ∙ turn_even k z (omega arith)

pub turn_odd : (k : ℕ) (z : RootTwo) → k % 2 ≡ 1 → turn k z ≡ neg z
turn_odd zero z e = absurd (omega arith)
turn_odd (suc zero) z e = turn_suc 0 z ∙ ap neg (turn-zero z)
turn_odd (suc (suc k)) z e = turn_two k z ∙ turn_odd k z (omega arith)

-- turned twice is as it was
turn-turn : (k : ℕ) (x y : RootTwo) → turn k x ⊠ turn k y ≡ x ⊠ y
turn-turn zero x y = ap₂ ◌⊠◌ (turn-zero x) (turn-zero y)
turn-turn (suc k) x y = ap₂ ◌⊠◌ (turn_suc k x) (turn_suc k y) ∙ step (turn k x) (turn k y) ∙ turn-turn k x y
  where
    step : (x y : RootTwo) → neg x ⊠ neg y ≡ x ⊠ y
    step x y = by_ring ring√ (x ∷ y ∷ []) (search poly depth 30) refl

conjugate : (k : ℕ) (u v z : RootTwo) (w : Point) → √2 ⊠ z ≡ u ⊠ √2x w ⊞ v ⊠ √2y w → √2 ⊠ conj z ≡ turn k (conj u) ⊠ turn k (√2x (conjω w)) ⊞ turn k (conj v) ⊠ turn k (√2y (conjω w))
conjugate k u v z w e =
    step (√2) (conj z) ∙ ap neg (ap (λ t. t ⊠ conj z) (sym conj-√2) ∙ sym (conj-⊠ √2 z) ∙ ap conj e ∙ conj-⊞ (u ⊠ √2x w) (v ⊠ √2y w) ∙ ap₂ ◌⊞◌ (conj-⊠ u (√2x w)) (conj-⊠ v (√2y w)))
    ∙ spread (conj u) (conj v) (conj (√2x w)) (conj (√2y w))
    ∙ sym (ap₂ ◌⊞◌ (turn-turn k (conj u) (√2x (conjω w)) ∙ ap (λ t. conj u ⊠ t) (√2x_conj w)) (turn-turn k (conj v) (√2y (conjω w)) ∙ ap (λ t. conj v ⊠ t) (√2y_conj w)))
  where
    step : (t z : RootTwo) → t ⊠ z ≡ neg (neg t ⊠ z)
    step t z = by_ring ring√ (t ∷ z ∷ []) (search poly depth 30) refl

    spread : (u v x y : RootTwo) → neg (u ⊠ x ⊞ v ⊠ y) ≡ u ⊠ neg x ⊞ v ⊠ neg y
    spread u v x y = by_ring ring√ (u ∷ v ∷ x ∷ y ∷ []) (search poly depth 30) refl

pub strips_of : (j : Job) (u v : RootTwo) (s t : Band) → StripOf j.a j.k u v s → StripOf j.b j.k (turn j.k (conj u)) (turn j.k (conj v)) t → StripsOf j u v (record { first = s; second = t })
strips_of j u v s t a b =
    record {
      first = a.ends;
      second = b.ends;
      meets = λ w z e f.
          let m = solves-true j w e in
          let x = a.follows (√2x w) (√2y w) z m.first f in
          let y = b.follows (turn j.k (√2x (conjω w))) (turn j.k (√2y (conjω w))) (conj z) m.second (conjugate j.k u v z w f) in
          record { lo = x.0; hi = x.1; conj-lo = y.0; conj-hi = y.1 };
    }
