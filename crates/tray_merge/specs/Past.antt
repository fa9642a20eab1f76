-- Places in order: which lie past others, and the nearest of several.
use Rattle.std.specs.Prelude.{◌≡◌, refl, ◌⊎◌, Bool, true, false, ltb}
use Rattle.std.proofs.Math.Path.{sym}
use Rattle.std.proofs.Common.{ap, ap₂, subst, ◌∙◌, ⊎_elim, arith, ltb-true, ne_eqb}
use Rattle.std.proofs.Math.Logic.{inl, inr}
use Prim.Native.Nat.{ℕ, zero, suc, ◌≤◌, ◌<◌, min}
use Rattle.std.proofs.Math.Nat.{min-eq_left, min-eq_right}
use Rattle.std.proofs.Math.Decide.{dec_lt}
use Rattle.ranks.specs.Rest.{Place, at, ended, place_of, left_at, rest}
use Rattle.ranks.proofs.Rest.{View, view, nothing, least}
use Rattle.tray_list.specs.Nearer.{nearer, is_at}

-- a place behind another, or at the end
abbrev pub past : Place → Place → Bool
past ended w = true
past (at p) ended = false
past (at p) (at q) = ltb q p

abbrev pub Past : Place → Place → Type 0
Past ended w = Unit {0}
Past (at p) ended = ⊥
Past (at p) (at q) = q < p

pub past_is : (m w : Place) → past m w ≡ true → Past m w
past_is ended w e = tt
past_is (at p) ended e = let z : ◌≡◌ {A = ℕ} 0 1 = cc in absurd (omega arith)
past_is (at p) (at q) e = ltb-true q p e

-- a place no farther than another
abbrev pub Near : Place → Place → Type 0
Near (at p) (at q) = p ≤ q
Near ended (at q) = ⊥
Near w ended = Unit {0}

pub near_end : (w : Place) → Near w ended
near_end (at p) = tt
near_end ended = tt

near_same : (w : Place) → Near w w
near_same (at p) = omega arith
near_same ended = tt

near_trans : (a b c : Place) → Near a b → Near b c → Near a c
near_trans a b ended h k = near_end a
near_trans (at p) (at q) (at r) h k = omega arith
near_trans (at p) ended (at r) h k = absurd k
near_trans ended (at q) (at r) h k = absurd h
near_trans ended ended (at r) h k = absurd k

near_both-ways : (a b : Place) → Near a b → Near b a → a ≡ b
near_both-ways (at p) (at q) h k = let e : p ≡ q = omega arith in ap at e
near_both-ways (at p) ended h k = absurd k
near_both-ways ended (at q) h k = absurd h
near_both-ways ended ended h k = refl

pub past_near : (m w v : Place) → Past m w → Near v w → Past m v
past_near ended w v h k = tt
past_near (at p) ended v h k = absurd h
past_near (at p) (at q) (at r) h k = omega arith
past_near (at p) (at q) ended h k = absurd k

past-on : (m x v : Place) → Past m v → Near m x → Past x v
past-on m ended v h k = tt
past-on (at p) (at q) (at r) h k = omega arith
past-on (at p) (at q) ended h k = absurd h
past-on ended (at q) v h k = absurd k

-- what is left at a place begins there or behind
near_left : (test : ℕ → Bool) (top : ℕ) (m : Place) → Near m (place_of (left_at test top m))
near_left test top ended = tt
near_left test top (at p) = go (view test top p)
  where
    go : View test top p → Near (at p) (place_of (rest test top p))
    go (nothing e) = rw e tt
    go (least q a b t e) = rw e a

pub past-left : (test : ℕ → Bool) (top : ℕ) (m v : Place) → Past m v → Past (place_of (left_at test top m)) v
past-left test top m v h = past-on m (place_of (left_at test top m)) v h (near_left test top m)

pub past-not_at : (x : Place) (r : ℕ) → Past x (at r) → is_at x r ≡ false
past-not_at ended r h = refl
past-not_at (at q) r h = ne_eqb q r (λ e. omega arith)

-- ---- the nearer of two
either : (a b : Place) → (nearer a b ≡ a) ⊎ (nearer a b ≡ b)
either ended b = inr refl
either (at p) ended = inl refl
either (at p) (at q) =
    elim (dec_lt p q) [
      | yes h ↦ inl (ap at (min-eq_left (omega arith)))
      | no n ↦ inr (ap at (min-eq_right (omega arith)))
    ]

near_first : (a b : Place) → Near (nearer a b) a
near_first ended b = near_end (nearer ended b)
near_first (at p) ended = near_same (at p)
near_first (at p) (at q) =
    elim (dec_lt p q) [
      | yes h ↦ let e : min p q ≡ p = min-eq_left (omega arith) in omega arith
      | no n ↦ let e : min p q ≡ q = min-eq_right (omega arith) in omega arith
    ]

near_second : (a b : Place) → Near (nearer a b) b
near_second ended b = near_same b
near_second (at p) ended = tt
near_second (at p) (at q) =
    elim (dec_lt p q) [
      | yes h ↦ let e : min p q ≡ p = min-eq_left (omega arith) in omega arith
      | no n ↦ let e : min p q ≡ q = min-eq_right (omega arith) in omega arith
    ]

near_of : (v a b : Place) → Near v a → Near v b → Near v (nearer a b)
near_of v a b h k = ⊎_elim (λ e. subst (Near v) (sym e) h) (λ e. subst (Near v) (sym e) k) (either a b)

-- ---- the nearest of several
-- the nearest of n places
unfoldable pub nearest_of : ℕ → (ℕ → Place) → Place
nearest_of zero f = ended
nearest_of (suc n) f = nearer (nearest_of n f) (f n)

pub nearest_same : (n : ℕ) (f g : ℕ → Place) → ((i : ℕ) → i < n → f i ≡ g i) → nearest_of n f ≡ nearest_of n g
unfolding nearest_of
nearest_same zero f g h = refl
nearest_same (suc n) f g h = ap₂ nearer (nearest_same n f g (λ i b. h i (omega arith))) (h n (omega arith))

pub nearest_none : (f : ℕ → Place) → ended ≡ nearest_of 0 f
unfolding nearest_of
nearest_none f = refl

pub nearest_more : (n : ℕ) (f : ℕ → Place) → nearer (nearest_of n f) (f n) ≡ nearest_of (suc n) f
unfolding nearest_of
nearest_more n f = refl

nearest_low : (n : ℕ) (f : ℕ → Place) (i : ℕ) → i < n → Near (nearest_of n f) (f i)
unfolding nearest_of
nearest_low zero f i b = absurd (omega arith)
nearest_low (suc n) f i b = go (dec_lt i n) (λ h. nearest_low n f i h)
  where
    go : Dec (i < n) → (i < n → Near (nearest_of n f) (f i)) → Near (nearer (nearest_of n f) (f n)) (f i)
    go (yes h) ih = near_trans (nearer (nearest_of n f) (f n)) (nearest_of n f) (f i) (near_first (nearest_of n f) (f n)) (ih h)
    go (no k) ih = let e : n ≡ i = omega arith in subst (λ (m : ℕ). Near (nearer (nearest_of n f) (f n)) (f m)) e (near_second (nearest_of n f) (f n))

nearest_of_lem : (n : ℕ) (f : ℕ → Place) (v : Place) → ((i : ℕ) → i < n → Near v (f i)) → Near v (nearest_of n f)
unfolding nearest_of
nearest_of_lem zero f v h = near_end v
nearest_of_lem (suc n) f v h = near_of v (nearest_of n f) (f n) (nearest_of_lem n f v (λ i b. h i (omega arith))) (h n (omega arith))

-- the nearest lies past a place: so do all
pub past_all : (n : ℕ) (f : ℕ → Place) (w : Place) → Past (nearest_of n f) w → (i : ℕ) → i < n → Past (f i) w
past_all n f w h i b = past-on (nearest_of n f) (f i) w h (nearest_low n f i b)

-- some of the places g are left out of f
module _ (f g : ℕ → Place) where
  pub left-out-on : (n : ℕ) → ((i : ℕ) → i < n → (f i ≡ g i) ⊎ (f i ≡ ended)) → Near (nearest_of n g) (nearest_of n f)
  left-out-on n h = nearest_of_lem n f (nearest_of n g) (λ i b. ⊎_elim (λ e. subst (Near (nearest_of n g)) (sym e) (nearest_low n g i b)) (λ e. subst (Near (nearest_of n g)) (sym e) (near_end (nearest_of n g))) (h i b))

  module _ (v : Place) where
    reaches : (n : ℕ) → ((i : ℕ) → i < n → (f i ≡ g i) ⊎ Past (g i) v) → Near (nearest_of n f) (nearest_of n g) ⊎ Past (nearest_of n g) v
    unfolding nearest_of
    reaches zero h = inl tt
    reaches (suc n) h = go (reaches n (λ i b. h i (omega arith))) (h n (omega arith)) (either (nearest_of n g) (g n))
      where
        go : Near (nearest_of n f) (nearest_of n g) ⊎ Past (nearest_of n g) v → (f n ≡ g n) ⊎ Past (g n) v → (nearer (nearest_of n g) (g n) ≡ (nearest_of n g)) ⊎ (nearer (nearest_of n g) (g n) ≡ g n) → Near (nearer (nearest_of n f) (f n)) (nearer (nearest_of n g) (g n)) ⊎ Past (nearer (nearest_of n g) (g n)) v
        go (inl a) k (inl e) = inl (subst (Near (nearer (nearest_of n f) (f n))) (sym e) (near_trans (nearer (nearest_of n f) (f n)) (nearest_of n f) (nearest_of n g) (near_first (nearest_of n f) (f n)) a))
        go (inr p) k (inl e) = inr (subst (λ (x : Place). Past x v) (sym e) p)
        go a (inl k) (inr e) = inl (subst (Near (nearer (nearest_of n f) (f n))) (k ∙ sym e) (near_second (nearest_of n f) (f n)))
        go a (inr p) (inr e) = inr (subst (λ (x : Place). Past x v) (sym e) p)

    near-or : (a : Place) → Near a v ⊎ Past v v → Near a v
    near-or a = go v
      where
        go : (x : Place) → Near a x ⊎ Past x x → Near a x
        go (at p) (inl h) = h
        go (at p) (inr h) = absurd (omega arith)
        go ended h = near_end a

    -- what is left out lies past the nearest of all: it is the nearest of the others
    pub left_out : (n : ℕ) → nearest_of n g ≡ v → ((i : ℕ) → i < n → (f i ≡ g i) ⊎ ((f i ≡ ended) × Past (g i) v)) → nearest_of n f ≡ v
    left_out n e h =
        near_both-ways (nearest_of n f) v (near-or (nearest_of n f) (subst (λ (x : Place). Near (nearest_of n f) x ⊎ Past x v) e (reaches n (λ i b. ⊎_elim inl (λ k. inr k.1) (h i b)))))
        (subst (λ (x : Place). Near x (nearest_of n f)) e (left-out-on n (λ i b. ⊎_elim inl (λ k. inr k.0) (h i b))))
