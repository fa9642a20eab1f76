-- Lists of natural numbers in rising order, cut into ranges: the numbers of one range after another are the numbers of them all. Assumes nothing.
use Rattle.std.specs.Prelude.{◌≡◌, refl, Bool, true, false, ◌&&◌, List, [], ◌∷◌, ◌++◌, ℕ, suc, ◌≤◌, ◌<◌, ltb, leb}
use Rattle.std.proofs.Common.{sym, ap, subst, ◌∙◌, arith, lt-ltb, le-ltb, le-leb}
use Rattle.std.proofs.Math.Decide.{dec_lt}
use Rattle.std.proofs.lemmas.Bool.{lt-leb}
use Rattle.ranks.specs.Rest.{rest}
use Rattle.ranks.proofs.Rest.{rest-hit, rest-miss, rest_over, rest-induct}
use Rattle.ranks.specs.Members.{Rising}
use Rattle.list_segment.specs.Part.{chosen}

-- from a on, and below b
abbrev pub between : ℕ → ℕ → ℕ → Bool
between a b r = leb a r && ltb r b

pub chosen-same : (f g : ℕ → Bool) → ((r : ℕ) → f r ≡ g r) → (l : List ℕ) → chosen f l ≡ chosen g l
chosen-same f g h l = ap (λ (t : ℕ → Bool). chosen t l) (λ i r. h r i)

module _ (a b r : ℕ) where
  pub inside : a ≤ r → r < b → between a b r ≡ true
  inside h k = rw (le-leb a r h, lt-ltb r b k) refl

  pub before : r < a → between a b r ≡ false
  before h = rw (lt-leb a r h) refl

  pub beyond : b ≤ r → between a b r ≡ false
  beyond h = elim (dec_lt r a) [ yes k ↦ before k | no k ↦ (let i : a ≤ r = omega arith in rw (le-leb a r i, le-ltb r b h) refl) ]

-- a range from a number to itself holds nothing
pub none_between : (a : ℕ) (l : List ℕ) → chosen (between a a) l ≡ []
none_between a [] = refl
none_between a (x ∷ l) = rw (nothing (dec_lt x a)) (none_between a l)
  where
    nothing : Dec (x < a) → between a a x ≡ false
    nothing (yes h) = before a a x h
    nothing (no h) = beyond a a x (omega arith)

-- ---- a rising list
-- nothing lies below what it rises from
none_below : (a b lo : ℕ) (l : List ℕ) → b ≤ lo → Rising lo l → chosen (between a b) l ≡ []
none_below a b lo [] h u = refl
none_below a b lo (x ∷ l) h u = rw (beyond a b x (omega arith)) (none_below a b (suc x) l (omega arith) u.1)

-- a range may begin anywhere before that
from-same : (a b c lo : ℕ) (l : List ℕ) → a ≤ lo → b ≤ lo → Rising lo l → chosen (between a c) l ≡ chosen (between b c) l
from-same a b c lo [] h k u = refl
from-same a b c lo (x ∷ l) h k u = elim (dec_lt x c) [
  | yes m ↦ rw (inside a c x (omega arith) m, inside b c x (omega arith) m) (ap (λ (t : List ℕ). x ∷ t) (from-same a b c (suc x) l (omega arith) (omega arith) u.1))
  | no m ↦ rw (beyond a c x (omega arith), beyond b c x (omega arith)) (from-same a b c (suc x) l (omega arith) (omega arith) u.1)
]

-- two ranges side by side
pub rising-joined : (a b c lo : ℕ) (l : List ℕ) → a ≤ b → b ≤ c → Rising lo l → chosen (between a b) l ++ chosen (between b c) l ≡ chosen (between a c) l
rising-joined a b c lo [] h k u = refl
rising-joined a b c lo (x ∷ l) h k u = go (dec_lt x a) (dec_lt x b) (rising-joined a b c (suc x) l h k u.1)
  where
    go : Dec (x < a) → Dec (x < b) → chosen (between a b) l ++ chosen (between b c) l ≡ chosen (between a c) l → chosen (between a b) (x ∷ l) ++ chosen (between b c) (x ∷ l) ≡ chosen (between a c) (x ∷ l)
    go (yes m) n ih = rw (before a b x m, before b c x (omega arith), before a c x m) ih
    go (no m) (yes n) ih = rw (inside a b x (omega arith) n, before b c x n, inside a c x (omega arith) (omega arith)) (ap (λ (t : List ℕ). x ∷ t) ih)
    go (no m) (no n) ih =
        let none : chosen (between a b) (x ∷ l) ≡ [] = none_below a b x (x ∷ l) (omega arith) (omega arith, u.1) in
        ap (λ (t : List ℕ). t ++ chosen (between b c) (x ∷ l)) none ∙ from-same b a c x (x ∷ l) (omega arith) (omega arith) (omega arith, u.1)

-- ---- the numbers that pass a test
module _ (test : ℕ → Bool) (top lo hi : ℕ) (room : hi ≤ top) where
  miss-over : (p : ℕ) → test p ≡ false → rest test hi (suc p) ≡ rest test hi p
  miss-over p t = elim (dec_lt p hi) [ yes h ↦ sym (rest-miss test hi p h t) | no h ↦ rest_over test hi (suc p) (omega arith) ∙ sym (rest_over test hi p (omega arith)) ]

  from : (p : ℕ) → lo ≤ p → chosen (between lo hi) (rest test top p) ≡ rest test hi p
  from =
      rest-induct test top (λ p l. lo ≤ p → chosen (between lo hi) l ≡ rest test hi p) (λ p h k. sym (rest_over test hi p (omega arith)))
      (λ p h t ih k. hit p t k (ih (omega arith)) (dec_lt p hi))
      (λ p h t ih k. ih (omega arith) ∙ miss-over p t)
    where
      hit : (p : ℕ) → test p ≡ true → lo ≤ p → chosen (between lo hi) (rest test top (suc p)) ≡ rest test hi (suc p) → Dec (p < hi) → chosen (between lo hi) (p ∷ rest test top (suc p)) ≡ rest test hi p
      hit p t k ih (yes h) = rw (inside lo hi p k h) (ap (λ (l : List ℕ). p ∷ l) ih ∙ sym (rest-hit test hi p h t))
      hit p t k ih (no h) = rw (beyond lo hi p (omega arith)) (ih ∙ rest_over test hi (suc p) (omega arith) ∙ sym (rest_over test hi p (omega arith)))

  here : (p : ℕ) → p ≤ lo → Dec (p < lo) → (p < lo → chosen (between lo hi) (rest test top p) ≡ rest test hi lo) → chosen (between lo hi) (rest test top p) ≡ rest test hi lo
  here p h (yes k) f = f k
  here p h (no k) f = from p (omega arith) ∙ ap (rest test hi) (omega arith)

  up_to : (p : ℕ) → p ≤ lo → chosen (between lo hi) (rest test top p) ≡ rest test hi lo
  up_to =
      rest-induct test top (λ p l. p ≤ lo → chosen (between lo hi) l ≡ rest test hi lo) (λ p h k. sym (rest_over test hi lo (omega arith)))
      (λ p h t ih k. subst (λ (l : List ℕ). chosen (between lo hi) l ≡ rest test hi lo) (rest-hit test top p h t) (here p k (dec_lt p lo) (λ m. rw (rest-hit test top p h t, before lo hi p m) (ih (omega arith)))))
      (λ p h t ih k. subst (λ (l : List ℕ). chosen (between lo hi) l ≡ rest test hi lo) (rest-miss test top p h t) (here p k (dec_lt p lo) (λ m. rw (rest-miss test top p h t) (ih (omega arith)))))

  -- those of a range are those from its beginning on and below its end
  pub chosen-rest : chosen (between lo hi) (rest test top 0) ≡ rest test hi lo
  chosen-rest = up_to 0 (omega arith)
