-- The leading members of a list that pass a test. Assumes nothing.
use Rattle.std.specs.Prelude.{◌≡◌, refl, Bool, true, false, cond, List, [], ◌∷◌, ◌++◌, map, ℕ, suc, ◌≤◌, ◌<◌, ltb, length, take}
use Rattle.std.proofs.Common.{sym, ap, ◌∙◌, arith, lt-ltb, le-ltb}
use Rattle.std.proofs.Math.Decide.{dec_lt}
use Rattle.ranks.specs.Rest.{rest}
use Rattle.ranks.proofs.Rest.{rest-hit, rest-miss, rest_over, rest-induct}

-- up to the first that fails
abbrev pub leading : {A : Type 0} → (A → Bool) → List A → List A
leading f [] = []
leading f (x ∷ l) = cond (f x) (x ∷ leading f l) []

module _ {A : Type 0} (f : A → Bool) where
  pub leading-short : (a : List A) → length (leading f a) ≤ length a
  leading-short [] = omega arith
  leading-short (x ∷ a) = go (f x) (leading-short a)
    where
      go : (t : Bool) → length (leading f a) ≤ length a → length (cond t (x ∷ leading f a) []) ≤ suc (length a)
      go true h = omega arith
      go false h = omega arith

  pub leading-take : (a : List A) → leading f a ≡ take (length (leading f a)) a
  leading-take [] = refl
  leading-take (x ∷ a) = go (f x) (leading-take a)
    where
      go : (t : Bool) → leading f a ≡ take (length (leading f a)) a → cond t (x ∷ leading f a) [] ≡ take (length (cond t (x ∷ leading f a) [])) (x ∷ a)
      go true h = ap (λ (l : List A). x ∷ l) h
      go false h = refl

  -- where one of a list fails, those behind it do not count
  pub leading-stops : (a b : List A) → length (leading f a) < length a → leading f (a ++ b) ≡ leading f a
  leading-stops [] b h = absurd (omega arith)
  leading-stops (x ∷ a) b h = go (f x) h (leading-stops a b)
    where
      go : (t : Bool) → length (cond t (x ∷ leading f a) []) < suc (length a) → (length (leading f a) < length a → leading f (a ++ b) ≡ leading f a) → cond t (x ∷ leading f (a ++ b)) [] ≡ cond t (x ∷ leading f a) []
      go true h ih = ap (λ (l : List A). x ∷ l) (ih (omega arith))
      go false h ih = refl

  -- where all of it pass, it goes on behind them
  pub leading-passes : (a b : List A) → length (leading f a) ≡ length a → leading f (a ++ b) ≡ a ++ leading f b
  leading-passes [] b h = refl
  leading-passes (x ∷ a) b h = go (f x) h (leading-passes a b)
    where
      go : (t : Bool) → length (cond t (x ∷ leading f a) []) ≡ suc (length a) → (length (leading f a) ≡ length a → leading f (a ++ b) ≡ a ++ leading f b) → cond t (x ∷ leading f (a ++ b)) [] ≡ x ∷ (a ++ leading f b)
      go true h ih = ap (λ (l : List A). x ∷ l) (ih (omega arith))
      go false h ih = absurd (omega arith)

pub leading-map : {A B : Type 0} (g : A → B) (f : B → Bool) (l : List A) → length (leading f (map g l)) ≡ length (leading (λ x. f (g x)) l)
leading-map g f [] = refl
leading-map {A} {B} g f (x ∷ l) = go (f (g x)) (leading-map g f l)
  where
    go : (t : Bool) → length (leading f (map g l)) ≡ length (leading (λ x. f (g x)) l) → length (cond t (g x ∷ leading f (map g l)) []) ≡ length (cond t (x ∷ leading (λ x. f (g x)) l) [])
    go true h = ap suc h
    go false h = refl

-- of the numbers that pass a test, those below an end
pub leading-rest : (test : ℕ → Bool) (top end p : ℕ) → end ≤ top → leading (λ r. ltb r end) (rest test top p) ≡ rest test end p
leading-rest test top end p room =
    rest-induct test top (λ p l. leading (λ r. ltb r end) l ≡ rest test end p) (λ p h. sym (rest_over test end p (omega arith))) (λ p h t ih. hit p t ih (dec_lt p end))
    (λ p h t ih. miss p t ih (dec_lt p end)) p
  where
    hit : (p : ℕ) → test p ≡ true → leading (λ r. ltb r end) (rest test top (suc p)) ≡ rest test end (suc p) → Dec (p < end) → leading (λ r. ltb r end) (p ∷ rest test top (suc p)) ≡ rest test end p
    hit p t ih (yes h) = rw (lt-ltb p end h) (ap (λ (l : List ℕ). p ∷ l) ih ∙ sym (rest-hit test end p h t))
    hit p t ih (no h) = rw (le-ltb p end (omega arith)) (sym (rest_over test end p (omega arith)))

    miss : (p : ℕ) → test p ≡ false → leading (λ r. ltb r end) (rest test top (suc p)) ≡ rest test end (suc p) → Dec (p < end) → leading (λ r. ltb r end) (rest test top (suc p)) ≡ rest test end p
    miss p t ih (yes h) = ih ∙ sym (rest-miss test end p h t)
    miss p t ih (no h) = ih ∙ rest_over test end (suc p) (omega arith) ∙ sym (rest_over test end p (omega arith))
