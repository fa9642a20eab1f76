-- Counts kept in two words.
-- Assumes nothing.
use Rattle.std.specs.Prelude.{◌≡◌, refl, List, [], ◌∷◌, map, ℕ, zero, suc, ◌+◌, ◌^◌, ◌≤◌, ◌<◌, length, take, get_or, set}
use Rattle.std.proofs.Common.{ap, ap₂, ◌∙◌, add-one, arith, take_all}
use Rattle.integers_wide.specs.declared.Size.{Size}
use Rattle.integers_wide.specs.Meaning.{size_of, wrapped}
use Rattle.integers_wide.specs.lemmas.Wrapped.{wrapped-more, wrapped_same}
use Rattle.session_tally.specs.Spread.{places, each, added, nothing, sum}

-- ---- the counts are raised one after another
pub added_none : (m : List ℕ) (l : List Size) → l ≡ added (take 0 m) l
unfolding added
added_none m l = refl

pub added_more : (m : List ℕ) (l : List Size) (i : ℕ) (z : Size) → i < length m → i < length l
    → set (added (take i m) l) i (wrapped (size_of (get_or (added (take i m) l) i z) + get_or m i 0)) ≡ added (take (suc i) m) l
unfolding added
added_more [] l i z h k = absurd (omega arith)
added_more (n ∷ m) [] i z h k = absurd (omega arith)
added_more (n ∷ m) (x ∷ l) zero z h k = refl
added_more (n ∷ m) (x ∷ l) (suc i) z h k = ap (λ (t : List Size). wrapped (size_of x + n) ∷ t) (added_more m l i z (omega arith) (omega arith))

pub added-all : (m : List ℕ) (l c : List Size) (i : ℕ) → c ≡ added (take i m) l → length m ≤ i → c ≡ added m l
added-all m l c i e h = e ∙ ap (λ (n : List ℕ). added n l) (take_all i m h)

pub added_next : (m : List ℕ) (l c : List Size) (i : ℕ) (z x : Size) → c ≡ added (take i m) l → x ≡ wrapped (size_of (get_or c i z) + get_or m i 0) → i < length m → i < length l
    → set c i x ≡ added (take (i + 1) m) l
added_next m l c i z x e f h k = rw (f, e, add-one) (added_more m l i z h k)

-- ---- counts that are numbers in two words
pub added-places : (f g : ℕ → ℕ) (n s : ℕ) → added (places g n s) (map wrapped (places f n s)) ≡ map wrapped (places (λ e. f e + g e) n s)
unfolding places added
added-places f g zero s = refl
added-places f g (suc n) s = ap₂ ◌∷◌ (wrapped-more (f s) (g s)) (added-places f g n (suc s))

pub nothing-places : nothing.counts ≡ map wrapped (each (λ e. 0))
unfolding places wrapped
nothing-places = refl

pub kept-places : (f : ℕ → ℕ) (n s : ℕ) → ((e : ℕ) → f e < 2 ^ 128) → map size_of (map wrapped (places f n s)) ≡ places f n s
unfolding places
kept-places f zero s h = refl
kept-places f (suc n) s h = ap₂ ◌∷◌ (wrapped_same (f s) (h s)) (kept-places f n (suc s) h)
