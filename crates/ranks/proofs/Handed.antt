-- What a hand-out writes: each point of a list in w numbers, at the front of the lent slice. SPEC, "Walk".
-- Assumes nothing.
use Rattle.std.specs.Prelude.{◌≡◌, refl, Bool, List, [], ◌∷◌, ◌++◌, ℕ, suc, ◌+◌, ◌*◌, ◌≤◌, ◌<◌, length, take, drop, get_or}
use Rattle.std.proofs.Common.{sym, ap, ap₂, ◌∙◌, append_assoc, append-nil, mul-zero, add-one, arith, length-append, length-drop, drop_of_length-le, take_at, drop-drop, take-suc, length-take-le, take_all, drop-cons}
use Rattle.std.proofs.lemmas.List.Edits.{sets, sets-eq}
use Rattle.std.proofs.Math.Seq.{drop-append-add}
use Rattle.ranks.specs.Rest.{rest, Place, at, ended, place_of, left_at}
use Rattle.ranks.proofs.Rest.{next-left}
use Rattle.ranks.specs.Handed.{flat, put, Dealt, Gave}

module _ {A : Type 0} (coords : ℕ → List A) where
  pub flat_append : (a b : List ℕ) → flat coords (a ++ b) ≡ flat coords a ++ flat coords b
  flat_append [] b = refl
  flat_append (r ∷ a) b = rw (flat_append a b, append_assoc)

none_left : (l : List ℕ) → ended ≡ place_of l → l ≡ []
none_left [] e = refl
none_left (x ∷ l) e = cc

module _ {A : Type 0} (coords : ℕ → List A) (w : ℕ) (wide : (r : ℕ) → length (coords r) ≡ w) where
  pub length-flat : (l : List ℕ) → length (flat coords l) ≡ w * length l
  length-flat [] = rw mul-zero
  length-flat (r ∷ l) = length-append (coords r) (flat coords l) ∙ omega (arith, wide r, length-flat l)

  -- the numbers that were written, read back
  pub take_put : (ps : List ℕ) (old : List A) → take (w * length ps) (put coords w ps old) ≡ flat coords ps
  take_put ps old = take_at (flat coords ps) (drop (w * length ps) old) (w * length ps) (length-flat ps)

  -- one point more is written behind the others
  pub put-more : (ps : List ℕ) (q : ℕ) (old : List A) → w * length ps + w ≤ length old
      → put coords w (ps ++ (q ∷ [])) old ≡ sets (put coords w ps old) (w * length ps) (coords q)
  put-more ps q old h =
      let i = w * length ps in
      let o = put coords w ps old in
      let n = length (coords q) in
      let front = length-flat ps in
      let same : length o ≡ length old = length-append (flat coords ps) (drop i old) ∙ omega (arith, length-drop i old) in
      let split = sets-eq (coords q) o i (omega (arith, wide q)) in
      let behind : drop (i + n) o ≡ drop (i + n) old =
      ap (λ (m : ℕ). drop (m + n) o) (sym front) ∙ drop-append-add (flat coords ps) (drop i old) n ∙ drop-drop n i old in
      let points : flat coords (ps ++ (q ∷ [])) ≡ flat coords ps ++ coords q = flat_append coords ps (q ∷ []) ∙ rw append-nil in
      let numbers : w * length (ps ++ (q ∷ [])) ≡ i + n = ap (◌*◌ w) (length-append ps (q ∷ [])) ∙ omega (arith, wide q) in
      ap₂ (λ (a : List A) (m : ℕ). a ++ drop m old) points numbers ∙ sym (split ∙ ap₂ (λ (a b : List A). a ++ coords q ++ b) (take_put ps old) behind)

  pub dealt_none : (ps : List ℕ) (old : List A) (s : Place) → s ≡ place_of ps → Dealt coords w ps old 0 old s
  dealt_none ps old s e = record { fits = omega arith; place = e; slice = rw mul-zero }

  -- the point that the place is at is written, and the place moves to the one after it
  pub dealt_more : (test : ℕ → Bool) (top : ℕ) (v : Place) (old : List A) (k : ℕ) (out : List A) (q : ℕ) (s : Place)
      → Dealt coords w (left_at test top v) old k out (at q) → w * k + w ≤ length old → s ≡ place_of (rest test top (suc q))
      → Dealt coords w (left_at test top v) old (k + 1) (sets out (w * k) (coords q)) s
  dealt_more test top v old k out q s d h e =
      let ps = left_at test top v in
      let next = next-left test top k v q (sym d.place) in
      let left = length-drop k ps in
      let one = ap length next in
      let short : k < length ps = omega arith in
      let found : get_or ps k 0 ∷ drop (suc k) ps ≡ q ∷ rest test top (suc q) = sym (drop-cons ps k 0 short) ∙ next in
      let head : get_or ps k 0 ≡ q = cc in
      let tail : drop (suc k) ps ≡ rest test top (suc q) = cc in
      let first : take (suc k) ps ≡ take k ps ++ (q ∷ []) = take-suc ps k 0 short ∙ rw head in
      let z : length (take k ps) ≡ k = length-take-le k ps d.fits in
      let more = put-more (take k ps) q old (rw z h) in
      record {
        fits = omega arith;
        place = rw (add-one k, tail) e;
        slice = rw (add-one k, first) (ap₂ (λ (o : List A) (i : ℕ). sets o i (coords q)) d.slice (ap (◌*◌ w) (sym z)) ∙ sym more);
      }

  -- the space is used up
  pub dealt_full : (ps : List ℕ) (old : List A) (k : ℕ) (out : List A) (s : Place) → Dealt coords w ps old k out s → Gave coords w ps old k k out s
  dealt_full ps old k out s d = record { count = sym (length-take-le k ps d.fits); place = d.place; slice = d.slice }

  -- nothing is left
  pub dealt_end : (ps : List ℕ) (old : List A) (k n : ℕ) (out : List A) (s : Place) → s ≡ ended → Dealt coords w ps old k out s → k ≤ n
      → Gave coords w ps old n k out s
  dealt_end ps old k n out s e d h =
      let none = none_left (drop k ps) (sym e ∙ d.place) in
      let left = length-drop k ps in
      let gone = ap length none in
      let fits = d.fits in
      let all-k : take k ps ≡ ps = take_all k ps (omega arith) in
      let all-n : take n ps ≡ ps = take_all n ps (omega arith) in
      let over : drop n ps ≡ [] = drop_of_length-le ps {i = n} (omega arith) in
      record { count = rw all-n (omega arith); place = rw over e; slice = rw (all-n, ← all-k) d.slice }
