-- Bytes put one by one after a place, each where it fits; with room for all of them they stand there joined. Assumes nothing.
use Rattle.std.specs.Prelude.{ℕ, ◌+◌, ◌≤◌, ◌≡◌, refl, List, [], ◌∷◌, ◌++◌, length, take}
use Rattle.std.proofs.Common.{sym, ap, ◌∙◌, append-nil, arith}
use Rattle.std.proofs.Math.Decide.{dec_le}
use Rattle.std.proofs.lemmas.Bool.{lt-leb}
use Rattle.text.specs.Written.{written, after}
use Rattle.text.specs.Append.{Appended, appended, append-more}

-- a slice and a place in it
abbrev pub Slate : Type 0
Slate = List ℕ × ℕ

unfoldable pub laid : Slate → List ℕ → Slate
laid s [] = s
laid s (b ∷ bs) = laid (written s.0 s.1 (b ∷ []), after s.0 s.1 (b ∷ [])) bs

-- what a writer of the bytes l leaves
abbrev pub Laid : List ℕ → ℕ → List ℕ → List ℕ → ℕ → Type 0
Laid xs at l out r = ◌≡◌ {A = Slate} (out, r) (laid (xs, at) l)

pub laid-append : (s : Slate) (a b : List ℕ) → laid s (a ++ b) ≡ laid (laid s a) b
unfolding laid
laid-append s [] b = refl
laid-append s (x ∷ a) b = laid-append (written s.0 s.1 (x ∷ []), after s.0 s.1 (x ∷ [])) a b

pub laid_one : (xs : List ℕ) (at b : ℕ) (out : List ℕ) (r : ℕ) → (out ≡ written xs at (b ∷ [])) × (r ≡ after xs at (b ∷ [])) → Laid xs at (b ∷ []) out r
unfolding laid
laid_one xs at b out r p = λ i. (p.0 i, p.1 i)

pub laid-fits : (l xs : List ℕ) (at : ℕ) → at + length l ≤ length xs → Appended xs at l (laid (xs, at) l).0 (laid (xs, at) l).1
unfolding laid
laid-fits [] xs at h = record { text = sym (append-nil (take at xs)); end = omega arith; same = refl; past = refl }
laid-fits (b ∷ l) xs at h =
    let a = appended xs at (b ∷ []) (written xs at (b ∷ [])) (after xs at (b ∷ [])) (omega arith) refl refl in
    let e = a.end in
    let s = a.same in
    append-more xs at (b ∷ []) l (written xs at (b ∷ [])) (laid (xs, at) (b ∷ l)).0 (after xs at (b ∷ [])) (laid (xs, at) (b ∷ l)).1 a
    (laid-fits l (written xs at (b ∷ [])) (after xs at (b ∷ [])) (omega arith))

-- ---- a writer keeps the slice's length
pub length-written : (xs : List ℕ) (at : ℕ) (ys : List ℕ) → length (written xs at ys) ≡ length xs
unfolding written
length-written xs at ys = elim (dec_le (at + length ys) (length xs)) [
  | yes k ↦ (appended xs at ys (written xs at ys) (after xs at ys) k refl refl).same
  | no k ↦ simp (lt-leb (at + length ys) (length xs) (omega arith)) refl
]

pub length-laid : (s : Slate) (l : List ℕ) → length (laid s l).0 ≡ length s.0
unfolding laid
length-laid s [] = refl
length-laid s (b ∷ l) = length-laid (written s.0 s.1 (b ∷ []), after s.0 s.1 (b ∷ [])) l ∙ length-written s.0 s.1 (b ∷ [])

pub laid_same : (s t : Slate) (a b : List ℕ) → laid s a ≡ laid t b → length s.0 ≡ length t.0
laid_same s t a b e = sym (length-laid s a) ∙ ap (λ (x : Slate). length x.0) e ∙ length-laid t b
