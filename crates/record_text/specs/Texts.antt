-- The line of a record as texts put one after another; joined they are the line. Assumes nothing.
use Rattle.std.specs.Prelude.{◌≡◌, refl, Bool, true, false, cond, List, [], ◌∷◌, ◌++◌, ℕ, ◌+◌, ◌≤◌, ◌<◌, ℤ, pos, negsuc, length, get_or, drop}
use Rattle.std.proofs.Common.{sym, ap, ap₂, ◌∙◌, append_assoc, add-one, arith, drop_of_length-le, drop-cons, ne_eqb}
use Rattle.record_kinds.specs.declared.Kind.{Kind}
use Rattle.record_kinds.specs.declared.Kind.TheVariants as K
use Rattle.text.specs.Decimal.{signed_decimal}
use Rattle.text.specs.Written.{written, after}
use Rattle.record_forms.specs.Laid.{length-written}
use Rattle.text_puts.specs.Puts.{Slate, put, puts, joined, Puts, one, join}
use Rattle.record_text.specs.Lines.{numbers_text, name_of, equals_one, selection_text, rest_text, line_of, text_of}

unfoldable pub numbers_texts : List ℤ → List (List ℕ)
numbers_texts [] = []
numbers_texts (z ∷ zs) = (32 ∷ []) ∷ signed_decimal z ∷ numbers_texts zs

unfoldable pub selection_texts : List ℤ → List (List ℕ)
selection_texts zs = cond (equals_one 0 zs) ((32 ∷ 110 ∷ 101 ∷ 119 ∷ []) ∷ []) (cond (equals_one 1 zs) ((32 ∷ 97 ∷ 108 ∷ 108 ∷ []) ∷ []) (numbers_texts zs))

abbrev pub name_texts : Kind → List (List ℕ)
name_texts K.Scale = name_of K.Scale ∷ []
name_texts K.Rectangle = name_of K.Rectangle ∷ []
name_texts K.Ellipse = name_of K.Ellipse ∷ []
name_texts K.Operator = name_of K.Operator ∷ []
name_texts K.Slice = name_of K.Slice ∷ []
name_texts K.Selection = name_of K.Selection ∷ []
name_texts K.Unknown = []

abbrev pub rest_texts : Kind → List ℤ → List (List ℕ)
rest_texts K.Scale zs = numbers_texts zs
rest_texts K.Rectangle zs = numbers_texts zs
rest_texts K.Ellipse zs = numbers_texts zs
rest_texts K.Operator zs = numbers_texts zs
rest_texts K.Slice zs = numbers_texts zs
rest_texts K.Selection zs = selection_texts zs
rest_texts K.Unknown zs = []

-- with its line feed
abbrev pub line_texts : Kind → List ℤ → List (List ℕ)
line_texts k zs = name_texts k ++ (rest_texts k zs ++ ((10 ∷ []) ∷ []))

unfoldable pub texts_of : List (Kind × List ℤ) → List (List ℕ)
texts_of [] = []
texts_of (r ∷ rs) = line_texts r.0 r.1 ++ texts_of rs

-- ---- joined, they are the text
pub joined-append : (a b : List (List ℕ)) → joined (a ++ b) ≡ joined a ++ joined b
joined-append [] b = refl
joined-append (y ∷ a) b = ap (λ (l : List ℕ). y ++ l) (joined-append a b) ∙ sym (append_assoc y (joined a) (joined b))

joined_numbers : (zs : List ℤ) → joined (numbers_texts zs) ≡ numbers_text zs
unfolding numbers_texts numbers_text
joined_numbers [] = refl
joined_numbers (z ∷ zs) = ap (λ (l : List ℕ). 32 ∷ (signed_decimal z ++ l)) (joined_numbers zs)

joined-selection : (zs : List ℤ) → joined (selection_texts zs) ≡ selection_text zs
unfolding selection_texts selection_text
joined-selection zs = go (equals_one 0 zs) (equals_one 1 zs)
  where
    go : (b c : Bool) → joined (cond b ((32 ∷ 110 ∷ 101 ∷ 119 ∷ []) ∷ []) (cond c ((32 ∷ 97 ∷ 108 ∷ 108 ∷ []) ∷ []) (numbers_texts zs)))
        ≡ cond b (32 ∷ 110 ∷ 101 ∷ 119 ∷ []) (cond c (32 ∷ 97 ∷ 108 ∷ 108 ∷ []) (numbers_text zs))
    go true c = refl
    go false true = refl
    go false false = joined_numbers zs

joined-rest : (k : Kind) (zs : List ℤ) → joined (rest_texts k zs) ≡ rest_text k zs
joined-rest K.Scale zs = joined_numbers zs
joined-rest K.Rectangle zs = joined_numbers zs
joined-rest K.Ellipse zs = joined_numbers zs
joined-rest K.Operator zs = joined_numbers zs
joined-rest K.Slice zs = joined_numbers zs
joined-rest K.Selection zs = joined-selection zs
joined-rest K.Unknown zs = refl

joined-name : (k : Kind) → joined (name_texts k) ≡ name_of k
joined-name K.Scale = refl
joined-name K.Rectangle = refl
joined-name K.Ellipse = refl
joined-name K.Operator = refl
joined-name K.Slice = refl
joined-name K.Selection = refl
joined-name K.Unknown = refl

joined_line : (k : Kind) (zs : List ℤ) → joined (line_texts k zs) ≡ line_of k zs ++ (10 ∷ [])
joined_line k zs =
    joined-append (name_texts k) _
    ∙ ap₂ ◌++◌ (joined-name k) (joined-append (rest_texts k zs) ((10 ∷ []) ∷ []) ∙ ap (λ (l : List ℕ). l ++ (10 ∷ [])) (joined-rest k zs))
    ∙ sym (append_assoc (name_of k) (rest_text k zs) (10 ∷ []))

pub joined-texts : (rs : List (Kind × List ℤ)) → joined (texts_of rs) ≡ text_of rs
unfolding texts_of text_of
joined-texts [] = refl
joined-texts (r ∷ rs) =
    joined-append (line_texts r.0 r.1) (texts_of rs)
    ∙ ap₂ ◌++◌ (joined_line r.0 r.1) (joined-texts rs)
    ∙ append_assoc (line_of r.0 r.1) (10 ∷ []) (text_of rs)

-- ---- a selection by its number
pub selection-many : (zs : List ℤ) → (length zs ≡ 1 → ⊥) → selection_texts zs ≡ numbers_texts zs
unfolding selection_texts
selection-many [] f = refl
selection-many (z ∷ []) f = absurd (f refl)
selection-many (z ∷ y ∷ zs) f = refl

pub selection-new : (zs : List ℤ) → length zs ≡ 1 → get_or zs 0 (pos 0) ≡ pos 0 → selection_texts zs ≡ (32 ∷ 110 ∷ 101 ∷ 119 ∷ []) ∷ []
unfolding selection_texts
selection-new [] l e = absurd (omega arith)
selection-new (z ∷ []) l e = rw e refl
selection-new (z ∷ y ∷ zs) l e = absurd (omega arith)

pub selection-all : (zs : List ℤ) → length zs ≡ 1 → get_or zs 0 (pos 0) ≡ pos 1 → selection_texts zs ≡ (32 ∷ 97 ∷ 108 ∷ 108 ∷ []) ∷ []
unfolding selection_texts
selection-all [] l e = absurd (omega arith)
selection-all (z ∷ []) l e = rw e refl
selection-all (z ∷ y ∷ zs) l e = absurd (omega arith)

pub selection-other : (zs : List ℤ) → length zs ≡ 1 → (get_or zs 0 (pos 0) ≡ pos 0 → ⊥) → (get_or zs 0 (pos 0) ≡ pos 1 → ⊥) → selection_texts zs ≡ numbers_texts zs
unfolding selection_texts
selection-other [] l f g = refl
selection-other (pos n ∷ []) l f g = rw (ne_eqb n 0 (λ e. f (ap pos e)), ne_eqb n 1 (λ e. g (ap pos e))) refl
selection-other (negsuc n ∷ []) l f g = refl
selection-other (z ∷ y ∷ zs) l f g = refl

-- ---- texts put one after another
pub put_one : (xs : List ℕ) (at : ℕ) (y out : List ℕ) (r : ℕ) → (out ≡ written xs at y) × (r ≡ after xs at y) → ◌≡◌ {A = Slate} (out, r) (puts (xs, at) (y ∷ []))
put_one xs at y out r p = (one xs at y out r (length y) (omega arith) p).is

pub put-more : (s t u : Slate) (a b : List (List ℕ)) → t ≡ puts s a → u ≡ puts t b → u ≡ puts s (a ++ b)
put-more s t u a b e f =
    let p : Puts s a t (length (joined a)) = record { is = e; size = omega arith } in
    let q : Puts t b u (length (joined b)) = record { is = f; size = omega arith } in
    (join p q).is

length-puts : (s : Slate) (l : List (List ℕ)) → length (puts s l).0 ≡ length s.0
unfolding puts
length-puts s [] = refl
length-puts s (y ∷ l) = length-puts (put s y) l ∙ length-written s.0 s.1 y

pub puts-same : (s t : Slate) (a b : List (List ℕ)) → puts s a ≡ puts t b → length s.0 ≡ length t.0
puts-same s t a b e = sym (length-puts s a) ∙ ap (λ (x : Slate). length x.0) e ∙ length-puts t b

-- a number further, and none left
pub numbers_more : (s t u : Slate) (zs : List ℤ) (i : ℕ) → i < length zs → t ≡ puts s ((32 ∷ []) ∷ []) → u ≡ puts t (signed_decimal (get_or zs i (pos 0)) ∷ []) → puts u (numbers_texts (drop (i + 1) zs)) ≡ puts s (numbers_texts (drop i zs))
unfolding numbers_texts puts
numbers_more s t u zs i h e f = rw (drop-cons zs i (pos 0) h, add-one, f, e) refl

pub numbers-end : (s : Slate) (zs : List ℤ) (i : ℕ) → length zs ≤ i → puts s (numbers_texts (drop i zs)) ≡ s
unfolding numbers_texts puts
numbers-end s zs i h = rw (drop_of_length-le zs h) refl

-- a record further, and none left
pub texts_more : (s t : Slate) (k : Kind) (zs : List ℤ) (rs rest : List (Kind × List ℤ)) → rs ≡ (k, zs) ∷ rest → t ≡ puts s (line_texts k zs) → puts t (texts_of rest) ≡ puts s (texts_of rs)
unfolding texts_of
texts_more s t k zs rs rest e f = put-more s t (puts t (texts_of rest)) (line_texts k zs) (texts_of rest) f refl ∙ rw e refl

pub texts_none : (s : Slate) (rs : List (Kind × List ℤ)) → rs ≡ [] → puts s (texts_of rs) ≡ s
unfolding texts_of puts
texts_none s rs e = rw e refl
