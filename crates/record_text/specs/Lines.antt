-- The line of words that says a record, by its kind and its numbers: SPEC, "Jobs in words". Assumes nothing.
use Rattle.std.specs.Prelude.{List, [], ◌∷◌, ◌++◌, Bool, false, cond, ℕ, eqb, ℤ, pos, negsuc}
use Rattle.record_kinds.specs.declared.Kind.{Kind}
use Rattle.record_kinds.specs.declared.Kind.TheVariants as K
use Rattle.text.specs.Decimal.{signed_decimal}

-- a space and a number, for each number
unfoldable pub numbers_text : List ℤ → List ℕ
numbers_text [] = []
numbers_text (z ∷ zs) = 32 ∷ (signed_decimal z ++ numbers_text zs)

abbrev pub name_of : Kind → List ℕ
name_of K.Scale = 115 ∷ 99 ∷ 97 ∷ 108 ∷ 101 ∷ []
name_of K.Rectangle = 114 ∷ 101 ∷ 99 ∷ 116 ∷ 97 ∷ 110 ∷ 103 ∷ 108 ∷ 101 ∷ []
name_of K.Ellipse = 101 ∷ 108 ∷ 108 ∷ 105 ∷ 112 ∷ 115 ∷ 101 ∷ []
name_of K.Operator = 111 ∷ 112 ∷ 101 ∷ 114 ∷ 97 ∷ 116 ∷ 111 ∷ 114 ∷ []
name_of K.Slice = 115 ∷ 108 ∷ 105 ∷ 99 ∷ 101 ∷ []
name_of K.Selection = 115 ∷ 101 ∷ 108 ∷ 101 ∷ 99 ∷ 116 ∷ 105 ∷ 111 ∷ 110 ∷ []
name_of K.Unknown = []

-- the one number n
abbrev pub equals_one : ℕ → List ℤ → Bool
equals_one n [] = false
equals_one n (pos m ∷ []) = eqb m n
equals_one n (negsuc m ∷ []) = false
equals_one n (z ∷ y ∷ zs) = false

-- a selection by its word, every other record by its numbers
unfoldable pub selection_text : List ℤ → List ℕ
selection_text zs = cond (equals_one 0 zs) (32 ∷ 110 ∷ 101 ∷ 119 ∷ []) (cond (equals_one 1 zs) (32 ∷ 97 ∷ 108 ∷ 108 ∷ []) (numbers_text zs))

abbrev pub rest_text : Kind → List ℤ → List ℕ
rest_text K.Scale zs = numbers_text zs
rest_text K.Rectangle zs = numbers_text zs
rest_text K.Ellipse zs = numbers_text zs
rest_text K.Operator zs = numbers_text zs
rest_text K.Slice zs = numbers_text zs
rest_text K.Selection zs = selection_text zs
rest_text K.Unknown zs = []

abbrev pub line_of : Kind → List ℤ → List ℕ
line_of k zs = name_of k ++ rest_text k zs

-- records by their kinds and numbers: the text that says them, a line each
unfoldable pub text_of : List (Kind × List ℤ) → List ℕ
text_of [] = []
text_of (r ∷ rs) = line_of r.0 r.1 ++ (10 ∷ text_of rs)
