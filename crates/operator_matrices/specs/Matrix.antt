-- An operator as a two-by-two matrix of numbers p + q/√2: SPEC, "Operators"; the Note, equation 37.
use Rattle.std.specs.Prelude.{◌≡◌, Bool, cond, ◌&&◌, List, [], ◌∷◌, ℕ, ◌^◌, leb, pos, nat_abs, ◌+ℤ◌, ◌-ℤ◌, ◌*ℤ◌, get_or}
use Rattle.integers.specs.Parity.{half}
use Rattle.operator.specs.declared.Operator.{Operator}
use Rattle.operator_matrices.specs.declared.Entry.{Entry}

-- rows of entries
abbrev pub Matrix : Type 0
Matrix = List (List Entry)

-- 0
abbrev pub none : Entry
none = record { p = pos 0; q = pos 0 }

-- the entry in row i and column j
abbrev pub at : Matrix → ℕ → ℕ → Entry
at m i j = get_or (get_or m i []) j none

-- rows (d + (c − a)/√2, d' + (c' − a')/√2) and (b + (c + a)/√2, b' + (c' + a')/√2): equation 37
unfoldable pub matrix_of : Operator → Matrix
matrix_of g =
    (record { p = g.d; q = g.c -ℤ g.a } ∷ record { p = g.di; q = g.ci -ℤ g.ai } ∷ [])
    ∷ (record { p = g.b; q = g.c +ℤ g.a } ∷ record { p = g.bi; q = g.ci +ℤ g.ai } ∷ [])
    ∷ []

-- x y + x' y', where (p + q/√2)(r + s/√2) = pr + qs/2 + (ps + qr)/√2: whole where q s + q' s' is even, as in a product of grid operators
abbrev pub pairs : Entry → Entry → Entry → Entry → Entry
pairs x y x' y' = record {
  p = x.p *ℤ y.p +ℤ x'.p *ℤ y'.p +ℤ half (x.q *ℤ y.q +ℤ x'.q *ℤ y'.q);
  q = x.p *ℤ y.q +ℤ x.q *ℤ y.p +ℤ (x'.p *ℤ y'.q +ℤ x'.q *ℤ y'.p);
}

-- row i of m by column j of n
abbrev pub cell : Matrix → Matrix → ℕ → ℕ → Entry
cell m n i j = pairs (at m i 0) (at n 0 j) (at m i 1) (at n 1 j)

unfoldable pub product_of : Matrix → Matrix → Matrix
product_of m n = (cell m n 0 0 ∷ cell m n 0 1 ∷ []) ∷ (cell m n 1 0 ∷ cell m n 1 1 ∷ []) ∷ []

-- x y − x' y', whole in the same way
abbrev pub crossed : Entry → Entry → Entry → Entry → Entry
crossed x y x' y' = record {
  p = x.p *ℤ y.p -ℤ x'.p *ℤ y'.p +ℤ half (x.q *ℤ y.q -ℤ x'.q *ℤ y'.q);
  q = x.p *ℤ y.q +ℤ x.q *ℤ y.p -ℤ (x'.p *ℤ y'.q +ℤ x'.q *ℤ y'.p);
}

unfoldable pub determinant_of : Matrix → Entry
determinant_of m = crossed (at m 0 0) (at m 1 1) (at m 0 1) (at m 1 0)

-- ---- any matrices: entries up to 2^30 in size, as those of every operator are, have products within 64 bits; a larger one has the product and the determinant 0, and a flag that says so
abbrev pub entry_within : Entry → Bool
entry_within e = leb (nat_abs e.p) (2 ^ 30) && leb (nat_abs e.q) (2 ^ 30)

unfoldable pub lies_within : Matrix → Bool
lies_within m = entry_within (at m 0 0) && entry_within (at m 0 1) && (entry_within (at m 1 0) && entry_within (at m 1 1))

unfoldable pub product_within : Matrix → Matrix → Matrix
product_within m n = cond (lies_within m && lies_within n) (product_of m n) ((none ∷ none ∷ []) ∷ (none ∷ none ∷ []) ∷ [])

unfoldable pub determinant_within : Matrix → Entry
determinant_within m = cond (lies_within m) (determinant_of m) none

pub ext : {x y : Entry} → x.p ≡ y.p → x.q ≡ y.q → x ≡ y
ext e f = λ i. record { p = e i; q = f i }
