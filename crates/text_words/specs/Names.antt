-- The command that the first word of a line names. It serves the lines of SPEC, "Console". Assumes nothing.
use Rattle.std.specs.Prelude.{ℕ, suc, ◌<◌, ◌≡◌, Bool, true, false, cond, List, [], ◌∷◌, eqb, length, take, drop}
use Rattle.std.proofs.Math.Path.{refl}
use Rattle.std.proofs.Common.{sym, ap, ap₂, arith, eqb-true, eq-eqb}
use Rattle.text_scan.specs.Run.{run, is_byte}

-- the same bytes
unfoldable pub is_name : List ℕ → List ℕ → Bool
is_name [] [] = true
is_name [] (b ∷ v) = false
is_name (a ∷ w) [] = false
is_name (a ∷ w) (b ∷ v) = cond (eqb a b) (is_name w v) false

-- the place of a word among words, from 0 on; their number where it is none of them
unfoldable pub place_of : List ℕ → List (List ℕ) → ℕ
place_of w [] = 0
place_of w (v ∷ vs) = cond (is_name w v) 0 (suc (place_of w vs))

-- the names of the commands
abbrev pub names : List (List ℕ)
names =
    -- read
    (114 ∷ 101 ∷ 97 ∷ 100 ∷ []) ∷
    -- hand
    (104 ∷ 97 ∷ 110 ∷ 100 ∷ []) ∷
    -- rewind
    (114 ∷ 101 ∷ 119 ∷ 105 ∷ 110 ∷ 100 ∷ []) ∷
    -- clear
    (99 ∷ 108 ∷ 101 ∷ 97 ∷ 114 ∷ []) ∷
    -- plain
    (112 ∷ 108 ∷ 97 ∷ 105 ∷ 110 ∷ []) ∷
    -- image
    (105 ∷ 109 ∷ 97 ∷ 103 ∷ 101 ∷ []) ∷
    -- shortest
    (115 ∷ 104 ∷ 111 ∷ 114 ∷ 116 ∷ 101 ∷ 115 ∷ 116 ∷ []) ∷
    -- propose
    (112 ∷ 114 ∷ 111 ∷ 112 ∷ 111 ∷ 115 ∷ 101 ∷ []) ∷
    -- tally
    (116 ∷ 97 ∷ 108 ∷ 108 ∷ 121 ∷ []) ∷
    -- tray
    (116 ∷ 114 ∷ 97 ∷ 121 ∷ []) ∷
    -- tray-hand
    (116 ∷ 114 ∷ 97 ∷ 121 ∷ 45 ∷ 104 ∷ 97 ∷ 110 ∷ 100 ∷ []) ∷
    -- tray-rewind
    (116 ∷ 114 ∷ 97 ∷ 121 ∷ 45 ∷ 114 ∷ 101 ∷ 119 ∷ 105 ∷ 110 ∷ 100 ∷ []) ∷
    -- tray-clear
    (116 ∷ 114 ∷ 97 ∷ 121 ∷ 45 ∷ 99 ∷ 108 ∷ 101 ∷ 97 ∷ 114 ∷ []) ∷
    -- word
    (119 ∷ 111 ∷ 114 ∷ 100 ∷ []) ∷
    -- cost
    (99 ∷ 111 ∷ 115 ∷ 116 ∷ []) ∷
    -- tray-cost
    (116 ∷ 114 ∷ 97 ∷ 121 ∷ 45 ∷ 99 ∷ 111 ∷ 115 ∷ 116 ∷ []) ∷
    -- qasm
    (113 ∷ 97 ∷ 115 ∷ 109 ∷ []) ∷
    -- unqasm
    (117 ∷ 110 ∷ 113 ∷ 97 ∷ 115 ∷ 109 ∷ []) ∷
    -- sheet
    (115 ∷ 104 ∷ 101 ∷ 101 ∷ 116 ∷ []) ∷
    -- put-sheet
    (112 ∷ 117 ∷ 116 ∷ 45 ∷ 115 ∷ 104 ∷ 101 ∷ 101 ∷ 116 ∷ []) ∷
    -- sign
    (115 ∷ 105 ∷ 103 ∷ 110 ∷ []) ∷
    -- line
    (108 ∷ 105 ∷ 110 ∷ 101 ∷ []) ∷
    -- entry
    (101 ∷ 110 ∷ 116 ∷ 114 ∷ 121 ∷ []) ∷
    -- exponent
    (101 ∷ 120 ∷ 112 ∷ 111 ∷ 110 ∷ 101 ∷ 110 ∷ 116 ∷ []) ∷
    -- real
    (114 ∷ 101 ∷ 97 ∷ 108 ∷ []) ∷
    -- imaginary
    (105 ∷ 109 ∷ 97 ∷ 103 ∷ 105 ∷ 110 ∷ 97 ∷ 114 ∷ 121 ∷ []) ∷
    -- divide
    (100 ∷ 105 ∷ 118 ∷ 105 ∷ 100 ∷ 101 ∷ []) ∷
    -- lambda
    (108 ∷ 97 ∷ 109 ∷ 98 ∷ 100 ∷ 97 ∷ []) ∷
    -- omega
    (111 ∷ 109 ∷ 101 ∷ 103 ∷ 97 ∷ []) ∷
    -- delta
    (100 ∷ 101 ∷ 108 ∷ 116 ∷ 97 ∷ []) ∷
    -- identity
    (105 ∷ 100 ∷ 101 ∷ 110 ∷ 116 ∷ 105 ∷ 116 ∷ 121 ∷ []) ∷
    -- operator
    (111 ∷ 112 ∷ 101 ∷ 114 ∷ 97 ∷ 116 ∷ 111 ∷ 114 ∷ []) ∷
    -- apply
    (97 ∷ 112 ∷ 112 ∷ 108 ∷ 121 ∷ []) ∷
    -- inverse
    (105 ∷ 110 ∷ 118 ∷ 101 ∷ 114 ∷ 115 ∷ 101 ∷ []) ∷
    -- matrix
    (109 ∷ 97 ∷ 116 ∷ 114 ∷ 105 ∷ 120 ∷ []) ∷
    -- product
    (112 ∷ 114 ∷ 111 ∷ 100 ∷ 117 ∷ 99 ∷ 116 ∷ []) ∷
    -- determinant
    (100 ∷ 101 ∷ 116 ∷ 101 ∷ 114 ∷ 109 ∷ 105 ∷ 110 ∷ 97 ∷ 110 ∷ 116 ∷ []) ∷
    []

abbrev joined : ℕ → List (List ℕ) → List (List ℕ)
joined b [] = (b ∷ []) ∷ []
joined b (w ∷ ws) = (b ∷ w) ∷ ws

-- the words of a text, parted by single spaces
unfoldable pub words_of : List ℕ → List (List ℕ)
words_of [] = []
words_of (b ∷ bs) = cond (eqb b 32) ([] ∷ words_of bs) (joined b (words_of bs))

name_self : (v : List ℕ) → is_name v v ≡ true
unfolding is_name
name_self [] = refl
name_self (b ∷ v) = rw (eq-eqb b b refl) (name_self v)

name_only : (w v : List ℕ) → is_name w v ≡ true → w ≡ v
unfolding is_name
name_only [] [] e = refl
name_only [] (b ∷ v) e = absurd (let y : ◌≡◌ {A = ℕ} 0 1 = cc in omega arith)
name_only (a ∷ w) [] e = absurd (let y : ◌≡◌ {A = ℕ} 0 1 = cc in omega arith)
name_only (a ∷ w) (b ∷ v) e = go (eqb a b) refl e (name_only w v)
  where
    go : (t : Bool) → eqb a b ≡ t → cond t (is_name w v) false ≡ true → (is_name w v ≡ true → w ≡ v) → (a ∷ w) ≡ (b ∷ v)
    go true f g rest = ap₂ ◌∷◌ (eqb-true a b f) (rest g)
    go false f g rest = absurd (let y : ◌≡◌ {A = ℕ} 0 1 = cc in omega arith)

-- an answer that is true exactly where the bytes are the same
pub name_told : (w v : List ℕ) (r : Bool) → (r ≡ true → w ≡ v) → (w ≡ v → r ≡ true) → r ≡ is_name w v
name_told w v true f g = rw (f refl) (sym (name_self v))
name_told w v false f g = go (is_name w v) refl
  where
    go : (t : Bool) → is_name w v ≡ t → false ≡ t
    go true e = g (name_only w v e)
    go false e = refl

-- the first word is the longest run of bytes that are no space, and the others begin after the space
abbrev pub front : List ℕ → List ℕ
front = run (is_byte 32 false)

pub words-first : (l : List ℕ) → 0 < length l → words_of l ≡ front l ∷ words_of (drop (suc (length (front l))) l)
unfolding words_of run
words-first [] h = absurd (omega arith)
words-first (b ∷ bs) h = go (eqb b 32) refl bs (words-first bs)
  where
    go : (t : Bool) → eqb b 32 ≡ t → (bs : List ℕ) → (0 < length bs → words_of bs ≡ front bs ∷ words_of (drop (suc (length (front bs))) bs))
        → words_of (b ∷ bs) ≡ front (b ∷ bs) ∷ words_of (drop (suc (length (front (b ∷ bs)))) (b ∷ bs))
    go true e bs r = rw e refl
    go false e [] r = rw e refl
    go false e (d ∷ ds) r = rw e (ap (joined b) (r (omega arith)))

pub front-take : (l : List ℕ) → front l ≡ take (length (front l)) l
unfolding run
front-take [] = refl
front-take (b ∷ bs) = go (eqb b 32) refl (front-take bs)
  where
    go : (t : Bool) → eqb b 32 ≡ t → front bs ≡ take (length (front bs)) bs → front (b ∷ bs) ≡ take (length (front (b ∷ bs))) (b ∷ bs)
    go true e r = rw e refl
    go false e r = rw e (ap (λ (w : List ℕ). b ∷ w) r)

module _ (w l : List ℕ) (some : 0 < length l) where
  pub place_here : is_name w (front l) ≡ true → place_of w (words_of l) ≡ 0
  unfolding place_of
  place_here e = rw (words-first l some, e) refl

  pub place-later : is_name w (front l) ≡ false → place_of w (words_of l) ≡ suc (place_of w (words_of (drop (suc (length (front l))) l)))
  unfolding place_of
  place-later e = rw (words-first l some, e) refl
