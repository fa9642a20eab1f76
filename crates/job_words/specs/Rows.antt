-- A job in words: SPEC, "Jobs in words". Assumes nothing.
use Rattle.std.specs.Prelude.{Bool, true, false, cond, List, [], ◌∷◌, ◌++◌, map, ℕ, suc, eqb, ltb, ℤ, pos, ◌*ℤ◌, length, take}
use Rattle.record_kinds.specs.declared.Kind.{Kind}
use Rattle.record_kinds.specs.declared.Kind.TheVariants as K
use Rattle.record_forms.specs.Forms.{fields_of, takes_all, record_bytes}
use Rattle.text_scan.specs.Run.{end_of_run, is_byte, spaces_from, word_end}
use Rattle.text_words.specs.Names.{place_of}
use Rattle.text_words.specs.Bytes.{word_from, next_from}
use Rattle.text_words.specs.Numbers.{Listed, numbers, numbers_from}
use Rattle.text_words.specs.Numbers as W
use Rattle.text_input_lines.specs.Lines.{lines_of}
use Rattle.list_lines.specs.Lines.{too_long_line}
use Rattle.text_puts.specs.Texts.{number_texts}
use Rattle.text_puts.specs.Puts.{joined}
use Rattle.job_words.specs.declared.Row as D

-- what a line says: nothing, a record by its kind and its numbers, or that it is none of these
pub data Row : Type 0 where
  none : Row
  said : Kind → List ℤ → Row
  bad : Row

abbrev pub meaning : D.Row → Row
meaning r = cond r.blank none (cond r.good (said r.kind (take r.count r.numbers)) bad)

-- as many numbers as the kind has fields, each with room in its field
unfoldable pub fitted : Kind → List ℤ → Row
fitted k zs = cond (takes_all (fields_of k) zs) (said k zs) bad

abbrev pub numbered : Kind → Listed → Row
numbered k (numbers zs) = fitted k zs
numbered k W.bad = bad

-- `disk N`: the disk of radius 1, as an ellipse over N
abbrev pub disk_numbers : ℤ → List ℤ
disk_numbers n = n ∷ pos 0 ∷ pos 0 ∷ pos 1 ∷ pos 0 ∷ pos 1 ∷ (n *ℤ n) ∷ []

abbrev pub disk_of : List ℤ → Row
disk_of [] = bad
disk_of (n ∷ []) = fitted K.Ellipse (disk_numbers n)
disk_of (n ∷ m ∷ zs) = bad

abbrev pub disk : Listed → Row
disk (numbers zs) = disk_of zs
disk W.bad = bad

-- `selection new` and `selection all`, or its number
abbrev pub choices : List (List ℕ)
choices = (110 ∷ 101 ∷ 119 ∷ []) ∷ (97 ∷ 108 ∷ 108 ∷ []) ∷ []

unfoldable pub choice_of : ℕ → Listed → Row
choice_of p l = cond (eqb p 0) (fitted K.Selection (pos 0 ∷ [])) (cond (eqb p 1) (fitted K.Selection (pos 1 ∷ [])) (numbered K.Selection l))

-- the word at a place, which is the line's last
unfoldable pub last_place : List ℕ → ℕ → ℕ
last_place l at = cond (ltb (next_from l at) (length l)) 2 (place_of (word_from l at) choices)

unfoldable pub selection : List ℕ → ℕ → Row
selection l from = choice_of (last_place l (spaces_from l from)) (numbers_from l from)

-- the names
abbrev pub names : List (List ℕ)
names =
    -- scale
    (115 ∷ 99 ∷ 97 ∷ 108 ∷ 101 ∷ []) ∷
    -- rectangle
    (114 ∷ 101 ∷ 99 ∷ 116 ∷ 97 ∷ 110 ∷ 103 ∷ 108 ∷ 101 ∷ []) ∷
    -- ellipse
    (101 ∷ 108 ∷ 108 ∷ 105 ∷ 112 ∷ 115 ∷ 101 ∷ []) ∷
    -- operator
    (111 ∷ 112 ∷ 101 ∷ 114 ∷ 97 ∷ 116 ∷ 111 ∷ 114 ∷ []) ∷
    -- slice
    (115 ∷ 108 ∷ 105 ∷ 99 ∷ 101 ∷ []) ∷
    -- selection
    (115 ∷ 101 ∷ 108 ∷ 101 ∷ 99 ∷ 116 ∷ 105 ∷ 111 ∷ 110 ∷ []) ∷
    -- disk
    (100 ∷ 105 ∷ 115 ∷ 107 ∷ []) ∷
    []

-- by the place of its name, what stands behind it
unfoldable pub named : ℕ → List ℕ → ℕ → Row
named p l from =
    cond (eqb p 0) (numbered K.Scale (numbers_from l from))
    (cond (eqb p 1) (numbered K.Rectangle (numbers_from l from))
    (cond (eqb p 2) (numbered K.Ellipse (numbers_from l from))
    (cond (eqb p 3) (numbered K.Operator (numbers_from l from))
    (cond (eqb p 4) (numbered K.Slice (numbers_from l from))
    (cond (eqb p 5) (selection l from)
    (cond (eqb p 6) (disk (numbers_from l from)) bad))))))

-- a line without its comment: nothing where it has no word, else by its first word
unfoldable pub words_row : List ℕ → ℕ → Row
words_row l at = cond (ltb at (length l)) (named (place_of (word_from l at) names) l (word_end l at)) none

-- `#` begins a comment
unfoldable pub bare : List ℕ → List ℕ
bare l = take (end_of_run (is_byte 35 false) l 0) l

unfoldable pub row_of : List ℕ → Row
row_of l = words_row (bare l) (spaces_from (bare l) 0)

abbrev pub rows_of : List ℕ → List Row
rows_of text = map row_of (lines_of text)

-- ---- what is printed
abbrev pub is_bad : Row → Bool
is_bad none = false
is_bad (said k zs) = false
is_bad bad = true

-- the number of the first bad row, counted from n on; 0 where there is none
unfoldable pub first_bad : ℕ → List Row → ℕ
first_bad n [] = 0
first_bad n (r ∷ rs) = cond (is_bad r) n (first_bad (suc n) rs)

-- the records' bytes
abbrev pub row_bytes : Row → List ℕ
row_bytes none = []
row_bytes (said k zs) = record_bytes k zs
row_bytes bad = []

unfoldable pub bytes_of : List Row → List ℕ
bytes_of [] = []
bytes_of (r ∷ rs) = row_bytes r ++ bytes_of rs

-- each byte as a text
unfoldable pub singles : List ℕ → List (List ℕ)
singles [] = []
singles (b ∷ l) = (b ∷ []) ∷ singles l

-- the records, at most 65,536 bytes of them, which is what a reader of records takes
abbrev pub record_texts : List ℕ → List (List ℕ)
record_texts l = cond (ltb 65536 (length l)) (too_long_line ∷ []) (singles l)

-- or `bad line L` alone
abbrev pub row_texts : ℕ → List Row → List (List ℕ)
row_texts n rs = cond (eqb n 0) (record_texts (bytes_of rs)) (number_texts (98 ∷ 97 ∷ 100 ∷ 32 ∷ 108 ∷ 105 ∷ 110 ∷ 101 ∷ []) n)

-- at most 458,752 bytes are read: a record's line, as `show` prints it, has at most seven times as many bytes as the record
abbrev pub job_texts : List ℕ → List (List ℕ)
job_texts s = cond (ltb 458752 (length s)) (too_long_line ∷ []) (row_texts (first_bad 1 (rows_of s)) (rows_of s))

abbrev pub job_of : List ℕ → List ℕ
job_of s = joined (job_texts s)
