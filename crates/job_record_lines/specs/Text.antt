-- A text of such lines is what `job` makes those records of. Assumes nothing.
use Rattle.std.specs.Prelude.{◌≡◌, refl, Bool, true, false, not, List, [], ◌∷◌, ◌++◌, map, ℕ, ◌≤◌, eqb, ℤ, length}
use Rattle.std.proofs.Common.{sym, ap, ap₂, ◌∙◌, inl, inr, append_assoc, append-nil, arith, le-ltb}
use Rattle.record_kinds.specs.declared.Kind.{Kind}
use Rattle.record_kinds.specs.declared.Kind.TheVariants as K
use Rattle.record_forms.specs.Forms.{fields_of, takes_all, record_bytes}
use Rattle.text_scan.specs.Run.{is_byte}
use Rattle.text_input_lines.specs.Lines.{lines_with}
use Rattle.job_words.specs.Rows.{Row, said, row_of, rows_of, first_bad, bytes_of, job_of}
use Rattle.job_words.specs.Laws.{joined-singles}
use Rattle.job_record_lines.specs.Digits.{All, all_append}
use Rattle.record_text.specs.Lines.{numbers_text, name_of, selection_text, line_of, text_of}
use Rattle.job_record_lines.specs.Rows.{text-all, not_byte, Chosen, row_back}

-- records by their kinds and numbers: their bytes
unfoldable pub records_of : List (Kind × List ℤ) → List ℕ
records_of [] = []
records_of (r ∷ rs) = record_bytes r.0 r.1 ++ records_of rs

-- each is of a known kind with numbers that have room, and a selection is 0 or 1
unfoldable pub Proper : List (Kind × List ℤ) → Type 0
Proper [] = Unit {0}
Proper (r ∷ rs) = (Chosen r.0 r.1 × (takes_all (fields_of r.0) r.1 ≡ true)) × Proper rs

-- ---- a line feed ends a line that has none
not_feed : (b : ℕ) → is_byte 10 false b ≡ true → eqb b 10 ≡ false
not_feed b e = go (eqb b 10) e
  where
    go : (t : Bool) → not t ≡ true → t ≡ false
    go true f = sym f
    go false f = refl

line-feed : (w l t : List ℕ) → All (is_byte 10 false) l → lines_with w (l ++ (10 ∷ t)) ≡ (w ++ l) ∷ lines_with [] t
unfolding lines_with All
line-feed w [] t h = rw (append-nil w) refl
line-feed w (b ∷ l) t h = rw (not_feed b h.0) (line-feed (w ++ b ∷ []) l t h.1 ∙ ap (λ (x : List ℕ). x ∷ lines_with [] t) (append_assoc w (b ∷ []) l))

plain : (name : List ℕ) (zs : List ℤ) → All (is_byte 10 false) name → All (is_byte 10 false) (name ++ numbers_text zs)
plain name zs h = all_append (is_byte 10 false) name (numbers_text zs) h (text-all (is_byte 10 false) refl refl (not_byte 10 (omega arith)) zs)

line_plain : (k : Kind) (zs : List ℤ) → Chosen k zs → All (is_byte 10 false) (line_of k zs)
unfolding All selection_text
line_plain K.Scale zs c = plain (name_of K.Scale) zs (refl, (refl, (refl, (refl, (refl, tt)))))
line_plain K.Rectangle zs c = plain (name_of K.Rectangle) zs (refl, (refl, (refl, (refl, (refl, (refl, (refl, (refl, (refl, tt)))))))))
line_plain K.Ellipse zs c = plain (name_of K.Ellipse) zs (refl, (refl, (refl, (refl, (refl, (refl, (refl, tt)))))))
line_plain K.Operator zs c = plain (name_of K.Operator) zs (refl, (refl, (refl, (refl, (refl, (refl, (refl, (refl, tt))))))))
line_plain K.Slice zs c = plain (name_of K.Slice) zs (refl, (refl, (refl, (refl, (refl, tt)))))
line_plain K.Selection zs (inl e) = rw e (refl, (refl, (refl, (refl, (refl, (refl, (refl, (refl, (refl, (refl, (refl, (refl, (refl, tt)))))))))))))
line_plain K.Selection zs (inr e) = rw e (refl, (refl, (refl, (refl, (refl, (refl, (refl, (refl, (refl, (refl, (refl, (refl, (refl, tt)))))))))))))
line_plain K.Unknown zs c = absurd c

-- ---- the rows of the text
abbrev said_by : Kind × List ℤ → Row
said_by r = said r.0 r.1

rows_text : (rs : List (Kind × List ℤ)) → Proper rs → rows_of (text_of rs) ≡ map said_by rs
unfolding text_of Proper lines_with
rows_text [] h = refl
rows_text (r ∷ rs) h =
    ap (map row_of) (line-feed [] (line_of r.0 r.1) (text_of rs) (line_plain r.0 r.1 h.0.0)) ∙ ap₂ ◌∷◌ (row_back r.0 r.1 h.0.0 h.0.1) (rows_text rs h.1)

none-bad : (n : ℕ) (rs : List (Kind × List ℤ)) → first_bad n (map said_by rs) ≡ 0
unfolding first_bad
none-bad n [] = refl
none-bad n (r ∷ rs) = none-bad _ rs

bytes-text : (rs : List (Kind × List ℤ)) → bytes_of (map said_by rs) ≡ records_of rs
unfolding bytes_of records_of
bytes-text [] = refl
bytes-text (r ∷ rs) = ap (λ (l : List ℕ). record_bytes r.0 r.1 ++ l) (bytes-text rs)

-- `job` of the text that says records is the records
pub text-back : (rs : List (Kind × List ℤ)) → Proper rs → length (text_of rs) ≤ 458752 → length (records_of rs) ≤ 65536 → job_of (text_of rs) ≡ records_of rs
text-back rs h n m =
    let short : length (bytes_of (map said_by rs)) ≤ 65536 = rw (bytes-text rs) m in
    rw (le-ltb 458752 (length (text_of rs)) n, rows_text rs h, none-bad 1 rs, le-ltb 65536 (length (bytes_of (map said_by rs))) short) (joined-singles (bytes_of (map said_by rs)) ∙ bytes-text rs)
