-- What `job` wrote is read: at the place of each record one reading answers what its line says. Assumes nothing.
use Rattle.std.specs.Prelude.{◌≡◌, refl, Bool, true, false, cond, List, [], ◌∷◌, ◌++◌, map, ℕ, ◌≤◌, eqb, ltb, ℤ, pos, length, drop}
use Rattle.std.proofs.Common.{sym, ap, ◌∙◌, append_assoc, arith, drop_at, le-ltb}
use Rattle.record_kinds.specs.declared.Kind.{Kind}
use Rattle.record_kinds.specs.declared.Kind.TheVariants as K
use Rattle.record_kinds.specs.declared.Turn.{Turn}
use Rattle.record_kinds.specs.declared.Refusal.TheVariants.{OutOfTurn}
use Rattle.record_kinds.specs.Kinds.{in_turn, is_known}
use Rattle.record.specs.declared.Reading.TheVariants.{Refused}
use Rattle.record.specs.Record.{reading_of}
use Rattle.record_forms.specs.Forms.{fields_of, takes_all, record_bytes}
use Rattle.text_scan.specs.Run.{spaces_from, word_end}
use Rattle.text_words.specs.Names.{place_of}
use Rattle.text_words.specs.Bytes.{word_from}
use Rattle.text_words.specs.Numbers.{Listed, numbers, numbers_from}
use Rattle.text_words.specs.Numbers as W
use Rattle.text_input_lines.specs.Lines.{lines_of}
use Rattle.job_words.specs.Rows.{Row, none, said, bad, fitted, numbered, disk_numbers, disk, choice_of, last_place, selection, names, named, words_row, bare, row_of, rows_of, first_bad, row_bytes, bytes_of, job_of}
use Rattle.job_words.specs.Laws.{joined-singles}
use Rattle.record_readback.specs.Read.{said_of, record_back}

-- a row says a record only of a known kind, with numbers that have room
Fits : Row → Type 0
Fits r = (k : Kind) (zs : List ℤ) → r ≡ said k zs → (is_known k ≡ true) × (takes_all (fields_of k) zs ≡ true)

none-fits : Fits none
unfolding Fits
none-fits k zs e = absurd (let y : ◌≡◌ {A = ℕ} 0 1 = cc in omega arith)

bad_fits : Fits bad
unfolding Fits
bad_fits k zs e = absurd (let y : ◌≡◌ {A = ℕ} 0 1 = cc in omega arith)

cond_fits : (b : Bool) (r q : Row) → Fits r → Fits q → Fits (cond b r q)
cond_fits true r q h i = h
cond_fits false r q h i = i

fitted-fits : (k : Kind) (zs : List ℤ) → is_known k ≡ true → Fits (fitted k zs)
unfolding Fits fitted
fitted-fits k zs known = go (takes_all (fields_of k) zs) refl
  where
    go : (b : Bool) → takes_all (fields_of k) zs ≡ b → (j : Kind) (ys : List ℤ) → cond b (said k zs) bad ≡ said j ys → (is_known j ≡ true) × (takes_all (fields_of j) ys ≡ true)
    go true e j ys f =
        let p : k ≡ j = cc in
        let q : zs ≡ ys = cc in
        rw (← p, ← q) (known, e)
    go false e j ys f = bad_fits j ys f

numbered-fits : (k : Kind) (l : Listed) → is_known k ≡ true → Fits (numbered k l)
numbered-fits k (numbers zs) known = fitted-fits k zs known
numbered-fits k W.bad known = bad_fits

disk-fits : (l : Listed) → Fits (disk l)
disk-fits (numbers []) = bad_fits
disk-fits (numbers (n ∷ [])) = fitted-fits K.Ellipse (disk_numbers n) refl
disk-fits (numbers (n ∷ m ∷ zs)) = bad_fits
disk-fits W.bad = bad_fits

selection-fits : (l : List ℕ) (from : ℕ) → Fits (selection l from)
unfolding selection choice_of
selection-fits l from =
    let p = last_place l (spaces_from l from) in
    cond_fits (eqb p 0) _ _ (fitted-fits K.Selection (pos 0 ∷ []) refl) (cond_fits (eqb p 1) _ _ (fitted-fits K.Selection (pos 1 ∷ []) refl) (numbered-fits K.Selection (numbers_from l from) refl))

named-fits : (p : ℕ) (l : List ℕ) (from : ℕ) → Fits (named p l from)
unfolding named
named-fits p l from =
    cond_fits (eqb p 0) _ _ (numbered-fits K.Scale (numbers_from l from) refl)
    (cond_fits (eqb p 1) _ _ (numbered-fits K.Rectangle (numbers_from l from) refl)
    (cond_fits (eqb p 2) _ _ (numbered-fits K.Ellipse (numbers_from l from) refl)
    (cond_fits (eqb p 3) _ _ (numbered-fits K.Operator (numbers_from l from) refl)
    (cond_fits (eqb p 4) _ _ (numbered-fits K.Slice (numbers_from l from) refl)
    (cond_fits (eqb p 5) _ _ (selection-fits l from)
    (cond_fits (eqb p 6) _ _ (disk-fits (numbers_from l from)) bad_fits))))))

row_fits : (l : List ℕ) → Fits (row_of l)
unfolding row_of words_row
row_fits l =
    let b = bare l in
    let at = spaces_from b 0 in
    cond_fits (ltb at (length b)) _ _ (named-fits (place_of (word_from b at) names) b (word_end b at)) none-fits

rows_fit : (ls : List (List ℕ)) (a b : List Row) (k : Kind) (zs : List ℤ) → map row_of ls ≡ a ++ said k zs ∷ b → (is_known k ≡ true) × (takes_all (fields_of k) zs ≡ true)
unfolding Fits
rows_fit [] [] b k zs e = absurd (let y : ◌≡◌ {A = ℕ} 0 1 = cc in omega arith)
rows_fit [] (x ∷ a) b k zs e = absurd (let y : ◌≡◌ {A = ℕ} 0 1 = cc in omega arith)
rows_fit (l ∷ ls) [] b k zs e = let f : row_of l ≡ said k zs = cc in row_fits l k zs f
rows_fit (l ∷ ls) (x ∷ a) b k zs e = let f : map row_of ls ≡ a ++ said k zs ∷ b = cc in rows_fit ls a b k zs f

bytes-append : (a b : List Row) → bytes_of (a ++ b) ≡ bytes_of a ++ bytes_of b
unfolding bytes_of
bytes-append [] b = refl
bytes-append (r ∷ a) b = rw (bytes-append a b) (sym (append_assoc (row_bytes r) (bytes_of a) (bytes_of b)))

-- without a bad line, and where the records are not too long, the record that a row says is what a reading at its place gives, whatever stands before and behind it, in every turn
pub rows_back : (s : List ℕ) (a b : List Row) (k : Kind) (zs : List ℤ) (t : Turn) → length s ≤ 458752 → length (bytes_of (rows_of s)) ≤ 65536 → first_bad 1 (rows_of s) ≡ 0 → rows_of s ≡ a ++ said k zs ∷ b
    → reading_of (drop (length (bytes_of a)) (job_of s)) t ≡ cond (in_turn k t) (said_of k zs) (Refused OutOfTurn)
unfolding bytes_of
rows_back s a b k zs t h m e f =
    let (known, takes) = rows_fit (lines_of s) a b k zs f in
    let o : job_of s ≡ bytes_of (rows_of s) = rw (le-ltb 458752 (length s) h, e, le-ltb 65536 (length (bytes_of (rows_of s))) m) (joined-singles (bytes_of (rows_of s))) in
    let p : job_of s ≡ bytes_of a ++ (record_bytes k zs ++ bytes_of b) = o ∙ ap bytes_of f ∙ bytes-append a (said k zs ∷ b) in
    rw (p, drop_at (bytes_of a) (record_bytes k zs ++ bytes_of b) (length (bytes_of a)) refl) (record_back k zs (bytes_of b) t known takes)
