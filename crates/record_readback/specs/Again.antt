-- A whole record's bytes are those of its kind and its numbers: what is shown of a record, written again, is the record. Assumes nothing.
use Rattle.std.specs.Prelude.{◌≡◌, refl, Bool, true, false, cond, List, ◌∷◌, ◌++◌, ℕ, ◌+◌, ◌≤◌, eqb, length, drop}
use Rattle.std.proofs.Common.{sym, ap, arith, take-append-drop, eqb-true}
use Rattle.record_kinds.specs.declared.Kind.{Kind}
use Rattle.record_kinds.specs.declared.Kind.TheVariants as K
use Rattle.record_kinds.specs.Kinds.{kind_of, body_length, is_known}
use Rattle.record_forms.specs.Forms.{fields_of, kind_byte, takes_all, numbers_at, record_bytes}
use Rattle.record_forms.specs.Back.{Bytes, size_of, all-taken, numbers-again, sized, size-kind}

-- the byte of a known kind
kind_byte_lem : (b : ℕ) → is_known (kind_of b) ≡ true → kind_byte (kind_of b) ≡ b
unfolding kind_of
kind_byte_lem b = go (eqb b 1) (eqb b 2) (eqb b 3) (eqb b 4) (eqb b 5) (eqb b 6) (eqb-true b 1) (eqb-true b 2) (eqb-true b 3) (eqb-true b 4) (eqb-true b 5) (eqb-true b 6)
  where
    picked : Bool → Bool → Bool → Bool → Bool → Bool → Kind
    picked p q r s t u = cond p K.Scale (cond q K.Rectangle (cond r K.Ellipse (cond s K.Operator (cond t K.Slice (cond u K.Selection K.Unknown)))))

    go : (p q r s t u : Bool) → (p ≡ true → b ≡ 1) → (q ≡ true → b ≡ 2) → (r ≡ true → b ≡ 3) → (s ≡ true → b ≡ 4) → (t ≡ true → b ≡ 5) → (u ≡ true → b ≡ 6)
        → is_known (picked p q r s t u) ≡ true → kind_byte (picked p q r s t u) ≡ b
    go true q r s t u a c d e f g k = sym (a refl)
    go false true r s t u a c d e f g k = sym (c refl)
    go false false true s t u a c d e f g k = sym (d refl)
    go false false false true t u a c d e f g k = sym (e refl)
    go false false false false true u a c d e f g k = sym (f refl)
    go false false false false false true a c d e f g k = sym (g refl)
    go false false false false false false a c d e f g k = absurd (let y : ◌≡◌ {A = ℕ} 0 1 = cc in omega arith)

-- the numbers of a whole record have room, and its bytes are theirs
pub record_again : (b : ℕ) (s : List ℕ) → Bytes s → is_known (kind_of b) ≡ true → body_length (kind_of b) ≤ length s
    → (takes_all (fields_of (kind_of b)) (numbers_at (fields_of (kind_of b)) s 0) ≡ true) × (record_bytes (kind_of b) (numbers_at (fields_of (kind_of b)) s 0) ++ drop (body_length (kind_of b)) s ≡ b ∷ s)
unfolding record_bytes
record_again b s bytes known h =
    let k = kind_of b in
    let n = size-kind k in
    let room : 0 + size_of (fields_of k) ≤ length s = omega arith in (
      all-taken s bytes (fields_of k) 0 (sized k) room,
      rw (kind_byte_lem b known, numbers-again s bytes (fields_of k) 0 (sized k) room, n) (ap (λ (l : List ℕ). b ∷ l) (take-append-drop (body_length k) s)),
    )
