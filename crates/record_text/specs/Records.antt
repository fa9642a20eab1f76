-- The records that stand at the front of bytes: SPEC, "Records". Assumes nothing.
use Rattle.std.specs.Prelude.{◌≡◌, Bool, true, false, cond, List, [], ◌∷◌, leb, ℤ, length, get_or, drop}
use Rattle.std.proofs.Math.Path.{refl}
use Rattle.std.proofs.Common.{◌∙◌, add-one, length-drop, drop_of_length-le, drop-cons, leb-true}
use Prim.Native.Nat.{ℕ, zero, suc, ◌+◌, ◌-◌, ◌≤◌, ◌<◌}
use native.Mathlib.Omega.{arith}
use Rattle.std.proofs.Math.Seq.{drop-drop}
use Rattle.record_kinds.specs.declared.Kind.{Kind}
use Rattle.record_kinds.specs.Kinds.{kind_of, body_length, is_known}
use Rattle.record_forms.specs.Forms.{fields_of, numbers_at}
use Rattle.record_text.specs.Texts.{texts_of}

-- whether a record of a kind is whole with so many bytes behind the kind
abbrev pub is_whole : Kind → ℕ → Bool
is_whole k n = cond (is_known k) (leb (body_length k) n) false

-- the whole records at the front, by their kinds and numbers; as each takes a byte at least, there are no more than bytes
unfoldable pub records_in : ℕ → List ℕ → List (Kind × List ℤ)
records_in zero s = []
records_in (suc most) [] = []
records_in (suc most) (b ∷ s) =
    let k = kind_of b in
    cond (is_whole k (length s)) ((k, numbers_at (fields_of k) s 0) ∷ records_in most (drop (body_length k) s)) []

-- the texts that say them
abbrev pub shown_texts : List ℕ → List (List ℕ)
shown_texts s = texts_of (records_in (length s) s)

-- ---- a whole record
pub never : {P : Type 0} → false ≡ true → P
never e = absurd (let y : ◌≡◌ {A = ℕ} 0 1 = cc in omega arith)

pub whole_long : (k : Kind) (n : ℕ) → is_whole k n ≡ true → body_length k ≤ n
whole_long k n e = go (is_known k) e
  where
    go : (b : Bool) → cond b (leb (body_length k) n) false ≡ true → body_length k ≤ n
    go true e = leb-true (body_length k) n e
    go false e = never e

pub whole-known : (k : Kind) (n : ℕ) → is_whole k n ≡ true → is_known k ≡ true
whole-known k n e = go (is_known k) e
  where
    go : (b : Bool) → cond b (leb (body_length k) n) false ≡ true → b ≡ true
    go true e = refl
    go false e = never e

-- ---- the records from a place on
module _ (s : List ℕ) (at : ℕ) where
  pub records-end : (most : ℕ) → length s ≤ at → records_in most (drop at s) ≡ []
  unfolding records_in
  records-end zero h = refl
  records-end (suc most) h = rw (drop_of_length-le s h) refl

  module _ (some : at < length s) (k : Kind) (kind : k ≡ kind_of (get_or s at 0)) where
    left : length (drop (suc at) s) ≡ length s - (at + 1)
    left = rw (length-drop (suc at) s) (omega arith)

    on : (most : ℕ) → records_in (suc most) (drop at s) ≡ cond (is_whole k (length s - (at + 1))) ((k, numbers_at (fields_of k) (drop (at + 1) s) 0) ∷ records_in most (drop (at + 1 + body_length k) s)) []
    unfolding records_in
    on most =
        let e : suc at + body_length k ≡ at + 1 + body_length k = omega arith in
        rw (drop-cons s at 0 some, ← kind, left, drop-drop (body_length k) (suc at) s, e, add-one) refl

    pub records-stop : (most : ℕ) → is_whole k (length s - (at + 1)) ≡ false → records_in most (drop at s) ≡ []
    unfolding records_in
    records-stop zero w = refl
    records-stop (suc most) w = on most ∙ rw w refl

    pub records-more : (most : ℕ) → length s - at ≤ most → is_whole k (length s - (at + 1)) ≡ true
        → (less : ℕ) × (length s - (at + 1 + body_length k) ≤ less) × (records_in most (drop at s) ≡ (k, numbers_at (fields_of k) (drop (at + 1) s) 0) ∷ records_in less (drop (at + 1 + body_length k) s))
    records-more zero h w = absurd (omega arith)
    records-more (suc most) h w = (most, omega arith, on most ∙ rw w refl)
