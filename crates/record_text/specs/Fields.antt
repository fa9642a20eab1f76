-- Fields that can be read, and a body of them one after another.
use Rattle.std.specs.Prelude.{◌≡◌, refl, true, false, ℕ, zero, suc, ◌+◌, ◌≤◌, ◌<◌, ℤ, length, get_or, drop, set}
use Rattle.std.proofs.Common.{sym, ◌∙◌, arith, drop_of_length-le, drop-cons, take-suc-set}
use Rattle.std.proofs.Math.Path.{ap}
use Rattle.std.proofs.lemmas.Bool.{false≢true}
use mathlib.Core.List.{List, [], ◌∷◌, ◌++◌, append_assoc, append-nil}
use Rattle.std.proofs.Math.ListN.{take}
use Rattle.record_kinds.specs.declared.Kind.{Kind}
use Rattle.record_kinds.specs.declared.Kind.TheVariants as K
use Rattle.record_kinds.specs.Kinds.{body_length}
use Rattle.record_forms.specs.declared.Field.{Field}
use Rattle.record_forms.specs.Forms.{u, i, fields_of, number_at, numbers_at}

-- one, two or four bytes, and at least two where it is signed
pub record Reads (f : Field) : Type 0 where
  pub some : 1 ≤ f.size
  pub most : f.size ≤ 4
  pub three : f.size ≡ 3 → ⊥
  pub wide : f.signed ≡ true → 2 ≤ f.size

abbrev pub AllRead : List Field → Type 0
AllRead [] = Unit {0}
AllRead (f ∷ fs) = Reads f × AllRead fs

abbrev pub sizes : List Field → ℕ
sizes [] = 0
sizes (f ∷ fs) = f.size + sizes fs

reads_u : (n : ℕ) → 1 ≤ n → n ≤ 4 → (n ≡ 3 → ⊥) → Reads (u n)
reads_u n a b c = record { some = a; most = b; three = c; wide = λ e. absurd (false≢true e) }

reads_i : (n : ℕ) → 2 ≤ n → n ≤ 4 → (n ≡ 3 → ⊥) → Reads (i n)
reads_i n a b c = record { some = omega arith; most = b; three = c; wide = λ e. a }

u1 : Reads (u 1)
u1 = reads_u 1 (omega arith) (omega arith) (λ e. omega arith)

u2 : Reads (u 2)
u2 = reads_u 2 (omega arith) (omega arith) (λ e. omega arith)

u4 : Reads (u 4)
u4 = reads_u 4 (omega arith) (omega arith) (λ e. omega arith)

i2 : Reads (i 2)
i2 = reads_i 2 (omega arith) (omega arith) (λ e. omega arith)

i4 : Reads (i 4)
i4 = reads_i 4 (omega arith) (omega arith) (λ e. omega arith)

pub kind_reads : (k : Kind) → AllRead (fields_of k)
unfolding fields_of
kind_reads K.Scale = (u1, tt)
kind_reads K.Rectangle = (u2, (i4, (i4, (i4, (i4, tt)))))
kind_reads K.Ellipse = (u2, (i4, (i4, (u2, (i2, (u2, (u4, tt)))))))
kind_reads K.Operator = (i2, (i2, (i2, (i2, (i2, (i2, (i2, (i2, tt))))))))
kind_reads K.Slice = (u2, (i2, (i2, (i4, tt))))
kind_reads K.Selection = (u1, tt)
kind_reads K.Unknown = tt

pub kind_sizes : (k : Kind) → sizes (fields_of k) ≡ body_length k
unfolding fields_of
kind_sizes K.Scale = refl
kind_sizes K.Rectangle = refl
kind_sizes K.Ellipse = refl
kind_sizes K.Operator = refl
kind_sizes K.Slice = refl
kind_sizes K.Selection = refl
kind_sizes K.Unknown = refl

pub reads_at : (fs : List Field) (n : ℕ) (d : Field) → AllRead fs → n < length fs → Reads (get_or fs n d)
reads_at [] n d a h = absurd (omega arith)
reads_at (f ∷ fs) zero d a h = a.0
reads_at (f ∷ fs) (suc n) d a h = reads_at fs n d a.1 (omega arith)

-- ---- a field by its size
pub four : (f : Field) → Reads f → 2 ≤ f.size → (f.size ≡ 2 → ⊥) → f.size ≡ 4
four f r a n = let m = r.most in let t = r.three in omega arith

pub two : (f : Field) → Reads f → (f.size ≡ 1 → ⊥) → 2 ≤ f.size
two f r n = let a = r.some in omega arith

pub signed_is : (f : Field) (s : List ℕ) (k n : ℕ) → f.signed ≡ true → f.size ≡ n → number_at (i n) s k ≡ number_at f s k
unfolding number_at
signed_is f s k n e h = rw (e, h) refl

pub unsigned_is : (f : Field) (s : List ℕ) (k n : ℕ) → f.signed ≡ false → f.size ≡ n → number_at (u n) s k ≡ number_at f s k
unfolding number_at
unsigned_is f s k n e h = rw (e, h) refl

-- ---- one field more
suc_is : (n : ℕ) → n + 1 ≡ suc n
suc_is n = omega arith

module _ (fs : List Field) (n : ℕ) (d : Field) (h : n < length fs) where
  ahead : drop n fs ≡ get_or fs n d ∷ drop (n + 1) fs
  ahead = rw (suc_is n) (drop-cons fs n d h)

  pub sizes-next : sizes (drop n fs) ≡ (get_or fs n d).size + sizes (drop (n + 1) fs)
  sizes-next = ap sizes ahead

  pub numbers-next : (s : List ℕ) (at : ℕ) (l : List ℤ) (whole : List ℤ) → n < length l → take n l ++ numbers_at (drop n fs) s at ≡ whole
      → take (n + 1) (set l n (number_at (get_or fs n d) s at)) ++ numbers_at (drop (n + 1) fs) s (at + (get_or fs n d).size) ≡ whole
  unfolding numbers_at
  numbers-next s at l whole k e =
      let v = number_at (get_or fs n d) s at in
      let put : take (n + 1) (set l n v) ≡ take n l ++ (v ∷ []) = rw (suc_is n) (take-suc-set l n v k) in
      ap (λ (t : List ℤ). t ++ numbers_at (drop (n + 1) fs) s (at + (get_or fs n d).size)) put
      ∙ append_assoc (take n l) (v ∷ []) _
      ∙ ap (λ (t : List ℤ). take n l ++ t) (sym (ap (λ (t : List Field). numbers_at t s at) ahead))
      ∙ e

pub numbers-done : (fs : List Field) (n : ℕ) (s : List ℕ) (at : ℕ) (l : List ℤ) (whole : List ℤ) → length fs ≤ n → take n l ++ numbers_at (drop n fs) s at ≡ whole → take n l ≡ whole
unfolding numbers_at
numbers-done fs n s at l whole h e = sym (append-nil (take n l)) ∙ ap (λ (t : List Field). take n l ++ numbers_at t s at) (sym (drop_of_length-le fs h)) ∙ e
