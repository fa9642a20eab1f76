-- The fields of each kind of record, and a record as its numbers: SPEC, "Records". Assumes nothing.
use Rattle.std.specs.Prelude.{◌≡◌, refl, Bool, true, false, cond, List, [], ◌∷◌, ◌++◌, ℕ, zero, suc, ◌+◌, ◌-◌, ◌*◌, ◌^◌, ltb, ℤ, pos, negsuc}
use Rattle.record_kinds.specs.declared.Kind.{Kind}
use Rattle.record_kinds.specs.declared.Kind.TheVariants as K
use Rattle.record_fields.specs.Field.{unsigned_at, signed_at}
use Rattle.record_fields.specs.Bytes.{little_endian, bits_of}
use Rattle.record_forms.specs.declared.Field.{Field}

-- an unsigned field of so many bytes, and a signed one
abbrev pub u : ℕ → Field
u n = record { signed = false; size = n }

abbrev pub i : ℕ → Field
i n = record { signed = true; size = n }

-- the fields of a body, in their order
unfoldable pub fields_of : Kind → List Field
fields_of K.Scale = u 1 ∷ []
fields_of K.Rectangle = u 2 ∷ i 4 ∷ i 4 ∷ i 4 ∷ i 4 ∷ []
fields_of K.Ellipse = u 2 ∷ i 4 ∷ i 4 ∷ u 2 ∷ i 2 ∷ u 2 ∷ u 4 ∷ []
fields_of K.Operator = i 2 ∷ i 2 ∷ i 2 ∷ i 2 ∷ i 2 ∷ i 2 ∷ i 2 ∷ i 2 ∷ []
fields_of K.Slice = u 2 ∷ i 2 ∷ i 2 ∷ i 4 ∷ []
fields_of K.Selection = u 1 ∷ []
fields_of K.Unknown = []

-- the byte of a kind
abbrev pub kind_byte : Kind → ℕ
kind_byte K.Scale = 1
kind_byte K.Rectangle = 2
kind_byte K.Ellipse = 3
kind_byte K.Operator = 4
kind_byte K.Slice = 5
kind_byte K.Selection = 6
kind_byte K.Unknown = 0

-- ---- from bytes to numbers
unfoldable pub number_at : Field → List ℕ → ℕ → ℤ
number_at f s k = cond f.signed (signed_at f.size s k) (pos (unsigned_at f.size s k))

unfoldable pub numbers_at : List Field → List ℕ → ℕ → List ℤ
numbers_at [] s k = []
numbers_at (f ∷ fs) s k = number_at f s k ∷ numbers_at fs s (k + f.size)

-- ---- from numbers to bytes
-- the numbers that a field has room for
unfoldable pub takes : Field → ℤ → Bool
takes f (pos n) = ltb n (cond f.signed (2 ^ (8 * f.size - 1)) (2 ^ (8 * f.size)))
takes f (negsuc n) = cond f.signed (ltb n (2 ^ (8 * f.size - 1))) false

-- as many numbers as there are fields, and each has room
unfoldable pub takes_all : List Field → List ℤ → Bool
takes_all [] [] = true
takes_all [] (z ∷ zs) = false
takes_all (f ∷ fs) [] = false
takes_all (f ∷ fs) (z ∷ zs) = cond (takes f z) (takes_all fs zs) false

abbrev pub field_bytes : Field → ℤ → List ℕ
field_bytes f z = little_endian f.size (bits_of (8 * f.size) z)

unfoldable pub body_bytes : List Field → List ℤ → List ℕ
body_bytes [] zs = []
body_bytes (f ∷ fs) [] = []
body_bytes (f ∷ fs) (z ∷ zs) = field_bytes f z ++ body_bytes fs zs

-- a record: its kind, and its fields
unfoldable pub record_bytes : Kind → List ℤ → List ℕ
record_bytes k zs = kind_byte k ∷ body_bytes (fields_of k) zs
