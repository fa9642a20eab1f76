-- Kinds of records, turns and refusals: SPEC, "Records" and "Refusals".
use Rattle.std.specs.Prelude.{◌≡◌, refl, Bool, true, false, cond, ℕ, eqb, Result, Ok, Err}
use Rattle.std.proofs.Common.{arith, ne_eqb}
use Rattle.refusals.specs.Refusals.{no_kind, unknown_kind, short, beyond_range, not_positive, odd_parity, not_special, out_of_turn, no_job, after_end, no_direction, no_pattern}
use Rattle.record_kinds.specs.declared.Kind.{Kind}
use Rattle.record_kinds.specs.declared.Kind.TheVariants as K
use Rattle.record_kinds.specs.declared.Turn.{Turn}
use Rattle.record_kinds.specs.declared.Turn.TheVariants as T
use Rattle.record_kinds.specs.declared.Refusal.{Refusal}
use Rattle.record_kinds.specs.declared.Refusal.TheVariants.{NoKind, UnknownKind, Short, OutOfRange, NotPositive, OddParity, NotSpecial, OutOfTurn, NoJob, Ended, NoDirection, NoPattern}

-- the number of each refusal (SPEC, "Refusals")
abbrev pub number : Refusal → ℕ
number NoKind = no_kind
number UnknownKind = unknown_kind
number Short = short
number OutOfRange = beyond_range
number NotPositive = not_positive
number OddParity = odd_parity
number NotSpecial = not_special
number OutOfTurn = out_of_turn
number NoJob = no_job
number Ended = after_end
number NoDirection = no_direction
number NoPattern = no_pattern

-- ---- kinds, with the length of the body
unfoldable pub kind_of : ℕ → Kind
kind_of b = cond (eqb b 1) K.Scale (cond (eqb b 2) K.Rectangle (cond (eqb b 3) K.Ellipse (cond (eqb b 4) K.Operator (cond (eqb b 5) K.Slice (cond (eqb b 6) K.Selection K.Unknown)))))

pub kind_1 : (b : ℕ) → b ≡ 1 → kind_of b ≡ K.Scale
unfolding kind_of
kind_1 b e = rw e refl

pub kind_2 : (b : ℕ) → b ≡ 2 → kind_of b ≡ K.Rectangle
unfolding kind_of
kind_2 b e = rw e refl

pub kind_3 : (b : ℕ) → b ≡ 3 → kind_of b ≡ K.Ellipse
unfolding kind_of
kind_3 b e = rw e refl

pub kind_4 : (b : ℕ) → b ≡ 4 → kind_of b ≡ K.Operator
unfolding kind_of
kind_4 b e = rw e refl

pub kind_5 : (b : ℕ) → b ≡ 5 → kind_of b ≡ K.Slice
unfolding kind_of
kind_5 b e = rw e refl

pub kind_6 : (b : ℕ) → b ≡ 6 → kind_of b ≡ K.Selection
unfolding kind_of
kind_6 b e = rw e refl

pub kind_unknown : (b : ℕ) → (b ≡ 1 → ⊥) → (b ≡ 2 → ⊥) → (b ≡ 3 → ⊥) → (b ≡ 4 → ⊥) → (b ≡ 5 → ⊥) → (b ≡ 6 → ⊥) → kind_of b ≡ K.Unknown
unfolding kind_of
kind_unknown b e f g h i l = rw (ne_eqb b 1 e, ne_eqb b 2 f, ne_eqb b 3 g, ne_eqb b 4 h, ne_eqb b 5 i, ne_eqb b 6 l) refl

abbrev pub body_length : Kind → ℕ
body_length K.Scale = 1
body_length K.Rectangle = 18
body_length K.Ellipse = 20
body_length K.Slice = 10
body_length K.Operator = 16
body_length K.Selection = 1
body_length K.Unknown = 0

-- the turn is: scale, at most one selection, region A, region B, then any number of operators
abbrev pub is_scale : Turn → Bool
is_scale T.Scale = true
is_scale T.Selection = false
is_scale T.First = false
is_scale T.Second = false
is_scale T.Operators = false

abbrev pub is_selection : Turn → Bool
is_selection T.Scale = false
is_selection T.Selection = true
is_selection T.First = false
is_selection T.Second = false
is_selection T.Operators = false

abbrev pub is_region : Turn → Bool
is_region T.Scale = false
is_region T.Selection = true
is_region T.First = true
is_region T.Second = true
is_region T.Operators = false

abbrev pub is_operators : Turn → Bool
is_operators T.Scale = false
is_operators T.Selection = false
is_operators T.First = false
is_operators T.Second = false
is_operators T.Operators = true

abbrev pub in_turn : Kind → Turn → Bool
in_turn K.Scale t = is_scale t
in_turn K.Rectangle t = is_region t
in_turn K.Ellipse t = is_region t
in_turn K.Slice t = is_region t
in_turn K.Operator t = is_operators t
in_turn K.Selection t = is_selection t
in_turn K.Unknown t = false

-- ---- the order of refusals: 1, 2, 8, 3, then those of the body, 4, 5, 11, 6, 7
abbrev pub is_known : Kind → Bool
is_known K.Scale = true
is_known K.Rectangle = true
is_known K.Ellipse = true
is_known K.Slice = true
is_known K.Operator = true
is_known K.Selection = true
is_known K.Unknown = false

unfoldable pub admission_of : (known fits short : Bool) → Result Unit Refusal
admission_of false fits short = Err UnknownKind
admission_of true false short = Err OutOfTurn
admission_of true true true = Err Short
admission_of true true false = (Ok tt)

-- a whole admission is one of a body that is not short
pub whole_long : (known fits short : Bool) → admission_of known fits short ≡ (Ok tt) → short ≡ false
unfolding admission_of
whole_long false fits short e = absurd (let z : ◌≡◌ {A = ℕ} 0 1 = cc in omega arith)
whole_long true false short e = absurd (let z : ◌≡◌ {A = ℕ} 0 1 = cc in omega arith)
whole_long true true true e = absurd (let z : ◌≡◌ {A = ℕ} 0 1 = cc in omega arith)
whole_long true true false e = refl
