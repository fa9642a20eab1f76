-- SPEC, "Gate words": the words of U and of TUT†, each at the front of a lent slice, and the part that is handed back.
use Rattle.std.specs.Prelude.{◌≡◌, Bool, true, false, cond, ◌&&◌, List, [], ◌++◌, ℕ, leb, ltb, length, drop}
use Rattle.refusals.specs.Refusals.{beyond_range, not_unitary, no_room}
use Rattle.ring.specs.declared.Point.{Point}
use Rattle.entry_equation.specs.Equation.{completes}
use Rattle.record_ranges.specs.Ranges.{top_scale}
use Rattle.gate_theory.specs.Points.{turn}
use Rattle.gate_theory.specs.Table.{Letter}
use Rattle.gate_theory.specs.Word.{word, Ts}
use Rattle.gates.specs.Written.{Word, written, bytes, tally}
use Rattle.gate_words.specs.declared.Refusal.{Refusal}
use Rattle.gate_words.specs.declared.Refusal.TheVariants.{OutOfRange, NotUnitary, NoRoom}
use Rattle.gate_words.specs.declared.Answer.{Answer}
use Rattle.gate_words.specs.declared.Answer.TheVariants.{First, Second, Refused}
use Rattle.gate_words.specs.declared.Part.{Part}

-- the number of each refusal (SPEC, "Gate words"): 4 for k above the top, then 12 if the equation of "Other entry" fails, then 13 if a word is longer than its slice
abbrev pub number_of : Refusal → ℕ
number_of OutOfRange = beyond_range
number_of NotUnitary = not_unitary
number_of NoRoom = no_room

-- of an answer: 0 where there are words
abbrev pub number : Answer → ℕ
number (First n) = 0
number (Second n) = 0
number (Refused why) = number_of why

-- ---- the part: "a refusal hands back .. an empty part of U's slice"
abbrev pub is_second : Answer → Bool
is_second (First n) = false
is_second (Second n) = true
is_second (Refused why) = false

abbrev pub length_of : Answer → ℕ
length_of (First n) = n
length_of (Second n) = n
length_of (Refused why) = 0

abbrev pub is_spelled : Answer → Bool
is_spelled (First n) = true
is_spelled (Second n) = true
is_spelled (Refused why) = false

-- of two words, the one that an answer names; none with a refusal
abbrev pub named : List Letter → List Letter → Answer → List Letter
named v w (First n) = v
named v w (Second n) = w
named v w (Refused why) = []

-- ---- the two words: U has the rows (u, −t†) and (t, u†) over √2^k, and TUT† has ω t for t (`conjugated` of `gate_theory`)
module _ (k : ℕ) (u t : Point) where
  abbrev pub word_u : List Letter
  word_u = word k u t

  abbrev pub word_tUT : List Letter
  word_tUT = word k u (turn t)

  -- "whichever slice has fewer T, that of U if equal"
  abbrev pub is_fewer : Bool
  is_fewer = ltb (Ts word_tUT) (Ts word_u)

  abbrev pub handed : Answer
  handed = cond is_fewer (Second (length word_tUT)) (First (length word_u))

  -- "13 if and only if either word is longer than its slice", of m and n bytes
  abbrev pub fit : ℕ → ℕ → Bool
  fit m n = leb (length word_u) m && leb (length word_tUT) n

  -- the checks, in their order
  unfoldable pub answer_of : ℕ → ℕ → Answer
  answer_of m n = cond (leb k top_scale) (cond (completes k u t) (cond (fit m n) handed (Refused NoRoom)) (Refused NotUnitary)) (Refused OutOfRange)

-- the bytes of a word at the front of a slice, "whose bytes past the word keep their values"
abbrev pub laid : List ℕ → List ℕ → List ℕ
laid w s = w ++ drop (length w) s

-- ---- the slices s and v before, and after: "writes nothing" with a refusal
module _ (k : ℕ) (u t : Point) (s v : List ℕ) where
  abbrev pub answer : Answer
  answer = answer_of k u t (length s) (length v)

  abbrev pub first_after : List ℕ
  first_after = cond (is_spelled answer) (laid (bytes (word_u k u t)) s) s

  abbrev pub second_after : List ℕ
  second_after = cond (is_spelled answer) (laid (bytes (word_tUT k u t)) v) v

  -- what is handed back
  abbrev pub handed_back : List Letter
  handed_back = named (word_u k u t) (word_tUT k u t) answer

  pub record Spells (s' v' : List ℕ) (r : Answer) : Type 0 where
    pub answers : r ≡ answer
    pub first : s' ≡ first_after
    pub second : v' ≡ second_after

  pub record Hands (s' v' : List ℕ) (r : Part) : Type 0 where
    pub number : r.number ≡ number answer
    pub which : r.second ≡ is_second answer
    pub len : r.len ≡ length_of answer
    pub first : s' ≡ first_after
    pub second : v' ≡ second_after

-- of two words that are written: which has fewer T
abbrev pub answer_to : Bool → Word → Word → Answer
answer_to fits v w = cond fits (cond (ltb (tally (written w)) (tally (written v))) (Second w.len) (First v.len)) (Refused NoRoom)
