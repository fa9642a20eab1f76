-- What the pattern program prints.
use Rattle.std.specs.Prelude.{◌≡◌, List, [], ◌∷◌, ◌++◌, Bool, cond, ℕ, ◌≤◌, length, take, ℤ}
use Rattle.std.proofs.Common.{ap}
use Rattle.ring.specs.declared.Point.{Point}
use Rattle.ring.specs.Point.Exponent.{exponent_of, pulse_count}
use Rattle.text.specs.Decimal.{signed_decimal}
use Rattle.list_lines.specs.Lines.{refusal_line, too_long_line}
use Rattle.session_model.specs.Session.{taken, handed, done, says, best, shortest, step}
use Rattle.session_model.specs.Session as Model
use Rattle.session_stages.specs.declared.Session.{Session}
use Rattle.session_stages.specs.declared.Answer.{Answer}
use Rattle.session_stages.specs.World.{world}
use Rattle.session_stages.specs.Session.{meaning, answer_of, Steps}
use Rattle.list_input.specs.declared.Input.{Input}
use Rattle.list_input.specs.Load.{Loaded, ready, refused, tooLong, loaded_of, load_of}
use Rattle.text_puts.specs.Puts.{Puts, joined, puts-joined}
use Rattle.text_puts.specs.Texts.{number_texts, shown}
use Rattle.gates.specs.Written.{bytes}
use Rattle.gate_words.specs.Words as W
use Rattle.gate_words.specs.Words.{word_u, word_tUT, is_second, named}

-- a word and four numbers
abbrev pub coordinate_texts : ℤ → List (List ℕ)
coordinate_texts z = (32 ∷ []) ∷ signed_decimal z ∷ []

abbrev pub point_texts : List ℕ → Point → List (List ℕ)
point_texts name v = (name ∷ []) ++ coordinate_texts v.a ++ coordinate_texts v.b ++ coordinate_texts v.c ++ coordinate_texts v.d ++ ((10 ∷ []) ∷ [])

-- `of U` or `of TUT`, and the word with fewer T
abbrev pub name_text : Bool → List ℕ
name_text second = cond second (111 ∷ 102 ∷ 32 ∷ 84 ∷ 85 ∷ 84 ∷ 10 ∷ []) (111 ∷ 102 ∷ 32 ∷ 85 ∷ 10 ∷ [])

abbrev pub word_texts : ℕ → Point → Point → List (List ℕ)
word_texts k u t =
    name_text (is_second (W.answer_of k u t 128 128))
    ∷ (119 ∷ 111 ∷ 114 ∷ 100 ∷ 32 ∷ []) ∷ shown (bytes (named (word_u k u t) (word_tUT k u t) (W.answer_of k u t 128 128))) ∷ (10 ∷ []) ∷ []

abbrev pub pattern_texts : ℕ → Point → Point → List (List ℕ)
pattern_texts k u t =
    number_texts (115 ∷ 99 ∷ 97 ∷ 108 ∷ 101 ∷ []) k ++ point_texts (117 ∷ []) u ++ point_texts (116 ∷ []) t ++ number_texts (109 ∷ []) (pulse_count (exponent_of k u)) ++ word_texts k u t

-- the answer to the call `shortest`: a pattern, or a refusal at the input's end, of n bytes; it answers nothing else
abbrev pub answer_texts : ℕ → Model.Answer world → List (List ℕ)
answer_texts n (best b) = pattern_texts b.scale b.u b.t
answer_texts n (Model.refused r) = refusal_line r n ∷ []
answer_texts n (taken m) = []
answer_texts n (handed m e l) = []
answer_texts n done = []
answer_texts n (says b) = []

abbrev pub shortest_texts : ℕ → Model.Session world → List (List ℕ)
shortest_texts n m = answer_texts n (step world shortest m).0

-- what is printed for an input of n bytes
abbrev pub texts_for : ℕ → Loaded → List (List ℕ)
texts_for n (ready m) = shortest_texts n m
texts_for n (refused r p) = refusal_line r p ∷ []
texts_for n tooLong = too_long_line ∷ []

pub shortest_texts_lem : (n : ℕ) (s : Session) (a : Answer) → Steps shortest [] s s a → answer_texts n (answer_of [] a) ≡ shortest_texts n (meaning s)
shortest_texts_lem n s a h = ap (λ (o : Model.Outcome world). answer_texts n o.0) h.met

pub loaded_texts : (n : ℕ) (i : Input) (l : Loaded) → loaded_of i ≡ l → texts_for n (loaded_of i) ≡ texts_for n l
loaded_texts n i l h = ap (texts_for n) h

-- all that is printed for an input, and that a slice of 363 bytes has room for it
abbrev pub output_of : List ℕ → List ℕ
output_of bytes = joined (texts_for (length bytes) (load_of bytes))

pub printed : (xs bytes out : List ℕ) (r : ℕ) → 363 ≤ length xs → Puts (xs, 0) (texts_for (length bytes) (load_of bytes)) (out, r) 363 → take r out ≡ output_of bytes
printed xs bytes out r h p = puts-joined xs (texts_for (length bytes) (load_of bytes)) out r 363 h p
