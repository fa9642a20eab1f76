-- What a whole input comes to: SPEC, "List program". All records are read before a point is printed.
use Rattle.std.specs.Prelude.{cond, List, [], ◌∷◌, ℕ, zero, suc, ◌+◌, ltb, length, drop}
use Rattle.refusals.specs.Refusals.{no_job}
use Rattle.record_kinds.specs.Kinds.{number}
use Rattle.session_model.specs.Session.{reading, taken, handed, done, says, best, early, walking, step}
use Rattle.session_model.specs.Session as Model
use Rattle.session_stages.specs.World.{world}
use Rattle.session_stages.specs.Session.{meaning, fresh}
use Rattle.list_input.specs.declared.Input.{Input}
use Rattle.list_input.specs.declared.Input.TheVariants as I

-- a session whose job is whole, a refusal's number and its place, or `too long`
pub data Loaded : Type 0 where
  ready : Model.Session world → Loaded
  refused : ℕ → ℕ → Loaded
  tooLong : Loaded

abbrev pub loaded_of : Input → Loaded
loaded_of (I.Job s) = ready (meaning s)
loaded_of (I.Refused f at) = refused (number f) at
loaded_of I.TooLong = tooLong

-- at the input's end: refused 9 where scale, A and B are not all there
abbrev pub finished : Model.Session world → ℕ → Loaded
finished (early p) at = refused no_job at
finished (walking j w o) at = ready (walking j w o)

-- a reading's outcome: refused at its place, or on with what follows the bytes taken; a reading answers nothing else
abbrev pub onward : (ℕ → Model.Session world → Loaded) → Model.Session world → ℕ → Model.Outcome world → Loaded
onward next m at (Model.refused r, t) = refused r at
onward next m at (taken n, t) = next n t
onward next m at (handed n e l, t) = finished m at
onward next m at (done, t) = finished m at
onward next m at (says b, t) = finished m at
onward next m at (best b, t) = finished m at

-- the records from a place on; as each takes a byte at least, there are no more than bytes
unfoldable pub records : ℕ → Model.Session world → ℕ → List ℕ → Loaded
records zero m at bytes = finished m at
records (suc most) m at [] = finished m at
records (suc most) m at (b ∷ bytes) = onward (λ n t. records most t (at + n) (drop n (b ∷ bytes))) m at (step world (reading (b ∷ bytes)) m)

-- at most 65,536 bytes; a longer input is too long
abbrev pub most : ℕ
most = 65536

unfoldable pub load_of : List ℕ → Loaded
load_of bytes = cond (ltb most (length bytes)) tooLong (records (length bytes) (meaning fresh) 0 bytes)
