-- Where the printing of an output stands.
use Rattle.std.specs.Prelude.{Bool, true, false, ℕ}
use Rattle.record_kinds.specs.Kinds.{number}
use Rattle.session_model.specs.Session as Model
use Rattle.session_stages.specs.World.{world}
use Rattle.session_stages.specs.Session.{meaning}
use Rattle.integers_wide.specs.Meaning.{size_of}
use Rattle.list_input.specs.Load.{Loaded, ready, refused, tooLong}
use Rattle.list_states.specs.declared.Output.{Output}
use Rattle.list_states.specs.declared.Output.TheVariants as O

-- one line alone; the solutions from a session on, after a number of them; the line at the end; nothing more
pub data State : Type 0 where
  long : State
  refusal : ℕ → ℕ → State
  list : Model.Session world → ℕ → State
  last : ℕ → State
  done : State

abbrev pub is_done : State → Bool
is_done long = false
is_done (refusal r p) = false
is_done (list m t) = false
is_done (last t) = false
is_done done = true

abbrev pub state_of : Output → State
state_of O.TooLong = long
state_of (O.Refusal f at) = refusal (number f) at
state_of (O.List s n) = list (meaning s) (size_of n)
state_of (O.Last n) = last (size_of n)
state_of O.Done = done

-- before the first piece
abbrev pub begin : Loaded → State
begin (ready m) = list m 0
begin (refused r p) = refusal r p
begin tooLong = long
