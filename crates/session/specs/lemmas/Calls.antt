-- Demand 3 (SPEC, "Demands") for our sessions: the theorems of `session_model` in their world. A list of calls begins at the fresh session; each call's contract is one step.
use Rattle.std.specs.Prelude.{◌≡◌, List, [], ◌∷◌, ◌++◌, map, ◌*◌, min, ℤ, length, take}
use Rattle.ranks.specs.Members.{Rising}
use Rattle.ranks.specs.Handed.{flat}
use Rattle.walk_list.specs.Walk.{numbers_in}
use Rattle.session_model.specs.Session.{Call, handOut, step, answers, after}
use Rattle.session_model.specs.Session as Model
use Rattle.session_model.specs.Rules.{verdict, verdicts, begin}
use Rattle.session_model.proofs.lemmas.Agree.{whole-list}
use Rattle.session_model.specs.Since.{exchanges, since, points, spaces, full_of, remains_after}
use Rattle.session_model.specs.lemmas.First.{Reports}
use Rattle.session_model.proofs.lemmas.First.{handed-first, handed-count, handed-rising, end-reported}
use Rattle.session_model.specs.lemmas.Refused.{NotMade}
use Rattle.session_model.proofs.lemmas.Refused.{not_made}
use Rattle.session_model.specs.Operators.{struck, is_hand_out, is_independent, picked}
use Rattle.session_model.proofs.Operators.{alike_hand_outs, alike_others}
use Rattle.session_model.specs.Remembered.{operator_of, last_accepted}
use Rattle.session_model.proofs.Remembered.{last_remembered}
use Rattle.operator.specs.Operator.{identity}
use Rattle.session_stages.specs.World.{world}
use Rattle.session_stages.specs.Session.{meaning, fresh}

abbrev Calls : Type 0
Calls = List (Call world)

-- the session that a list of calls from a fresh one leaves
abbrev pub left : Calls → Model.Session world
left cs = after world (meaning fresh) cs

-- refusals, and each hand-out's count, end and points, are those of the rules
pub session-rules : (cs : Calls) → map (verdict world) (answers world (meaning fresh) cs) ≡ verdicts world (begin world) cs
session-rules = whole-list world

-- the beginning of the full list, in rising order, each once, as much as there was space for, or all if that is less
pub session-first : (cs : Calls) → points world (since world cs) ≡ flat numbers_in (take (spaces world (since world cs)) (full_of world (left cs)))
session-first = handed-first world

pub session-rising : (cs : Calls) → Rising 0 (take (spaces world (since world cs)) (full_of world (left cs)))
session-rising = handed-rising world

pub session-count : (cs : Calls) → length (points world (since world cs)) ≡ 4 * min (spaces world (since world cs)) (length (full_of world (left cs)))
session-count = handed-count world

-- a hand-out that is not refused reports the end exactly when none is left after it
pub session-end : (cs : Calls) (l : List ℤ) → Reports world (step world (handOut l) (left cs)).0 (remains_after world (cs ++ (handOut l ∷ [])))
session-end = end-reported world

-- with the refused calls struck out, the others get the same answers and leave the same session
pub session-refused : (cs : Calls) → NotMade world (meaning fresh) cs
session-refused cs = not_made world cs (meaning fresh)

-- operator readings struck out: the same hand-outs, and the same of all calls but the image question
pub session-operators : (cs ds : Calls) → struck world cs ≡ struck world ds → picked world (is_hand_out world) (meaning fresh) cs ≡ picked world (is_hand_out world) (meaning fresh) ds
session-operators = alike_hand_outs world

pub session-others : (cs ds : Calls) → struck world cs ≡ struck world ds → picked world (is_independent world) (meaning fresh) cs ≡ picked world (is_independent world) (meaning fresh) ds
session-others = alike_others world

-- what a session remembers: the last operator that was accepted, the identity if none
pub session-remembers : (cs : Calls) → operator_of world (left cs) ≡ last_accepted world identity (exchanges world (meaning fresh) cs)
session-remembers = last_remembered world
