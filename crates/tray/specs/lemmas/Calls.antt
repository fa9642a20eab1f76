-- The theorems of `tray_model` for trays: a list of calls begins at a session without a tray; each call's contract is one step.
use Rattle.std.specs.Prelude.{◌≡◌, true, List, [], ◌∷◌, ◌++◌, ℕ, ◌*◌, ◌<◌, min, ℤ, length, take}
use Rattle.std.proofs.Common.{ap, ◌∙◌}
use Rattle.ranks.specs.Rest.{Place}
use Rattle.ranks.specs.Members.{Rising}
use Rattle.ranks.specs.Handed.{flat}
use Rattle.walk_list.specs.Walk as One
use Rattle.tray_model.specs.Session.{Call, handOut, step, answers, after, early, walking}
use Rattle.tray_model.specs.Session as Model
use Rattle.tray_model.specs.Rules.{ruled, begin}
use Rattle.tray_model.proofs.lemmas.Agree.{whole-list}
use Rattle.tray_model.specs.Since.{since, points, spaces, full_of, numbers, remains_after}
use Rattle.tray_model.specs.lemmas.First.{Reports}
use Rattle.tray_model.proofs.lemmas.First.{handed-first, handed-count, handed-rising, end-reported}
use Rattle.tray_model.specs.lemmas.Refused.{NotMade}
use Rattle.tray_model.proofs.lemmas.Refused.{not_made}
use Rattle.tray_model.specs.End.{reported}
use Rattle.tray_model.proofs.End.{finished-all}
use Rattle.tray_list.specs.declared.Tray.{Tray}
use Rattle.tray_list.specs.Tray.{job_at, size, five_of, full}
use Rattle.tray_list.specs.Own.{four_of}
use Rattle.tray_list.proofs.Own.{own-numbers}
use Rattle.tray.specs.Session.{world}

abbrev Calls : Type 0
Calls = List (Call world)

-- the session that a list of calls leaves
abbrev pub left : Calls → Model.Session world
left cs = after world early cs

-- every answer is that of the rules, from the calls' arguments alone
pub session-rules : (cs : Calls) → answers world early cs ≡ ruled world (begin world) cs
session-rules = whole-list world

-- the beginning of the full list, in rising order, each once, as much as there was space for, or all if that is less
pub session-first : (cs : Calls) → points world (since world cs) ≡ numbers world (left cs) (take (spaces world (since world cs)) (full_of world (left cs)))
session-first = handed-first world

pub session-rising : (cs : Calls) → Rising 0 (take (spaces world (since world cs)) (full_of world (left cs)))
session-rising = handed-rising world

pub session-count : (cs : Calls) → length (points world (since world cs)) ≡ 5 * min (spaces world (since world cs)) (length (full_of world (left cs)))
session-count = handed-count world

-- a hand-out that is not refused reports the end exactly when none is left after it
pub session-end : (cs : Calls) (l : List ℤ) → Reports world (step world (handOut l) (left cs)).0 (remains_after world (cs ++ (handOut l ∷ [])))
session-end = end-reported world

-- with the refused calls struck out, the others get the same answers and leave the same session
pub session-refused : (cs : Calls) → NotMade world early cs
session-refused cs = not_made world cs early

-- a finished walk has handed out the tray's full list, five numbers a point; its points with region j's bit are those of that region's own walk, four numbers a point
pub record Finished (cs : Calls) : Type 0 where
  pub tray : Tray
  pub place : Place
  pub stands : left cs ≡ walking tray place
  pub all : points world (since world cs) ≡ flat (five_of tray) (full tray)
  pub own : (j : ℕ) → j < size tray → four_of j (points world (since world cs)) ≡ flat One.numbers_in (One.full (job_at tray j))

pub session-finished : (cs : Calls) → reported world (since world cs) ≡ true → Finished cs
unfolding full
session-finished cs e =
    let c = finished-all world cs e in
    record { tray = c.tray; place = c.place; stands = c.stands; all = c.all; own = λ j h. ap (four_of j) c.all ∙ own-numbers c.tray j h }
