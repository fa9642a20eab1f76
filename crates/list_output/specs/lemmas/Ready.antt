-- An input whose job is whole leaves its session before the first point: no reading moves it.
use Rattle.std.specs.Prelude.{◌≡◌, refl, Bool, true, false, cond, List, [], ◌∷◌, ℕ, zero, suc, ◌+◌, ltb, length, drop}
use Rattle.record.specs.Record.{reading_of}
use Rattle.record_kinds.specs.declared.Turn.TheVariants as T
use Rattle.region.specs.declared.Job.{Job}
use Rattle.operator.specs.declared.Operator.{Operator}
use Rattle.ranks.specs.Rest.{Place, at}
use Rattle.session_model.specs.Session.{Reading, refuse, accept, Stage, part, whole, early, walking, joined, remembered, reading, step}
use Rattle.session_model.specs.Session as Model
use Rattle.session_stages.specs.declared.Parts.{Parts}
use Rattle.session_stages.specs.World.{world, turn_at, part_reading, operator_reading}
use Rattle.session_stages.specs.Session.{meaning, fresh}
use Rattle.list_input.specs.Load.{Loaded, ready, refused, tooLong, finished, onward, records, most, load_of}

abbrev pub AtStart : Model.Session world → Type 0
AtStart (early p) = Unit {0}
AtStart (walking j w o) = w ≡ at 0

abbrev pub Begun : Loaded → Type 0
Begun (ready m) = AtStart m
Begun (refused r p) = Unit {0}
Begun tooLong = Unit {0}

ends : (m : Model.Session world) (i : ℕ) → AtStart m → Begun (finished m i)
ends (early p) i h = tt
ends (walking j w o) i h = h

module _ (next : ℕ → Model.Session world → Loaded) (on : (n : ℕ) (t : Model.Session world) → AtStart t → Begun (next n t)) (i : ℕ) where
  joins : (p : Parts) (r : Reading (Stage Parts Job)) → Begun (onward next (early p) i (joined world p r))
  joins p (refuse r) = tt
  joins p (accept n (part q)) = on n (early q) tt
  joins p (accept n (whole j)) = on n _ refl

  notes : (j : Job) (w : Place) (o : Operator) → w ≡ at 0 → (r : Reading Operator) → Begun (onward next (walking j w o) i (remembered world j w o r))
  notes j w o h (refuse r) = tt
  notes j w o h (accept n g) = on n (walking j w g) h

  steps : (b : List ℕ) (m : Model.Session world) → AtStart m → Begun (onward next m i (step world (reading b) m))
  steps b (early p) h = joins p (part_reading p (reading_of b (turn_at p)))
  steps b (walking j w o) h = notes j w o h (operator_reading (reading_of b T.Operators))

records-begun : (n : ℕ) (m : Model.Session world) (i : ℕ) (bytes : List ℕ) → AtStart m → Begun (records n m i bytes)
unfolding records
records-begun zero m i bytes h = ends m i h
records-begun (suc n) m i [] h = ends m i h
records-begun (suc n) m i (b ∷ bytes) h =
    steps (λ k t. records n t (i + k) (drop k (b ∷ bytes))) (λ k t g. records-begun n t (i + k) (drop k (b ∷ bytes)) g) i (b ∷ bytes) m h

pub load-begun : (bytes : List ℕ) → Begun (load_of bytes)
unfolding load_of
load-begun bytes = go (ltb most (length bytes)) (records-begun (length bytes) (meaning fresh) 0 bytes tt)
  where
    go : (b : Bool) → Begun (records (length bytes) (meaning fresh) 0 bytes) → Begun (cond b tooLong (records (length bytes) (meaning fresh) 0 bytes))
    go true h = tt
    go false h = h
