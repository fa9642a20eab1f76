-- What the machine's types tell of a session that a call leaves: the numbers of the place of its walk have 32 bits. Assumes nothing.
use Rattle.ring.specs.declared.Point.{Point}
use Rattle.std.specs.Prelude.{Option, Some, None}
use mathlib.Core.List.{List}
use denote.Laws.{Is}
use denote.Struct.Declared.{row}
use mir.Val.{Val}
use Rattle.region.specs.declared.Job.{Job}
use Rattle.operator.specs.declared.Operator.{Operator}
use Rattle.session_stages.specs.declared.Answer.{Answer}
use Rattle.session_stages.specs.declared.Outcome.{Outcome}
use Rattle.session_stages.specs.declared.Stage.{Stage}
use Rattle.session_stages.specs.declared.Stage.TheVariants.{Early, Walking}
use Rattle.session_stages.specs.Meaning.{SpotFits, point, end, Fits, early, walking}
use Rattle.session_stages.specs.contracts.Outcome.{the_type}

-- the ranges of a result's numbers, by its type
abbrev pub Ok : Outcome → List Val → Type 0
Ok o vs = Is (row the_type) o vs

spot : (j : Job) (p : Option Point) (q : Operator) (a : Answer) (vs : List Val) → Ok record { session = record { stage = Walking record { job = j; spot = p; operator = q } }; answer = a } vs → SpotFits p
spot j (Some v) q a vs g =
    let s = g.1.1.0.1.1.0 in
    let c = s.1.1.1.1.0 in
    let w = c.1.1.1.0.1.1.1.1.0.1.1 in
    point record { a = record { sfits = w.0.1 }; b = record { sfits = w.1.0.1 }; c = record { sfits = w.1.1.0.1 }; d = record { sfits = w.1.1.1.0.1 } }
spot j None q a vs g = end

stage : (g : Stage) (a : Answer) (vs : List Val) → Ok record { session = record { stage = g }; answer = a } vs → Fits g
stage (Early p) a vs g = early
stage (Walking c) a vs g = walking (spot c.job c.spot c.operator a vs g)

pub left-fits : (o : Outcome) (vs : List Val) → Ok o vs → Fits o.session.stage
left-fits o vs g = stage o.session.stage o.answer vs g
