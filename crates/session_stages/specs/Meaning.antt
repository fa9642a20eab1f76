-- A session's meaning fixes the session: the contracts, which state the meaning of the session that a call leaves, leave no choice of it.
use Rattle.std.specs.Prelude.{◌≡◌, refl, Option, Some, None}
use Rattle.std.proofs.Common.{sym, ap, ◌∙◌}
use Rattle.ring.specs.declared.Point.{Point}
use Rattle.walk_list.specs.Walk.{point_of, rank_of, spot_of}
use Rattle.walk_list.proofs.lemmas.Points.{Fits32, point-rank}
use Rattle.session_stages.specs.declared.Course.{Course}
use Rattle.session_stages.specs.declared.Parts.{Parts}
use Rattle.session_stages.specs.declared.Stage.{Stage}
use Rattle.session_stages.specs.declared.Stage.TheVariants as S
use Rattle.session_stages.specs.declared.Session.{Session}
use Rattle.session_stages.specs.Session.{stage_of, meaning}

-- the place of a walk is a point of signed 32-bit numbers, as in every session of machine numbers; the other fields are what they mean
pub data SpotFits : Option Point → Type 0 where
  point : {v : Point} → Fits32 v → SpotFits (Some v)
  end : SpotFits None

pub data Fits : Stage → Type 0 where
  early : {p : Parts} → Fits (S.Early p)
  walking : {c : Course} → SpotFits c.spot → Fits (S.Walking c)

-- a point of such numbers is the only one of its rank
pub spot-one : {p q : Option Point} → SpotFits p → SpotFits q → spot_of p ≡ spot_of q → p ≡ q
spot-one (point {v} f) (point {v = w} g) e =
    let r : rank_of v ≡ rank_of w = cc in
    ap Some (sym (point-rank v f) ∙ ap point_of r ∙ point-rank w g)
spot-one (point f) end e = cc
spot-one end (point g) e = cc
spot-one end end e = refl

course_one : (c d : Course) → c.job ≡ d.job → c.spot ≡ d.spot → c.operator ≡ d.operator → c ≡ d
course_one c d e f g = λ i. record { job = e i; spot = f i; operator = g i }

stage_one : {g h : Stage} → Fits g → Fits h → stage_of g ≡ stage_of h → g ≡ h
stage_one early early e = cc
stage_one (walking {c} f) (walking {c = d} g) e = ap S.Walking (course_one c d (cc) (spot-one f g (cc)) (cc))
stage_one early (walking g) e = cc
stage_one (walking f) early e = cc

pub meaning-one : {s t : Session} → Fits s.stage → Fits t.stage → meaning s ≡ meaning t → s ≡ t
meaning-one f g e = λ i. record { stage = stage_one f g e i }
