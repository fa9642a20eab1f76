-- A session's meaning fixes the session: whether a tray was taken, and then the tray and where its walk stands. Before one is taken the tray there says nothing.
use Rattle.ring.specs.declared.Point.{Point}
use Rattle.std.specs.Prelude.{◌≡◌, ℕ, Option}
use Rattle.std.proofs.Common.{arith}
use Rattle.session_stages.specs.Meaning.{SpotFits, spot-one}
use Rattle.tray_list.specs.declared.Tray.{Tray}
use Rattle.tray.specs.declared.Stage.{Stage}
use Rattle.tray.specs.declared.Stage.TheVariants as S
use Rattle.tray.specs.declared.Session.{Session}
use Rattle.tray.specs.Session.{stage_of, meaning}

-- the place of a walk is a point of signed 32-bit numbers, as in every session of machine numbers
pub data Fits : Stage → Type 0 where
  early : Fits S.Early
  walking : {p : Option Point} → SpotFits p → Fits (S.Walking p)

-- the same stage, and once a tray was taken the same tray
pub data Same : Session → Session → Type 0 where
  both-early : {t u : Tray} → Same (record { stage = S.Early; tray = t }) (record { stage = S.Early; tray = u })
  both-walking : {p : Option Point} {t : Tray} → Same (record { stage = S.Walking p; tray = t }) (record { stage = S.Walking p; tray = t })

walking_one : {p q : Option Point} {t u : Tray} → p ≡ q → t ≡ u → Same (record { stage = S.Walking p; tray = t }) (record { stage = S.Walking q; tray = u })
walking_one e f = rw (e, f) both-walking

stage_one : {g h : Stage} (t u : Tray) → Fits g → Fits h → stage_of t g ≡ stage_of u h → Same (record { stage = g; tray = t }) (record { stage = h; tray = u })
stage_one t u early early e = both-early
stage_one t u (walking {p} f) (walking {p = q} g) e = walking_one (spot-one f g (cc)) (cc)
stage_one t u early (walking g) e = absurd (let z : ◌≡◌ {A = ℕ} 0 1 = cc in omega arith)
stage_one t u (walking f) early e = absurd (let z : ◌≡◌ {A = ℕ} 0 1 = cc in omega arith)

pub meaning-one : {s t : Session} → Fits s.stage → Fits t.stage → meaning s ≡ meaning t → Same s t
meaning-one {s} {t} f g e = stage_one s.tray t.tray f g e
