-- Demand 2 for every run of the code's calls: a finished walk has handed out the point v if and only if v solves the job and is selected.
use Rattle.std.specs.Prelude.{◌≡◌, refl, Bool, true, false, not, ◌↔◌, ℕ, zero, suc, take}
use Rattle.std.proofs.Common.{sym, ap, ◌∙◌, arith}
use Rattle.std.proofs.lemmas.Bool.{false≢true}
use mathlib.Core.List.{List, [], ◌∷◌, map, Memᴰ}
use Rattle.ring.specs.declared.Point.{Point}
use Rattle.region.specs.declared.Job.{Job}
use Rattle.region.specs.Region.{solves}
use Rattle.region.specs.Selection.{selects, listed, listed-parts, is_listed}
use Rattle.ranks.specs.Rest.{Place, is_nil}
use Rattle.ranks.specs.Rank.{top}
use Rattle.ranks.specs.Members.{Rising}
use Rattle.ring_points.specs.Listed.{listed-there, there_listed}
use Rattle.ring_points.specs.Ascending.{Ascending, ascending, rest-passing}
use Rattle.ring_points.specs.Slices.{points_of, flat-points}
use Rattle.cuts.specs.Digits.{span}
use Rattle.walk_list.specs.Walk.{point_of, listed_at, full}
use Rattle.walk_list.proofs.lemmas.Full.{full-holds, full-empty, listed-fits}
use Rattle.operator.specs.declared.Operator.{Operator}
use Rattle.session_model.specs.Session.{whole, plain, early, walking}
use Rattle.session_model.specs.Session as Model
use Rattle.session_model.specs.Rules.{begin, known_after}
use Rattle.session_model.specs.lemmas.Agree.{job_of}
use Rattle.session_model.proofs.lemmas.Agree.{whole-job}
use Rattle.session_model.specs.Since.{points, spaces, full_of}
use Rattle.session_model.specs.End.{reported}
use Rattle.session_model.proofs.End.{finished-all}
use Rattle.session_stages.specs.declared.Course.{Course}
use Rattle.session_stages.specs.declared.Stage.{Stage}
use Rattle.session_stages.specs.declared.Stage.TheVariants as S
use Rattle.session_stages.specs.declared.Session.{Session}
use Rattle.session_stages.specs.declared.Answer.TheVariants as A
use Rattle.session_stages.specs.World.{world}
use Rattle.session_stages.specs.Session.{stage_of, meaning, Steps}
use Rattle.session.specs.Run.{Made, Run, calls_of, since_of, from-after}
use Rattle.session.specs.RunCalls.{list_of, run-since, run-first, run-rising}

-- the points handed out since the last rewind or clearing
abbrev pub handed_out : List Made → List Point
handed_out ms = points_of (points world (since_of ms))

first-ascending : (m : Model.Session world) (n : ℕ) → Rising 0 (take n (full_of world m)) → Ascending (map point_of (take n (full_of world m)))
first-ascending (early p) zero up = tt
first-ascending (early p) (suc n) up = tt
first-ascending (walking j w o) n up =
    ascending (listed j) (listed-fits j) 0 (take n (Model.full world j)) up (rest-passing (listed_at j) n (top span) 0)

-- in rising order, each once, of the points themselves, for every run
pub run-points : {ms : List Made} {t : Session} → Run ms t → Ascending (handed_out ms)
run-points {ms} {t} r =
    let n = spaces world (since_of ms) in
    rw (run-first r, flat-points (take n (list_of t))) (first-ascending (meaning t) n (run-rising r))

-- ---- a finished walk has handed out v if and only if v solves the job and is selected: new at its scale, or any where the job lists all
abbrev pub SelectedSolution : Job → Point → Type 0
SelectedSolution j v = (solves j v ≡ true) × (selects j v ≡ true)

pub record Finished (ms : List Made) (t : Session) : Type 0 where
  pub course : Course
  pub stands : t.stage ≡ S.Walking course
  -- its job is the one that the records read make, by the rules
  pub job : (known_after world (begin world) (calls_of ms)).job ≡ whole course.job
  pub solutions : (v : Point) → Memᴰ v (handed_out ms) ↔ SelectedSolution course.job v
  pub rising : Ascending (handed_out ms)

course_of_lem : (g : Stage) (j : Job) (w : Place) (o : Operator) → stage_of g ≡ walking j w o → (c : Course) × (g ≡ S.Walking c) × (c.job ≡ j)
course_of_lem (S.Early p) j w o e = absurd (let z : ◌≡◌ {A = ℕ} 0 1 = cc in omega arith)
course_of_lem (S.Walking c) j w o e = (c, refl, cc)

holds-just : (j : Job) (v : Point) → Memᴰ v (map point_of (full j)) ↔ SelectedSolution j v
holds-just j v = (
  (λ m. let p = listed-parts j v ((full-holds j v).1 (listed-there (full j) v m)) in (p.1, p.0)),
  (λ s. let h = (full-holds j v).0 (is_listed j v s.1 s.0) in there_listed (full j) v h),
)

-- a hand-out since the last rewind or clearing reported the end
pub run-finished : {ms : List Made} {t : Session} → Run ms t → reported world (since_of ms) ≡ true → Finished ms t
unfolding full
run-finished {ms} {t} r e =
    let f = finished-all world (calls_of ms) (ap (reported world) (sym (run-since r)) ∙ e) in
    let j = f.job in
    let (c, stands, same) = course_of_lem t.stage j f.place f.operator (from-after r ∙ f.stands) in
    let all : handed_out ms ≡ map point_of (full j) = ap points_of (ap (points world) (run-since r) ∙ f.all) ∙ flat-points (full j) in
    record {
      course = c;
      stands = stands;
      job = whole-job world (calls_of ms) ∙ ap (job_of world) f.stands ∙ ap whole (sym same);
      solutions = λ v. rw (all, same) (holds-just j v);
      rising = run-points r;
    }

-- ---- the plain question says no if and only if no point solves the job and is selected
nil_not : (l : List ℕ) → (not (is_nil l) ≡ false) ↔ (l ≡ [])
nil_not [] = ((λ e. refl), (λ e. refl))
nil_not (x ∷ l) = ((λ e. absurd (let z : ◌≡◌ {A = ℕ} 0 1 = cc in omega arith)), (λ e. cc))

unless : (b : Bool) → (b ≡ true → ⊥) → b ≡ false
unless true f = absurd (f refl)
unless false f = refl

none-listed : (j : Job) (v : Point) → (listed j v ≡ false) ↔ (SelectedSolution j v → ⊥)
none-listed j v = (
  (λ e s. false≢true (sym e ∙ is_listed j v s.1 s.0)),
  (λ f. unless (listed j v) (λ e. let p = listed-parts j v e in f (p.1, p.0))),
)

pub run-empty : (s : Session) (c : Course) (b : Bool) → s.stage ≡ S.Walking c → Steps plain [] s s (A.Says b) → (b ≡ false) ↔ ((v : Point) → SelectedSolution c.job v → ⊥)
unfolding full
run-empty s c b e h =
    let q : b ≡ not (is_nil (full c.job)) = cc (ap (λ (o : Model.Outcome world). o.0) (rw e at h.met)) in
    let n = nil_not (full c.job) in
    let m = full-empty c.job in
    ((λ f v. (none-listed c.job v).0 (m.0 (n.0 (sym q ∙ f)) v)), (λ g. q ∙ n.1 (m.1 (λ v. (none-listed c.job v).1 (g v)))))
