-- Demand 3: what was handed out since the last rewind or clearing is the beginning of the full list, in rising order, each point once.
-- Assumes nothing.
use Rattle.std.specs.Prelude.{◌≡◌, refl, Bool, true, false, cond, List, [], ◌∷◌, ◌++◌, ℕ, ◌+◌, ◌*◌, min, ℤ, length, take, drop}
use Rattle.std.proofs.Common.{sym, ap, ◌∙◌, append_assoc, append-nil, add-zero, arith, length-take, drop-drop, take-add}
use Rattle.std.proofs.Math.Option.{Option}
use Rattle.std.proofs.Math.Option as O
use Rattle.ranks.specs.Rest.{rest, Place, at, ended, is_nil, place_of, left_at}
use Rattle.ranks.proofs.Rest.{left-place}
use Rattle.ranks.specs.Members.{Rising}
use Rattle.ranks.proofs.Members.{rising-take, rest-rising}
use Rattle.ranks.specs.Handed.{put, flat}
use Rattle.ranks.proofs.Handed.{flat_append, length-flat, take_put}
use Rattle.session_model.specs.Session.{World, Reading, refuse, accept, Stage, part, whole}
use Rattle.session_model.specs.Session.{Call, reading, handOut, rewind, clear, plain, image_of, shortest}
use Rattle.session_model.specs.Session.{full, space, Session, early, walking, fresh, Outcome, joined, remembered, given, found, step, after}
use Rattle.session_model.specs.Since.{Exchange, exchanges, restarts, since_after, since, written, points, lent_space, spaces, full_of, remains_after}
use Rattle.session_model.specs.lemmas.First.{Reports}

module _ (W : World) where
  open W use {Parts, Job, Operator, Best, none, identity, readPart, readOperator, test, top, width, coords, wide, least}

  pub points-more : (xs : List (Exchange W)) (x : Exchange W) → points W (xs ++ (x ∷ [])) ≡ points W xs ++ written W x.1
  points-more [] x = append-nil (written W x.1)
  points-more (y ∷ xs) x = rw (points-more xs x, append_assoc)

  spaces-more : (xs : List (Exchange W)) (x : Exchange W) → spaces W (xs ++ (x ∷ [])) ≡ spaces W xs + lent_space W x.0 x.1
  spaces-more [] x = omega arith
  spaces-more (y ∷ xs) x = omega (arith, spaces-more xs x)

  -- a session after hand-outs of the points ps, which had space for k
  pub data Holds : Session W → List ℤ → ℕ → Type 0 where
    soon : (p : Parts) → Holds (early p) [] 0
    along : (j : Job) (w : Place) (o : Operator) (k : ℕ) → left_at (test j) top w ≡ drop k (full W j)
        → Holds (walking j w o) (flat coords (take k (full W j))) k

  abbrev Next : Call W → Outcome W → List ℤ → ℕ → Type 0
  Next c r ps k = Holds r.1 (cond (restarts W c r.0) [] (ps ++ written W r.0)) (cond (restarts W c r.0) 0 (k + lent_space W c r.0))

  same : {s : Session W} {ps : List ℤ} {k : ℕ} → Holds s ps k → Holds s (ps ++ []) (k + 0)
  same f = rw (append-nil, add-zero) f

  joins : (b : List ℕ) (p : Parts) (r : Reading (Stage Parts Job)) → Next (reading b) (joined W p r) [] 0
  joins b p (refuse r) = same (soon p)
  joins b p (accept n (part q)) = same (soon q)
  joins b p (accept n (whole j)) = same (along j (at 0) identity 0 refl)

  remembers : (b : List ℕ) (j : Job) (w : Place) (o : Operator) (k : ℕ) → left_at (test j) top w ≡ drop k (full W j) → (r : Reading Operator)
      → Next (reading b) (remembered W j w o r) (flat coords (take k (full W j))) k
  remembers b j w o k e (refuse r) = same (along j w o k e)
  remembers b j w o k e (accept n o') = same (along j w _ k e)

  gives : (j : Job) (p : ℕ) (o : Operator) (k : ℕ) (l : List ℤ) → rest (test j) top p ≡ drop k (full W j)
      → Next (handOut l) (given W j o l (rest (test j) top p)) (flat coords (take k (full W j))) k
  gives j p o k l e =
      let F = full W j in
      let n = space W l in
      let left = rest (test j) top p in
      let back : take (width * length (take n left)) (put coords width (take n left) l) ≡ flat coords (take n left) = take_put coords width wide (take n left) l in
      let more : take k F ++ take n left ≡ take (k + n) F = rw e (sym (take-add k n F)) in
      let all : flat coords (take k F) ++ flat coords (take n left) ≡ flat coords (take (k + n) F) =
      sym (flat_append coords (take k F) (take n left)) ∙ ap (flat coords) more in
      rw (back, all) (along j (place_of (drop n left)) o (k + n) (left-place (test j) top n p ∙ ap (drop n) e ∙ drop-drop n k F))

  finds : (x : Option Best) {s : Session W} {ps : List ℤ} {k : ℕ} → Holds s ps k → Holds s (ps ++ written W (found W x)) (k + 0)
  finds O.none f = same f
  finds (O.some b) f = same f

  holds : (c : Call W) {s : Session W} {ps : List ℤ} {k : ℕ} → Holds s ps k → Next c (step W c s) ps k
  holds clear f = soon none
  holds (reading b) (soon p) = joins b p (readPart b p)
  holds (handOut l) (soon p) = same (soon p)
  holds rewind (soon p) = same (soon p)
  holds plain (soon p) = same (soon p)
  holds (image_of v) (soon p) = same (soon p)
  holds shortest (soon p) = same (soon p)
  holds (reading b) (along j w o k e) = remembers b j w o k e (readOperator b)
  holds (handOut l) (along j ended o k e) = same (along j ended o k e)
  holds (handOut l) (along j (at p) o k e) = gives j p o k l e
  holds rewind (along j w o k e) = along j (at 0) _ 0 refl
  holds plain (along j w o k e) = same (along j w o k e)
  holds (image_of v) (along j w o k e) = same (along j w o k e)
  holds shortest (along j w o k e) = finds (least j) (along j w o k e)

  adds : (b : Bool) (seen : List (Exchange W)) (x : Exchange W) {s : Session W}
      → Holds s (cond b [] (points W seen ++ written W x.1)) (cond b 0 (spaces W seen + lent_space W x.0 x.1))
      → Holds s (points W (cond b [] (seen ++ (x ∷ [])))) (spaces W (cond b [] (seen ++ (x ∷ []))))
  adds true seen x f = f
  adds false seen x f = rw (points-more seen x, spaces-more seen x) f

  all_hold : (cs : List (Call W)) (seen : List (Exchange W)) {s : Session W} → Holds s (points W seen) (spaces W seen)
      → Holds (after W s cs) (points W (since_after W seen (exchanges W s cs))) (spaces W (since_after W seen (exchanges W s cs)))
  all_hold [] seen f = f
  all_hold (c ∷ cs) seen {s} f =
      let x : Exchange W = (c, (step W c s).0) in
      let b = restarts W c x.1 in
      all_hold cs (cond b [] (seen ++ (x ∷ []))) (adds b seen x (holds c f))

  pub holds-since : (cs : List (Call W)) → Holds (after W (fresh W) cs) (points W (since W cs)) (spaces W (since W cs))
  holds-since cs = all_hold cs [] (soon none)

  first-ones : {s : Session W} {ps : List ℤ} {k : ℕ} → Holds s ps k → ps ≡ flat coords (take k (full_of W s))
  first-ones (soon p) = refl
  first-ones (along j w o k e) = refl

  -- what was handed out since the last rewind or clearing is the beginning of the full list
  pub handed-first : (cs : List (Call W)) → points W (since W cs) ≡ flat coords (take (spaces W (since W cs)) (full_of W (after W (fresh W) cs)))
  handed-first cs = first-ones (holds-since cs)

  -- as many as there was space for, or all if they are fewer
  pub handed-count : (cs : List (Call W)) → length (points W (since W cs)) ≡ width * min (spaces W (since W cs)) (length (full_of W (after W (fresh W) cs)))
  handed-count cs =
      let k = spaces W (since W cs) in
      let F = full_of W (after W (fresh W) cs) in
      ap length (handed-first cs) ∙ length-flat coords width wide (take k F) ∙ ap (◌*◌ width) (length-take k F)

  full-rising : (s : Session W) → Rising 0 (full_of W s)
  full-rising (early p) = tt
  full-rising (walking j w o) = rest-rising (test j) top 0

  -- in rising order, each once
  pub handed-rising : (cs : List (Call W)) → Rising 0 (take (spaces W (since W cs)) (full_of W (after W (fresh W) cs)))
  handed-rising cs = rising-take (spaces W (since W cs)) 0 (full_of W (after W (fresh W) cs)) (full-rising (after W (fresh W) cs))

  reports : (l : List ℤ) {s : Session W} {ps : List ℤ} {k : ℕ} → Holds s ps k
      → Reports W (step W (handOut l) s).0 (drop (k + lent_space W (handOut l) (step W (handOut l) s).0) (full_of W (step W (handOut l) s).1))
  reports l (soon p) = tt
  reports l (along j ended o k e) = tt
  reports l (along j (at p) o k e) = ap is_nil (ap (drop (space W l)) e ∙ drop-drop (space W l) k (full W j))

  after_more : (cs : List (Call W)) (c : Call W) (s : Session W) → after W s (cs ++ (c ∷ [])) ≡ (step W c (after W s cs)).1
  after_more [] c s = refl
  after_more (d ∷ cs) c s = after_more cs c (step W d s).1

  since-more : (cs : List (Call W)) (c : Call W) (s : Session W) (seen : List (Exchange W))
      → since_after W seen (exchanges W s (cs ++ (c ∷ [])))
      ≡ cond (restarts W c (step W c (after W s cs)).0) [] (since_after W seen (exchanges W s cs) ++ ((c, (step W c (after W s cs)).0) ∷ []))
  since-more [] c s seen = refl
  since-more (d ∷ cs) c s seen = since-more cs c (step W d s).1 _

  -- a hand-out that is not refused reports the end exactly when none is left after it
  pub end-reported : (cs : List (Call W)) (l : List ℤ) → Reports W (step W (handOut l) (after W (fresh W) cs)).0 (remains_after W (cs ++ (handOut l ∷ [])))
  end-reported cs l =
      rw (after_more cs (handOut l) (fresh W), since-more cs (handOut l) (fresh W) [], spaces-more (since W cs) (handOut l, (step W (handOut l) (after W (fresh W) cs)).0))
      (reports l (holds-since cs))
