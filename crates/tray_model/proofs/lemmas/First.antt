-- What was handed out since the last take, rewind or clearing is the beginning of the tray's full list, in rising order, each point once.
-- Assumes nothing.
use Rattle.std.specs.Prelude.{◌≡◌, refl, Bool, true, false, cond, List, [], ◌∷◌, ◌++◌, ℕ, ◌+◌, ◌*◌, min, ℤ, length, take, drop}
use Rattle.std.proofs.Common.{sym, ap, ◌∙◌, append_assoc, append-nil, add-zero, mul-zero, arith, length-take, drop-drop, take-add}
use Rattle.std.proofs.Math.Nat.{min-zero}
use Rattle.ranks.specs.Rest.{rest, Place, at, ended, is_nil, place_of, left_at}
use Rattle.ranks.proofs.Rest.{left-place}
use Rattle.ranks.specs.Members.{Rising}
use Rattle.ranks.proofs.Members.{rising-take, rest-rising}
use Rattle.ranks.specs.Handed.{put, flat}
use Rattle.ranks.proofs.Handed.{flat_append, length-flat, take_put}
use Rattle.tray_model.specs.Session.{World, Taking, refuse, accept, Call, taking, handOut, rewind, clear}
use Rattle.tray_model.specs.Session.{full, space, Session, early, walking, Outcome, begun, given, step, after}
use Rattle.tray_model.specs.Since.{Exchange, exchanges, restarts, since_after, since, written, points, lent_space, spaces, full_of, numbers, remains_after}
use Rattle.tray_model.specs.lemmas.First.{Reports}

module _ (W : World) where
  open W use {Tray, takes, test, top, width, coords, wide}

  points-more : (xs : List (Exchange W)) (x : Exchange W) → points W (xs ++ (x ∷ [])) ≡ points W xs ++ written W x.1
  points-more [] x = append-nil (written W x.1)
  points-more (y ∷ xs) x = rw (points-more xs x, append_assoc)

  spaces-more : (xs : List (Exchange W)) (x : Exchange W) → spaces W (xs ++ (x ∷ [])) ≡ spaces W xs + lent_space W x.0 x.1
  spaces-more [] x = omega arith
  spaces-more (y ∷ xs) x = omega (arith, spaces-more xs x)

  -- a session after hand-outs of the points ps, which had space for k
  pub data Holds : Session W → List ℤ → ℕ → Type 0 where
    soon : Holds early [] 0
    along : (t : Tray) (w : Place) (k : ℕ) → left_at (test t) top w ≡ drop k (full W t) → Holds (walking t w) (flat (coords t) (take k (full W t))) k

  abbrev Next : Call W → Outcome W → List ℤ → ℕ → Type 0
  Next c r ps k = Holds r.1 (cond (restarts W c r.0) [] (ps ++ written W r.0)) (cond (restarts W c r.0) 0 (k + lent_space W c r.0))

  same : {s : Session W} {ps : List ℤ} {k : ℕ} → Holds s ps k → Holds s (ps ++ []) (k + 0)
  same f = rw (append-nil, add-zero) f

  anew : (t : Tray) → Holds (walking t (at 0)) [] 0
  anew t = along t (at 0) 0 refl

  begins : {s : Session W} {ps : List ℤ} {k : ℕ} (g : World.Given W) → Holds s ps k → (x : Taking Tray) → Next (taking g) (begun W s x) ps k
  begins g f (refuse r) = same f
  begins g f (accept n t) = anew t

  gives : (t : Tray) (p k : ℕ) (l : List ℤ) → rest (test t) top p ≡ drop k (full W t)
      → Next (handOut l) (given W t l (rest (test t) top p)) (flat (coords t) (take k (full W t))) k
  gives t p k l e =
      let F = full W t in
      let n = space W l in
      let left = rest (test t) top p in
      let back : take (width * length (take n left)) (put (coords t) width (take n left) l) ≡ flat (coords t) (take n left) = take_put (coords t) width (wide t) (take n left) l in
      let more : take k F ++ take n left ≡ take (k + n) F = rw e (sym (take-add k n F)) in
      let all : flat (coords t) (take k F) ++ flat (coords t) (take n left) ≡ flat (coords t) (take (k + n) F) =
      sym (flat_append (coords t) (take k F) (take n left)) ∙ ap (flat (coords t)) more in
      rw (back, all) (along t (place_of (drop n left)) (k + n) (left-place (test t) top n p ∙ ap (drop n) e ∙ drop-drop n k F))

  holds : (c : Call W) {s : Session W} {ps : List ℤ} {k : ℕ} → Holds s ps k → Next c (step W c s) ps k
  holds clear f = soon
  holds (taking x) f = begins x f (takes x)
  holds (handOut l) soon = same soon
  holds rewind soon = same soon
  holds (handOut l) (along t ended k e) = same (along t ended k e)
  holds (handOut l) (along t (at p) k e) = gives t p k l e
  holds rewind (along t w k e) = anew t

  adds : (b : Bool) (seen : List (Exchange W)) (x : Exchange W) {s : Session W}
      → Holds s (cond b [] (points W seen ++ written W x.1)) (cond b 0 (spaces W seen + lent_space W x.0 x.1))
      → Holds s (points W (cond b [] (seen ++ (x ∷ [])))) (spaces W (cond b [] (seen ++ (x ∷ []))))
  adds true seen x f = f
  adds false seen x f = rw (points-more seen x, spaces-more seen x) f

  all_hold : (cs : List (Call W)) (seen : List (Exchange W)) {s : Session W} → Holds s (points W seen) (spaces W seen)
      → Holds (after W s cs) (points W (since_after W seen (exchanges W s cs))) (spaces W (since_after W seen (exchanges W s cs)))
  all_hold [] seen f = f
  all_hold (c ∷ cs) seen {s} f =
      let x : Exchange W = (c, (step W c s).0) in
      let b = restarts W c x.1 in
      all_hold cs (cond b [] (seen ++ (x ∷ []))) (adds b seen x (holds c f))

  pub holds-since : (cs : List (Call W)) → Holds (after W early cs) (points W (since W cs)) (spaces W (since W cs))
  holds-since cs = all_hold cs [] soon

  first-ones : {s : Session W} {ps : List ℤ} {k : ℕ} → Holds s ps k → ps ≡ numbers W s (take k (full_of W s))
  first-ones soon = refl
  first-ones (along t w k e) = refl

  -- what was handed out since the last take, rewind or clearing is the beginning of the full list
  pub handed-first : (cs : List (Call W)) → points W (since W cs) ≡ numbers W (after W early cs) (take (spaces W (since W cs)) (full_of W (after W early cs)))
  handed-first cs = first-ones (holds-since cs)

  counted : {s : Session W} {ps : List ℤ} {k : ℕ} → Holds s ps k → length ps ≡ width * min k (length (full_of W s))
  counted soon = rw (min-zero, mul-zero)
  counted (along t w k e) = length-flat (coords t) width (wide t) (take k (full W t)) ∙ ap (◌*◌ width) (length-take k (full W t))

  -- as many as there was space for, or all if they are fewer
  pub handed-count : (cs : List (Call W)) → length (points W (since W cs)) ≡ width * min (spaces W (since W cs)) (length (full_of W (after W early cs)))
  handed-count cs = counted (holds-since cs)

  full-rising : (s : Session W) → Rising 0 (full_of W s)
  full-rising early = tt
  full-rising (walking t w) = rest-rising (test t) top 0

  -- in rising order, each once
  pub handed-rising : (cs : List (Call W)) → Rising 0 (take (spaces W (since W cs)) (full_of W (after W early cs)))
  handed-rising cs = rising-take (spaces W (since W cs)) 0 (full_of W (after W early cs)) (full-rising (after W early cs))

  reports : (l : List ℤ) {s : Session W} {ps : List ℤ} {k : ℕ} → Holds s ps k
      → Reports W (step W (handOut l) s).0 (drop (k + lent_space W (handOut l) (step W (handOut l) s).0) (full_of W (step W (handOut l) s).1))
  reports l soon = tt
  reports l (along t ended k e) = tt
  reports l (along t (at p) k e) = ap is_nil (ap (drop (space W l)) e ∙ drop-drop (space W l) k (full W t))

  after_more : (cs : List (Call W)) (c : Call W) (s : Session W) → after W s (cs ++ (c ∷ [])) ≡ (step W c (after W s cs)).1
  after_more [] c s = refl
  after_more (d ∷ cs) c s = after_more cs c (step W d s).1

  since-more : (cs : List (Call W)) (c : Call W) (s : Session W) (seen : List (Exchange W))
      → since_after W seen (exchanges W s (cs ++ (c ∷ [])))
      ≡ cond (restarts W c (step W c (after W s cs)).0) [] (since_after W seen (exchanges W s cs) ++ ((c, (step W c (after W s cs)).0) ∷ []))
  since-more [] c s seen = refl
  since-more (d ∷ cs) c s seen = since-more cs c (step W d s).1 _

  -- a hand-out that is not refused reports the end exactly when none is left after it
  pub end-reported : (cs : List (Call W)) (l : List ℤ) → Reports W (step W (handOut l) (after W early cs)).0 (remains_after W (cs ++ (handOut l ∷ [])))
  end-reported cs l =
      rw (after_more cs (handOut l) early, since-more cs (handOut l) early [], spaces-more (since W cs) (handOut l, (step W (handOut l) (after W early cs)).0))
      (reports l (holds-since cs))
