-- A walk is finished once a hand-out has reported the end: then all of the tray's full list was handed out since the last take, rewind or clearing.
-- Assumes nothing.
use Rattle.std.specs.Prelude.{◌≡◌, refl, Bool, true, false, cond, List, [], ◌∷◌, ◌++◌, ℕ, ℤ, length, take, drop}
use Rattle.std.proofs.Common.{sym, ap, ◌∙◌, arith, length-drop, take_all}
use Rattle.std.proofs.lemmas.Bool.{false≢true}
use Rattle.ranks.specs.Rest.{at, ended, is_ended, rest}
use Rattle.ranks.proofs.Rest.{ended-nil}
use Rattle.ranks.specs.Handed.{flat}
use Rattle.tray_model.specs.Session.{World, Taking, refuse, accept, Call, taking, handOut, rewind, clear}
use Rattle.tray_model.specs.Session.{full, space, Session, early, walking, begun, step, after}
use Rattle.tray_model.specs.Since.{Exchange, exchanges, restarts, since_after, since, points}
use Rattle.tray_model.proofs.lemmas.First.{Holds, soon, along, holds-since}
use Rattle.tray_model.specs.End.{says_end, reported, Complete}

module _ (W : World) where
  open W use {Tray, takes, test, top, coords}

  -- a session that stands past the end
  abbrev is_over : Session W → Bool
  is_over early = false
  is_over (walking t w) = is_ended w

  abbrev Goes : Call W → Session W → Type 0
  Goes c s = is_over (step W c s).1 ≡ cond (restarts W c (step W c s).0) false (cond (is_over s) true (says_end W (step W c s).0))

  stays : (b : Bool) → b ≡ cond b true false
  stays true = refl
  stays false = refl

  begins : (g : World.Given W) (s : Session W) (x : Taking Tray)
      → is_over (begun W s x).1 ≡ cond (restarts W (taking g) (begun W s x).0) false (cond (is_over s) true (says_end W (begun W s x).0))
  begins g s (refuse r) = stays (is_over s)
  begins g s (accept n t) = refl

  goes : (c : Call W) (s : Session W) → Goes c s
  goes clear s = refl
  goes (taking x) s = begins x s (takes x)
  goes (handOut l) early = refl
  goes rewind early = refl
  goes (handOut l) (walking t ended) = refl
  goes (handOut l) (walking t (at p)) = ended-nil (drop (space W l) (rest (test t) top p))
  goes rewind (walking t w) = refl

  reported-more : (xs : List (Exchange W)) (x : Exchange W) → reported W (xs ++ (x ∷ [])) ≡ cond (reported W xs) true (says_end W x.1)
  reported-more [] x = sym (stays (says_end W x.1))
  reported-more (y ∷ xs) x = go (says_end W y.1) (reported-more xs x)
    where
      go : (b : Bool) → reported W (xs ++ (x ∷ [])) ≡ cond (reported W xs) true (says_end W x.1)
          → cond b true (reported W (xs ++ (x ∷ []))) ≡ cond (cond b true (reported W xs)) true (says_end W x.1)
      go true e = refl
      go false e = e

  adds : (b : Bool) (seen : List (Exchange W)) (x : Exchange W) → cond b false (cond (reported W seen) true (says_end W x.1)) ≡ reported W (cond b [] (seen ++ (x ∷ [])))
  adds true seen x = refl
  adds false seen x = sym (reported-more seen x)

  all_go : (cs : List (Call W)) (seen : List (Exchange W)) (s : Session W) → is_over s ≡ reported W seen → is_over (after W s cs) ≡ reported W (since_after W seen (exchanges W s cs))
  all_go [] seen s e = e
  all_go (c ∷ cs) seen s e =
      let x : Exchange W = (c, (step W c s).0) in
      let b = restarts W c x.1 in
      all_go cs (cond b [] (seen ++ (x ∷ []))) (step W c s).1 (goes c s ∙ ap (λ (h : Bool). cond b false (cond h true (says_end W x.1))) e ∙ adds b seen x)

  none_left : (k : ℕ) (l : List ℕ) → [] ≡ drop k l → take k l ≡ l
  none_left k l e = let n = ap length e in let m = length-drop k l in take_all k l (omega arith)

  complete : {s : Session W} {ps : List ℤ} {k : ℕ} → Holds W s ps k → is_over s ≡ true → Complete W s ps
  complete soon e = absurd (false≢true e)
  complete (along t (at p) k h) e = absurd (false≢true e)
  complete (along t ended k h) e = record { tray = t; place = ended; stands = refl; all = ap (flat (coords t)) (none_left k (full W t) h) }

  -- a finished walk has handed out the full list
  pub finished-all : (cs : List (Call W)) → reported W (since W cs) ≡ true → Complete W (after W early cs) (points W (since W cs))
  finished-all cs e = complete (holds-since W cs) (all_go cs [] early refl ∙ e)
