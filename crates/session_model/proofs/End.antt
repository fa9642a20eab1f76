-- A walk is finished once a hand-out has reported the end: then all of the full list was handed out since the last rewind or clearing.
-- Assumes nothing.
use Rattle.std.specs.Prelude.{◌≡◌, refl, Bool, true, false, cond, List, [], ◌∷◌, ◌++◌, ℕ, ℤ, length, take, drop}
use Rattle.std.proofs.Common.{sym, ap, ◌∙◌, arith, length-drop, take_all}
use Rattle.std.proofs.lemmas.Bool.{false≢true}
use Rattle.std.proofs.Math.Option.{Option}
use Rattle.std.proofs.Math.Option as O
use Rattle.ranks.specs.Rest.{Place, at, ended, is_ended, rest}
use Rattle.ranks.proofs.Rest.{ended-nil}
use Rattle.ranks.specs.Handed.{flat}
use Rattle.session_model.specs.Session.{World, Reading, refuse, accept, Stage, part, whole}
use Rattle.session_model.specs.Session.{Call, reading, handOut, rewind, clear, plain, image_of, shortest}
use Rattle.session_model.specs.Session.{full, space, Session, early, walking, fresh, joined, remembered, found, step, after}
use Rattle.session_model.specs.Since.{Exchange, exchanges, restarts, since_after, since, points}
use Rattle.session_model.proofs.lemmas.First.{Holds, soon, along, holds-since}
use Rattle.session_model.specs.End.{says_end, reported, Complete}

module _ (W : World) where
  open W use {Parts, Job, Operator, Best, readPart, readOperator, test, top, coords, least}

  -- a session that stands past the end
  abbrev is_over : Session W → Bool
  is_over (early p) = false
  is_over (walking j w o) = is_ended w

  abbrev Goes : Call W → Session W → Type 0
  Goes c s = is_over (step W c s).1 ≡ cond (restarts W c (step W c s).0) false (cond (is_over s) true (says_end W (step W c s).0))

  joins : (p : Parts) (r : Reading (Stage Parts Job)) → is_over (joined W p r).1 ≡ says_end W (joined W p r).0
  joins p (refuse r) = refl
  joins p (accept n (part q)) = refl
  joins p (accept n (whole j)) = refl

  notes : (j : Job) (w : Place) (o : Operator) (r : Reading Operator) → is_over (remembered W j w o r).1 ≡ cond (is_ended w) true (says_end W (remembered W j w o r).0)
  notes j (at p) o (refuse r) = refl
  notes j ended o (refuse r) = refl
  notes j (at p) o (accept n o') = refl
  notes j ended o (accept n o') = refl

  stays : (w : Place) → is_ended w ≡ cond (is_ended w) true false
  stays (at p) = refl
  stays ended = refl

  finds : (w : Place) (x : Option Best) → is_ended w ≡ cond (is_ended w) true (says_end W (found W x))
  finds w O.none = stays w
  finds w (O.some b) = stays w

  goes : (c : Call W) (s : Session W) → Goes c s
  goes clear s = refl
  goes (reading b) (early p) = joins p (readPart b p)
  goes (handOut l) (early p) = refl
  goes rewind (early p) = refl
  goes plain (early p) = refl
  goes (image_of v) (early p) = refl
  goes shortest (early p) = refl
  goes (reading b) (walking j w o) = notes j w o (readOperator b)
  goes (handOut l) (walking j ended o) = refl
  goes (handOut l) (walking j (at p) o) = ended-nil (drop (space W l) (rest (test j) top p))
  goes rewind (walking j w o) = refl
  goes plain (walking j w o) = stays w
  goes (image_of v) (walking j w o) = stays w
  goes shortest (walking j w o) = finds w (least j)

  reported-more : (xs : List (Exchange W)) (x : Exchange W) → reported W (xs ++ (x ∷ [])) ≡ cond (reported W xs) true (says_end W x.1)
  reported-more [] x = go (says_end W x.1)
    where
      go : (b : Bool) → cond b true false ≡ b
      go true = refl
      go false = refl
  reported-more (y ∷ xs) x = go (says_end W y.1) (reported-more xs x)
    where
      go : (b : Bool) → reported W (xs ++ (x ∷ [])) ≡ cond (reported W xs) true (says_end W x.1)
          → cond b true (reported W (xs ++ (x ∷ []))) ≡ cond (cond b true (reported W xs)) true (says_end W x.1)
      go true e = refl
      go false e = e

  adds : (b : Bool) (seen : List (Exchange W)) (x : Exchange W) → cond b false (cond (reported W seen) true (says_end W x.1)) ≡ reported W (cond b [] (seen ++ (x ∷ [])))
  adds true seen x = refl
  adds false seen x = sym (reported-more seen x)

  all_go : (cs : List (Call W)) (seen : List (Exchange W)) (s : Session W) → is_over s ≡ reported W seen → is_over (after W s cs) ≡ reported W (since_after W seen (exchanges W s cs))
  all_go [] seen s e = e
  all_go (c ∷ cs) seen s e =
      let x : Exchange W = (c, (step W c s).0) in
      let b = restarts W c x.1 in
      all_go cs (cond b [] (seen ++ (x ∷ []))) (step W c s).1 (goes c s ∙ ap (λ (h : Bool). cond b false (cond h true (says_end W x.1))) e ∙ adds b seen x)

  none_left : (k : ℕ) (l : List ℕ) → [] ≡ drop k l → take k l ≡ l
  none_left k l e = let n = ap length e in let m = length-drop k l in take_all k l (omega arith)

  complete : {s : Session W} {ps : List ℤ} {k : ℕ} → Holds W s ps k → is_over s ≡ true → Complete W s ps
  complete (soon p) e = absurd (false≢true e)
  complete (along j (at p) o k h) e = absurd (false≢true e)
  complete (along j ended o k h) e = record { job = j; place = ended; operator = o; stands = refl; all = ap (flat coords) (none_left k (full W j) h) }

  -- a finished walk has handed out the full list
  pub finished-all : (cs : List (Call W)) → reported W (since W cs) ≡ true → Complete W (after W (fresh W) cs) (points W (since W cs))
  finished-all cs e = complete (holds-since W cs) (all_go cs [] (fresh W) refl ∙ e)
