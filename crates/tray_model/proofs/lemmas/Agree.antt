-- The answers to a list of calls are what the rules give.
-- Assumes nothing.
use Rattle.std.specs.Prelude.{◌≡◌, refl, List, [], ◌∷◌, ℕ, zero, suc, ◌+◌, ◌-◌, ◌≤◌, min, ℤ, length, take, drop}
use Rattle.std.proofs.Common.{sym, ap, ap₂, ◌∙◌, arith, length-take, length-drop, drop-drop}
use Rattle.std.proofs.Math.Option as O
use Rattle.std.proofs.Math.Nat.{zero-min, min-zero, suc-min-suc}
use Rattle.ranks.specs.Rest.{rest, Place, at, ended, is_ended, is_nil, place_of, left_at}
use Rattle.ranks.proofs.Rest.{ended-nil, left-place}
use Rattle.tray_model.specs.Session.{World, Taking, refuse, accept, Call, taking, handOut, rewind, clear, full, space, Session, early, walking, Outcome, begun, given, step, answers}
use Rattle.tray_model.specs.Rules.{is_zero, Known, Ruling, begin, fresh, take_rule, deal, rule, ruled}

take_min : (n : ℕ) (l : List ℕ) → take (min n (length l)) l ≡ take n l
take_min zero l = rw zero-min
take_min (suc n) [] = rw min-zero
take_min (suc n) (x ∷ l) = rw (suc-min-suc n (length l)) (ap (λ (t : List ℕ). x ∷ t) (take_min n l))

drop_min : (n : ℕ) (l : List ℕ) → drop (min n (length l)) l ≡ drop n l
drop_min zero l = rw zero-min
drop_min (suc n) [] = rw min-zero
drop_min (suc n) (x ∷ l) = rw (suc-min-suc n (length l)) (drop_min n l)

nil_length : (l : List ℕ) → is_nil l ≡ is_zero (length l)
nil_length [] = refl
nil_length (x ∷ l) = refl

module _ (W : World) where
  open W use {Tray, takes, test, top}

  -- a session and a tally that stand at the same point of the same tray
  data Follows : Session W → Known W → Type 0 where
    soon : Follows early (begin W)
    along : (t : Tray) (w : Place) (n : ℕ) → n ≤ length (full W t) → left_at (test t) top w ≡ drop n (full W t)
        → Follows (walking t w) (record { tray = O.some t; total = n; end = is_ended w })

  -- an outcome that is what the rules give
  record Meets (o : Outcome W) (r : Ruling W) : Type 0 where
    same : o.0 ≡ r.0
    next : Follows o.1 r.1

  anew : (t : Tray) → Follows (walking t (at 0)) (fresh W t)
  anew t = along t (at 0) 0 (omega arith) refl

  begins : {s : Session W} {y : Known W} → Follows s y → (x : Taking Tray) → Meets (begun W s x) (take_rule W y x)
  begins f (refuse r) = record { same = refl; next = f }
  begins f (accept n t) = record { same = refl; next = anew t }

  gives : (t : Tray) (l : List ℤ) (left : List ℕ) (n : ℕ) → n ≤ length (full W t) → left ≡ drop n (full W t)
      → left_at (test t) top (place_of (drop (space W l) left)) ≡ drop (space W l) left
      → Meets (given W t l left) (deal W t n l (min (space W l) (length (full W t) - n)))
  gives t l left n h e keeps =
      let F = full W t in
      let k = space W l in
      let m = min k (length F - n) in
      let size : length left ≡ length F - n = ap length e ∙ length-drop n F in
      let count : length (take k left) ≡ m = length-take k left ∙ ap (min k) size in
      let points : take m (drop n F) ≡ take k left = rw (← size, ← e) (take_min k left) in
      let behind : drop (n + m) F ≡ drop k left = sym (drop-drop m n F) ∙ rw (← size, ← e) (drop_min k left) in
      let less : length (drop k left) ≡ length F - (n + m) = length-drop k left ∙ omega arith in
      let end : is_nil (drop k left) ≡ is_zero (length F - (n + m)) = nil_length (drop k left) ∙ ap is_zero less in
      let f = along t (place_of (drop k left)) (n + m) (omega arith) (keeps ∙ sym behind) in
      record { same = cc; next = rw (ended-nil (drop k left) ∙ end) at f }

  agrees : (c : Call W) {s : Session W} {y : Known W} → Follows s y → Meets (step W c s) (rule W c y)
  agrees clear f = record { same = refl; next = soon }
  agrees (taking x) f = begins f (takes x)
  agrees (handOut l) soon = record { same = refl; next = soon }
  agrees rewind soon = record { same = refl; next = soon }
  agrees (handOut l) (along t ended n h e) = record { same = refl; next = along t ended n h e }
  agrees (handOut l) (along t (at p) n h e) = gives t l (rest (test t) top p) n h e (left-place (test t) top (space W l) p)
  agrees rewind (along t w n h e) = record { same = refl; next = anew t }

  all-agree : (cs : List (Call W)) {s : Session W} {y : Known W} → Follows s y → answers W s cs ≡ ruled W y cs
  all-agree [] f = refl
  all-agree (c ∷ cs) f = let a = agrees c f in ap₂ ◌∷◌ a.same (all-agree cs a.next)

  -- every answer is that of the rules, from the calls' arguments alone
  pub whole-list : (cs : List (Call W)) → answers W early cs ≡ ruled W (begin W) cs
  whole-list cs = all-agree cs soon
