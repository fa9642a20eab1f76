-- One page of lines and what is left after it: the lines joined are the lines of what was left before, and the number counted stays below 2^128.
use Rattle.std.specs.Prelude.{◌≡◌, refl, not, cond, List, [], ◌∷◌, ◌++◌, ℕ, ◌+◌, ◌^◌, ◌≤◌, ◌<◌, length, take, drop}
use Rattle.std.proofs.Common.{sym, ap, ap₂, subst, ◌∙◌, append_assoc, append-nil, add_assoc, arith, length-append, length-drop, take-append-drop}
use Rattle.ranks.specs.Rest.{at, is_nil, place_of, rest, left_at}
use Rattle.ranks.specs.Rank.{top}
use Rattle.cuts.specs.Digits.{span}
use Rattle.region.specs.declared.Job.{Job}
use Rattle.operator.specs.declared.Operator.{Operator}
use Rattle.walk_list.specs.Walk.{listed_at}
use Rattle.session_model.specs.Session.{walking}
use Rattle.integers_wide.specs.lemmas.Wrapped.{wrapped_same}
use Rattle.list_lines.specs.Lines.{lines_of, end_line}
use Rattle.list_output.specs.Output.{list_lines}
use Rattle.list_states.specs.State.{State, long, refusal, list, last, done}
use Rattle.list_output.specs.Pieces.{Part, kept, left_of, most, rest_of}

-- ---- lines of two lists
pub lines_append : (k : ℕ) (a b : List ℕ) → list_lines k (a ++ b) ≡ list_lines k a ++ list_lines k b
unfolding lines_of
lines_append k [] b = refl
lines_append k (r ∷ a) b = rw (lines_append k a b, append_assoc)

-- what is counted and what is left stay below 2^128 together
abbrev pub Small : State → Type 0
Small long = Unit {0}
Small (refusal r p) = Unit {0}
Small (list m t) = t + length (left_of m) < 2 ^ 128
Small (last t) = Unit {0}
Small done = Unit {0}

pub record Goes (s : State) (p : Part) : Type 0 where
  pub joined : p.text ++ rest_of p.next ≡ rest_of s
  pub small : Small p.next

below : (n m k t : ℕ) → n + m ≡ k → k < t → n < t
below n m k t e h = omega arith

module _ (k t room : ℕ) (l : List ℕ) (h : t + length l < 2 ^ 128) where
  abbrev count : ℕ
  count = length (take room l)

  parts : take room l ++ drop room l ≡ l
  parts = take-append-drop room l

  lengths : t + count + length (drop room l) ≡ t + length l
  lengths = add_assoc t (length (take room l)) (length (drop room l)) ∙ ap (◌+◌ t) (sym (length-append (take room l) (drop room l)) ∙ ap length parts)

  counted : kept (t + count) ≡ t + count
  counted = wrapped_same (t + count) (below _ (length (drop room l)) _ _ lengths h)

  abbrev text : List ℕ
  text = list_lines k (take room l)

  -- a page after which nothing is left, and one after which d is
  page-last : drop room l ≡ [] → text ++ end_line (kept (t + count)) ≡ list_lines k l ++ end_line (t + length l)
  page-last e =
      let all : take room l ≡ l = sym (append-nil (take room l)) ∙ ap (λ (d : List ℕ). take room l ++ d) (sym e) ∙ parts in
      rw counted (ap (λ (d : List ℕ). list_lines k d ++ end_line (t + length d)) all)

  page-more : text ++ (list_lines k (drop room l) ++ end_line (kept (t + count) + length (drop room l))) ≡ list_lines k l ++ end_line (t + length l)
  page-more =
      sym (append_assoc text (list_lines k (drop room l)) (end_line (kept (t + count) + length (drop room l))))
      ∙ ap₂ (λ (a : List ℕ) (n : ℕ). a ++ end_line n) (sym (lines_append k (take room l) (drop room l)) ∙ ap (list_lines k) parts) (ap (λ (n : ℕ). n + length (drop room l)) counted ∙ lengths)

  page-small : kept (t + count) + length (drop room l) < 2 ^ 128
  page-small = subst (λ (n : ℕ). n < 2 ^ 128) (sym (ap (λ (n : ℕ). n + length (drop room l)) counted ∙ lengths)) h

-- ---- each piece and what is left after it
module _ (j : Job) (p : ℕ) (o : Operator) (t room : ℕ) where
  abbrev pub here : List ℕ
  here = rest (listed_at j) (top span) p

  abbrev pub page : List ℕ → Part
  page d = record {
    text = list_lines j.k (take room here);
    next = cond (not (is_nil d)) (list (walking j (place_of d) o) (kept (t + length (take room here)))) (last (kept (t + length (take room here))));
  }

  pub page-goes : t + length here < 2 ^ 128 → (d : List ℕ) → drop room here ≡ d → left_at (listed_at j) (top span) (place_of d) ≡ d → Goes (list (walking j (at p) o) t) (page d)
  page-goes h [] e f = record { joined = page-last j.k t room here h e; small = tt }
  page-goes h (x ∷ d) e f =
      let n = kept (t + length (take room here)) in
      let q : drop room here ≡ left_at (listed_at j) (top span) (place_of (x ∷ d)) = e ∙ sym f in
      record {
        joined = subst (λ (z : List ℕ). list_lines j.k (take room here) ++ (list_lines j.k z ++ end_line (n + length z)) ≡ list_lines j.k here ++ end_line (t + length here)) q (page-more j.k t room here h);
        small = subst (λ (z : List ℕ). n + length z < 2 ^ 128) q (page-small j.k t room here h);
      }

  pub page-less : 1 ≤ room → (d : List ℕ) → drop room here ≡ d → left_at (listed_at j) (top span) (place_of d) ≡ d → most (page d).next < most (list (walking j (at p) o) t)
  page-less h [] e f = omega arith
  page-less h (x ∷ d) e f = let n = ap length e in let m = length-drop room here in rw f (omega arith)
