-- The starred points of SPEC, "Worked points", and the counts of "Other entry": one table, one test that computes over its rows, and one law that turns the test into
-- each row's claim. A claim is in the terms of the definitions that the contracts cite.
use Rattle.std.specs.Prelude.{◌≡◌, refl, Bool, true, false, ◌&&◌, List, [], ◌∷◌, ◌*◌, T, eqb, ℤ, nat_abs}
use Rattle.std.proofs.Common.{◌∙◌, ap, eqb→eq}
use Rattle.std.specs.Int.Signed.{non_neg}
use Rattle.ring.specs.Sign.{sign_of_is, by_signs, number}
use Rattle.region.specs.Region.{accepted, check_of as regionCheck, in_range_r, in_range_e}
use Rattle.region.specs.Reach.{reach_of}
use Rattle.region.specs.Cut.{sgn}
use Rattle.ranks.specs.Digits.{pair}
use Rattle.ranks.specs.Rank.{rank}
use Rattle.ring_points.specs.Digits.{span}
use Rattle.walk_list.specs.Walk.{full as listing}
use Rattle.entry_equation.specs.Equation.{squares, cross, completes}
use Rattle.line.specs.Line.{in_range}
use Rattle.line.specs.lemmas.Worked as example
use Rattle.operator.specs.Operator as op
use Rattle.operator.specs.Operator.{refusal, check_of, even_parity, special, det_whole, det_root, image_of}
use Rattle.operator.specs.Inverse.{adjugate, times, inverse_of}
use Rattle.test_worked.specs.Bounded.{both_left, both_right}
use Rattle.test_worked.specs.Listed.{same, same-is, equal_point, same_point, whole_list, whole-list, whole_entry, whole-entry}
use Rattle.test_worked.specs.Twins.{exponent_by, exponent_by_lem, is_image_by, image-by}
use Rattle.test_worked.specs.Table.{Row, sign, operator, image, line, job, entry, exponent, asked, Claim, All, none, more, table}

-- ---- the test, on what computes
abbrev equal_bool : Bool → Bool → Bool
equal_bool true b = b
equal_bool false true = false
equal_bool false false = true

abbrev same_list : List ℤ → List ℤ → Bool
same_list [] [] = true
same_list [] (y ∷ l) = false
same_list (x ∷ k) [] = false
same_list (x ∷ k) (y ∷ l) = same x y && same_list k l

abbrev right : Row → Bool
right (sign p q s) = same (number (by_signs (non_neg p) (non_neg q) (nat_abs p * nat_abs p) (2 * (nat_abs q * nat_abs q)))) s
right (operator g n) = eqb (refusal (check_of g)) n
right (image g v w) = equal_point (image_of g v) w
right (line h l) = example.boxed h && same_list (example.listing h) l
right (job j m ps) = whole_list j m ps
right (entry k v ps) = whole_entry k v ps
right (exponent k v e) = eqb (exponent_by k v) e
right (asked j g w b) = equal_bool (is_image_by j g w) b

abbrev every : List Row → Bool
every [] = true
every (r ∷ rs) = right r && every rs

-- ---- the law
same_bool : (a b : Bool) → T (equal_bool a b) → a ≡ b
same_bool true true t = refl
same_bool true false t = absurd t
same_bool false true t = absurd t
same_bool false false t = refl

same-list : (k l : List ℤ) → T (same_list k l) → k ≡ l
same-list [] [] t = refl
same-list [] (y ∷ l) t = absurd t
same-list (x ∷ k) [] t = absurd t
same-list (x ∷ k) (y ∷ l) t = ap (λ (z : ℤ). z ∷ k) (same-is x y (both_left (same x y) (same_list k l) t)) ∙ ap (λ (m : List ℤ). y ∷ m) (same-list k l (both_right (same x y) (same_list k l) t))

is_true : (b : Bool) → T b → b ≡ true
is_true true t = refl
is_true false t = absurd t

claim : (r : Row) → T (right r) → Claim r
claim (sign p q s) t = ap number (sign_of_is p q) ∙ same-is _ s t
claim (operator g n) t = eqb→eq (refusal (check_of g)) n t
claim (image g v w) t = same_point (image_of g v) w t
claim (line h l) t =
    example.worked h (is_true (example.boxed h) (both_left (example.boxed h) (same_list (example.listing h) l) t)) ∙ same-list (example.listing h) l (both_right (example.boxed h) (same_list (example.listing h) l) t)
claim (job j m ps) t = whole-list j m ps t
claim (entry k v ps) t = whole-entry k v ps t
claim (exponent k v e) t = exponent_by_lem k v ∙ eqb→eq (exponent_by k v) e t
claim (asked j g w b) t = image-by j g w ∙ same_bool (is_image_by j g w) b t

all : (rs : List Row) → T (every rs) → All rs
all [] t = none
all (r ∷ rs) t = more (claim r (both_left (right r) (every rs) t)) (all rs (both_right (right r) (every rs) t))

pub worked : All table
unfolding check_of op.in_range even_parity special det_whole det_root image_of inverse_of adjugate times example.boxed example.listing in_range pair rank span accepted regionCheck in_range_r in_range_e reach_of sgn completes squares cross
worked = all table tt
