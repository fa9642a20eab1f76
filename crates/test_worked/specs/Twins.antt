-- Tests that compute, equal to definitions that are shut: the exponent, whether a job lists a point, and the image question.
use Rattle.operator.specs.declared.Refusal.{Refusal}
use Rattle.std.specs.Prelude.{◌≡◌, refl, Bool, false, ◌&&◌, ◌||◌, cond, ℕ, zero, suc, ◌-◌, eqb, ◌-ℤ◌, Option, Some, None, Result, Ok, Err}
use Rattle.std.proofs.Common.{sym, ◌∙◌, ap, ap₂, arith}
use Rattle.integers.specs.Parity.{even}
use Rattle.ring.specs.declared.Point.{Point}
use Rattle.ring.specs.Point.Divide.{halves, divide_root2, divide_is}
use Rattle.ring.specs.Point.Exponent.{next, exponent_of, exponent_zero, exponent_whole, exponent_not}
use Rattle.region.specs.declared.Job.{Job}
use Rattle.region.specs.Parts.{solves_parts, solves-is}
use Rattle.region.specs.Selection.{is_new, listed}
use Rattle.operator.specs.declared.Operator.{Operator}
use Rattle.operator.specs.Operator.{image_of}
use Rattle.operator.specs.Inverse.{inverse_of}
use Rattle.session_stages.specs.World.{undone, is_image}

abbrev pub exponent_by : ℕ → Point → ℕ
exponent_by zero v = 0
exponent_by (suc k) v = next (suc k) (exponent_by k) (cond (even (v.a -ℤ v.c) && even (v.b -ℤ v.d)) (Some (halves v)) None)

pub exponent_by_lem : (k : ℕ) (v : Point) → exponent_of k v ≡ exponent_by k v
exponent_by_lem zero v = exponent_zero v
exponent_by_lem (suc k) v = go (cond (even (v.a -ℤ v.c) && even (v.b -ℤ v.d)) (Some (halves v)) None) (divide_is v) (exponent_by_lem k)
  where
    go : (q : Option Point) → divide_root2 v ≡ q → ((z : Point) → exponent_of k z ≡ exponent_by k z) → exponent_of (suc k) v ≡ next (suc k) (exponent_by k) q
    go (Some z) e less =
        let f : suc k - 1 ≡ k = omega arith in
        sym (exponent_whole (suc k) v z (omega arith) e) ∙ ap (λ (n : ℕ). exponent_of n z) f ∙ less z
    go None e less = sym (exponent_not (suc k) v (omega arith) e)

abbrev pub listed_under : Job → Point → Bool
listed_under j v = (j.all || eqb (exponent_by j.k v) j.k) && solves_parts j v

pub listed_by : (j : Job) (v : Point) → listed j v ≡ listed_under j v
unfolding listed is_new
listed_by j v = ap₂ (λ (e : ℕ) (b : Bool). (j.all || eqb e j.k) && b) (exponent_by_lem j.k v) (solves-is j v)

abbrev pub undone_by : Job → Result Operator Refusal → Point → Bool
undone_by j (Ok h) w = listed_under j (image_of h w)
undone_by j (Err c) w = false

abbrev pub is_image_by : Job → Operator → Point → Bool
is_image_by j g w = undone_by j (inverse_of g) w

pub image-by : (j : Job) (g : Operator) (w : Point) → is_image j g w ≡ is_image_by j g w
unfolding is_image
image-by j g w = go (inverse_of g)
  where
    go : (i : Result Operator Refusal) → undone j i w ≡ undone_by j i w
    go (Ok h) = listed_by j (image_of h w)
    go (Err c) = refl
