-- The inverse of a special grid operator, and the composition of two operators: SPEC, "Operators"; the Note, equations 49 to 51.
use Rattle.operator.specs.declared.Refusal.{Refusal}
use Rattle.std.specs.Prelude.{◌≡◌, refl, ℕ, ℤ, neg_ℤ, ◌+ℤ◌, ◌-ℤ◌, ◌*ℤ◌, Result, Ok, Err}
use Rattle.std.proofs.Common.{◌∙◌, ap}
use Rattle.integers.specs.Parity.{half}
use Rattle.operator.specs.declared.Operator.{Operator}
use Rattle.ring.specs.declared.Point.{Point}
use Rattle.operator.specs.Operator.{refusal, check_of, refusal_of, det_whole, image_of}

-- the inverse for determinant 1: equations 50 and 51
unfoldable pub adjugate : Operator → Operator
adjugate g = record {
  a = half (neg_ℤ g.ci -ℤ g.ai -ℤ g.c -ℤ g.a);
  b = neg_ℤ g.b;
  c = half (g.ci +ℤ g.ai -ℤ g.c -ℤ g.a);
  d = g.bi;
  ai = half (g.ci -ℤ g.ai +ℤ g.c -ℤ g.a);
  bi = g.d;
  ci = half (neg_ℤ g.ci +ℤ g.ai +ℤ g.c -ℤ g.a);
  di = neg_ℤ g.di;
}

-- all eight numbers times k
unfoldable pub times : ℤ → Operator → Operator
times k g = record { a = k *ℤ g.a; b = k *ℤ g.b; c = k *ℤ g.c; d = k *ℤ g.d; ai = k *ℤ g.ai; bi = k *ℤ g.bi; ci = k *ℤ g.ci; di = k *ℤ g.di }

abbrev pub answer : Result Unit Refusal → Operator → Result Operator Refusal
answer (Ok _) h = Ok h
answer (Err why) h = Err why

-- the inverse of an operator that passes the test: for determinant −1 all is times −1, so all is times the determinant
unfoldable pub inverse_of : Operator → Result Operator Refusal
inverse_of g = answer (check_of g) (times (det_whole g) (adjugate g))

-- the number of each case (SPEC, "Refusals"): 0 for an inverse, else the refusal of the operator
abbrev pub number : Result Operator Refusal → ℕ
number (Ok h) = 0
number (Err why) = refusal (Err why)

-- an answer: the case, and its number, which is that of the operator's test
pub record Inverts (g : Operator) (r : Result Operator Refusal) : Type 0 where
  pub inverse : r ≡ inverse_of g
  pub value : number r ≡ refusal_of g

answer-number : (c : Result Unit Refusal) (h : Operator) → number (answer c h) ≡ refusal c
answer-number (Ok _) h = refl
answer-number (Err why) h = refl

pub inverts : {g : Operator} {r : Result Operator Refusal} → r ≡ inverse_of g → Inverts g r
unfolding inverse_of
inverts {g} e = record { inverse = e; value = ap number e ∙ answer-number (check_of g) (times (det_whole g) (adjugate g)) }

-- G(1) and G(i)
abbrev pub one : Operator → Point
one g = record { a = g.a; b = g.b; c = g.c; d = g.d }

abbrev pub im : Operator → Point
im g = record { a = g.ai; b = g.bi; c = g.ci; d = g.di }

-- the operator that sends 1 to v and i to w
abbrev pub sending : Point → Point → Operator
sending v w = record { a = v.a; b = v.b; c = v.c; d = v.d; ai = w.a; bi = w.b; ci = w.c; di = w.d }

-- G after H: what G makes of H(1) and H(i)
unfoldable pub composed_of : Operator → Operator → Operator
composed_of g h = sending (image_of g (one h)) (image_of g (im h))
