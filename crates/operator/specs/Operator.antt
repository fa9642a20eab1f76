-- Grid operators: SPEC, "Operators"; the Note, Lemma 3.8 and equations 45 to 48.
use Rattle.operator.specs.declared.Refusal.{Refusal}
use Rattle.std.specs.Prelude.{◌≡◌, Bool, cond, ◌&&◌, ◌||◌, ℕ, ℤ, pos, negsuc, neg_ℤ, ◌+ℤ◌, ◌-ℤ◌, ◌*ℤ◌, Result, Ok, Err}
use Rattle.std.proofs.Common.{ap}
use Rattle.std.specs.Int.Signed.{le_z}
use Rattle.refusals.specs.Refusals.{beyond_range, odd_parity, not_special}
use Rattle.integers.specs.Parity.{even, half}
use Rattle.ring.specs.declared.Point.{Point}
use Rattle.operator.specs.declared.Operator.{Operator}
use Rattle.operator.specs.declared.WidePoint.{WidePoint}
use Rattle.operator.specs.declared.Refusal.TheVariants.{OutOfRange, OddParity, NotSpecial}

-- the number of each case (SPEC, "Refusals"): 0 is accepted
abbrev pub refusal : Result Unit Refusal → ℕ
refusal (Ok tt) = 0
refusal (Err OutOfRange) = beyond_range
refusal (Err OddParity) = odd_parity
refusal (Err NotSpecial) = not_special

-- the identity: G(1) = 1 and G(i) = i
abbrev pub identity : Operator
identity = record { a = pos 0; b = pos 0; c = pos 0; d = pos 1; ai = pos 0; bi = pos 1; ci = pos 0; di = pos 0 }

-- SPEC, "Records": eight signed 16-bit numbers from −100 to 100
abbrev pub within : ℤ → ℤ → Bool
within m z = le_z (neg_ℤ m) z && le_z z m

abbrev pub all_within : ℤ → Operator → Bool
all_within m g =
    within m g.a && within m g.b && (within m g.c && within m g.d)
    && (within m g.ai && within m g.bi && (within m g.ci && within m g.di))

unfoldable pub in_range : Operator → Bool
in_range g = all_within (pos 100) g

-- a grid operator: a + c + a' + c' and b + d + b' + d' are even
unfoldable pub even_parity : Operator → Bool
even_parity g = even (g.a +ℤ g.c +ℤ g.ai +ℤ g.ci) && even (g.b +ℤ g.d +ℤ g.bi +ℤ g.di)

-- the two parts of the determinant: db' − d'b + ca' − ac', and d(c' + a') + b'(c − a) − d'(c + a) − b(c' − a')
unfoldable pub det_whole : Operator → ℤ
det_whole g = g.d *ℤ g.bi -ℤ g.di *ℤ g.b +ℤ g.c *ℤ g.ai -ℤ g.a *ℤ g.ci

unfoldable pub det_root : Operator → ℤ
det_root g = g.d *ℤ (g.ci +ℤ g.ai) +ℤ g.bi *ℤ (g.c -ℤ g.a) -ℤ g.di *ℤ (g.c +ℤ g.a) -ℤ g.b *ℤ (g.ci -ℤ g.ai)

abbrev pub equal_z : ℤ → ℤ → Bool
equal_z x y = le_z x y && le_z y x

-- special: the first is 1 or −1 and the second is 0
unfoldable pub special : Operator → Bool
special g = (equal_z (det_whole g) (pos 1) || equal_z (det_whole g) (negsuc 0)) && equal_z (det_root g) (pos 0)

-- refusals in the order of SPEC, "Operators": 4, then 6 for an odd parity sum, then 7 for an even one that isn't special
unfoldable pub check_of : Operator → Result Unit Refusal
check_of g = cond (in_range g) (cond (even_parity g) (cond (special g) (Ok tt) (Err NotSpecial)) (Err OddParity)) (Err OutOfRange)

-- the number that the test of an operator comes to
abbrev pub refusal_of : Operator → ℕ
refusal_of g = refusal (check_of g)

-- an answer of the test: the case, and its number
pub record Tests (g : Operator) (r : Result Unit Refusal) : Type 0 where
  pub check : r ≡ check_of g
  pub value : refusal r ≡ refusal_of g

pub tests : {g : Operator} {r : Result Unit Refusal} → r ≡ check_of g → Tests g r
tests e = record { check = e; value = ap refusal e }

-- a point of four 64-bit numbers as a point
abbrev pub wide : WidePoint → Point
wide w = record { a = w.a; b = w.b; c = w.c; d = w.d }

-- Gv: equations 45 to 48. The halves are exact for a grid operator
unfoldable pub image_of : Operator → Point → Point
image_of g v = record {
  a = g.a *ℤ v.d +ℤ g.ai *ℤ v.b +ℤ half (g.bi -ℤ g.di +ℤ g.b -ℤ g.d) *ℤ v.c +ℤ half (g.bi -ℤ g.di -ℤ g.b +ℤ g.d) *ℤ v.a;
  b = g.b *ℤ v.d +ℤ g.bi *ℤ v.b +ℤ half (g.ci +ℤ g.ai +ℤ g.c +ℤ g.a) *ℤ v.c +ℤ half (g.ci +ℤ g.ai -ℤ g.c -ℤ g.a) *ℤ v.a;
  c = g.c *ℤ v.d +ℤ g.ci *ℤ v.b +ℤ half (g.bi +ℤ g.di +ℤ g.b +ℤ g.d) *ℤ v.c +ℤ half (g.bi +ℤ g.di -ℤ g.b -ℤ g.d) *ℤ v.a;
  d = g.d *ℤ v.d +ℤ g.di *ℤ v.b +ℤ half (g.ci -ℤ g.ai +ℤ g.c -ℤ g.a) *ℤ v.c +ℤ half (g.ci -ℤ g.ai -ℤ g.c +ℤ g.a) *ℤ v.a;
}

pub ext : {g h : Operator} → g.a ≡ h.a → g.b ≡ h.b → g.c ≡ h.c → g.d ≡ h.d → g.ai ≡ h.ai → g.bi ≡ h.bi → g.ci ≡ h.ci → g.di ≡ h.di → g ≡ h
ext ea eb ec ed eai ebi eci edi = λ i. record { a = ea i; b = eb i; c = ec i; d = ed i; ai = eai i; bi = ebi i; ci = eci i; di = edi i }
