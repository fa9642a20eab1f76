-- What is narrow is read back from its bits, and stays narrow over ω.
use Rattle.std.specs.Prelude.{◌≡◌, Bool, true, false, cond, suc, ◌/◌, ◌^◌, ◌≤◌, ◌<◌, ℤ, pos, negsuc, nat_abs, ◌-ℤ◌}
use Rattle.std.proofs.Common.{arith, to_z, of_z, to_z-of_z}
use Rattle.std.specs.Int.{w32}
use Rattle.integers.specs.Parity.{half}
use Rattle.integers.specs.lemmas.Size.{size→fits, size-neg, size--}
use Rattle.ring.specs.declared.Point.{Point}
use Rattle.ring.specs.Point.{◌-ω◌}
use Rattle.ring.specs.Point.Divide.{halves}
use Rattle.gate_theory.specs.Points.{back, halved, minus_parts}
use Rattle.gate_theory.specs.declared.State.{State}
use Rattle.gate_theory.specs.State.{Narrow}

pub read : (z : ℤ) → nat_abs z < 2 ^ 28 → to_z w32 (of_z w32 z) ≡ z
read z h = to_z-of_z {w = w32} (size→fits (omega arith))

pub narrow_back : (v : Point) → Narrow v → Narrow (back v)
narrow_back v h = record { a = omega (arith, size-neg v.d, h.d); b = h.a; c = h.b; d = h.c }

pub narrow_unturn : (b : Bool) (t : Point) → Narrow t → Narrow (cond b t (back (back t)))
narrow_unturn true t h = h
narrow_unturn false t h = narrow_back (back t) (narrow_back t h)

-- ---- halves are not larger
half-size : (z : ℤ) → nat_abs (half z) ≤ nat_abs z
half-size (pos n) = omega arith
half-size (negsuc n) = omega (arith, size-neg (pos (suc n / 2)))

pub less-halved : (u z : Point) → Narrow u → Narrow z → nat_abs (halved (u -ω z)).d < 2 ^ 30
less-halved u z g h = rw (minus_parts u z) (omega (arith, half-size (u.d -ℤ z.d), size-- u.d z.d, g.d, h.d))

pub less-halves : (u z : Point) → Narrow u → Narrow z → nat_abs (halves (u -ω z)).d < 2 ^ 30
less-halves u z g h = rw (minus_parts u z) (omega (arith, half-size (u.c -ℤ z.c -ℤ (u.a -ℤ z.a)), size-- (u.c -ℤ z.c) (u.a -ℤ z.a), size-- u.c z.c, size-- u.a z.a, g.a, h.a, g.c, h.c))

pub state : {s r : State} → s.k ≡ r.k → s.u ≡ r.u → s.t ≡ r.t → s.l ≡ r.l → s ≡ r
state e f g h = λ i. record { k = e i; u = f i; t = g i; l = h i }

pub shift_small : (b : Bool) → cond b 3 1 ≤ 3
shift_small true = omega arith
shift_small false = omega arith
