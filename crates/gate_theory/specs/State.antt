-- States of the spelling, the step that takes a syllable HT or SHT off the front, and which states a word of r syllables is left for.
use Rattle.std.specs.Prelude.{◌≡◌, Bool, true, cond, ℕ, ◌+◌, ◌-◌, ◌*◌, ◌%◌, ◌^◌, ◌≤◌, ◌<◌, pos, nat_abs, ◌+ℤ◌}
use Rattle.ring.specs.declared.Point.{Point}
use Rattle.ring.specs.Point.{◌+ω◌, ◌-ω◌}
use Rattle.ring.specs.Point.Divide.{halves}
use Rattle.gate_theory.specs.Bits.{odd, side, none, plain, bare}
use Rattle.gate_theory.specs.Points.{back, halved, N, F}
use Rattle.gate_theory.specs.Parities.{parities}
pub use Rattle.gate_theory.specs.declared.State.{State}

-- the equation of SPEC, "Other entry": |u|² + |t|² = 2^k, in whole numbers
pub record Equation (k : ℕ) (u t : Point) : Type 0 where
  pub squares : N u +ℤ N t ≡ pos (2 ^ k)
  pub crosses : F u +ℤ F t ≡ pos 0

-- a state stands for the matrix with rows (u, −ω^l t†) and (t, ω^l u†), over √2^k

-- no T in front
abbrev pub is_plain : State → Bool
is_plain s = plain (parities s.u) (parities s.t)

-- no S in front: HT, else SHT
abbrev pub is_bare : State → Bool
is_bare s = bare (parities s.u) (parities s.t)

-- S taken off: t, or i⁻¹ t
abbrev pub unturn : State → Point
unturn s = cond (is_bare s) s.t (back (back s.t))

abbrev pub plus : State → Point
plus s = s.u +ω unturn s

abbrev pub less : State → Point
less s = s.u -ω unturn s

-- H and T taken off; what is all even is halved, the rest is divided by √2
unfoldable pub next : State → State
next s =
    cond (none (parities (plus s)))
    (record { k = s.k - 1; u = halved (plus s); t = back (halved (less s)); l = s.l + cond (is_bare s) 3 1 })
    (record { k = s.k; u = halves (plus s); t = back (halves (less s)); l = s.l + cond (is_bare s) 3 1 })

-- r syllables are left
pub data Stage (r : ℕ) (s : State) : Type 0 where
  last : s.k ≡ 0 → s.l % 2 ≡ 0 → r ≡ 0 → Stage r s
  odds : 1 ≤ s.k → odd (parities s.u) ≡ true → is_plain s ≡ true → r + 2 ≡ 2 * s.k + s.l % 2 → Stage r s
  sides : 2 ≤ s.k → side (parities s.u) ≡ true → is_plain s ≡ true → r + 3 ≡ 2 * s.k + (s.l + 1) % 2 → Stage r s

pub record Ready (r : ℕ) (s : State) : Type 0 where
  pub equation : Equation s.k s.u s.t
  pub stage : Stage r s

-- what the code asks of a point, so that sums fit
pub record Narrow (v : Point) : Type 0 where
  pub a : nat_abs v.a < 2 ^ 28
  pub b : nat_abs v.b < 2 ^ 28
  pub c : nat_abs v.c < 2 ^ 28
  pub d : nat_abs v.d < 2 ^ 28
