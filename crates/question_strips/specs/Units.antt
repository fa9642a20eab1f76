-- Units of Z[√2] whose conjugate is their inverse, the even powers of λ: the scaling of the line problem (the Note, Lemma 2.4), by the law that `line_rows` states.
use Rattle.std.specs.Prelude.{◌≡◌, refl, true, ◌^◌}
use Rattle.std.proofs.Common.{sym, ◌∙◌}
use Rattle.integers.specs.lemmas.Booleans.{both_true}
use Rattle.ring.specs.declared.RootTwo.{RootTwo}
use Rattle.ring.specs.RootTwo.{◌⊠◌, conj}
use Rattle.ring.specs.RootTwo.Sized.{Sized, conj_size}
use Rattle.line_rows.specs.declared.Band.{Band}
use Rattle.line_rows.specs.Steps.{solved, times_of, Even, even-conj, scale-even}
use Rattle.question_strips.specs.declared.Strips.{Strips}
use Rattle.question_strips.specs.Strips.{Meets}

-- an even power of λ = 1 + √2, of small parts
pub record Unit (u : RootTwo) : Type 0 where
  pub even : Even u
  pub size : Sized (2 ^ 17) (2 ^ 17) u

pub unit-conj : (u : RootTwo) → Unit u → Unit (conj u)
unit-conj u e = record { even = even-conj e.even; size = conj_size (2 ^ 17) u e.size }

-- ---- strips times a unit
abbrev pub scaled_of : Strips → RootTwo → Strips
scaled_of s u = record { first = times_of s.first u; second = times_of s.second (conj u) }

-- a number meets two strips if and only if it solves their line problem
meets-solved : (s t : Band) (z : RootTwo) → Meets s t z → solved s t z ≡ true
meets-solved s t z m = rw (m.lo, m.hi, m.conj-lo, m.conj-hi) refl

solved-meets : (s t : Band) (z : RootTwo) → solved s t z ≡ true → Meets s t z
solved-meets s t z e =
    let (f, g) = both_true _ _ e in
    let (a, b) = both_true _ _ f in
    let (c, d) = both_true _ _ g in
    record { lo = a; hi = b; conj-lo = c; conj-hi = d }

-- the law of the scaling (`line_rows`)
pub meets-times : (s : Strips) (u z : RootTwo) → Unit u → Meets s.first s.second z → Meets (scaled_of s u).first (scaled_of s u).second (u ⊠ z)
meets-times s u z e m = solved-meets _ _ (u ⊠ z) (sym (scale-even s.first s.second u z e.even) ∙ meets-solved s.first s.second z m)
