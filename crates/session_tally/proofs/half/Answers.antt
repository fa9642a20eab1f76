-- `half` meets its contract. Assumes nothing.
use Rattle.std.proofs.Common.{◌≡◌, ℤ, pos, ◌-ℤ◌, of_z, to_z, w32, FitsSigned, ap, ◌∙◌, rules}
use Rattle.std.proofs.Math.IntN.{+ℤ_idr}
use mir.Facts.{to_z-of_z}
use Rattle.integers.specs.Parity.{half}
use Rattle.ring.specs.Point.{ext}
use Rattle.session_tally.proofs.half.Goals as goal

half-of : (x y : ℤ) → FitsSigned w32 x → FitsSigned w32 y → y ≡ half (to_z w32 (of_z w32 x) -ℤ pos 0) → to_z w32 (of_z w32 y) ≡ half x
half-of x y h k e = to_z-of_z k ∙ e ∙ ap (λ (z : ℤ). half (z -ℤ pos 0)) (to_z-of_z h) ∙ ap half (+ℤ_idr x)

pub returns : goal.returns
returns c =
    ext
    (half-of c.args.v.a _ (search rules) (search rules) c.half_difference.ensures)
    (half-of c.args.v.b _ (search rules) (search rules) c.half_difference-2.ensures)
    (half-of c.args.v.c _ (search rules) (search rules) c.half_difference-3.ensures)
    (half-of c.args.v.d _ (search rules) (search rules) c.half_difference-4.ensures)
