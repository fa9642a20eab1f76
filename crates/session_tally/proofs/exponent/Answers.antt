-- `exponent` meets its contract. Assumes nothing.
use Rattle.std.proofs.Common.{◌≡◌, Bool, ℕ, ℤ, pos, ◌-ℤ◌, ◌-◌, of_z, to_z, w32, FitsSigned, ap, sym, ◌∙◌, inl, inr, rules}
use Rattle.std.proofs.Math.IntN.{+ℤ_idr}
use mir.Facts.{to_z-of_z}
use Rattle.integers.specs.Parity.{even}
use Rattle.ring.specs.Point.Exponent.{exponent_of}
use Rattle.session_tally.specs.Odd.{small-exponent, low-exponent, half-exponent}
use Rattle.session_tally.proofs.exponent.Goals as goal
use Rattle.session_tally.proofs.exponent.Goals.{else-agree-via-then-agree+else-agree-2, else-agree-via-else-agree}

-- what a test answers
even-by : (x : ℤ) (b t : Bool) → FitsSigned w32 x → b ≡ even (to_z w32 (of_z w32 x) -ℤ pos 0) → b ≡ t → even x ≡ t
even-by x b t h e f = ap even (sym (+ℤ_idr x)) ∙ ap (λ (z : ℤ). even (z -ℤ pos 0)) (sym (to_z-of_z h)) ∙ sym e ∙ f

pub returns-then-k-lt2 : goal.returns-then-k-lt2
returns-then-k-lt2 c = small-exponent c.args.k c.args.v c.requires c.if-k-lt2.true

pub returns-then-agree-2 : goal.returns-then-agree-2
returns-then-agree-2 c =
    c.exponent_of.ensures ∙ ap (exponent_of (c.args.k - 2)) c.half.ensures
    ∙ half-exponent c.args.k c.args.v c.requires
    (even-by c.args.v.a _ _ (search rules) c.agree.ensures c.if-agree.true)
    (even-by c.args.v.b _ _ (search rules) c.agree-then-agree.ensures c.if-agree-2.true)
    c.if-k-lt2.false

pub returns : goal.returns
returns c =
    ap (λ (n : ℕ). n - 1) c.from.ensures
    ∙ low-exponent c.args.k c.args.v c.requires c.if-k-lt2.false (elim c.else-agree.branch [
      | else-agree-via-then-agree+else-agree-2 w ↦ inr (even-by c.args.v.b _ _ (search rules) w.agree-then-agree.ensures w.if-agree-2.false)
      | else-agree-via-else-agree w ↦ inl (even-by c.args.v.a _ _ (search rules) c.agree.ensures w.if-agree.false)
    ])
