-- The upper word carries the sign.
use Rattle.std.proofs.Common.{◌≡◌, ℕ, ◌+◌, ◌-◌, ◌*◌, ◌^◌, ◌<◌, ◌≤◌, ℤ, pos, negsuc, ◌+ℤ◌, ◌*ℤ◌, ◌∙◌, ap, arith, to_z, of_z, to_z-of_z, w64, suc, le-ltb, Fits, rules}
use mir.Syntax.{w128}
use mir.Val.{SFits}
use mir.Facts.{to_z_pos}
use Rattle.integers.specs.Difference.{negsuc-⊖, ⊖-eq}
use Rattle.integers_wide.specs.Meaning.{size_of, meaning}
use Rattle.integers_wide.specs.lemmas.Laws.{signed-upper}
use Rattle.integers_wide.proofs.Wide.of_number.Goals as goal

high : (h : ℕ) → 2 ^ 63 ≤ h → to_z w64 h ≡ negsuc (2 ^ 64 - suc h)
high h k = rw (le-ltb h (2 ^ 63) k)

-- the number that has the bits of two words
of_words : (z : ℤ) (h l : ℕ) → SFits w128 z → h < 2 ^ 64 → l < 2 ^ 64 → h * 18446744073709551616 + l ≡ of_z w128 z → to_z w64 h *ℤ pos 18446744073709551616 +ℤ pos l ≡ z
of_words (pos n) h l f p q e =
    let k : h < 2 ^ 63 = omega (arith, f.sfits) in
    rw (to_z_pos w64 k) (ap pos e)
of_words (negsuc n) h l f p q e =
    let k : 2 ^ 63 ≤ h = omega (arith, f.sfits) in
    rw (high h k, signed-upper 18446744073709551616 (2 ^ 64 - suc h) l, negsuc-⊖ n) (⊖-eq l (suc (2 ^ 64 - suc h) * 18446744073709551616) 0 (suc n) (omega (arith, f.sfits)))

pub returns : goal.returns
unfolding meaning size_of
returns c =
    let p : Fits w64 c.of-bits.result.hi = search rules in
    let q : Fits w64 c.of-bits.result.lo = search rules in
    let f : SFits w64 c.cast_signed.result = record { sfits = c.cast_signed.type_inv } in
    let e : c.of-bits.result.hi * 18446744073709551616 + c.of-bits.result.lo ≡ of_z w128 c.args.z =
    c.of-bits.ensures.size ∙ c.cast_unsigned.ensures ∙ ap (of_z w128) (to_z-of_z c.ranges.z) in
    rw (to_z-of_z f, c.cast_signed.ensures) (of_words c.args.z c.of-bits.result.hi c.of-bits.result.lo c.ranges.z p.fits q.fits e)
