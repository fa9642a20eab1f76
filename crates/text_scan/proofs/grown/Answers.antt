-- Ten times the value and the digit, or both above the cap.
use Rattle.std.proofs.Common.{◌≡◌, ℕ, ◌+◌, ◌-◌, ◌*◌, ◌^◌, ◌<◌, min, ap, Fits, w64, arith, rules}
use lib.Dec.{lit≤}
use Rattle.integers_wide.specs.Meaning.{size_of, word}
use Rattle.text_scan.proofs.Saturation.{both-capped}
use Rattle.text_scan.proofs.Words.{far, carries, ten_plain, ten_carry}
use Rattle.text_scan.proofs.grown.Goals as goal

pub returns-then-value-gt1152921504606846975 : goal.returns-then-value-gt1152921504606846975
unfolding size_of
returns-then-value-gt1152921504606846975 c =
    both-capped (2 ^ 127 + 1) (18446744073709551615 * word + 18446744073709551615) _ (lit≤ tt) (far (2 ^ 127 + 1) word (2 ^ 60) c.args.value.hi _ _ (lit≤ tt) c.if-value-gt1152921504606846975.true)

pub overflow_add-hi : goal.overflow_add-hi
unfolding size_of
overflow_add-hi c =
    let f : Fits w64 c.args.value.lo = search rules in
    let k : c.product-low.result.hi < 10 = carries word c.args.value.hi c.args.value.lo 0 _ _ c.product-low.ensures f.fits in
    search rules

pub overflow_add-result-else-low-room : goal.overflow_add-result-else-low-room
unfolding size_of
overflow_add-result-else-low-room c =
    let f : Fits w64 c.args.value.lo = search rules in
    let k : c.product-low.result.hi < 10 = carries word c.args.value.hi c.args.value.lo 0 _ _ c.product-low.ensures f.fits in
    search rules

pub returns-then-low-room : goal.returns-then-low-room
unfolding size_of
returns-then-low-room c =
    rw c.from-d.ensures (ap (λ (x : ℕ). min x (2 ^ 127 + 1)) (ten_plain word c.args.value.hi c.args.value.lo (c.args.b - 48) _ _ c.product-low.ensures))

pub returns-else-low-room : goal.returns-else-low-room
unfolding size_of
returns-else-low-room c =
    let e = c.from-d.ensures in
    ap (λ (x : ℕ). min x (2 ^ 127 + 1)) (ten_carry word c.args.value.hi c.args.value.lo (c.args.b - 48) _ _ c.product-low.ensures _ (omega arith))
