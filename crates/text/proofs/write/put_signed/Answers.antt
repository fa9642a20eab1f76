use Rattle.std.proofs.Common.{◌≡◌, nat_abs, to_z-of_z, rules}
use Rattle.text.proofs.Signs.{signed_decimal-neg, signed_decimal-not}
use Rattle.text.proofs.write.put_signed.Goals as goal

pub returns-then-n-lt0 : goal.returns-then-n-lt0
returns-then-n-lt0 c =
    let e : c.unsigned_abs-m.result ≡ nat_abs c.args.n = search rules in
    rw (signed_decimal-neg c.args.n (rw (to_z-of_z c.ranges.n) at c.if-n-lt0.true), ← e) c.put_negative.ensures

pub returns-else-n-lt0 : goal.returns-else-n-lt0
returns-else-n-lt0 c =
    let e : c.unsigned_abs-m.result ≡ nat_abs c.args.n = search rules in
    rw (signed_decimal-not c.args.n (rw (to_z-of_z c.ranges.n) at c.if-n-lt0.false), ← e) c.put_unsigned.ensures
