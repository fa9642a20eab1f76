-- w has the bytes of v that are left.
use Rattle.std.proofs.Common.{◌≡◌, ◌-◌, ◌^◌, ltb}
use Rattle.record_forms.proofs.below.Given as goal

abbrev pub invariant-loop : goal.invariant-loop
invariant-loop l = ltb l.w (256 ^ (l.size - l.counter)) ≡ ltb l.v (256 ^ l.size)
