-- The bytes that are left, put after those that are there, are all of them.
use Rattle.std.proofs.Common.{◌≡◌, ◌-◌, ◌^◌, ◌<◌}
use Rattle.record_forms.specs.Laid.{Slate, laid}
use Rattle.record_forms.proofs.Steps.{bytes_from}
use Rattle.record_forms.proofs.put_number.Given as goal

abbrev pub invariant-loop : goal.invariant-loop
invariant-loop l =
    (l.v < 256 ^ (l.end - l.counter))
    × (◌≡◌ {A = Slate} (laid (l.out, l.a) (bytes_from l.minus (l.end - l.counter) l.v)) (laid (l.initial.out, l.initial.a) (bytes_from l.minus (l.end - 0) l.initial.v)))
