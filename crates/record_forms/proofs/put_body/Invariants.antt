-- The fields ahead, put after what is there, are all of them; and they take their numbers.
use Rattle.std.proofs.Common.{◌≡◌, true, length, drop}
use Rattle.record_forms.specs.Forms.{fields_of, takes_all, body_bytes}
use Rattle.record_forms.specs.Laid.{Slate, laid}
use Rattle.record_forms.proofs.put_body.Given as goal

abbrev pub invariant-loop-f : goal.invariant-loop-f
invariant-loop-f l =
    (takes_all (drop (length l.yielded) (fields_of l.fn.kind)) (drop (length l.yielded) l.numbers) ≡ true)
    × (◌≡◌ {A = Slate} (laid (l.out, l.a) (body_bytes (drop (length l.yielded) (fields_of l.fn.kind)) (drop (length l.yielded) l.numbers))) (laid (l.initial.out, l.initial.a) (body_bytes (fields_of l.fn.kind) l.numbers)))
