use native.Mathlib.Omega.{arith}
use Rattle.std.specs.Prelude.{length}
use Rattle.text_puts.specs.Puts.{puts-joined, puts-within}
use Rattle.list_input.specs.Load.{load_of}
use Rattle.pattern_text.specs.Pattern.{texts_for}
use Rattle.pattern.proofs.say.Goals as goal

pub print-requires : goal.print-requires
print-requires g c = puts-within c.output_buffer-out.result (texts_for (length c.args.bytes.now) (load_of c.args.bytes.now)) c.put-n.new.out c.put-n.result 363 (let e = c.output_buffer-out.ensures in omega arith) c.put-n.ensures

pub returns : goal.returns
returns g c = rw (puts-joined c.output_buffer-out.result (texts_for (length c.args.bytes.now) (load_of c.args.bytes.now)) c.put-n.new.out c.put-n.result 363 (let e = c.output_buffer-out.ensures in omega arith) c.put-n.ensures) at c.print.ensures
