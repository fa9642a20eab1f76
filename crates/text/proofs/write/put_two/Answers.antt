-- The two bytes are the number's digits.
use Rattle.text.proofs.Digits.{decimal-two}
use Rattle.text.proofs.write.put_two.Goals as goal

pub returns : goal.returns
returns c = rw (decimal-two c.args.n c.requires.0 c.requires.1) c.put_bytes.ensures
