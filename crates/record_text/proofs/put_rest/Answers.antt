use Rattle.std.proofs.Common.{refl}
use Rattle.text_puts.specs.Puts.{puts}
use Rattle.record_text.proofs.put_rest.Goals as goal

pub returns-in-Unknown : goal.returns-in-Unknown
unfolding puts
returns-in-Unknown c = rw c.in-Unknown.is refl
