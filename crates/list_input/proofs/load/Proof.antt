-- `load` meets its contract. Assumes nothing.
use mathlib.Core.Path.{sym, ◌∙◌}
use borrow.Author.Rules.{rules}
use Rattle.list_input.specs.lemmas.Reading.{load-long, load-records}
use Rattle.list_input.proofs.load.Statement.{statement}
use Rattle.list_input.proofs.load.Tie as tie

returns : tie.Need-returns-then-bytes-gt65536
returns c = sym (load-long c.args.bytes.now c.if-bytes-gt65536.true)

records-requires : tie.Need-records-requires
records-requires c κs = search rules

returns-2 : tie.Need-returns
returns-2 c = c.records.ensures ∙ sym (load-records c.args.bytes.now c.if-bytes-gt65536.false)

pub load_spec : {M : Type 1} → statement M
load_spec = tie.close (tie.spec returns records-requires returns-2)
