-- `start` meets its contract. Assumes nothing.
use mathlib.Core.Path.{sym, ap, ◌∙◌}
use Rattle.integers_wide.specs.Meaning.{size_of}
use Rattle.list_input.specs.Load.{loaded_of}
use Rattle.list_states.specs.State.{begin}
use borrow.Author.Rules.{rules}
use Rattle.list_states.proofs.start.Statement.{statement}
use Rattle.list_states.proofs.start.Tie as tie

load-requires : tie.Need-load-input-requires
load-requires c κs = search rules

enum_told : tie.Need-enum_told-1
enum_told c = search rules

enum-known-input : tie.Need-enum_known-input
enum-known-input c = search rules

enum-known-input-2 : tie.Need-enum_known-input-in-Job-1
enum-known-input-2 c = search rules

returns : tie.Need-returns-in-TooLong
returns c = ap begin (ap loaded_of (sym c.in-TooLong.is) ∙ c.load-input.ensures)

returns-2 : tie.Need-returns-in-Refused
returns-2 c = ap begin (ap loaded_of (sym c.in-Refused.is) ∙ c.load-input.ensures)

returns-3 : tie.Need-returns-in-Job
unfolding size_of
returns-3 c = ap begin (ap loaded_of (sym c.in-Job.is) ∙ c.load-input.ensures)

pub start_spec : {M : Type 1} → statement M
start_spec =
    tie.close
    (tie.spec
    load-requires
    enum_told
    enum-known-input
    enum-known-input-2
    returns
    returns-2
    returns-3)
