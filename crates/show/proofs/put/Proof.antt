use native.Mathlib.Omega.{arith}
use mathlib.Core.Path.{sym, ap, ◌∙◌}
use lib.Dec.{lit≤}
use Rattle.list_lines.specs.Lines.{too_long_line}
use Rattle.text_puts.specs.Puts.{one, weaken}
use Rattle.list_input.specs.Load.{loaded_of}
use Rattle.show.specs.Back.{ready_short}
use borrow.Author.Rules.{rules}
use Rattle.show.proofs.put.Statement.{statement}
use Rattle.show.proofs.put.Tie as tie

load-requires : tie.Need-load-i-requires
load-requires c κs = search rules

enum_told : tie.Need-enum_told-1
enum_told c = search rules

put-too-long-requires : tie.Need-put_too_long-requires
put-too-long-requires c κs = search rules

enum-known-i : tie.Need-enum_known-i
enum-known-i c = search rules

number-requires : tie.Need-number-requires
number-requires c κs = search rules

put-refusal-requires : tie.Need-put_refusal-requires
put-refusal-requires c κs = search rules

enum-told-2 : tie.Need-enum_told-in-Job
enum-told-2 c = search rules

put-requires : tie.Need-put-requires
put-requires c κs = search rules

same_length : tie.Need-shape_of-out-in-TooLong
same_length c = search rules

returns : tie.Need-returns-in-TooLong
returns c = rw (← c.load-i.ensures, c.in-TooLong.is) (one c.args.out.now 0 too_long_line c.put_too_long.new.out c.put_too_long.result 458752 (lit≤ tt) c.put_too_long.ensures)

same-length-2 : tie.Need-shape_of-out-in-Refused
same-length-2 c = search rules

returns-2 : tie.Need-returns-in-Refused
returns-2 c = rw (← c.load-i.ensures, c.in-Refused.is) (weaken 458752 (lit≤ tt) (rw c.number.ensures at c.put_refusal.ensures))

same-length-3 : tie.Need-shape_of-out-in-Job
same-length-3 c = search rules

returns-3 : tie.Need-returns-in-Job
returns-3 c = let short = ready_short c.args.bytes.now _ (sym c.load-i.ensures ∙ ap loaded_of c.in-Job.is) in rw (← c.load-i.ensures, c.in-Job.is) (weaken 458752 (omega arith) c.put.ensures)

pub put_spec : {M : Type 1} → statement M
put_spec =
    tie.close
    (tie.spec
    load-requires
    enum_told
    put-too-long-requires
    enum-known-i
    number-requires
    put-refusal-requires
    enum-told-2
    put-requires
    same_length
    returns
    same-length-2
    returns-2
    same-length-3
    returns-3)
