-- `number_at` meets its contract: the digits are judged at 2^63. Assumes nothing.
use Prim.Native.Nat.{◌^◌}
use mathlib.Core.Path.{sym, ap, ◌∙◌}
use lib.Dec.{lit≤}
use borrow.Author.Rules.{rules}
use Rattle.text_scan.specs.declared.Spelled.{Spelled}
use Rattle.text_scan.specs.Number.{fitted, spelled_of}
use Rattle.text_scan.proofs.number_at.Statement.{statement}
use Rattle.text_scan.proofs.number_at.Tie as tie

spelled-at-requires : tie.Need-spelled_at-n-requires
spelled-at-requires c κs = search rules

enum-known-n : tie.Need-enum_known-n
enum-known-n c = search rules

short-requires : tie.Need-short-requires
short-requires c κs = search rules

enum_told : tie.Need-enum_told-1
enum_told c = search rules

returns : tie.Need-returns-in-Digits
returns c = c.short.ensures ∙ sym (ap (λ (d : Spelled). fitted (2 ^ 63) (spelled_of d)) c.in-Digits.is) ∙ c.spelled_at-n.ensures (2 ^ 63) (lit≤ tt)

returns-2 : tie.Need-returns-in-Nothing
unfolding fitted
returns-2 c = sym (ap (λ (d : Spelled). fitted (2 ^ 63) (spelled_of d)) c.in-Nothing.is) ∙ c.spelled_at-n.ensures (2 ^ 63) (lit≤ tt)

pub number_at_spec : {M : Type 1} → statement M
number_at_spec =
    tie.close
    (tie.spec spelled-at-requires enum-known-n short-requires enum_told returns returns-2)
