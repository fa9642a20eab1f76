use mathlib.Core.Path.{sym, ◌∙◌}
use native.Mathlib.Omega.{arith}
use Rattle.region.specs.Selection.{new_zero, new_whole, new_not}
use borrow.Author.Rules.{rules}
use Rattle.region_selection.proofs.is_new.Statement.{statement}
use Rattle.region_selection.proofs.is_new.Tie as tie

returns : tie.Need-returns-then-k-eq0
returns c = sym (new_zero c.args.k c.args.v (omega arith))

divide-root2-requires : tie.Need-divide_root2-requires
divide-root2-requires c κs = search rules

enum_told : tie.Need-enum_told-1
enum_told c = search rules

enum-told-2 : tie.Need-enum_told-in-None
enum-told-2 c = search rules

returns-2 : tie.Need-returns-in-Some
returns-2 c = let s = c in sym (new_whole s.args.k s.args.v _ (omega arith) (sym c.divide_root2.ensures ∙ c.in-Some.is))

returns-3 : tie.Need-returns-in-None
returns-3 c = let s = c in sym (new_not s.args.k s.args.v (sym c.divide_root2.ensures ∙ c.in-None.is))

pub is_new_spec : {M : Type 1} → statement M
is_new_spec =
    tie.close (tie.spec returns divide-root2-requires enum_told enum-told-2 returns-2 returns-3)
