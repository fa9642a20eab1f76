use mathlib.Core.Path.{sym, ◌∙◌}
use borrow.Author.Rules.{rules}
use Rattle.question.specs.Search.{refused_none}
use Rattle.question.specs.lemmas.Void.{void_first, void_second}
use Rattle.question.proofs.searched.Statement.{statement}
use Rattle.question.proofs.searched.Tie as tie

is-accepted-requires : tie.Need-is_accepted-requires
is-accepted-requires c κs = search rules

returns : tie.Need-returns-then-not-is_accepted
returns c = refused_none c.args.job (sym c.is_accepted.ensures ∙ c.if-not-is_accepted.true)

is-void-requires : tie.Need-is_void-requires
is-void-requires c κs = search rules

returns-2 : tie.Need-returns-then-is_void
returns-2 c = void_first c.args.job (sym c.is_void.ensures ∙ c.if-is_void.true)

is-void-requires-2 : tie.Need-is_void-requires-2
is-void-requires-2 c κs = search rules

returns-3 : tie.Need-returns-then-is_void-2
returns-3 c = void_second c.args.job (sym c.is_void-2.ensures ∙ c.if-is_void-2.true)

in-force-requires : tie.Need-in_force-requires
in-force-requires c κs = let e = c in sym c.is_accepted.ensures ∙ c.if-not-is_accepted.false

oriented-requires : tie.Need-oriented-requires
oriented-requires c κs =
    let e = c in
    (sym c.is_accepted.ensures ∙ c.if-not-is_accepted.false, c.in_force.ensures)

settled-requires : tie.Need-settled-requires
settled-requires c κs =
    let e = c in
    (sym c.is_accepted.ensures ∙ c.if-not-is_accepted.false, c.oriented.ensures)

returns-4 : tie.Need-returns
returns-4 c = search rules

pub searched_spec : {M : Type 1} → statement M
searched_spec =
    tie.close
    (tie.spec
    is-accepted-requires
    returns
    is-void-requires
    returns-2
    is-void-requires-2
    returns-3
    in-force-requires
    oriented-requires
    settled-requires
    returns-4)
