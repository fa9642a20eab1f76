-- `page` meets its contract. Assumes nothing.
use Prim.Native.Nat.{ℕ, ◌+◌}
use mathlib.Core.Path.{sym, ap, ap₂, ◌∙◌}
use Rattle.integers_wide.specs.Meaning.{size_of}
use Rattle.list_states.specs.State.{list, last}
use Rattle.list_output.specs.Pieces.{kept}
use borrow.Author.Rules.{rules}
use Rattle.list_output.proofs.fill.page.Statement.{statement}
use Rattle.list_output.proofs.fill.page.Tie as tie

next-requires : tie.Need-next-p-requires
next-requires c κs = search rules

plus-requires : tie.Need-plus-sum-requires
plus-requires c κs = search rules

same_length : tie.Need-shape_of-out-then-p
same_length c = search rules

returns : tie.Need-returns-then-p
returns c =
    let p = c.next-p.ensures in
    let t = size_of c.args.total in
    let more = sym p.more ∙ c.if-p.true in
    record { text = p.text; next = rw more (ap₂ list p.session (ap size_of c.plus-sum.ensures ∙ ap (λ (k : ℕ). kept (t + k)) p.count)) }

same-length-2 : tie.Need-shape_of-out
same-length-2 c = search rules

returns-2 : tie.Need-returns
returns-2 c =
    let p = c.next-p.ensures in
    let t = size_of c.args.total in
    let more = sym p.more ∙ c.if-p.false in
    record { text = p.text; next = rw more (ap last (ap size_of c.plus-sum.ensures ∙ ap (λ (k : ℕ). kept (t + k)) p.count)) }

pub page_spec : {M : Type 1} → statement M
page_spec =
    tie.close (tie.spec next-requires plus-requires same_length returns same-length-2 returns-2)
