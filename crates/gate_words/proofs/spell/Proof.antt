use mathlib.Core.Path.{◌≡◌, sym, ◌∙◌, ap}
use mathlib.Core.Bool.{true, not}
use lib.Dec.{leb}
use lib.ListN.{length}
use borrow.Author.Tests.{leb-true}
use Rattle.integers.specs.lemmas.Booleans.{both_true}
use Rattle.record_ranges.specs.Ranges.{top_scale}
use Rattle.entry_equation.specs.Equation.{completes}
use Rattle.gate_words.specs.lemmas.Laws.{fits-is, unless, given, fails, holds, solves, out_of_range, not_unitary_lem, spells}
use borrow.Author.Rules.{rules}
use Rattle.gate_words.proofs.spell.Statement.{statement}
use Rattle.gate_words.proofs.spell.Tie as tie

scale-requires : tie.Need-scale-scale-requires
scale-requires c κs = search rules

completes-requires : tie.Need-completes-solves-requires
completes-requires c κs = search rules

returns : tie.Need-returns-then-not-scale
returns c =
    let s = c in
    let a = c.args in
    out_of_range a.k a.u a.t a.first.now a.second.now (sym c.scale-scale.ensures ∙ unless _ (ap not c.if-not-scale.true))

returns-2 : tie.Need-returns-then-not-solves
returns-2 c =
    let s = c in
    let a = c.args in
    let e = sym c.scale-scale.ensures ∙ given _ (ap not c.if-not-scale.false) in
    not_unitary_lem a.k a.u a.t a.first.now a.second.now e (fails (leb a.k top_scale) (completes a.k a.u a.t) c.completes-solves.ensures e (unless _ (ap not c.if-not-solves.true)))

-- after the checks
in-range : (c : tie.Else-not-solves) → leb c.args.k top_scale ≡ true
in-range c = sym c.scale-scale.ensures ∙ given _ (ap not c.if-not-scale.false)

unitary : (c : tie.Else-not-solves) → completes c.args.k c.args.u c.args.t ≡ true
unitary c = let a = c.args in holds (leb a.k top_scale) (completes a.k a.u a.t) c.completes-solves.ensures (given _ (ap not c.if-not-solves.false))

word-requires : tie.Need-word-v-requires
word-requires c κs = let a = c.args in (solves a.k a.u a.t (unitary c), leb-true _ _ (in-range c))

conjugate-word-requires : tie.Need-conjugate_word-w-requires
conjugate-word-requires c κs = let a = c.args in (solves a.k a.u a.t (unitary c.before), leb-true _ _ (in-range c.before))

lay-requires : tie.Need-lay-requires
lay-requires c κs =
    let w = c in
    (c.word-v.ensures.room, λ e. leb-true _ _ (both_true (leb c.word-v.result.len (length c.args.first.now)) _ e).0)

lay-requires-2 : tie.Need-lay-requires-2
lay-requires-2 c κs =
    let w = c in
    (c.conjugate_word-w.ensures.room, λ e. leb-true _ _ (both_true (leb c.word-v.result.len (length c.args.first.now)) _ e).1)

decide-requires : tie.Need-decide-requires
decide-requires c κs = search rules

same_length : tie.Need-shape_of-first
same_length c = search rules

same-length-2 : tie.Need-shape_of-second
same-length-2 c = search rules

returns-3 : tie.Need-returns
returns-3 c =
    let w = c in
    let a = c.args in
    let x = c.word-v.ensures in
    let y = c.conjugate_word-w.ensures in
    spells a.k a.u a.t a.first.now a.second.now (in-range c.before.before.before.before.before.before.before.before.before.before.before.before.before) (unitary c.before.before.before.before.before.before.before.before.before.before.before.before.before) x y _ (fits-is a.k a.u a.t _ _ x y) c.lay.ensures c.lay-2.ensures c.decide.ensures

pub spell_spec : {M : Type 1} → statement M
spell_spec =
    tie.close
    (tie.spec
    scale-requires
    completes-requires
    returns
    returns-2
    word-requires
    conjugate-word-requires
    lay-requires
    lay-requires-2
    decide-requires
    same_length
    same-length-2
    returns-3)
