use mathlib.Core.Path.{sym, ◌∙◌, ap}
use native.Mathlib.Omega.{arith}
use Rattle.gate_theory.specs.Bits.{odd}
use Rattle.gates.specs.Going.{syllables-none, syllables-odd, syllables-side, side-two}
use borrow.Author.Rules.{rules}
use Rattle.gates.proofs.spell.syllables.Statement.{statement}
use Rattle.gates.proofs.spell.syllables.Tie as tie

returns : tie.Need-returns-then-s-eq0
returns c = syllables-none c.args.s (omega arith)

parities-requires : tie.Need-parities-requires
parities-requires c κs = search rules

odd-requires : tie.Need-odd-requires
odd-requires c κs = search rules

mul-result : tie.Need-overflow_mul-result
mul-result c = search rules

sub-result : tie.Need-overflow_sub-result
sub-result c = search rules

add-result : tie.Need-overflow_add-result
add-result c = search rules

returns-2 : tie.Need-returns-then-odd
returns-2 c =
    let s = c.args.s in
    let o = c in
    syllables-odd s (omega arith) (sym (c.odd.ensures ∙ ap odd c.parities.ensures) ∙ c.if-odd.true)

mul-result-2 : tie.Need-overflow_mul-result-2
mul-result-2 c = search rules

sub-result-2 : tie.Need-overflow_sub-result-2
sub-result-2 c =
    let s = c.args.s in
    let o = c in
    omega (arith, side-two s (omega arith) c.requires.0 (sym (c.odd.ensures ∙ ap odd c.parities.ensures) ∙ c.if-odd.false))

add-result-2 : tie.Need-overflow_add-result-2
add-result-2 c = search rules

add-result-3 : tie.Need-overflow_add-result-3
add-result-3 c = search rules

returns-3 : tie.Need-returns
returns-3 c =
    let s = c.args.s in
    let o = c in
    syllables-side s (omega arith) (sym (c.odd.ensures ∙ ap odd c.parities.ensures) ∙ c.if-odd.false)

pub syllables_spec : {M : Type 1} → statement M
syllables_spec =
    tie.close
    (tie.spec
    returns
    parities-requires
    odd-requires
    mul-result
    sub-result
    add-result
    returns-2
    mul-result-2
    sub-result-2
    add-result-2
    add-result-3
    returns-3)
