use mathlib.Core.Path.{sym}
use native.Mathlib.Omega.{arith}
use Rattle.gates.specs.Start.{low, no_phase, solved, staged, start-low, start-phase, starts_going, writes}
use borrow.Author.Rules.{rules}
use Rattle.gates.proofs.spell.word.Statement.{statement}
use Rattle.gates.proofs.spell.word.Tie as tie

reduce-requires : tie.Need-reduce-s-requires
reduce-requires c κs = search rules

is-plain-requires : tie.Need-is_plain-plain-requires
is-plain-requires c κs = search rules

start-requires : tie.Need-start-x-requires
start-requires c κs =
    let a = c.args in
    let p = c.requires in
    let d = c.reduce-s.ensures in
    (solved a.k a.u a.t p.0 p.1 d, low a.k a.u a.t p.0 p.1 d, omega (arith, no_phase a.k a.u a.t p.0 p.1 d))

lead-requires : tie.Need-lead-requires
lead-requires c κs = search rules

syllables-requires : tie.Need-syllables-requires
syllables-requires c κs =
    let a = c.args in
    let p = c.requires in
    let d = c.reduce-s.ensures in
    let b = c.is_plain-plain.result in
    rw c.start-x.ensures ((staged a.k a.u a.t p.0 p.1 d b (sym c.is_plain-plain.ensures)).stage, start-low a.k a.u a.t p.0 p.1 d b, omega (arith, start-phase a.k a.u a.t p.0 p.1 d b))

body-requires : tie.Need-body-requires
body-requires c κs =
    let a = c.args in
    let p = c.requires in
    let d = c.reduce-s.ensures in
    let i = c in
    rw (c.syllables.ensures, c.start-x.ensures) (starts_going a.k a.u a.t p.0 p.1 d c.is_plain-plain.result (sym c.is_plain-plain.ensures) c.lead.ensures.1)

returns : tie.Need-returns
returns c =
    let a = c.args in
    let p = c.requires in
    let d = c.reduce-s.ensures in
    let i = c in
    let o = rw (c.syllables.ensures, c.start-x.ensures) at c.body.ensures in
    writes a.k a.u a.t p.0 p.1 d c.is_plain-plain.result (sym c.is_plain-plain.ensures) c.lead.ensures.0 o

pub word_spec : {M : Type 1} → statement M
word_spec =
    tie.close
    (tie.spec
    reduce-requires
    is-plain-requires
    start-requires
    lead-requires
    syllables-requires
    body-requires
    returns)
