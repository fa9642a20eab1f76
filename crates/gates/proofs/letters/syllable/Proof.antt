use native.Mathlib.Omega.{arith}
use Rattle.gates.specs.Written.{written, two_more, three-more}
use borrow.Author.Rules.{rules}
use Rattle.gates.proofs.letters.syllable.Statement.{statement}
use Rattle.gates.proofs.letters.syllable.Tie as tie

push-requires : tie.Need-push-requires
push-requires c κs = search rules

push-requires-2 : tie.Need-push-requires-then-bare
push-requires-2 c κs = search rules

returns : tie.Need-returns-then-bare
returns c =
    let p = c.push.ensures in
    let q = c.push-then-bare.ensures in
    let e = c.if-bare.true in
    record { letters = rw e (two_more (written c.args.w) 72 84 p.0 q.0); len = rw e (omega arith) }

push-requires-3 : tie.Need-push-requires-2
push-requires-3 c κs = search rules

push-requires-4 : tie.Need-push-requires-3
push-requires-4 c κs = search rules

push-requires-5 : tie.Need-push-requires-4
push-requires-5 c κs = search rules

returns-2 : tie.Need-returns
returns-2 c =
    let p = c.push-2.ensures in
    let q = c.push-3.ensures in
    let r = c.push-4.ensures in
    let e = c.if-bare.false in
    record { letters = rw e (three-more (written c.args.w) 83 72 84 p.0 q.0 r.0); len = rw e (omega arith) }

pub syllable_spec : {M : Type 1} → statement M
syllable_spec =
    tie.close
    (tie.spec
    push-requires
    push-requires-2
    returns
    push-requires-3
    push-requires-4
    push-requires-5
    returns-2)
