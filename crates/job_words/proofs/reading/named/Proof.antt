use Rattle.job_words.specs.Rows.{named}
use Rattle.job_words.specs.Laws.{means_is, named_none}
use borrow.Author.Rules.{rules}
use Rattle.job_words.proofs.reading.named.Statement.{statement}
use Rattle.job_words.proofs.reading.named.Tie as tie

numbered-requires : tie.Need-numbered-requires
numbered-requires c κs = search rules

numbered-requires-2 : tie.Need-numbered-requires-in-1
numbered-requires-2 c κs = search rules

numbered-requires-3 : tie.Need-numbered-requires-in-2
numbered-requires-3 c κs = search rules

numbered-requires-4 : tie.Need-numbered-requires-in-3
numbered-requires-4 c κs = search rules

numbered-requires-5 : tie.Need-numbered-requires-in-4
numbered-requires-5 c κs = search rules

selection-requires : tie.Need-selection-requires
selection-requires c κs = search rules

disk-requires : tie.Need-disk-requires
disk-requires c κs = search rules

empty-requires : tie.Need-empty-requires
empty-requires c κs = search rules

returns : tie.Need-returns-in-0
unfolding named
returns c = rw c.in-0.is c.numbered.ensures

returns-2 : tie.Need-returns-in-1
unfolding named
returns-2 c = rw c.in-1.is c.numbered-in-1.ensures

returns-3 : tie.Need-returns-in-2
unfolding named
returns-3 c = rw c.in-2.is c.numbered-in-2.ensures

returns-4 : tie.Need-returns-in-3
unfolding named
returns-4 c = rw c.in-3.is c.numbered-in-3.ensures

returns-5 : tie.Need-returns-in-4
unfolding named
returns-5 c = rw c.in-4.is c.numbered-in-4.ensures

returns-6 : tie.Need-returns-in-5
unfolding named
returns-6 c = rw c.in-5.is c.selection.ensures

returns-7 : tie.Need-returns-in-6
unfolding named
returns-7 c = rw c.in-6.is c.disk.ensures

returns-8 : tie.Need-returns-in_default
returns-8 c = let r = c.in_default.in_default-own.rest in means_is (named_none c.args.p c.args.line.now c.args.from r.0.0.0.0.0.0.1 r.0.0.0.0.0.1 r.0.0.0.0.1 r.0.0.0.1 r.0.0.1 r.0.1 r.1) c.empty.ensures

pub named_spec : {M : Type 1} → statement M
named_spec =
    tie.close
    (tie.spec
    numbered-requires
    numbered-requires-2
    numbered-requires-3
    numbered-requires-4
    numbered-requires-5
    selection-requires
    disk-requires
    empty-requires
    returns
    returns-2
    returns-3
    returns-4
    returns-5
    returns-6
    returns-7
    returns-8)
