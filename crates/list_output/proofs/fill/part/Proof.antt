-- `part` meets its contract. Assumes nothing.
use mathlib.Core.Path.{sym, ap, subst}
use native.Mathlib.Omega.{arith}
use mir.Syntax.{w64}
use mir.Val.{Fits}
use lib.ListN.{length}
use Rattle.list_states.specs.declared.Output.{Output}
use Rattle.list_states.specs.State.{state_of}
use Rattle.list_output.specs.Pieces.{part_of, FilledPart}
use Rattle.list_output.proofs.Lines.{line-part, none-part, refusal-short, end_short}
use borrow.Author.Rules.{rules}
use Rattle.list_output.proofs.fill.part.Statement.{statement}
use Rattle.list_output.proofs.fill.part.Tie as tie

enum_told : tie.Need-enum_told-1
enum_told c = search rules

put-too-long-requires : tie.Need-put_too_long-n-requires
put-too-long-requires c κs = search rules

last-requires : tie.Need-last-requires
last-requires c κs = search rules

enum-known-o : tie.Need-enum_known-o
enum-known-o c = search rules

put-refusal-requires : tie.Need-put_refusal-n-requires
put-refusal-requires c κs = search rules

last-requires-2 : tie.Need-last-requires-in-Refusal
last-requires-2 c κs = search rules

enum-known-o-2 : tie.Need-enum_known-o-in-List-1
enum-known-o-2 c = search rules

page-requires : tie.Need-page-requires
page-requires c κs = search rules

enum-known-o-3 : tie.Need-enum_known-o-in-Last-1
enum-known-o-3 c = search rules

put-end-requires : tie.Need-put_end-n-requires
put-end-requires c κs = search rules

last-requires-3 : tie.Need-last-requires-in-Last
last-requires-3 c κs = search rules

enum-told-2 : tie.Need-enum_told-in-Done
enum-told-2 c = search rules

last-requires-4 : tie.Need-last-requires-in-Done
last-requires-4 c κs = search rules

same_length : tie.Need-shape_of-out-in-TooLong
same_length c = search rules

returns : tie.Need-returns-in-TooLong
returns c =
    let s = c in
    let n = length c.args.out.now in
    line-part (state_of c.args.o) _ _ _ _ _ (ap (λ (o : Output). part_of n (state_of o)) c.in-TooLong.is) (omega arith) c.requires c.put_too_long-n.ensures c.last.ensures

same-length-2 : tie.Need-shape_of-out-in-Refusal
same-length-2 c = search rules

returns-2 : tie.Need-returns-in-Refusal
returns-2 c =
    let k = c in
    let s = k in
    let n = length c.args.out.now in
    let f : Fits w64 c.in-Refusal.at = search rules in
    line-part (state_of c.args.o) _ _ _ _ _ (ap (λ (o : Output). part_of n (state_of o)) c.in-Refusal.is) (refusal-short c.in-Refusal.f c.in-Refusal.at f.fits) c.requires c.put_refusal-n.ensures c.last-in-Refusal.ensures

same-length-3 : tie.Need-shape_of-out-in-List
same-length-3 c = search rules

returns-3 : tie.Need-returns-in-List
returns-3 c =
    let k = c in
    let s = k in
    let p = c in
    subst (λ (o : Output). FilledPart (state_of o) c.page.result c.args.out.now c.page.new.out) (sym c.in-List.is) c.page.ensures

same-length-4 : tie.Need-shape_of-out-in-Last
same-length-4 c = search rules

returns-4 : tie.Need-returns-in-Last
returns-4 c =
    let k = c in
    let s = k in
    let n = length c.args.out.now in
    let h : Fits w64 c.in-Last.total.hi = search rules in
    let l : Fits w64 c.in-Last.total.lo = search rules in
    line-part (state_of c.args.o) _ _ _ _ _ (ap (λ (o : Output). part_of n (state_of o)) c.in-Last.is) (end_short c.in-Last.total h.fits l.fits) c.requires c.put_end-n.ensures c.last-in-Last.ensures

returns-5 : tie.Need-returns-in-Done
returns-5 c =
    let s = c in
    let n = length c.args.out.now in
    none-part (state_of c.args.o) _ _ (ap (λ (o : Output). part_of n (state_of o)) c.in-Done.is) c.last-in-Done.ensures

pub part_spec : {M : Type 1} → statement M
part_spec =
    tie.close
    (tie.spec
    enum_told
    put-too-long-requires
    last-requires
    enum-known-o
    put-refusal-requires
    last-requires-2
    enum-known-o-2
    page-requires
    enum-known-o-3
    put-end-requires
    last-requires-3
    enum-told-2
    last-requires-4
    same_length
    returns
    same-length-2
    returns-2
    same-length-3
    returns-3
    same-length-4
    returns-4
    returns-5)
