use native.Mathlib.Omega.{arith}
use Rattle.pattern_text.proofs.Sizes.{refusal-size}
use Rattle.record_kinds.specs.Kinds.{number}
use Rattle.list_lines.specs.Lines.{refusal_line}
use Rattle.text_puts.specs.Puts.{one, none, retext}
use Rattle.pattern_text.specs.Pattern.{shortest_texts_lem}
use borrow.Author.Rules.{rules}
use Rattle.pattern_text.proofs.put_shortest.Statement.{statement}
use Rattle.pattern_text.proofs.put_shortest.Tie as tie

shortest-requires : tie.Need-shortest-a-requires
shortest-requires c κs = search rules

enum-known-a : tie.Need-enum_known-a
enum-known-a c = search rules

put-pattern-requires : tie.Need-put_pattern-requires
put-pattern-requires c κs = search rules

enum-known-a-2 : tie.Need-enum_known-a-in-Refused-1
enum-known-a-2 c = search rules

put-refusal-requires : tie.Need-put_refusal-requires
put-refusal-requires c κs = search rules

enum_told : tie.Need-enum_told-1
enum_told c = search rules

enum-told-2 : tie.Need-enum_told-in-Handed
enum-told-2 c = search rules

enum-told-3 : tie.Need-enum_told-in-Done
enum-told-3 c = search rules

enum-told-4 : tie.Need-enum_told-in-Says
enum-told-4 c = search rules

same_length : tie.Need-shape_of-out-in-Least
same_length c = search rules

returns : tie.Need-returns-in-Least
returns c =
    let p = c in
    let a = p in
    let q = a in
    let s = q in
    retext (rw c.in-Least.is at (shortest_texts_lem c.args.length c.args.s c.shortest-a.result c.shortest-a.ensures)) c.put_pattern.ensures

same-length-2 : tie.Need-shape_of-out-in-Refused
same-length-2 c = search rules

returns-2 : tie.Need-returns-in-Refused
returns-2 c =
    let p = c in
    let a = p in
    let q = a in
    let s = q in
    retext (rw c.in-Refused.is at (shortest_texts_lem c.args.length c.args.s c.shortest-a.result c.shortest-a.ensures))
    (one c.args.out.now 0 (refusal_line (number c.in-Refused.f) c.args.length) c.put_refusal.new.out c.put_refusal.result 363 (let h = refusal-size c.in-Refused.f c.args.length c.ranges.length.fits in omega arith) c.put_refusal.ensures)

returns-3 : tie.Need-returns-in-Taken
returns-3 c =
    let q = c in
    let s = q in
    retext (rw c.in-Taken.is at (shortest_texts_lem c.args.length c.args.s c.shortest-a.result c.shortest-a.ensures)) (none _ _)

returns-4 : tie.Need-returns-in-Handed
returns-4 c =
    let q = c in
    let s = q in
    retext (rw c.in-Handed.is at (shortest_texts_lem c.args.length c.args.s c.shortest-a.result c.shortest-a.ensures)) (none _ _)

returns-5 : tie.Need-returns-in-Done
returns-5 c =
    let q = c in
    let s = q in
    retext (rw c.in-Done.is at (shortest_texts_lem c.args.length c.args.s c.shortest-a.result c.shortest-a.ensures)) (none _ _)

returns-6 : tie.Need-returns-in-Says
returns-6 c =
    let q = c in
    let s = q in
    retext (rw c.in-Says.is at (shortest_texts_lem c.args.length c.args.s c.shortest-a.result c.shortest-a.ensures)) (none _ _)

pub put_shortest_spec : {M : Type 1} → statement M
put_shortest_spec =
    tie.close
    (tie.spec
    shortest-requires
    enum-known-a
    put-pattern-requires
    enum-known-a-2
    put-refusal-requires
    enum_told
    enum-told-2
    enum-told-3
    enum-told-4
    same_length
    returns
    same-length-2
    returns-2
    returns-3
    returns-4
    returns-5
    returns-6)
