use native.Mathlib.Omega.{arith}
use Prim.Native.Nat.{◌<◌, ◌^◌}
use lib.Dec.{lit≤}
use Rattle.pattern_text.proofs.Sizes.{refusal-size}
use lib.ListN.{length}
use Rattle.record_kinds.specs.Kinds.{number}
use Rattle.list_lines.specs.Lines.{refusal_line, too_long_line}
use Rattle.list_input.specs.Load.{load_of}
use Rattle.text_puts.specs.Puts.{one, retext}
use Rattle.pattern_text.specs.Pattern.{loaded_texts}
use borrow.Author.Rules.{rules}
use Rattle.pattern_text.proofs.put.Statement.{statement}
use Rattle.pattern_text.proofs.put.Tie as tie

load-requires : tie.Need-load-i-requires
load-requires c κs = search rules

enum_told : tie.Need-enum_told-1
enum_told c = search rules

put-too-long-requires : tie.Need-put_too_long-requires
put-too-long-requires c κs = search rules

enum-known-i : tie.Need-enum_known-i
enum-known-i c = search rules

put-refusal-requires : tie.Need-put_refusal-requires
put-refusal-requires c κs = search rules

enum-known-i-2 : tie.Need-enum_known-i-in-Job-1
enum-known-i-2 c = search rules

put-shortest-requires : tie.Need-put_shortest-requires
put-shortest-requires c κs = search rules

same_length : tie.Need-shape_of-out-in-TooLong
same_length c = search rules

returns : tie.Need-returns-in-TooLong
returns c =
    let p = c in
    let t = p in
    let l = t in
    let s = l in
    retext (rw c.in-TooLong.is at (loaded_texts (length c.args.bytes.now) c.load-i.result (load_of c.args.bytes.now) c.load-i.ensures))
    (one c.args.out.now 0 too_long_line c.put_too_long.new.out c.put_too_long.result 363 (lit≤ tt) c.put_too_long.ensures)

same-length-2 : tie.Need-shape_of-out-in-Refused
same-length-2 c = search rules

returns-2 : tie.Need-returns-in-Refused
returns-2 c =
    let p = c in
    let i = p in
    let l = i in
    let s = l in
    retext (rw c.in-Refused.is at (loaded_texts (length c.args.bytes.now) c.load-i.result (load_of c.args.bytes.now) c.load-i.ensures))
    (one c.args.out.now 0 (refusal_line (number c.in-Refused.f) c.in-Refused.at) c.put_refusal.new.out c.put_refusal.result 363 (let f : c.in-Refused.at < 2 ^ 64 = search rules in let h = refusal-size c.in-Refused.f c.in-Refused.at f in omega arith) c.put_refusal.ensures)

same-length-3 : tie.Need-shape_of-out-in-Job
same-length-3 c = search rules

returns-3 : tie.Need-returns-in-Job
returns-3 c =
    let p = c in
    let i = p in
    let l = i in
    let s = l in
    retext (rw c.in-Job.is at (loaded_texts (length c.args.bytes.now) c.load-i.result (load_of c.args.bytes.now) c.load-i.ensures)) c.put_shortest.ensures

pub put_spec : {M : Type 1} → statement M
put_spec =
    tie.close
    (tie.spec
    load-requires
    enum_told
    put-too-long-requires
    enum-known-i
    put-refusal-requires
    enum-known-i-2
    put-shortest-requires
    same_length
    returns
    same-length-2
    returns-2
    same-length-3
    returns-3)
