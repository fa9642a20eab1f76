-- `end_line` meets its contract. Assumes nothing.
use Prim.Native.Nat.{ℕ}
use mathlib.Core.Path.{sym}
use mathlib.Core.List.{List, [], ◌∷◌, ◌++◌}
use native.Mathlib.Omega.{arith}
use mir.Syntax.{w64}
use mir.Val.{Fits}
use lib.Seq.{length-take-le}
use Rattle.text.specs.Append.{appended, append-more, marked}
use Rattle.text.specs.Decimal.{decimal}
use Rattle.integers_wide.specs.Meaning.{size_of}
use Rattle.text.proofs.Lengths.{decimal-length}
use Rattle.text.proofs.Words.{value-below}
use Rattle.list_lines.specs.Lines.{end_line, count_text}
use borrow.Author.Rules.{rules}
use Rattle.list_lines.proofs.end_line.Statement.{statement}
use Rattle.list_lines.proofs.end_line.Tie as tie

put-bytes-requires : tie.Need-put_bytes-a-requires
put-bytes-requires c κs = search rules

put-wide-requires : tie.Need-put_wide-b-requires
put-wide-requires c κs = search rules

put-byte-requires : tie.Need-put_byte-requires
put-byte-requires c κs = search rules

same_length : tie.Need-shape_of-line
same_length c = search rules

abbrev word : List ℕ
word = 101 ∷ 110 ∷ 100 ∷ 32 ∷ []

returns : tie.Need-returns
unfolding end_line count_text
returns c =
    let b = c in
    let w = b in
    let p = w in
    let s = p in
    let xs = s.args.line.now in
    let pre = s.requires in
    let v = size_of s.args.n in
    let h : Fits w64 s.args.n.hi = search rules in
    let l : Fits w64 s.args.n.lo = search rules in
    let d = decimal-length 38 v (value-below s.args.n h.fits l.fits) in
    let a = appended xs 0 word p.put_bytes-a.new.out p.put_bytes-a.result (omega arith) p.put_bytes-a.ensures.0 p.put_bytes-a.ensures.1 in
    let e = a.end in
    let m = a.same in
    let q =
    marked p.put_bytes-a.new.out p.put_bytes-a.result (decimal v) 10 39 w.put_wide-b.new.out b.put_byte.new.out w.put_wide-b.result b.put_byte.result d (omega arith)
    w.put_wide-b.ensures
    b.put_byte.ensures in
    let all = append-more xs 0 word (decimal v ++ (10 ∷ [])) p.put_bytes-a.new.out b.put_byte.new.out p.put_bytes-a.result b.put_byte.result a q.0 in
    let f = all.same in
    let g = q.1 in
    (all, (omega arith, sym (length-take-le b.put_byte.result b.put_byte.new.out (omega arith))))

pub end_line_spec : {M : Type 1} → statement M
end_line_spec =
    tie.close (tie.spec put-bytes-requires put-wide-requires put-byte-requires same_length returns)
