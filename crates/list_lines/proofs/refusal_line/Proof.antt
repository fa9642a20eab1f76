-- `refusal_line` meets its contract. Assumes nothing.
use Prim.Native.Nat.{ℕ, ◌≤◌}
use mathlib.Core.Path.{◌≡◌, sym, subst, ap}
use mathlib.Core.List.{List, [], ◌∷◌, ◌++◌}
use native.Mathlib.Omega.{arith}
use lib.Seq.{length-take-le}
use Rattle.record_kinds.specs.Kinds.{number}
use Rattle.text.specs.Append.{Appended, appended, append-more}
use Rattle.text.specs.Decimal.{decimal}
use Rattle.list_lines.specs.Lines.{refusal_line, count_text}
use borrow.Author.Rules.{rules}
use Rattle.list_lines.proofs.refusal_line.Statement.{statement}
use Rattle.list_lines.proofs.refusal_line.Tie as tie

abbrev refused : List ℕ
refused = 114 ∷ 101 ∷ 102 ∷ 117 ∷ 115 ∷ 101 ∷ 100 ∷ 32 ∷ []

abbrev at_place : List ℕ
at_place = 32 ∷ 97 ∷ 116 ∷ 32 ∷ []

spelt : (n r place : ℕ) → n ≡ r → refused ++ decimal n ++ at_place ++ count_text place 10 ≡ refusal_line r place
unfolding refusal_line
spelt n r place e = ap (λ (i : ℕ). refused ++ decimal i ++ at_place ++ count_text place 10) e

-- after the first word
module _ (p : tie.After-put_bytes-a) where
  abbrev start : tie.Start
  start = p.before.before.before.before.before

  abbrev xs : List ℕ
  xs = start.args.line.now

  one : Appended xs 0 refused p.put_bytes-a.new.out p.put_bytes-a.result
  one = let h = start.requires in appended xs 0 refused p.put_bytes-a.new.out p.put_bytes-a.result (omega arith) p.put_bytes-a.ensures.0 p.put_bytes-a.ensures.1

-- after ` at `
module _ (q : tie.After-put_bytes-c) where
  abbrev numbered : tie.After-put_number-b
  numbered = q.before.before.before.before.before.before

  abbrev begun : tie.After-put_bytes-a
  begun = numbered.before.before.before.before.before

  abbrev shown : ℕ
  shown = numbered.number.result

  two : Appended (xs begun) 0 (refused ++ decimal shown) numbered.put_number-b.new.out numbered.put_number-b.result
  two = append-more (xs begun) 0 refused (decimal shown) begun.put_bytes-a.new.out numbered.put_number-b.new.out begun.put_bytes-a.result numbered.put_number-b.result (one begun) numbered.put_number-b.ensures.0

  bound : numbered.put_number-b.result ≤ 28
  bound = let e = (one begun).end in let b = numbered.put_number-b.ensures.1 in omega arith

  three : Appended (xs begun) 0 (refused ++ decimal shown ++ at_place) q.put_bytes-c.new.out q.put_bytes-c.result
  three =
      let h = (start begun).requires in
      let s = two.same in
      let b = bound in
      let a = appended numbered.put_number-b.new.out numbered.put_number-b.result at_place q.put_bytes-c.new.out q.put_bytes-c.result (omega arith) q.put_bytes-c.ensures.0 q.put_bytes-c.ensures.1 in
      append-more (xs begun) 0 (refused ++ decimal shown) at_place numbered.put_number-b.new.out q.put_bytes-c.new.out numbered.put_number-b.result q.put_bytes-c.result (two) a

  reach : q.put_bytes-c.result ≤ 32
  reach =
      let h = (start begun).requires in
      let s = two.same in
      let b = bound in
      let a = appended numbered.put_number-b.new.out numbered.put_number-b.result at_place q.put_bytes-c.new.out q.put_bytes-c.result (omega arith) q.put_bytes-c.ensures.0 q.put_bytes-c.ensures.1 in
      let e = a.end in
      omega arith

put-bytes-requires : tie.Need-put_bytes-a-requires
put-bytes-requires c κs = search rules

number-requires : tie.Need-number-requires
number-requires c κs = search rules

put-number-requires : tie.Need-put_number-b-requires
put-number-requires c κs =
    let p = c.before.before.before.before in
    let e = (one p).end in
    let s = (one p).same in
    let h = (start p).requires in
    rw s (omega arith)

put-bytes-requires-2 : tie.Need-put_bytes-c-requires
put-bytes-requires-2 c κs = search rules

put-count-requires : tie.Need-put_count-requires
put-count-requires c κs =
    let q = c.before.before.before in
    let s = (three q).same in
    let r = reach q in
    let h = (start (begun q)).requires in
    rw s (omega arith)

same_length : tie.Need-shape_of-line
same_length c = search rules

returns : tie.Need-returns
returns c =
    let k = c in
    let q = k.before.before.before.before in
    let s = start (begun q.before.before) in
    let place = s.args.place in
    let all = append-more (xs (begun q.before.before)) 0 (refused ++ decimal (shown q.before.before) ++ at_place) (count_text place 10) q.put_bytes-c.new.out k.put_count.new.out q.put_bytes-c.result k.put_count.result (three q.before.before) k.put_count.ensures.0 in
    let f = all.same in
    let g = k.put_count.ensures.1 in
    let r = reach q.before.before in
    let h = s.requires in (
      subst (λ (l : List ℕ). Appended (xs (begun q.before.before)) 0 l k.put_count.new.out k.put_count.result) (spelt (shown q.before.before) (number s.args.f) place (numbered q.before.before).before.number.ensures) all,
      (omega arith, sym (length-take-le k.put_count.result k.put_count.new.out (omega arith))),
    )

pub refusal_line_spec : {M : Type 1} → statement M
refusal_line_spec =
    tie.close (tie.spec put-bytes-requires number-requires put-number-requires put-bytes-requires-2 put-count-requires same_length returns)
