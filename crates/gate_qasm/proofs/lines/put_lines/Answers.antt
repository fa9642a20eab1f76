-- The lines of the letters from i on are written.
use Rattle.std.proofs.Common.{◌≡◌, ℕ, ◌-◌, ◌+◌, ◌≤◌, ◌<◌, List, length, get_or, le_refl, arith}
use Rattle.text.specs.Append.{Appended, append-none, append-put, append-whole}
use Rattle.gate_alphabet.specs.Letters.{letter_of, letters_of}
use Rattle.gate_qasm.specs.Text.{line, text_of}
use Rattle.gate_qasm.proofs.Writing.{text_from, text-end, text-back, length_back, text-fewer}
use Rattle.gate_qasm.proofs.lines.put_lines.Goals as goal

-- what is written so far leaves room for one line more
room : (word out : List ℕ) (i : ℕ) → length (text_of (letters_of word)) ≤ length out → 0 < i → i ≤ length word
    → length (text_from word i) + length (line (letter_of (get_or word (i - 1) 0))) ≤ length out
room word out i p h l = omega (arith, length_back word i h l, text-fewer word (i - 1) (omega arith))

pub loop-i-init : goal.loop-i-init
loop-i-init c = rw (text-end c.args.word.now (length c.args.word.now) (le_refl _)) (append-none c.args.out.now)

pub put_line-at-requires : goal.put_line-at-requires
put_line-at-requires c =
    let a = c.loop-i.invariant in
    omega (arith, room c.args.word.now c.args.out.now c.loop-i.i c.requires (omega arith) (omega arith), a.end, a.same)

pub loop-i-preserved : goal.loop-i-preserved
loop-i-preserved c =
    let w : List ℕ = c.args.word.now in
    let i : ℕ = c.loop-i.i in
    let h : 0 < i = omega arith in
    let l : i ≤ length w = omega arith in
    rw (text-back w i h l) (append-put c.args.out.now 0 (text_from w i) (line (letter_of (get_or w (i - 1) 0))) c.loop-i.out c.loop-i.at c.loop-i.invariant (omega (arith, room w c.args.out.now i c.requires h l)) c.put_line-at.ensures)

pub returns : goal.returns
returns c =
    let e : c.loop-i.i ≡ 0 = omega arith in
    append-whole c.args.out.now (text_from c.args.word.now 0) c.loop-i.out c.loop-i.at c.requires (rw e at c.loop-i.invariant)
