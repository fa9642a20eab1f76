-- The first i bytes stand in place.
use Rattle.std.proofs.Common.{◌≡◌, ℕ, ◌+◌, ◌*◌, ◌/◌, ◌<◌, ◌≤◌, true, List, length, get_or, ap, ◌∙◌, arith}
use lib.Seq.{paste, paste-zero, length-paste}
use Rattle.text_hex.specs.Hex.{digit_of, is_hex, pairs}
use Rattle.text_hex.proofs.Hexadecimal.{hex_even, all-each, length_pairs, put-more, put_all}
use Rattle.text_hex.proofs.put_pairs.Goals as goal

-- each digit is one
below : (w : List ℕ) → is_hex w ≡ true → (k : ℕ) → k < length w → digit_of (get_or w k 0) < 16
below w h k l = all-each w (hex_even w h).1 k l

-- a store keeps the length
long : (w out made : List ℕ) (i : ℕ) → length w / 2 ≤ length out → i ≤ length w / 2 → made ≡ paste out 0 (pairs w) i → length made ≡ length out
long w out made i r h e = let f = length_pairs w in ap length e ∙ length-paste out 0 (pairs w) i (omega arith) (omega arith)

pub loop-i-init : goal.loop-i-init
loop-i-init c = paste-zero c.args.out.now 0 (pairs c.args.word.now)

pub overflow_mul-out : goal.overflow_mul-out
overflow_mul-out c =
    let b = below c.args.word.now c.requires.0 (2 * c.loop-i.i) (omega arith) in
    record { fits = rw c.digit.ensures (omega arith) }

pub overflow_add-out : goal.overflow_add-out
overflow_add-out c =
    let a = below c.args.word.now c.requires.0 (2 * c.loop-i.i) (omega arith) in
    let b = below c.args.word.now c.requires.0 (2 * c.loop-i.i + 1) (omega arith) in
    record { fits = rw (c.digit.ensures, c.digit-in-loop-i.ensures) (omega arith) }

pub loop-i-preserved : goal.loop-i-preserved
loop-i-preserved c =
    put-more c.args.word.now c.args.out.now c.requires.1 c.loop-i.i c.digit.result c.digit-in-loop-i.result c.loop-i.out (omega arith) c.loop-i.invariant c.digit.ensures c.digit-in-loop-i.ensures

pub returns : goal.returns
returns c = put_all c.args.word.now c.args.out.now c.requires.1 c.loop-i.i c.loop-i.out (omega arith) c.loop-i.invariant
