-- `put_small` meets its contract. Assumes nothing.
use Prim.Native.Nat.{ℕ, suc, ◌+◌, ◌/◌, ◌%◌, ◌≤◌, ◌<◌}
use mathlib.Core.Path.{◌≡◌, refl, sym, subst, ◌∙◌}
use mathlib.Core.List.{List, [], ◌∷◌}
use native.Mathlib.Numerals.{add-one}
use native.Mathlib.Omega.{arith}
use borrow.Author.Rules.{rules}
use lib.ListN.{length, length-set}
use lib.Seq.{sets-eq}
use Rattle.text.specs.Append.{Appended, appended}
use Rattle.text.proofs.Digits.{decimal-one, decimal-two}
use Rattle.text.proofs.Writing.{put-fits}
use Rattle.list_lines.specs.Lines.{count_text}
use Rattle.list_lines.proofs.put_small.Statement.{statement}
use Rattle.list_lines.proofs.put_small.Tie as tie

one : (n mark : ℕ) → n < 10 → count_text n mark ≡ (48 + n) ∷ mark ∷ []
unfolding count_text
one n mark h = rw (decimal-one n h) refl

two : (n mark : ℕ) → 10 ≤ n → n < 100 → count_text n mark ≡ (48 + n / 10) ∷ (48 + n % 10) ∷ mark ∷ []
unfolding count_text
two n mark h k = rw (decimal-two n h k) refl

add-two : (n : ℕ) → n + 2 ≡ suc (suc n)
add-two n = omega arith

add-out : tie.Need-overflow_add-out
add-out c = search rules

slice-write-out : tie.Need-bounds-out-at
slice-write-out c = search rules

add-out-2 : tie.Need-overflow_add-out-then-n-lt10
add-out-2 c = search rules

slice-write-out-2 : tie.Need-bounds-out-at-then-n-lt10
slice-write-out-2 c = simp length-set (omega arith)

add-result : tie.Need-overflow_add-result
add-result c = search rules

same_length : tie.Need-shape_of-out-then-n-lt10
same_length c = search rules

returns : tie.Need-returns-then-n-lt10
returns c =
    let s = c in
    let xs = s.args.out.now in
    let at = s.args.at in
    let ds = (48 + s.args.n) ∷ s.args.mark ∷ [] in
    let w = put-fits xs at ds (omega arith) in
    (rw (one s.args.n s.args.mark (omega arith)) (appended xs at ds _ _ (omega arith) (rw add-one (sets-eq ds xs at (omega arith)) ∙ w.0) w.1), omega arith)

add-out-3 : tie.Need-overflow_add-out-2
add-out-3 c = search rules

slice-write-out-3 : tie.Need-bounds-out-at-2
slice-write-out-3 c = search rules

add-out-4 : tie.Need-overflow_add-out-3
add-out-4 c = search rules

add-out-5 : tie.Need-overflow_add-out-4
add-out-5 c = search rules

slice-write-out-4 : tie.Need-bounds-out-at-3
slice-write-out-4 c = simp length-set (omega arith)

add-out-6 : tie.Need-overflow_add-out-5
add-out-6 c = search rules

slice-write-out-5 : tie.Need-bounds-out-at-4
slice-write-out-5 c = simp length-set (omega arith)

add-result-2 : tie.Need-overflow_add-result-2
add-result-2 c = search rules

same-length-2 : tie.Need-shape_of-out
same-length-2 c = search rules

returns-2 : tie.Need-returns
returns-2 c =
    let s = c in
    let xs = s.args.out.now in
    let at = s.args.at in
    let ds = (48 + s.args.n / 10) ∷ (48 + s.args.n % 10) ∷ s.args.mark ∷ [] in
    let w = put-fits xs at ds (omega arith) in
    (rw (two s.args.n s.args.mark (omega arith) (omega arith)) (appended xs at ds _ _ (omega arith) (rw (add-one, add-two) (sets-eq ds xs at (omega arith)) ∙ w.0) w.1), omega arith)

pub put_small_spec : {M : Type 1} → statement M
put_small_spec =
    tie.close
    (tie.spec
    add-out
    slice-write-out
    add-out-2
    slice-write-out-2
    add-result
    same_length
    returns
    add-out-3
    slice-write-out-3
    add-out-4
    add-out-5
    slice-write-out-4
    add-out-6
    slice-write-out-5
    add-result-2
    same-length-2
    returns-2)
