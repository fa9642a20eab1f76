-- `grown` meets its contract. Assumes nothing.
use mathlib.Core.Path.{◌≡◌, refl}
use mathlib.Core.Bool.{Bool, true, false}
use Prim.Native.Nat.{ℕ}
use native.Mathlib.Numerals.{add-one}
use native.Mathlib.Omega.{arith}
use lib.ListN.{length-set}
use lib.Seq.{take-suc-set}
use borrow.Author.Rules.{rules}
use Rattle.text_input_lines.proofs.grown.Statement.{statement}
use Rattle.text_input_lines.proofs.grown.Tie as tie

never : {P : Type 0} {b : Bool} → b ≡ true → b ≡ false → P
never e f = absurd (let y : ◌≡◌ {A = ℕ} 0 1 = cc in omega arith)

returns : tie.Need-returns-then-g
returns c = record { same = refl; kept = λ e. refl; put = λ e h. never c.if-g.true e; full = λ e h. never c.if-g.true e }

slice-write-line : tie.Need-bounds-line-n
slice-write-line c = search rules

add-t8 : tie.Need-overflow_add-result
add-t8 c = search rules

same_length : tie.Need-shape_of-line-then-n-line
same_length c = search rules

returns-2 : tie.Need-returns-then-n-line
returns-2 c =
    let p = c.args in
    record {
      same = length-set p.line.now p.g.length p.b;
      kept = λ e. never e c.if-g.false;
      put = λ e h. (refl, rw (add-one p.g.length) (take-suc-set p.line.now p.g.length p.b h));
      full = λ e h. absurd (let z = c.if-n-line.true in omega arith);
    }

returns-3 : tie.Need-returns
returns-3 c = record { same = refl; kept = λ e. never e c.if-g.false; put = λ e h. absurd (let z = c.if-n-line.false in omega arith); full = λ e h. refl }

pub grown_spec : {M : Type 1} → statement M
grown_spec = tie.close (tie.spec returns slice-write-line add-t8 same_length returns-2 returns-3)
