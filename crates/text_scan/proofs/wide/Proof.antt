-- `wide` meets its contract. Assumes nothing.
use Prim.Native.Nat.{◌^◌, ◌≤◌, ◌<◌}
use mathlib.Core.Path.{◌≡◌, refl, sym, ap}
use mathlib.Core.Bool.{true, false, not}
use lib.IntN.{ℤ}
use mir.Syntax.{w64}
use mir.Val.{Fits}
use native.Mathlib.Omega.{arith}
use borrow.Author.Rules.{rules}
use borrow.Author.Tests.{le-ltb, not-true, not-false}
use Rattle.integers_wide.specs.declared.Size.{Size}
use Rattle.integers_wide.specs.Meaning.{size_of, meaning, word}
use Rattle.integers_wide.specs.lemmas.Laws.{upper-less}
use Rattle.text_scan.specs.Number.{value, fits, fitted}
use Rattle.text_scan.proofs.Saturation.{fits-small, fitted-big}
use Rattle.text_scan.proofs.Words.{reaches, passes, exactly}
use Rattle.text_scan.proofs.wide.Statement.{statement}
use Rattle.text_scan.proofs.wide.Tie as tie

module _ (n : Size) where
  below : n.hi < 2 ^ 63 → n.lo < 2 ^ 64 → size_of n < 2 ^ 127
  unfolding size_of
  below h l = upper-less word n.hi n.lo (2 ^ 63) 0 l h

  at_least : 2 ^ 63 ≤ n.hi → 2 ^ 127 ≤ size_of n
  unfolding size_of
  at_least h = reaches word (2 ^ 63) n.hi n.lo h

  above : 2 ^ 63 < n.hi → 2 ^ 127 < size_of n
  unfolding size_of
  above h = upper-less word (2 ^ 63) 0 n.hi n.lo (omega arith) h

  above_lower : 2 ^ 63 ≤ n.hi → 0 < n.lo → 2 ^ 127 < size_of n
  unfolding size_of
  above_lower h p = passes word (2 ^ 63) n.hi n.lo h p

  all : 2 ^ 63 ≤ n.hi → n.hi ≤ 2 ^ 63 → n.lo ≤ 0 → size_of n ≡ 2 ^ 127
  unfolding size_of
  all h k l = exactly word (2 ^ 63) n.hi n.lo h k l

low : (c : tie.Start) → Fits w64 c.args.n.lo
low c = search rules

signed-requires : tie.Need-signed-requires
signed-requires c κs = search rules

returns : tie.Need-returns-then-n-lt9223372036854775808
unfolding fitted
returns c =
    let s = c.before.before.before in
    rw (fits-small (2 ^ 127) s.args.minus _ (below s.args.n c.if-n-lt9223372036854775808.true (low s).fits)) (ap (λ (z : ℤ). value z s.args.end) c.signed.ensures)

returns-2 : tie.Need-returns-then-not-minus
unfolding fits fitted
returns-2 c =
    let s = c in
    let m : s.args.minus ≡ false = not-true _ (ap not c.if-not-minus.true) in
    rw (m, le-ltb _ _ (at_least s.args.n c.if-n-lt9223372036854775808.false)) refl

returns-3 : tie.Need-returns-then-n-gt9223372036854775808
returns-3 c = let s = c in sym (fitted-big (2 ^ 127) s.args.minus _ _ (above s.args.n c.if-n-gt9223372036854775808.true))

returns-4 : tie.Need-returns-then-n-gt0
returns-4 c =
    let e = c in
    let s = e in
    sym (fitted-big (2 ^ 127) s.args.minus _ _ (above_lower s.args.n e.if-n-lt9223372036854775808.false c.if-n-gt0.true))

returns-5 : tie.Need-returns
unfolding fits fitted meaning
returns-5 c =
    let e = c in
    let s = e in
    let m : s.args.minus ≡ true = not-false _ (ap not e.if-not-minus.false) in
    rw (m, all s.args.n e.if-n-lt9223372036854775808.false c.if-n-gt9223372036854775808.false c.if-n-gt0.false) refl

pub wide_spec : {M : Type 1} → statement M
wide_spec = tie.close (tie.spec signed-requires returns returns-2 returns-3 returns-4 returns-5)
