-- `short` meets its contract: a size with an upper word is above 2^63. Assumes nothing.
use Prim.Native.Nat.{ℕ, ◌^◌}
use mathlib.Core.Path.{sym, ap, ◌∙◌}
use lib.Dec.{lit≤}
use borrow.Author.Rules.{rules}
use Rattle.integers_wide.specs.Meaning.{size_of, word}
use Rattle.text_scan.specs.Number.{spelling, fitted}
use Rattle.text_scan.proofs.Saturation.{fitted-big}
use Rattle.text_scan.proofs.Words.{above_word, lower_only}
use Rattle.text_scan.proofs.short.Statement.{statement}
use Rattle.text_scan.proofs.short.Tie as tie

signed-requires : tie.Need-signed-requires
signed-requires c κs = search rules

returns : tie.Need-returns-then-n-eq0
unfolding size_of
returns c =
    let s = c in
    c.signed.ensures ∙ ap (λ (n : ℕ). fitted (2 ^ 63) (spelling s.args.minus n s.args.end)) (lower_only word _ _ c.if-n-eq0.true)

returns-2 : tie.Need-returns-else-n-eq0
unfolding size_of
returns-2 c = sym (fitted-big (2 ^ 63) _ _ _ (above_word (2 ^ 63) word _ _ (lit≤ tt) c.if-n-eq0.false))

pub short_spec : {M : Type 1} → statement M
short_spec = tie.close (tie.spec signed-requires returns returns-2)
