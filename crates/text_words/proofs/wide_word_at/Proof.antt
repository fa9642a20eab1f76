-- `wide_word_at` meets its contract. Assumes nothing.
use Prim.Native.Nat.{ℕ, ◌^◌}
use mathlib.Core.Path.{◌≡◌, sym, ap, ◌∙◌}
use mathlib.Core.List.{List}
use lib.IntN.{ℤ}
use Rattle.integers_wide.specs.Meaning.{meaning}
use borrow.Author.Rules.{rules}
use Rattle.text_scan.specs.Number.{value as number, wide_read_of, number_at}
use Rattle.text_words.specs.Numbers.{word_none, word-run-on, word-whole}
use Rattle.text_words.proofs.wide_word_at.Statement.{statement}
use Rattle.text_words.proofs.wide_word_at.Tie as tie

module _ (c : tie.After-ends_word) where
  abbrev start : tie.Start
  start = c.before.before.before.before

  abbrev line : List ℕ
  line = start.args.line.now

  abbrev value : ℤ
  value = meaning c.in-Value.v

  abbrev end : ℕ
  end = c.in-Value.end

  told : number_at (2 ^ 127) line start.args.at ≡ number value end
  told = sym c.wide_number_at-n.ensures ∙ ap wide_read_of c.in-Value.is

wide-number-at-requires : tie.Need-wide_number_at-n-requires
wide-number-at-requires c κs = search rules

enum-known-n : tie.Need-enum_known-n
enum-known-n c = search rules

ends-word-requires : tie.Need-ends_word-requires
ends-word-requires c κs = search rules

spaces-from-requires : tie.Need-spaces_from-requires
spaces-from-requires c κs = search rules

returns : tie.Need-returns-then-ends_word
returns c =
    let k = c.before.before in
    rw c.spaces_from.ensures (sym (word-whole (2 ^ 127) (line k) (start k).args.at (value k) (end k) (told k) (sym k.ends_word.ensures ∙ c.if-ends_word.true)))

enum_told : tie.Need-enum_told-1
enum_told c = search rules

returns-2 : tie.Need-returns-else-ends_word
returns-2 c =
    let k = c.before in
    sym (word-run-on (2 ^ 127) (line k) (start k).args.at (value k) (end k) (told k) (sym k.ends_word.ensures ∙ c.if-ends_word.false))

returns-3 : tie.Need-returns-in-Bad
returns-3 c = sym (word_none (2 ^ 127) _ _ (sym c.wide_number_at-n.ensures ∙ ap wide_read_of c.in-Bad.is))

pub wide_word_at_spec : {M : Type 1} → statement M
wide_word_at_spec =
    tie.close
    (tie.spec
    wide-number-at-requires
    enum-known-n
    ends-word-requires
    spaces-from-requires
    returns
    enum_told
    returns-2
    returns-3)
