-- `word_at` meets its contract. Assumes nothing.
use Prim.Native.Nat.{ℕ, ◌^◌}
use mathlib.Core.Path.{◌≡◌, sym, ap, ◌∙◌}
use mathlib.Core.List.{List}
use lib.IntN.{ℤ}
use mir.Syntax.{w64}
use mir.Val.{SFits}
use mir.Facts.{to_z-of_z}
use borrow.Author.Rules.{rules}
use Rattle.text_scan.specs.Number.{value as number, read_of, number_at}
use Rattle.text_words.specs.Numbers.{word_none, word-run-on, word-whole}
use Rattle.text_words.proofs.word_at.Statement.{statement}
use Rattle.text_words.proofs.word_at.Tie as tie

module _ (c : tie.After-ends_word) where
  abbrev start : tie.Start
  start = c.before.before.before.before

  abbrev line : List ℕ
  line = start.args.line.now

  abbrev value : ℤ
  value = c.in-Value.v

  abbrev end : ℕ
  end = c.in-Value.end

  fits : SFits w64 c.in-Value.v
  fits = search rules

  told : number_at (2 ^ 63) line start.args.at ≡ number value end
  told = sym c.number_at-n.ensures ∙ ap read_of c.in-Value.is

number-at-requires : tie.Need-number_at-n-requires
number-at-requires c κs = search rules

enum-known-n : tie.Need-enum_known-n
enum-known-n c = search rules

ends-word-requires : tie.Need-ends_word-requires
ends-word-requires c κs = search rules

spaces-from-requires : tie.Need-spaces_from-requires
spaces-from-requires c κs = search rules

returns : tie.Need-returns-then-ends_word
returns c =
    let k = c.before.before in
    rw (to_z-of_z (fits k), c.spaces_from.ensures) (sym (word-whole (2 ^ 63) (line k) (start k).args.at (value k) (end k) (told k) (sym k.ends_word.ensures ∙ c.if-ends_word.true)))

enum_told : tie.Need-enum_told-1
enum_told c = search rules

returns-2 : tie.Need-returns-else-ends_word
returns-2 c =
    let k = c.before in
    sym (word-run-on (2 ^ 63) (line k) (start k).args.at (value k) (end k) (told k) (sym k.ends_word.ensures ∙ c.if-ends_word.false))

returns-3 : tie.Need-returns-in-Bad
returns-3 c = sym (word_none (2 ^ 63) _ _ (sym c.number_at-n.ensures ∙ ap read_of c.in-Bad.is))

pub word_at_spec : {M : Type 1} → statement M
word_at_spec =
    tie.close
    (tie.spec
    number-at-requires
    enum-known-n
    ends-word-requires
    spaces-from-requires
    returns
    enum_told
    returns-2
    returns-3)
