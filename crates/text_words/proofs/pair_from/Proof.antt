-- `pair_from` meets its contract. Assumes nothing.
use Prim.Native.Nat.{ℕ, ◌^◌}
use mathlib.Core.Path.{◌≡◌, sym, ap, ◌∙◌}
use mathlib.Core.List.{List}
use lib.IntN.{ℤ}
use borrow.Author.Rules.{rules}
use Rattle.integers_wide.specs.Meaning.{meaning}
use Rattle.text_scan.specs.Run.{spaces_from}
use Rattle.text_scan.specs.Number.{value as number, wide_read_of}
use Rattle.text_words.specs.Numbers.{word_at, pair-none, pair_one, pair-more, pair-both}
use Rattle.text_words.proofs.pair_from.Statement.{statement}
use Rattle.text_words.proofs.pair_from.Tie as tie

module _ (c : tie.After-wide_word_at-first) where
  abbrev start : tie.Start
  start = c.before.before.before

  abbrev line : List ℕ
  line = start.args.line.now

  first-is : wide_read_of c.wide_word_at-first.result ≡ word_at (2 ^ 127) line (spaces_from line start.args.from)
  first-is = rw c.spaces_from.ensures at c.wide_word_at-first.ensures

module _ (c : tie.After-wide_word_at-second) where
  abbrev one : tie.After-wide_word_at-first
  one = c.before.before

  abbrev p : ℤ
  p = meaning c.in-Value.p

  abbrev at : ℕ
  at = c.in-Value.at

  first-told : word_at (2 ^ 127) (line one) (spaces_from (line one) (start one).args.from) ≡ number p at
  first-told = sym (first-is one) ∙ ap wide_read_of c.in-Value.is

module _ (c : tie.In-Value-second) where
  abbrev two : tie.After-wide_word_at-second
  two = c.before

  abbrev q : ℤ
  q = meaning c.in-Value-second.q

  abbrev end : ℕ
  end = c.in-Value-second.end

  second-told : word_at (2 ^ 127) (line (one two)) (at two) ≡ number q end
  second-told = sym two.wide_word_at-second.ensures ∙ ap wide_read_of c.in-Value-second.is

spaces-from-requires : tie.Need-spaces_from-requires
spaces-from-requires c κs = search rules

wide-word-at-requires : tie.Need-wide_word_at-first-requires
wide-word-at-requires c κs = search rules

enum-known-first : tie.Need-enum_known-first
enum-known-first c = search rules

enum_told : tie.Need-enum_told-1
enum_told c = search rules

returns : tie.Need-returns-in_default
returns c = let k = c.before in sym (pair-none (line k) (start k).args.from (sym (first-is k) ∙ ap wide_read_of c.in_default.is))

wide-word-at-requires-2 : tie.Need-wide_word_at-second-requires
wide-word-at-requires-2 c κs = search rules

enum-known-second : tie.Need-enum_known-second
enum-known-second c = search rules

enum-told-2 : tie.Need-enum_told-in_default-second
enum-told-2 c = search rules

returns-2 : tie.Need-returns-in_default-second
returns-2 c =
    let k = c.before in
    sym (pair_one (line (one k)) (start (one k)).args.from (p k) (at k) (first-told k) (sym k.wide_word_at-second.ensures ∙ ap wide_read_of c.in_default-second.is))

returns-3 : tie.Need-returns-then-end-line
returns-3 c =
    let t = c.before in
    let k = two t in
    sym (pair-more (line (one k)) (start (one k)).args.from (p k) (at k) (first-told k) (q t) (end t) (second-told t) c.if-end-line.true)

returns-4 : tie.Need-returns
returns-4 c =
    let t = c.before in
    let k = two t in
    sym (pair-both (line (one k)) (start (one k)).args.from (p k) (at k) (first-told k) (q t) (end t) (second-told t) c.if-end-line.false)

pub pair_from_spec : {M : Type 1} → statement M
pair_from_spec =
    tie.close
    (tie.spec
    spaces-from-requires
    wide-word-at-requires
    enum-known-first
    enum_told
    returns
    wide-word-at-requires-2
    enum-known-second
    enum-told-2
    returns-2
    returns-3
    returns-4)
