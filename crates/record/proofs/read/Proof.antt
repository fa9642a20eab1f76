use Rattle.record_kinds.specs.declared.Refusal.{Refusal}
use Rattle.std.specs.Prelude.{Result}
use mathlib.Core.Path.{◌≡◌, sym, ◌∙◌, ap}
use mathlib.Core.List.{List}
use Prim.Native.Nat.{ℕ, ◌-◌}
use native.Mathlib.Nat.{le_of_eq}
use lib.Dec.{ltb}
use lib.ListN.{length, take, drop, length-drop}
use lib.Seq.{take_all}
use borrow.Author.Rules.{rules}
use borrow.Author.Tests.{ltb-false}
use Rattle.record_kinds.specs.declared.Kind.{Kind}
use Rattle.record_kinds.specs.Kinds.{is_known, in_turn, body_length, admission_of, whole_long}
use Rattle.record.specs.Record.{reading_of, reads, body_of, admitted, reading_none, reading_admitted}
use Rattle.record.proofs.read.Statement.{statement}
use Rattle.record.proofs.read.Tie as tie

-- the part from 1 on is all but the first
all : (l : List ℕ) → take (length l - 1) (drop 1 l) ≡ drop 1 l
all l = take_all (length l - 1) (drop 1 l) (le_of_eq (length-drop 1 l))

-- what is known once a reading is admitted or not
module _ (c : tie.After-admit) where
  abbrev kept : tie.After-kind_of-kind
  kept = c.before.before.before.before

  abbrev start : tie.Start
  start = kept.before.before.before.before

  abbrev list : List ℕ
  list = start.args.bytes.now

  abbrev kind : Kind
  kind = kept.kind_of-kind.result

  told : c.admit.result ≡ admission_of (is_known kind) (in_turn kind start.args.turn) (ltb (length list - 1) (body_length kind))
  told = cc

  is : reading_of list start.args.turn ≡ admitted c.admit.result (body_of kind (drop 1 list))
  is = reading_admitted list start.args.turn kind kept.if-bytes-eq0.false kept.kind_of-kind.ensures c.admit.result told

  -- the same at what the match found the admission to be
  found : (a : Result Unit Refusal) → c.admit.result ≡ a → reading_of list start.args.turn ≡ admitted a (body_of kind (drop 1 list))
  found a e = is ∙ ap (λ b. admitted b (body_of kind (drop 1 list))) e

returns : tie.Need-returns-then-bytes-eq0
returns c = reads (sym (reading_none c.args.bytes.now c.args.turn c.if-bytes-eq0.true))

shared-slice-read-kind-of : tie.Need-bounds-bytes-0
shared-slice-read-kind-of c = search rules

kind-of-requires : tie.Need-kind_of-kind-requires
kind-of-requires c κs = search rules

sub-short : tie.Need-overflow_sub-short
sub-short c = search rules

body-length-requires : tie.Need-body_length-requires
body-length-requires c κs = search rules

is-known-requires : tie.Need-is_known-requires
is-known-requires c κs = search rules

in-turn-requires : tie.Need-in_turn-requires
in-turn-requires c κs = search rules

admit-requires : tie.Need-admit-requires
admit-requires c κs = search rules

enum-known-why : tie.Need-enum_known-why
enum-known-why c = search rules

enum_told : tie.Need-enum_told-1
enum_told c = search rules

sub-body : tie.Need-slice_bounds-body-count
sub-body c = search rules

part-body-start : tie.Need-slice_bounds-body-start
part-body-start c = search rules

part-body-end : tie.Need-slice_bounds-body-end
part-body-end c = search rules

body-requires : tie.Need-body-requires
body-requires c κs =
    let e = c in
    let a = e.before.before in
    let long = ltb-false (length (list a) - 1) (body_length (kind a)) (whole_long _ _ _ (sym (told a) ∙ e.in-Ok.is)) in
    rw (all (list a), length-drop 1 (list a)) long

returns-2 : tie.Need-returns-in-Err
returns-2 c = reads (sym (found c.before _ c.in-Err.is))

returns-3 : tie.Need-returns-in-Ok
returns-3 c =
    let e = c in
    let a = e.before.before in
    reads (c.body.ensures ∙ ap (body_of (kind a.before)) (all (list a.before)) ∙ sym (found a.before _ e.in-Ok.is))

pub read_spec : {M : Type 1} → statement M
read_spec =
    tie.close
    (tie.spec
    returns
    shared-slice-read-kind-of
    kind-of-requires
    sub-short
    body-length-requires
    is-known-requires
    in-turn-requires
    admit-requires
    enum-known-why
    enum_told
    sub-body
    part-body-start
    part-body-end
    body-requires
    returns-2
    returns-3)
