use native.Mathlib.Omega.{arith}
use mathlib.Core.Path.{◌≡◌, refl, sym, ◌∙◌}
use mathlib.Core.Bool.{true}
use mathlib.Core.List.{List}
use Prim.Native.Nat.{ℕ, ◌+◌, ◌-◌, ◌≤◌}
use lib.ListN.{length, take, drop, length-drop}
use lib.Seq.{take_all}
use borrow.Author.Rules.{rules}
use Rattle.record_kinds.specs.Kinds.{body_length}
use Rattle.record_forms.specs.Forms.{fields_of, numbers_at}
use Rattle.text_puts.specs.Puts.{puts}
use Rattle.record_text.specs.Texts.{texts_of, puts-same, texts_more, texts_none}
use Rattle.record_text.specs.lemmas.Sizes.{shown-size}
use Rattle.record_text.specs.Records.{records_in, shown_texts, whole_long, records-end, records-stop, records-more}
use Rattle.record_text.proofs.put.Statement.{statement}
use Rattle.record_text.proofs.put.Tie as tie

abbrev invariant-loop : tie.invariant-loop-at
invariant-loop out₀ bytes at₀ end₀ out at end = (most : ℕ) × (length bytes - at ≤ most) × (puts (out, end) (texts_of (records_in most (drop at bytes))) ≡ puts (out₀, 0) (shown_texts bytes))

abbrev decreases-loop : tie.decreases-loop-at
decreases-loop out₀ bytes at₀ end₀ out at end = length bytes - at

-- what stands behind a kind, and that it is long enough
rest : (bytes : List ℕ) (at : ℕ) → take (length bytes - at) (drop at bytes) ≡ drop at bytes
rest bytes at = take_all (length bytes - at) (drop at bytes) (let n = length-drop at bytes in omega arith)

long : (c : tie.After-is_whole invariant-loop decreases-loop) → c.is_whole.result ≡ true → body_length c.kind_of-kind.result ≤ length c.args.bytes.now - (c.loop-at.at + 1)
long c e = whole_long c.kind_of-kind.result _ (sym c.is_whole.ensures ∙ e)

loop-holds : tie.Need-loop-at-init invariant-loop decreases-loop
loop-holds c = (length c.args.bytes.now, omega arith, refl)

shared-slice-read-kind-of : tie.Need-bounds-bytes-at invariant-loop decreases-loop
shared-slice-read-kind-of c = search rules

kind-of-requires : tie.Need-kind_of-kind-requires invariant-loop decreases-loop
kind-of-requires c κs = search rules

add_at : tie.Need-overflow_add-at invariant-loop decreases-loop
add_at c = search rules

sub-is-whole : tie.Need-overflow_sub-bytes invariant-loop decreases-loop
sub-is-whole c = omega arith

is-whole-requires : tie.Need-is_whole-requires invariant-loop decreases-loop
is-whole-requires c κs = search rules

same_length : tie.Need-shape_of-out-then-not-is_whole invariant-loop decreases-loop
same_length c = let l = c.loop-at in puts-same (l.out, l.end) (c.args.out.now, 0) _ _ l.invariant.2

returns : tie.Need-returns-then-not-is_whole invariant-loop decreases-loop
returns c =
    let l = c.loop-at in
    let bytes = c.args.bytes.now in
    let w = sym c.is_whole.ensures ∙ c.if-not-is_whole.true in
    record {
      is = sym (texts_none (l.out, l.end) _ (records-stop bytes l.at c.loop-at-test.true c.kind_of-kind.result c.kind_of-kind.ensures l.invariant.0 w)) ∙ l.invariant.2;
      size = shown-size bytes (λ j. omega (arith, c.shared_slice_known-1.given j));
    }

sub-put-line : tie.Need-slice_bounds-put_line-count invariant-loop decreases-loop
sub-put-line c = omega arith

part-put-line-start : tie.Need-slice_bounds-put_line-start invariant-loop decreases-loop
part-put-line-start c = omega arith

part-put-line-end : tie.Need-slice_bounds-put_line-end invariant-loop decreases-loop
part-put-line-end c = omega arith

put-line-requires : tie.Need-put_line-end-requires invariant-loop decreases-loop
put-line-requires c κs = let l = c.loop-at in let h = long c.before.before.before (c.if-not-is_whole.false) in rw (rest c.args.bytes.now (l.at + 1)) (let n = length-drop (l.at + 1) c.args.bytes.now in omega arith)

body-length-requires : tie.Need-body_length-at-requires invariant-loop decreases-loop
body-length-requires c κs = search rules

add-at-2 : tie.Need-overflow_add-at-in-loop-at invariant-loop decreases-loop
add-at-2 c = let h = long c.before.before.before.before.before.before.before (c.if-not-is_whole.false) in let e = c.body_length-at.ensures in search rules

loop-less : tie.Need-loop-at-smaller invariant-loop decreases-loop
loop-less c = let h = long c.before.before.before.before.before.before.before (c.if-not-is_whole.false) in let e = c.body_length-at.ensures in omega arith

loop-again : tie.Need-loop-at-preserved invariant-loop decreases-loop
loop-again c =
    let l = c.loop-at in
    let bytes = c.args.bytes.now in
    let k = c.kind_of-kind in
    let q = c.put_line-end in
    let w = sym c.is_whole.ensures ∙ c.if-not-is_whole.false in
    let m = records-more bytes l.at c.loop-at-test.true k.result k.ensures l.invariant.0 l.invariant.1 w in
    rw c.body_length-at.ensures (m.0, m.1, texts_more (l.out, l.end) (q.new.out, q.result) k.result (numbers_at (fields_of k.result) (drop (l.at + 1) bytes) 0) _ _ m.2 (rw (rest bytes (l.at + 1)) at q.ensures) ∙ l.invariant.2)

same-length-2 : tie.Need-shape_of-out invariant-loop decreases-loop
same-length-2 c = let l = c.loop-at in puts-same (l.out, l.end) (c.args.out.now, 0) _ _ l.invariant.2

returns-2 : tie.Need-returns invariant-loop decreases-loop
returns-2 c =
    let l = c.loop-at in
    let bytes = c.args.bytes.now in
    record {
      is = sym (texts_none (l.out, l.end) _ (records-end bytes l.at l.invariant.0 c.loop-at-test.false)) ∙ l.invariant.2;
      size = shown-size bytes (λ j. omega (arith, c.shared_slice_known-1.given j));
    }

pub put_spec : {M : Type 1} → statement M
put_spec =
    tie.close
    (tie.spec
    invariant-loop
    decreases-loop
    loop-holds
    shared-slice-read-kind-of
    kind-of-requires
    add_at
    sub-is-whole
    is-whole-requires
    same_length
    returns
    sub-put-line
    part-put-line-start
    part-put-line-end
    put-line-requires
    body-length-requires
    add-at-2
    loop-less
    loop-again
    same-length-2
    returns-2)
