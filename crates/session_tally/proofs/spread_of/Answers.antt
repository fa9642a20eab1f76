-- `spread_of` meets its contract. Assumes nothing.
use Rattle.std.proofs.Common.{◌≡◌, ℕ, List, ◌+◌, ◌*◌, ◌≤◌, ◌-◌, length, arith, rules, sym, ap, ap₂, ◌∙◌}
use Rattle.session_tally.specs.lemmas.Places.{plus_at}
use Rattle.session_tally.specs.lemmas.Read.{count_none, count_most, full-most, count-full, count-over, odd-next, even-next, past_next}
use Rattle.session_tally.proofs.spread_of.Goals as goal
use Rattle.session_tally.proofs.spread_of.Goals.{then-not-is_odd, then-e-lt21, else-e-lt21, else-not-is_odd}

pub loop-i-init : goal.loop-i-init
loop-i-init c = record { few = omega arith; counted = count_none c.args.k c.args.points.now }

pub overflow_add-counts : goal.overflow_add-counts
overflow_add-counts c =
    let i = c.loop-i.invariant in
    let m = count_most c.args.k c.args.points.now c.loop-i.i c.loop-i.even c.loop-i.counts i.few i.counted (omega arith) c.exponent-e.result c.if-e-lt21.true in
    search rules

pub loop-i-preserved : goal.loop-i-preserved
loop-i-preserved c =
    let k = c.args.k in
    let i = c.loop-i.invariant in
    let r = c.requires in
    let h = c.loop-i-test.true in
    let m : 4 * c.loop-i.i ≤ length c.args.points.now = omega arith in
    let o : 4 * c.loop-i.i + 4 ≤ length c.args.points.now = omega arith in
    let at = c.point_at-v.ensures in
    elim c.if-not-is_odd.branch [
      | then-not-is_odd w ↦
          let e : c.if-not-is_odd.even ≡ c.loop-i.even + 1 = w.even-is in
          let n = c.loop-i.i + 1 - (c.loop-i.even + 1) in
          record {
            few = omega arith;
            counted =
                ap₂ (λ (l : List ℕ) (n : ℕ). plus_at l k (c.loop-i.i + 1 - n)) w.counts-is e
                ∙ elim w.if-e-lt21.branch [
                  | then-e-lt21 x ↦ ap (λ (l : List ℕ). plus_at l k n) x.counts-is ∙ even-next k c.args.points.now c.loop-i.i c.loop-i.even c.loop-i.counts i.few i.counted m _ o at w.exponent-e.result w.exponent-e.ensures
                  | else-e-lt21 x ↦ ap (λ (l : List ℕ). plus_at l k n) x.counts-is ∙ past_next k c.args.points.now c.loop-i.i c.loop-i.even c.loop-i.counts i.few i.counted m _ o at w.exponent-e.result w.exponent-e.ensures x.if-e-lt21.false
                ];
          }
      | else-not-is_odd w ↦
          let e : c.if-not-is_odd.even ≡ c.loop-i.even = w.even-is in
          record {
            few = omega arith;
            counted =
                ap₂ (λ (l : List ℕ) (n : ℕ). plus_at l k (c.loop-i.i + 1 - n)) w.counts-is e
                ∙ odd-next k c.args.points.now c.loop-i.i c.loop-i.even c.loop-i.counts i.few i.counted m _ o at (sym c.is_odd.ensures ∙ w.if-not-is_odd.false);
          }
    ]

pub overflow_add-counts-then-e-lt21-2 : goal.overflow_add-counts-then-e-lt21-2
overflow_add-counts-then-e-lt21-2 c =
    let i = c.loop-i.invariant in
    let r = c.requires in
    let e : c.loop-i.i ≡ c.args.n = omega arith in
    let k = c.from-e.ensures in
    let m = full-most c.args.k c.args.points.now c.loop-i.i c.loop-i.even c.loop-i.counts i.few i.counted (omega arith) (omega arith) in
    rw k (search rules)

pub returns-then-e-lt21-2 : goal.returns-then-e-lt21-2
returns-then-e-lt21-2 c =
    let i = c.loop-i.invariant in
    let r = c.requires in
    let e : c.loop-i.i ≡ c.args.n = omega arith in
    let f = count-full c.args.k c.args.points.now c.loop-i.i c.loop-i.even c.loop-i.counts i.few i.counted (omega arith) in
    rw (c.from-e.ensures, ← e) f

pub returns-else-e-lt21-2 : goal.returns-else-e-lt21-2
returns-else-e-lt21-2 c =
    let i = c.loop-i.invariant in
    let r = c.requires in
    let e : c.loop-i.i ≡ c.args.n = omega arith in
    let f = count-over c.args.k c.args.points.now c.loop-i.i c.loop-i.even c.loop-i.counts i.few i.counted (omega arith) (omega arith) in
    rw (← e) f
