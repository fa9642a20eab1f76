-- The words that are left, the room for their ticks, and what they make of the sum so far.
use Rattle.std.specs.Prelude.{Ok}
use Rattle.std.proofs.Common.{◌≡◌, ℕ, ◌+◌, ◌-◌, ◌*◌, ◌≤◌, ◌<◌, true, List, ◌∷◌, length, take, drop, sym, ap, ◌∙◌, arith}
use Rattle.gate_tariff.specs.declared.Tariff.{Tariff}
use Rattle.gate_tariff.specs.Index.{index_of}
use Rattle.gate_tariff.specs.Tariff.{ticks_of}
use Rattle.gate_tariff.specs.Tray.{words_of, is_tray, total_of}
use Rattle.gate_tariff.specs.lemmas.Laws.{ticks_small}
use Rattle.gate_tariff.proofs.Words.{tray_facts, end-inside, next_word, total_from, total_end, total_more, total_refused, total_start, words_left}
use Rattle.gate_tariff.proofs.tray_words.total.Goals as goal

-- the word up to the line feed that is found, and the words behind it
module _ (s : List ℕ) (at end : ℕ) (tray : is_tray s ≡ true) (some : 0 < length (words_of (drop at s))) (found : end ≡ at + index_of 10 (drop at s)) where
  inside : (at ≤ end) × (end < length s)
  inside = end-inside s at end (tray_facts s tray).0 (words_left s at some) found

  next : words_of (drop at s) ≡ take (end - at) (drop at s) ∷ words_of (drop (end + 1) s)
  next = next_word s at end (tray_facts s tray).0 (words_left s at some) found

  -- there is room for the ticks of the words behind it
  least : (p : Tariff) (sum k : ℕ) → sum + 65536000 * length (words_of (drop at s)) ≤ 524288000 → ticks_of p (take (end - at) (drop at s)) ≡ Ok k
      → sum + k + 65536000 * length (words_of (drop (end + 1) s)) ≤ 524288000
  least p sum k h t = let l = ap length next in omega (arith, ticks_small p (take (end - at) (drop at s)) k t)

pub loop-i-init : goal.loop-i-init
loop-i-init c =
    let s = c.args.s.now in
    let e = c.requires.2 in
    (omega arith, omega (arith, (tray_facts s c.requires.1).1), total_start c.args.tariff (words_of s))

pub find-end-requires : goal.find-end-requires
find-end-requires c = let h = c.loop-i.invariant.0 in let l = words_left c.args.s.now c.loop-i.at (omega arith) in omega arith

pub slice_bounds-word_ticks-end : goal.slice_bounds-word_ticks-end
slice_bounds-word_ticks-end c =
    let h = c.loop-i.invariant.0 in
    let i = (inside c.args.s.now c.loop-i.at c.find-end.result c.requires.1 (omega arith) c.find-end.ensures).1 in
    omega arith

pub overflow_add-sum : goal.overflow_add-sum
overflow_add-sum c =
    let h = c.loop-i.invariant.0 in
    omega (arith, least c.args.s.now c.loop-i.at c.find-end.result c.requires.1 (omega arith) c.find-end.ensures c.args.tariff c.loop-i.sum c.in-Ok.k c.loop-i.invariant.1 (sym c.word_ticks.ensures ∙ c.in-Ok.is))

pub overflow_add-at : goal.overflow_add-at
overflow_add-at c =
    let h = c.loop-i.invariant.0 in
    let i = (inside c.args.s.now c.loop-i.at c.find-end.result c.requires.1 (omega arith) c.find-end.ensures).1 in
    omega arith

pub loop-i-preserved : goal.loop-i-preserved
loop-i-preserved c =
    let s : List ℕ = c.args.s.now in
    let at : ℕ = c.loop-i.at in
    let end : ℕ = c.find-end.result in
    let h = c.loop-i.invariant.0 in
    let some : 0 < length (words_of (drop at s)) = omega arith in
    let t : ticks_of c.args.tariff (take (end - at) (drop at s)) ≡ Ok c.in-Ok.k = sym c.word_ticks.ensures ∙ c.in-Ok.is in
    let n = next s at end c.requires.1 some c.find-end.ensures in
    let l = ap length (next s at end c.requires.1 some c.find-end.ensures) in (
      omega arith,
      least s at end c.requires.1 some c.find-end.ensures c.args.tariff c.loop-i.sum c.in-Ok.k c.loop-i.invariant.1 t,
      sym (total_more c.args.tariff c.loop-i.sum c.in-Ok.k (take (end - at) (drop at s)) (words_of (drop (end + 1) s)) t) ∙ ap (total_from c.args.tariff c.loop-i.sum) (sym n) ∙ c.loop-i.invariant.2,
    )

pub returns-in-Err : goal.returns-in-Err
returns-in-Err c =
    let s : List ℕ = c.args.s.now in
    let at : ℕ = c.loop-i.at in
    let end : ℕ = c.find-end.result in
    let h = c.loop-i.invariant.0 in
    let some : 0 < length (words_of (drop at s)) = omega arith in
    let n = next s at end c.requires.1 some c.find-end.ensures in
    (sym (total_refused c.args.tariff c.loop-i.sum (take (end - at) (drop at s)) (words_of (drop (end + 1) s)) _ (sym c.word_ticks.ensures ∙ c.in-Err.is)) ∙ ap (total_from c.args.tariff c.loop-i.sum) (sym n) ∙ c.loop-i.invariant.2, tt)

pub returns : goal.returns
returns c =
    let h = c.loop-i.invariant.0 in
    (sym (total_end c.args.tariff c.loop-i.sum (words_of (drop c.loop-i.at c.args.s.now)) (omega arith)) ∙ c.loop-i.invariant.2, omega arith)
