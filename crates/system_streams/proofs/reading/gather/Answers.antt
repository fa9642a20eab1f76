use Rattle.std.proofs.Common.{◌≡◌, ◌<◌, [], refl, sym, ◌∙◌, Bool, true, false, cond, ℕ, eqb, arith}
use Rattle.std.proofs.lemmas.Bool.{eqb-false}
use Rattle.system_transfer.specs.Receiving.{begun, read-on, reading_counts, received, arrived}
use Rattle.system_streams.proofs.reading.gather.Goals as goal

-- the loop goes on only while more is asked for, and ends with a byte where it is, and where all is to be read only with nothing more to ask for
more : (b w d : Bool) → cond b (cond w true d) false ≡ true → b ≡ true
more true w d e = refl
more false w d e = e

none : (b w d : Bool) → cond b (cond w true d) false ≡ false → w ≡ true → b ≡ false
none false w d e f = refl
none true true d e f = e
none true false d e f = absurd (let y : ◌≡◌ {A = ℕ} 0 1 = cc in omega arith)

some : (b w : Bool) (n : ℕ) → cond b (cond w true (eqb n 0)) false ≡ false → b ≡ true → 0 < n
some true true n e f = absurd (let y : ◌≡◌ {A = ℕ} 0 1 = cc in omega arith)
some true false n e f = let z = eqb-false n 0 e in omega arith
some false w n e f = absurd (let y : ◌≡◌ {A = ℕ} 0 1 = cc in omega arith)

pub loop-last-init : goal.loop-last-init
loop-last-init g c = record { bytes = []; run = rw c.begin-t.ensures (begun refl) }

pub fetch-got-requires : goal.fetch-got-requires
fetch-got-requires g c = (reading_counts c.loop-last.invariant).0

pub loop-last-preserved : goal.loop-last-preserved
loop-last-preserved g c = read-on c.loop-last.invariant (more c.loop-last.t.more c.args.whole (eqb c.loop-last.t.at 0) (sym c.asks.ensures ∙ c.loop-last-test.true)) c.fetch-got.ensures

pub returns-then-t : goal.returns-then-t
returns-then-t g c = record {
  all = λ e. received c.loop-last.invariant (none c.loop-last.t.more c.args.whole (eqb c.loop-last.t.at 0) (sym c.asks.ensures ∙ c.loop-last-test.false) e);
  some = λ e. arrived c.loop-last.invariant (some c.loop-last.t.more c.args.whole c.loop-last.t.at (sym c.asks.ensures ∙ c.loop-last-test.false));
}

pub returns-else-t : goal.returns-else-t
returns-else-t g c = record {
  all = λ e. received c.loop-last.invariant (none c.loop-last.t.more c.args.whole (eqb c.loop-last.t.at 0) (sym c.asks.ensures ∙ c.loop-last-test.false) e);
  some = λ e. arrived c.loop-last.invariant (some c.loop-last.t.more c.args.whole c.loop-last.t.at (sym c.asks.ensures ∙ c.loop-last-test.false));
}
