-- `advance` meets its contract. Assumes nothing.
use Rattle.std.proofs.Common.{◌≡◌, ℕ, ◌+◌, ◌*◌, ◌^◌, ◌<◌, ◌≤◌, List, ℤ, set, refl, sym, ap, subst, ◌∙◌, add-one, arith}
use Rattle.std.proofs.Math.Nat.{pow-suc, pow-le-pow_right}
use Rattle.ranks.specs.Rest.{Place}
use Rattle.walk_list.specs.Walk.{rank_of, spot_of}
use Rattle.tray_list.specs.Nearer.{nearer, is_at}
use Rattle.tray_list.proofs.Bits.{bits_below}
use Rattle.tray_merge.specs.Lanes.{front_at, Passed, passed_none, passed-more, passed-all}
use Rattle.tray_merge.proofs.lanes.advance.Goals as goal

-- a mask of so many lanes is small, and so is the next lane's bit
small : (q : List ℤ) (xs₀ es : List ℕ) (r j : ℕ) (xs : List ℕ) (m bit : ℕ) (w : Place) → j < 8 → bit ≡ 2 ^ j → Passed q xs₀ es r (j + 1) xs m w → (m < 256) × (bit ≤ 128)
small q xs₀ es r j xs m bit w few power p =
    let k = p.mask in
    let b = bits_below (j + 1) (λ i. is_at (front_at q xs₀ es i) r) in
    let two : 0 < 2 = omega arith in
    let f = pow-le-pow_right two {i = j + 1} {j = 8} (omega arith) in
    let g = pow-le-pow_right two {i = j} {j = 7} (omega arith) in
    (omega arith, omega arith)

-- behind lane number j
module _ (c : goal.After-struct_known-1) where
  few : c.loop-j.j < 8
  few = let p = c.requires in let h = c.loop-j-test.true in omega arith

  behind : Passed c.args.queue.now c.args.at.now c.args.end.now (rank_of c.args.v) (c.loop-j.j + 1) (set c.loop-j.at c.loop-j.j c.pass-p.result.at) (c.loop-j.mask + c.pass-p.result.held * c.loop-j.bit) (nearer (spot_of c.loop-j.spot) (spot_of c.pass-p.result.front))
  behind =
      let e = c.pass-p.ensures in
      passed-more c.args.queue.now c.args.at.now c.args.end.now (rank_of c.args.v) c.loop-j.j c.loop-j.at c.loop-j.mask (spot_of c.loop-j.spot) c.loop-j.invariant.passed few c.pass-p.result.at c.pass-p.result.held c.loop-j.bit (spot_of c.pass-p.result.front)
      e.0 e.1 e.2 e.3 c.loop-j.invariant.power

  small-mask : (c.loop-j.mask + c.pass-p.result.held * c.loop-j.bit < 256) × (c.loop-j.bit ≤ 128)
  small-mask = small _ _ _ _ _ _ _ _ _ few c.loop-j.invariant.power behind

pub loop-j-init : goal.loop-j-init
loop-j-init c = record { power = refl; passed = passed_none c.args.queue.now c.args.at.now c.args.end.now (rank_of c.args.v) c.requires.3 }

pub pass-p-requires : goal.pass-p-requires
pass-p-requires c =
    let p = c.requires in
    let h = c.loop-j-test.true in
    let e = c.loop-j.invariant.passed.ahead c.loop-j.j (omega arith) in
    let w = p.2 c.loop-j.j h in
    (omega arith, omega arith, w.1, p.1)

pub overflow_mul-mask : goal.overflow_mul-mask
overflow_mul-mask c = let f = small-mask c in omega arith

pub overflow_add-mask : goal.overflow_add-mask
overflow_add-mask c = let f = small-mask c in omega arith

pub overflow_mul-bit : goal.overflow_mul-bit
overflow_mul-bit c = let f = small-mask c in omega arith

pub loop-j-preserved : goal.loop-j-preserved
loop-j-preserved c =
    let j = c.loop-j.j in
    let twice : c.loop-j.bit * 2 ≡ 2 ^ (j + 1) = ap (λ (x : ℕ). x * 2) c.loop-j.invariant.power ∙ sym (pow-suc 2 j) ∙ ap (λ (x : ℕ). 2 ^ x) (sym (add-one j)) in
    let p = c.requires in
    let h = c.loop-j-test.true in
    let e = c.pass-p.ensures in
    record {
      power = twice;
      passed = rw c.nearer-spot.ensures
          (passed-more c.args.queue.now c.args.at.now c.args.end.now (rank_of c.args.v) j c.loop-j.at c.loop-j.mask (spot_of c.loop-j.spot) c.loop-j.invariant.passed (omega arith) c.pass-p.result.at c.pass-p.result.held c.loop-j.bit (spot_of c.pass-p.result.front)
          e.0 e.1 e.2 e.3 c.loop-j.invariant.power);
    }

pub returns : goal.returns
returns c =
    let e : c.loop-j.j ≡ c.args.size = omega arith in
    passed-all _ _ _ _ _ _ _ _ c.requires.2 (subst (λ (n : ℕ). Passed c.args.queue.now c.args.at.now c.args.end.now (rank_of c.args.v) n c.loop-j.at c.loop-j.mask (spot_of c.loop-j.spot)) e c.loop-j.invariant.passed)
