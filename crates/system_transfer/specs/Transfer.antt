-- The machine that moves the bytes of a slice, one way or the other, and that each answer leaves it less to do. Assumes nothing.
use Rattle.system_transfer.specs.declared.Fault.{Fault}
use Rattle.std.specs.Prelude.{◌≡◌, refl, Bool, true, false, cond, ℕ, suc, ◌+◌, ◌*◌, ◌-◌, ◌≤◌, ◌<◌, eqb, ltb, Result, Ok, Err}
use Rattle.std.proofs.Common.{arith, ltb-true, ltb-false}
use Rattle.std.proofs.lemmas.Bool.{eqb-false}
use Rattle.system_transfer.specs.declared.Fault.TheVariants as A
use Rattle.system_transfer.specs.declared.Transfer.{Transfer}
use Rattle.system_transfer.specs.Answers.{full_patience, is_out, less_of}

-- before the first byte of a slice of `size` bytes
abbrev pub begun_of : ℕ → Transfer
begun_of size = record { at = 0; patience = full_patience; more = ltb 0 size; failed = false }

-- ---- what an answer makes of it; `none` is whether a call that moves nothing has failed
abbrev pub closed_of : Transfer → Bool → Transfer
closed_of t f = record { at = t.at; patience = t.patience; more = false; failed = f }

abbrev pub moved_of : Bool → ℕ → Transfer → ℕ → Transfer
moved_of none size t n = cond (eqb n 0) (closed_of t none) (cond (ltb (size - t.at) n) (closed_of t true) (record { at = t.at + n; patience = full_patience; more = ltb (t.at + n) size; failed = false }))

abbrev pub put_off_of : Transfer → Bool → Transfer
put_off_of t waits = cond (is_out t.patience) (closed_of t true) (record { at = t.at; patience = less_of t.patience waits; more = t.more; failed = false })

abbrev pub step_of : Bool → ℕ → Transfer → Result ℕ Fault → Transfer
step_of none size t (Ok n) = moved_of none size t n
step_of none size t (Err A.NotNow) = put_off_of t true
step_of none size t (Err A.Interrupted) = put_off_of t false
step_of none size t (Err A.Failed) = closed_of t true

-- ---- what holds before each answer, and what falls
pub record Inside (size : ℕ) (t : Transfer) : Type 0 where
  pub room : t.at ≤ size
  pub going : t.more ≡ true → t.at < size
  pub calm : t.patience.left ≤ 36000

pub begun-inside : (size : ℕ) → Inside size (begun_of size)
begun-inside size = record { room = omega arith; going = ltb-true 0 size; calm = omega arith }

abbrev pub load : ℕ → Transfer → ℕ
load size t = cond t.more (suc ((size - t.at) * 36001 + t.patience.left)) 0

module _ (none : Bool) (size : ℕ) (t : Transfer) (h : Inside size t) where
  never : {P : Type 0} → false ≡ true → P
  never e = absurd (let y : ◌≡◌ {A = ℕ} 0 1 = cc in omega arith)

  closed-inside : (f : Bool) → Inside size (closed_of t f)
  closed-inside f = record { room = h.room; going = λ e. never e; calm = h.calm }

  abbrev put : Bool → Bool → Transfer
  put waits b = cond b (closed_of t true) (record { at = t.at; patience = cond b t.patience (record { left = t.patience.left - 1; pause = cond waits (cond (ltb t.patience.pause 51) (2 * t.patience.pause) 100) t.patience.pause }); more = t.more; failed = false })

  abbrev go : ℕ → Bool → Bool → Transfer
  go n b c = cond b (closed_of t none) (cond c (closed_of t true) (record { at = t.at + n; patience = full_patience; more = ltb (t.at + n) size; failed = false }))

  put-inside : (waits b : Bool) → Inside size (put waits b)
  put-inside waits true = closed-inside true
  put-inside waits false = record { room = h.room; going = h.going; calm = let z = h.calm in omega arith }

  go-inside : (n : ℕ) (b c : Bool) → (c ≡ false → n ≤ size - t.at) → Inside size (go n b c)
  go-inside n true c g = closed-inside none
  go-inside n false true g = closed-inside true
  go-inside n false false g = let z = h.room in let y = g refl in record { room = omega arith; going = ltb-true (t.at + n) size; calm = omega arith }

  pub step-inside : (a : Result ℕ Fault) → Inside size (step_of none size t a)
  step-inside (Ok n) = go-inside n (eqb n 0) (ltb (size - t.at) n) (ltb-false (size - t.at) n)
  step-inside (Err A.NotNow) = put-inside true (eqb t.patience.left 0)
  step-inside (Err A.Interrupted) = put-inside false (eqb t.patience.left 0)
  step-inside (Err A.Failed) = closed-inside true

  module _ (o : t.more ≡ true) where
    closed-less : (f : Bool) → load size (closed_of t f) < load size t
    closed-less f = rw o (omega arith)

    put-less : (waits b : Bool) → (b ≡ false → t.patience.left ≡ 0 → ⊥) → load size (put waits b) < load size t
    put-less waits true f = closed-less true
    put-less waits false f = let z = f refl in rw o (omega arith)

    less-open : (b : Bool) (m k : ℕ) → m < k → cond b m 0 < k
    less-open true m k e = e
    less-open false m k e = omega arith

    go-less : (n : ℕ) (b c : Bool) → (b ≡ false → n ≡ 0 → ⊥) → (c ≡ false → n ≤ size - t.at) → load size (go n b c) < load size t
    go-less n true c f g = closed-less none
    go-less n false true f g = closed-less true
    go-less n false false f g =
        let z = f refl in
        let y = g refl in
        rw o (less-open (ltb (t.at + n) size) _ _ (omega arith))

    pub step_less : (a : Result ℕ Fault) → load size (step_of none size t a) < load size t
    step_less (Ok n) = go-less n (eqb n 0) (ltb (size - t.at) n) (eqb-false n 0) (ltb-false (size - t.at) n)
    step_less (Err A.NotNow) = put-less true (eqb t.patience.left 0) (eqb-false t.patience.left 0)
    step_less (Err A.Interrupted) = put-less false (eqb t.patience.left 0) (eqb-false t.patience.left 0)
    step_less (Err A.Failed) = closed-less true
