-- A run of a program that prints one text for its whole input: an input that is read, and f of it where the reading did not fail. Assumes nothing.
use Rattle.std.specs.Prelude.{◌≡◌, refl, Bool, true, false, List, ℕ, take}
use Rattle.std.proofs.Common.{ap, sym, ◌∙◌, arith}
use Rattle.system_transfer.specs.declared.Transfer.{Transfer}
use Rattle.system_transfer.specs.Sending.{Sent, sent_all}
use Rattle.system_transfer.specs.Receiving.{Received, received_bytes}

pub record Answered (f : List ℕ → List ℕ) (buf : List ℕ) (r : Bool) : Type 0 where
  pub got : Transfer
  pub read : Received buf got
  pub came : r ≡ true → got.failed ≡ false
  pub said : got.failed ≡ false → Sent (f (take got.at buf)) r

-- where the answer is true, the bytes taken are f of the bytes that the reads gave
pub answered-all : {f : List ℕ → List ℕ} {buf : List ℕ} {r : Bool} → (h : Answered f buf r) → (e : r ≡ true) → (h.said (h.came e)).taken ≡ f h.read.bytes
answered-all {f} h e = sent_all (h.said (h.came e)) e ∙ sym (ap f (received_bytes h.read))

never : {P : Type 0} {b : Bool} → b ≡ true → b ≡ false → P
never e g = absurd (let y : ◌≡◌ {A = ℕ} 0 1 = cc in omega arith)

-- a read that failed: nothing is printed, and the answer is false
pub answered-failed : {f : List ℕ → List ℕ} {buf : List ℕ} → (got : Transfer) → Received buf got → got.failed ≡ true → Answered f buf false
answered-failed got h e = record { got = got; read = h; came = λ g. never g refl; said = λ g. never e g }
