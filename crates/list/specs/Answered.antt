-- A run of the list program: an input that is read, and its output where the reading did not fail. Assumes nothing.
use Rattle.std.specs.Prelude.{◌≡◌, Bool, true, false, List, ℕ, take}
use Rattle.std.proofs.Common.{ap, sym, ◌∙◌}
use Rattle.system_transfer.specs.declared.Transfer.{Transfer}
use Rattle.system_transfer.specs.Receiving.{Received, received_bytes}
use Rattle.list_output.specs.Output.{output_of}
use Rattle.list_printing.specs.Printed.{Listed}
use Rattle.list_printing.specs.lemmas.Whole.{listed-all}

pub record Answered (buf : List ℕ) (r : Bool) : Type 0 where
  pub got : Transfer
  pub read : Received buf got
  pub came : r ≡ true → got.failed ≡ false
  pub listed : got.failed ≡ false → Listed (take got.at buf) r

-- where the answer is true, the bytes taken are the output for the bytes that the reads gave
pub answered-all : {buf : List ℕ} {r : Bool} → (h : Answered buf r) → (e : r ≡ true) → (h.listed (h.came e)).printed.taken ≡ output_of h.read.bytes
answered-all h e = listed-all (h.listed (h.came e)) e ∙ sym (ap output_of (received_bytes h.read))
