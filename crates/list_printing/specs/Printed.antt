-- The pieces of an output, each sent as a text: turns one after another, whatever the system answered to each write.
use Rattle.std.specs.Prelude.{◌≡◌, Bool, true, false, List, [], ◌++◌, ℕ, take}
use Rattle.std.proofs.Common.{subst, arith}
use Rattle.system_transfer.specs.Sending.{Sent}
use Rattle.list_input.specs.Load.{load_of}
use Rattle.list_states.specs.declared.Output.{Output}
use Rattle.list_states.specs.declared.Piece.{Piece}
use Rattle.list_states.specs.State.{state_of, is_done, begin}
use Rattle.list_output.specs.Pieces.{Filled}

-- from `o` on, the bytes that were taken, joined; where the output stands after them; whether all that was offered was taken. No piece is filled after one that failed.
pub data Run (o : Output) : List ℕ → Output → Bool → Type 0 where
  begun : Run o [] o true
  piece : {t : List ℕ} {n : Output} {p : Piece} {old new : List ℕ} {r : Bool} → Run o t n true → Filled (state_of n) p old new → (h : Sent (take p.length new) r) → Run o (t ++ h.taken) p.next r

-- what a printing from `o` on came to: true only where nothing more is to come
pub record Printed (o : Output) (r : Bool) : Type 0 where
  pub taken : List ℕ
  pub last : Output
  pub run : Run o taken last r
  pub over : r ≡ true → is_done (state_of last) ≡ true

-- and from the beginning of the output for an input
pub record Listed (bytes : List ℕ) (r : Bool) : Type 0 where
  pub start : Output
  pub begins : state_of start ≡ begin (load_of bytes)
  pub printed : Printed start r

-- what a loop of pieces carries
pub record Going (o n : Output) : Type 0 where
  pub taken : List ℕ
  pub run : Run o taken n true

module _ {o n : Output} {p : Piece} {old new : List ℕ} {r : Bool} (g : Going o n) (f : Filled (state_of n) p old new) (h : Sent (take p.length new) r) where
  pub go_on : r ≡ true → Going o p.next
  go_on e = let k = subst (Sent (take p.length new)) e h in record { taken = g.taken ++ k.taken; run = piece g.run f k }

  pub stop : r ≡ false → Printed o false
  stop e =
      let k = subst (Sent (take p.length new)) e h in
      record { taken = g.taken ++ k.taken; last = p.next; run = piece g.run f k; over = λ i. absurd (let y : ◌≡◌ {A = ℕ} 0 1 = cc in omega arith) }
