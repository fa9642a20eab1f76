-- A run of the part program: an input that is read, and its part where the reading did not fail. Assumes nothing.
use Rattle.std.specs.Prelude.{◌≡◌, Bool, true, false, List, [], ◌∷◌, ℕ, ℤ, take}
use Rattle.std.proofs.Common.{ap, sym, ◌∙◌}
use Rattle.std.proofs.Math.Path.{subst}
use Rattle.std.proofs.lemmas.Bool.{false≢true}
use Rattle.system_transfer.specs.declared.Transfer.{Transfer}
use Rattle.system_transfer.specs.Receiving.{Received, received_bytes}
use Rattle.system_transfer.specs.Sending.{Sent}
use Rattle.ranks.specs.Rest.{is_nil}
use Rattle.walk_list.specs.Walk.{full}
use Rattle.session_model.specs.Session as Model
use Rattle.session_model.specs.Since.{full_of}
use Rattle.session_stages.specs.declared.Session.{Session}
use Rattle.session_stages.specs.declared.Course.{Course}
use Rattle.session_stages.specs.declared.Stage.TheVariants as S
use Rattle.session_stages.specs.World.{world}
use Rattle.session_stages.specs.Session.{meaning, scale_of}
use Rattle.list_input.specs.Load.{Loaded, ready, refused, tooLong, load_of}
use Rattle.list_states.specs.State.{long, refusal}
use Rattle.list_output.specs.Pieces.{piece_of}
use Rattle.list_segment.specs.Part.{part_lines}
use Rattle.list_segment.specs.Joined.{lines_nil}
use Rattle.list_segment.specs.Printed.{Printed, printed_all, printed_one, printed_none}
use Rattle.part.specs.Part.{part_for, part_of}

pub record Answered (lo hi : ℤ) (buf : List ℕ) (r : Bool) : Type 0 where
  pub got : Transfer
  pub read : Received buf got
  pub came : r ≡ true → got.failed ≡ false
  pub printed : got.failed ≡ false → Printed (part_of lo hi (take got.at buf)) r

-- where the answer is true, the bytes taken are the part for the bytes that the reads gave
pub answered-all : {lo hi : ℤ} {buf : List ℕ} {r : Bool} → (h : Answered lo hi buf r) → (e : r ≡ true) → (h.printed (h.came e)).taken ≡ part_of lo hi h.read.bytes
answered-all {lo} {hi} h e = printed_all (h.printed (h.came e)) e ∙ sym (ap (part_of lo hi) (received_bytes h.read))

-- ---- what each kind of input comes to
module _ (lo hi : ℤ) where
  -- an empty list has no lines
  pub printed_empty : (k : ℕ) (l : List ℕ) → is_nil l ≡ true → Printed (part_lines k lo hi l) true
  printed_empty k [] e = rw (lines_nil k) printed_none
  printed_empty k (x ∷ l) e = absurd (false≢true e)

  pub printed_stage : (s : Session) (c : Course) (r : Bool) → s.stage ≡ S.Walking c → Printed (part_lines c.job.k lo hi (full c.job)) r → Printed (part_lines (scale_of (meaning s)) lo hi (full_of world (meaning s))) r
  unfolding full
  printed_stage s c r e h = rw e h

  module _ (bytes : List ℕ) {r : Bool} where
    pub long_part : tooLong ≡ load_of bytes → Sent (piece_of 126 long).text r → Printed (part_of lo hi bytes) r
    unfolding piece_of
    long_part e h = subst (λ (x : Loaded). Printed (part_for lo hi x) r) e (printed_one h)

    pub refusal-part : (n p : ℕ) → refused n p ≡ load_of bytes → Sent (piece_of 126 (refusal n p)).text r → Printed (part_of lo hi bytes) r
    unfolding piece_of
    refusal-part n p e h = subst (λ (x : Loaded). Printed (part_for lo hi x) r) e (printed_one h)

    pub ready_part : (m : Model.Session world) → ready m ≡ load_of bytes → Printed (part_lines (scale_of m) lo hi (full_of world m)) r → Printed (part_of lo hi bytes) r
    ready_part m e h = subst (λ (x : Loaded). Printed (part_for lo hi x) r) e h
