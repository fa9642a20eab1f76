-- The output in pieces, each no longer than a lent slice: where the printing stands, the next piece, and what is left to print.
use Rattle.std.specs.Prelude.{◌≡◌, cond, List, [], ◌++◌, ℕ, suc, ◌+◌, ltb, length, take}
use Rattle.ranks.specs.Rest.{left_at}
use Rattle.ranks.specs.Rank.{top}
use Rattle.cuts.specs.Digits.{span}
use Rattle.walk_list.specs.Walk.{listed_at}
use Rattle.session_model.specs.Session.{early, walking}
use Rattle.session_model.specs.Session as Model
use Rattle.session_stages.specs.World.{world}
use Rattle.session_stages.specs.Session.{scale_of}
use Rattle.text.specs.Append.{Appended}
use Rattle.integers_wide.specs.Meaning.{size_of, wrapped}
use Rattle.list_lines.specs.Lines.{end_line, refusal_line, too_long_line}
use Rattle.list_pages.specs.Page.{page_of, room_in}
use Rattle.list_states.specs.State.{State, long, refusal, list, last, done, state_of}
use Rattle.list_states.specs.declared.Output.{Output}
use Rattle.list_states.specs.declared.Output.TheVariants as O
use Rattle.list_states.specs.declared.Piece.{Piece}
use Rattle.list_output.specs.Output.{list_lines}

pub record Part : Type 0 where
  pub text : List ℕ
  pub next : State

-- a number kept in two words
abbrev pub kept : ℕ → ℕ
kept n = size_of (wrapped n)

abbrev pub part_of : ℕ → State → Part
part_of n long = record { text = too_long_line; next = done }
part_of n (refusal r p) = record { text = refusal_line r p; next = done }
part_of n (list m t) =
    let p = page_of (room_in n) m in
    record { text = p.text; next = cond p.more (list p.session (kept (t + p.count))) (last (kept (t + p.count))) }
part_of n (last t) = record { text = end_line t; next = done }
part_of n done = record { text = []; next = done }

-- the next piece, for a slice of n bytes; a slice of fewer than 126, the longest line's length, gets none
unfoldable pub piece_of : ℕ → State → Part
piece_of n s = cond (ltb n 126) (record { text = []; next = s }) (part_of n s)

-- a piece at the start of the slice that it was lent
pub record FilledPart (s : State) (r : Piece) (old new : List ℕ) : Type 0 where
  pub text : Appended old 0 (part_of (length old) s).text new r.length
  pub next : state_of r.next ≡ (part_of (length old) s).next

pub record Filled (s : State) (r : Piece) (old new : List ℕ) : Type 0 where
  pub text : Appended old 0 (piece_of (length old) s).text new r.length
  pub next : state_of r.next ≡ (piece_of (length old) s).next

-- calls of `next` one after another, each with what the one before it left, until nothing is left: what they filled, joined
pub data Printed : Output → List ℕ → Type 0 where
  finished : Printed O.Done []
  piece : {o : Output} {r : Piece} {old new rest : List ℕ} → Filled (state_of o) r old new → Printed r.next rest → Printed o (take r.length new ++ rest)

-- how many calls with room for a line there can be
abbrev pub left_of : Model.Session world → List ℕ
left_of (early p) = []
left_of (walking j w o) = left_at (listed_at j) (top span) w

abbrev pub most : State → ℕ
most long = 1
most (refusal r p) = 1
most (list m t) = suc (suc (length (left_of m)))
most (last t) = 1
most done = 0

-- what is left to print
abbrev pub rest_of : State → List ℕ
rest_of long = too_long_line
rest_of (refusal r p) = refusal_line r p
rest_of (list m t) = list_lines (scale_of m) (left_of m) ++ end_line (t + length (left_of m))
rest_of (last t) = end_line t
rest_of done = []
