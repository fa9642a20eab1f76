-- What the calls on words, texts and sheets answer, as plain numbers.
use Rattle.std.specs.Prelude.{◌≡◌, List, ℕ, length}
use Rattle.gate_qasm.specs.Calls as Qasm
use Rattle.pattern_sheet.specs.Write.{writing_of, slice_after}
use Rattle.library_calls.specs.declared.companions.Wrote.{Wrote}
use Rattle.library_calls.specs.declared.companions.PlainSheet.{PlainSheet}
pub use Rattle.library_calls.specs.Companions.{tariff_of, ticks_of, wrote_of, seen_of, sheet_of, put_of}

-- a word's lines
pub record Writes (word old new : List ℕ) (r : Wrote) : Type 0 where
  pub answer : r ≡ wrote_of (Qasm.write_of word (length old))
  pub slice : new ≡ Qasm.text_after word old

-- lines' word
pub record Reads (text old new : List ℕ) (r : Wrote) : Type 0 where
  pub answer : r ≡ wrote_of (Qasm.read_of text (length old))
  pub slice : new ≡ Qasm.word_after text old

-- a sheet's bytes
pub record Puts (s : PlainSheet) (old new : List ℕ) (r : Wrote) : Type 0 where
  pub answer : r ≡ put_of (writing_of (sheet_of s) (length old))
  pub slice : new ≡ slice_after (sheet_of s) old
