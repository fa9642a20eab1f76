-- What the calls without a session answer, as plain numbers.
use Rattle.ring.specs.declared.Point.{Point}
use Rattle.std.specs.Prelude.{◌≡◌, Bool, List, ℕ, ℤ, Option}
use Rattle.line.specs.declared.Place as LP
use Rattle.entry.specs.Entry as Entry
use Rattle.line.specs.Line as Line
use Rattle.gate_words.specs.declared.Part.{Part}
use Rattle.gate_words.specs.Words.{Hands}
use Rattle.library_numbers.specs.declared.Four.{Four}
use Rattle.library_numbers.specs.Numbers.{is_set, point_of}
use Rattle.library_calls.specs.declared.alone.Handed.{Handed}
use Rattle.library_calls.specs.declared.alone.Word.{Word}
use Rattle.library_calls.specs.declared.alone.Three.{Three}
pub use Rattle.library_calls.specs.Alone.{wide_of, entry_place, line_place, interval_of, handedAs}

pub record Entered (k : ℕ) (u : Four) (p : Option Point) (old new : List ℤ) (r : Handed) : Type 0 where
  pub values : record { count = r.count; end = is_set r.ended; refusal = r.number } ≡ Entry.values_at k (point_of u) p old
  pub slice : new ≡ Entry.slice_of k (point_of u) p old

pub record Lined (i j : Three) (p : LP.Place) (old new : List ℤ) (r : Handed) : Type 0 where
  pub values : record { count = r.count; end = is_set r.ended; refusal = r.number } ≡ Line.values_of (Line.answer_of (interval_of i) (interval_of j) p old)
  pub slice : new ≡ Line.slice_of (interval_of i) (interval_of j) p old

abbrev pub part_of : Word → Part
part_of w = record { number = w.number; second = is_set w.second; len = w.length }

abbrev pub Spelled : ℕ → Four → Four → List ℕ → List ℕ → List ℕ → List ℕ → Word → Type 0
Spelled k u t a b a' b' w = Hands k (point_of u) (point_of t) a b a' b' (part_of w)

pub entry_values : (r : Handed) {n m : ℕ} {e : Bool} → handedAs r n e m → ◌≡◌ {A = Entry.Values} (record { count = r.count; end = is_set r.ended; refusal = r.number }) (record { count = n; end = e; refusal = m })
entry_values r h = λ i. record { count = h.0 i; end = h.1 i; refusal = h.2 i }

pub line-values : (r : Handed) {n m : ℕ} {e : Bool} → handedAs r n e m → ◌≡◌ {A = Line.Values} (record { count = r.count; end = is_set r.ended; refusal = r.number }) (record { count = n; end = e; refusal = m })
line-values r h = λ i. record { count = h.0 i; end = h.1 i; refusal = h.2 i }
