-- All that `show` prints: SPEC, "Jobs in words". Assumes nothing.
use Rattle.std.specs.Prelude.{◌≡◌, refl, List, [], ◌∷◌, ℕ}
use Rattle.std.proofs.Common.{append_assoc, append-nil}
use Rattle.text_puts.specs.Texts.{refusal_texts}
use Rattle.text_puts.specs.Puts.{joined}
use Rattle.list_lines.specs.Lines.{count_text, refusal_line, too_long_line}
use Rattle.record_text.specs.Records.{shown_texts}
use Rattle.list_input.specs.Load.{Loaded, ready, refused, tooLong, load_of}

-- a line a record, or `refused R at P`, or `too long`, as `list` says it
abbrev pub texts_for : List ℕ → Loaded → List (List ℕ)
texts_for s (ready m) = shown_texts s
texts_for s (refused r p) = refusal_texts r p
texts_for s tooLong = too_long_line ∷ []

abbrev pub show_of : List ℕ → List ℕ
show_of s = joined (texts_for s (load_of s))

-- ---- an input that is refused, or too long: `list`'s line
refusal-line : (r p : ℕ) → joined (refusal_texts r p) ≡ refusal_line r p
unfolding refusal_line count_text
refusal-line r p = simp (append-nil, append_assoc) refl

pub shown-refused : (s : List ℕ) (r p : ℕ) → load_of s ≡ refused r p → show_of s ≡ refusal_line r p
shown-refused s r p e = rw e (refusal-line r p)

pub shown-long : (s : List ℕ) → load_of s ≡ tooLong → show_of s ≡ too_long_line
shown-long s e = rw e refl
