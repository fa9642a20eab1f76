-- How each answer is reached. Assumes nothing.
use Rattle.std.specs.Prelude.{Ok, Err}
use mathlib.Core.Path.{◌≡◌, refl}
use mathlib.Core.Bool.{true, false}
use mathlib.Core.List.{List}
use Prim.Native.Nat.{ℕ, ◌*◌, ◌/◌, ◌≤◌, ◌<◌}
use native.Mathlib.Omega.{arith}
use lib.Dec.{leb}
use lib.ListN.{length}
use borrow.Author.Tests.{le-leb, lt-leb}
use Rattle.text.specs.Written.{written}
use Rattle.text.proofs.Writing.{put-not}
use Rattle.gate_alphabet.specs.Letters.{bytes, letters_of, are_letters}
use Rattle.gate_qasm.specs.declared.Refusal.TheVariants.{NotALetter, NotALine, NoRoom}
use Rattle.gate_qasm.specs.Text.{text_of, is_text, word_of}
use Rattle.gate_qasm.specs.Calls.{write_of, text_after, Writes, read_of, word_after, Reads}
use Rattle.gate_qasm.proofs.Reading.{length-word}

module _ (w s : List ℕ) where
  abbrev text : List ℕ
  text = text_of (letters_of w)

  pub write_none : are_letters w ≡ false → Writes w s s (Err NotALetter)
  unfolding write_of text_after
  write_none e = record { answers = rw e refl; slice = rw e refl }

  module _ (e : are_letters w ≡ true) (n : ℕ) (f : 8 * n ≡ length text) where
    pub write_full : length s / 8 < n → Writes w s s (Err NoRoom)
    unfolding write_of text_after
    write_full h = record {
      answers = rw (e, lt-leb (length text) (length s) (omega arith)) refl;
      slice = rw e (put-not s 0 text (omega arith)).0;
    }

    pub write_done : n ≤ length s / 8 → {s' : List ℕ} → s' ≡ written s 0 text → Writes w s s' (Ok (8 * n))
    unfolding write_of text_after
    write_done h g = record {
      answers = rw (e, le-leb (length text) (length s) (omega arith), f) refl;
      slice = rw e g;
    }

module _ (t s : List ℕ) where
  abbrev word : List ℕ
  word = bytes (word_of t)

  pub read_none : is_text t ≡ false → Reads t s s (Err NotALine)
  unfolding read_of word_after
  read_none e = record { answers = rw e refl; slice = rw e refl }

  module _ (e : is_text t ≡ true) where
    pub read-full : leb (length t / 8) (length s) ≡ false → {s' : List ℕ} → s' ≡ written s 0 word → Reads t s s' (Err NoRoom)
    unfolding read_of word_after
    read-full h g = record { answers = rw (e, length-word t, h) refl; slice = rw e g }

    pub read_done : leb (length t / 8) (length s) ≡ true → {s' : List ℕ} → s' ≡ written s 0 word → Reads t s s' (Ok (length t / 8))
    unfolding read_of word_after
    read_done h g = record { answers = rw (e, length-word t, h) refl; slice = rw e g }
