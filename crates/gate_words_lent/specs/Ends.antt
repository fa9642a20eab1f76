-- What a call gives whose result is a part of one of two lent slices.
--     Gives     the number, the word, and where it stands
--     ends      what a lent slice holds once the borrow is over, said of a slice whose lifetime the result names: there a clause cannot read `.exit`
use Rattle.std.specs.Prelude.{◌≡◌, cond, List, ℕ}
use seplogic.Ra.Ura.{Ura}
use base.Logic.{SProp}
use types.Logic.{Logic, sem}
use Rattle.std.specs.Borrow.{u8, MutBor}
use denote.Slice.{finally}
use Rattle.ring.specs.declared.Point.{Point}
use Rattle.gates.specs.Written.{bytes}
use Rattle.gate_words.specs.Words.{number, is_second, answer, handed_back}
use Rattle.gate_words_lent.specs.declared.Outcome.{Outcome}

-- "Handed back is the filled part of whichever slice has fewer T, that of U if equal .. A refusal hands back, beside its number, an empty part of U's slice": the slice is told by its place
pub record Gives (k : ℕ) (u t : Point) (x y : MutBor (List ℕ)) (r : Outcome) : Type 0 where
  pub number : r.number ≡ number (answer k u t x.now y.now)
  pub word : r.word.now ≡ bytes (handed_back k u t x.now y.now)
  pub place : r.word.ref_ptr ≡ cond (is_second (answer k u t x.now y.now)) y.ref_ptr x.ref_ptr

-- the last list of the slice x is ys: what the lender of x finds there
abbrev pub ends : {M : Type 1} {𝓤 : Ura M} (𝓛 : Logic 𝓤) → MutBor (List ℕ) → List ℕ → SProp 𝓤
ends 𝓛 x ys = sem 𝓛 (finally u8 x.ghost_name ys)
