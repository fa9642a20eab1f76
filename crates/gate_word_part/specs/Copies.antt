-- SPEC, "Gate words": the part that is handed back, at the front of a third slice z.
use Rattle.std.specs.Prelude.{◌≡◌, List, ℕ}
use Rattle.ring.specs.declared.Point.{Point}
use Rattle.text.specs.Written.{written, after}
use Rattle.gates.specs.Written.{bytes}
use Rattle.gate_words.specs.Words.{number, answer, first_after, second_after, handed_back}
use Rattle.gate_word_part.specs.declared.Copied.{Copied}

-- the number and the two slices as `gate_words` has them; the third has the part where it is long enough, and is as it was where not
pub record Copies (k : ℕ) (u t : Point) (s v z s' v' z' : List ℕ) (r : Copied) : Type 0 where
  pub number : r.number ≡ number (answer k u t s v)
  pub len : r.len ≡ after z 0 (bytes (handed_back k u t s v))
  pub first : s' ≡ first_after k u t s v
  pub second : v' ≡ second_after k u t s v
  pub part : z' ≡ written z 0 (bytes (handed_back k u t s v))
