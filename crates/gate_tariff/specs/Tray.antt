-- Document 02, Ticket 13: what the words of a tray cost together. Assumes nothing.
use Rattle.gate_tariff.specs.declared.Refusal.{Refusal}
use Rattle.std.specs.Prelude.{Bool, cond, ◌&&◌, List, [], ◌∷◌, ℕ, ◌+◌, ◌-◌, eqb, leb, length, get_or, Result, Ok, Err}
use Rattle.gate_tariff.specs.declared.Tariff.{Tariff}
use Rattle.gate_tariff.specs.declared.Refusal.TheVariants.{NotATray}
use Rattle.gate_tariff.specs.Tariff.{ticks_of, answered}

-- the words of some bytes, each closed by a line feed; what stands behind the last line feed is none of them
abbrev pub begun : ℕ → List (List ℕ) → List (List ℕ)
begun b [] = []
begun b (w ∷ ws) = (b ∷ w) ∷ ws

unfoldable pub words_of : List ℕ → List (List ℕ)
words_of [] = []
words_of (b ∷ s) = cond (eqb b 10) ([] ∷ words_of s) (begun b (words_of s))

-- the last byte is a line feed; no bytes have no last one
abbrev pub closes : List ℕ → Bool
closes s = eqb (get_or s (length s - 1) 0) 10

-- "18 for no word, an unclosed last word or a ninth"
unfoldable pub is_tray : List ℕ → Bool
is_tray s = closes s && leb (length (words_of s)) 8

-- how many words a tray has; what is no tray has none
abbrev pub size_of : List ℕ → ℕ
size_of s = cond (is_tray s) (length (words_of s)) 0

-- "then those of Ticket 8 for each word in turn": the sum of the words' ticks, or the first refusal
abbrev pub plus : Result ℕ Refusal → Result ℕ Refusal → Result ℕ Refusal
plus (Ok n) (Ok m) = Ok (n + m)
plus (Ok n) (Err why) = Err why
plus (Err why) x = Err why

unfoldable pub total_of : Tariff → List (List ℕ) → Result ℕ Refusal
total_of p [] = Ok 0
total_of p (w ∷ ws) = plus (ticks_of p w) (total_of p ws)

-- "yes exactly when the sum of their costs, each rounded as in Ticket 8, is not above the memory"
unfoldable pub tray_of : Tariff → List ℕ → ℕ → Result (ℕ × Bool) Refusal
tray_of p s m = cond (is_tray s) (answered m (total_of p (words_of s))) (Err NotATray)
