-- Document 02, Ticket 8: what a word costs by a tariff, and whether that fits a memory. Assumes nothing.
use Rattle.std.specs.Prelude.{Bool, cond, ◌&&◌, List, [], ◌∷◌, ℕ, ◌+◌, ◌/◌, ◌≤◌, leb, length, Result, Ok, Err}
use Rattle.refusals.specs.Refusals.{beyond_range, not_aLetter, not_aTray}
use Rattle.gate_alphabet.specs.Letters.{Letter, H, S, T, W, letters_of, are_letters}
use Rattle.gate_tariff.specs.declared.Tariff.{Tariff}
use Rattle.gate_tariff.specs.declared.Refusal.{Refusal}
use Rattle.gate_tariff.specs.declared.Refusal.TheVariants.{OutOfRange, NotALetter, NotATray}

-- "4 for a price out of range or a word above 65,536 letters, then 15 for a byte that isn't one of the four letters"; 18 of Ticket 13
abbrev pub number_of : Refusal → ℕ
number_of OutOfRange = beyond_range
number_of NotALetter = not_aLetter
number_of NotATray = not_aTray

-- "Each letter has a price in thousandths of a tick, 0 to 1,000,000"
abbrev pub top_price : ℕ
top_price = 1000000

abbrev pub top_length : ℕ
top_length = 65536

abbrev pub price : Tariff → Letter → ℕ
price p H = p.h
price p S = p.s
price p T = p.t
price p W = p.w

unfoldable pub in_range : Tariff → Bool
in_range p = leb p.h top_price && leb p.s top_price && leb p.t top_price && leb p.w top_price

-- "the sum of its letters, rounded up once to whole ticks"
unfoldable pub sum_of : Tariff → List Letter → ℕ
sum_of p [] = 0
sum_of p (x ∷ w) = price p x + sum_of p w

abbrev pub rounded : ℕ → ℕ
rounded n = (n + 999) / 1000

-- the ticks of a word, or the first check that fails
unfoldable pub ticks_of : Tariff → List ℕ → Result ℕ Refusal
ticks_of p w = cond (in_range p && leb (length w) top_length) (cond (are_letters w) (Ok (rounded (sum_of p (letters_of w)))) (Err NotALetter)) (Err OutOfRange)

-- no sum of the costs of eight words is larger
abbrev pub Small : Result ℕ Refusal → Type 0
Small (Ok n) = n ≤ 524288000
Small (Err why) = Unit {0}

-- "whether it fits a step memory": "yes exactly when the cost is not above it"
abbrev pub answered : ℕ → Result ℕ Refusal → Result (ℕ × Bool) Refusal
answered m (Ok n) = Ok (n, (leb n m))
answered m (Err why) = Err why

unfoldable pub cost_of : Tariff → List ℕ → ℕ → Result (ℕ × Bool) Refusal
cost_of p w m = answered m (ticks_of p w)
