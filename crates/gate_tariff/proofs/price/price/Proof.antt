use mathlib.Core.Path.{sym, ap}
use Rattle.gate_alphabet.specs.Letters.{letter-H, letter-S, letter-T, letter-W}
use Rattle.gate_tariff.specs.Tariff.{price}
use Rattle.gate_tariff.proofs.price.price.Statement.{statement}
use Rattle.gate_tariff.proofs.price.price.Tie as tie

returns : tie.Need-returns-in-72
returns c = sym (ap (price _) (letter-H _ c.in-72.is))

returns-2 : tie.Need-returns-in-83
returns-2 c = sym (ap (price _) (letter-S _ c.in-83.is))

returns-3 : tie.Need-returns-in-84
returns-3 c = sym (ap (price _) (letter-T _ c.in-84.is))

returns-4 : tie.Need-returns-in_default
returns-4 c = let r = c.in_default.in_default-own.rest in sym (ap (price _) (letter-W _ r.0.0.1 r.0.1 r.1))

pub price_spec : {M : Type 1} → statement M
price_spec = tie.close (tie.spec returns returns-2 returns-3 returns-4)
