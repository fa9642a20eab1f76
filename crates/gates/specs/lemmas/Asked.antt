-- What the code asks of parities, by cases.
use Rattle.std.specs.Prelude.{◌≡◌, refl, true, false}
use Rattle.gate_theory.specs.declared.Bits.{Bits}
use Rattle.gate_theory.specs.Bits.{sum, odd, rest, none, uniform, plain, bare}

module _ (p q : Bits) where
  pub plain-odd : odd p ≡ true → plain p q ≡ rest (sum p q)
  plain-odd e = rw e refl

  pub plain-not : odd p ≡ false → plain p q ≡ uniform (sum p q)
  plain-not e = rw e refl

  pub bare-odd : odd p ≡ true → bare p q ≡ uniform (sum p q)
  bare-odd e = rw e refl

  pub bare-not : odd p ≡ false → bare p q ≡ none (sum p q)
  bare-not e = rw e refl
