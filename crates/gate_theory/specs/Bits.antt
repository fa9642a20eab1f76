-- Four parities, those of a point's coordinates, and what is asked of them. A rule for all pairs is one computed test.
use Rattle.std.specs.Prelude.{◌≡◌, refl, Bool, true, false, not, cond, ◌&&◌, ℕ, ◌+◌, ◌%◌, eqb}
use Rattle.std.proofs.Common.{sym, arith}
use Rattle.integers.specs.lemmas.Booleans.{both_true}
pub use Rattle.gate_theory.specs.declared.Bits.{Bits}

abbrev pub implies : Bool → Bool → Bool
implies true b = b
implies false b = true

abbrev pub xor : Bool → Bool → Bool
xor true b = not b
xor false b = b

abbrev pub sum : Bits → Bits → Bits
sum p q = record { a = xor p.a q.a; b = xor p.b q.b; c = xor p.c q.c; d = xor p.d q.d }

-- of ω x and of ω⁻¹ x
abbrev pub turned : Bits → Bits
turned p = record { a = p.b; b = p.c; c = p.d; d = p.a }

abbrev pub backed : Bits → Bits
backed p = record { a = p.d; b = p.a; c = p.b; d = p.c }

-- of √2 x
abbrev pub rooted : Bits → Bits
rooted p = record { a = xor p.b p.d; b = xor p.c p.a; c = xor p.d p.b; d = xor p.c p.a }

-- ---- the classes: an odd number of odd coordinates; two odd ones side by side; the rest, which √2 divides
abbrev pub g : Bits → Bool
g p = xor p.a p.c

abbrev pub h : Bits → Bool
h p = xor p.b p.d

abbrev pub odd : Bits → Bool
odd p = xor (g p) (h p)

abbrev pub side : Bits → Bool
side p = g p && h p

abbrev pub rest : Bits → Bool
rest p = not (g p) && not (h p)

abbrev pub full : Bits → Bool
full p = p.a && p.b && (p.c && p.d)

abbrev pub none : Bits → Bool
none p = not p.a && not p.b && (not p.c && not p.d)

abbrev pub uniform : Bits → Bool
uniform p = xor (full p) (none p)

-- no T in front; and no S
abbrev pub plain : Bits → Bits → Bool
plain p q = cond (odd p) (rest (sum p q)) (uniform (sum p q))

abbrev pub bare : Bits → Bits → Bool
bare p q = cond (odd p) (uniform (sum p q)) (none (sum p q))

-- of t, or of i⁻¹ t
abbrev pub unturned : Bits → Bits → Bits
unturned p q = cond (bare p q) q (backed (backed q))

-- ---- the squares of the coordinates, and dc − da + bc + ab
abbrev pub bit : Bool → ℕ
bit true = 1
bit false = 0

abbrev pub weight : Bits → ℕ
weight p = bit p.a + bit p.b + (bit p.c + bit p.d)

abbrev pub crossed : Bits → Bool
crossed p = xor (xor (p.d && p.c) (p.d && p.a)) (xor (p.b && p.c) (p.a && p.b))

-- the squares add up to r by 4
abbrev pub squares : ℕ → Bits → Bits → Bool
squares r p q = eqb ((weight p + weight q) % 4) r

abbrev pub uncrossed : Bits → Bits → Bool
uncrossed p q = not (xor (crossed p) (crossed q))

-- ---- all parities, all points, all pairs
abbrev pub any : (Bool → Bool) → Bool
any f = f true && f false

abbrev pub four : (Bits → Bool) → Bool
four f = any (λ a. any (λ b. any (λ c. any (λ d. f (record { a = a; b = b; c = c; d = d })))))

abbrev pub pairs : (Bits → Bits → Bool) → Bool
pairs f = four (λ p. four (λ q. f p q))

pub since : (x y : Bool) → implies x y ≡ true → x ≡ true → y ≡ true
since true y e f = e
since false y e f = let z : ◌≡◌ {A = ℕ} 0 1 = cc in absurd (omega arith)

pub any-law : (f : Bool → Bool) → any f ≡ true → (b : Bool) → f b ≡ true
any-law f e true = (both_true (f true) (f false) e).0
any-law f e false = (both_true (f true) (f false) e).1

pub four-law : (f : Bits → Bool) → four f ≡ true → (p : Bits) → f p ≡ true
four-law f e p = any-law (λ d. f (record { a = p.a; b = p.b; c = p.c; d = d })) (any-law fc (any-law fb (any-law fa e p.a) p.b) p.c) p.d
  where
    fa : Bool → Bool
    fa a = any (λ b. any (λ c. any (λ d. f (record { a = a; b = b; c = c; d = d }))))

    fb : Bool → Bool
    fb b = any (λ c. any (λ d. f (record { a = p.a; b = b; c = c; d = d })))

    fc : Bool → Bool
    fc c = any (λ d. f (record { a = p.a; b = p.b; c = c; d = d }))

every : (f : Bits → Bits → Bool) → pairs f ≡ true → (p q : Bits) → f p q ≡ true
every f e p q = four-law (f p) (four-law (λ p. four (λ q. f p q)) e p) q

-- f gives g at every pair: computed
pub record Rule (f g : Bits → Bits → Bool) : Type 0 where
  pub test : pairs (λ p q. implies (f p q) (g p q)) ≡ true

pub rule : {f g : Bits → Bits → Bool} → Rule f g → (p q : Bits) → f p q ≡ true → g p q ≡ true
rule {f} {g} r p q = since (f p q) (g p q) (every (λ p q. implies (f p q) (g p q)) r.test p q)

pub not_true : (b : Bool) → not b ≡ true → b ≡ false
not_true true e = sym e
not_true false e = refl

pub none-split : (p : Bits) → none p ≡ true → (p.a ≡ false) × (p.b ≡ false) × (p.c ≡ false) × (p.d ≡ false)
none-split p e =
    let h = both_true (not p.a && not p.b) (not p.c && not p.d) e in
    let ab = both_true (not p.a) (not p.b) h.0 in
    let cd = both_true (not p.c) (not p.d) h.1 in
    (not_true p.a ab.0, not_true p.b ab.1, not_true p.c cd.0, not_true p.d cd.1)

pub rest-split : (p : Bits) → rest p ≡ true → (g p ≡ false) × (h p ≡ false)
rest-split p e = let f = both_true (not (g p)) (not (h p)) e in (not_true (g p) f.0, not_true (h p) f.1)
