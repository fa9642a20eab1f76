-- The finite claims: each a rule for all pairs of parities, which computes, with its law.
use Rattle.std.specs.Prelude.{◌≡◌, refl, Bool, true, not, ◌&&◌}
use Rattle.integers.specs.lemmas.Booleans.{both_true, both_of}
use Rattle.gate_theory.specs.Bits.{Bits, xor, sum, turned, backed, rooted, odd, side, rest, full, none, plain, unturned, squares, uncrossed, Rule, rule}

-- what the equation leaves at k = 1, from k = 2 on, and at both
abbrev pub first : Bits → Bits → Bool
first p q = squares 2 p q && uncrossed p q

abbrev pub later : Bits → Bits → Bool
later p q = squares 0 p q && uncrossed p q

abbrev pub some : Bits → Bits → Bool
some p q = xor (squares 2 p q) (squares 0 p q) && uncrossed p q

first-some-rule : Rule first some
first-some-rule = record { test = refl }

later-some-rule : Rule later some
later-some-rule = record { test = refl }

pub first_some : (p q : Bits) → first p q ≡ true → some p q ≡ true
first_some = rule first-some-rule

pub later-some : (p q : Bits) → later p q ≡ true → some p q ≡ true
later-some = rule later-some-rule

-- √2 divides t where it divides u
rest-rule : Rule (λ p q. some p q && rest p) (λ p q. rest q)
rest-rule = record { test = refl }

pub both_rest : (p q : Bits) → some p q ≡ true → rest p ≡ true → rest q ≡ true
both_rest p q e f = rule rest-rule p q (both_of e f)

-- at k = 1 no u is of the class `side`
first-rule : Rule first (λ p q. not (side p))
first-rule = record { test = refl }

pub first-not_side : (p q : Bits) → first p q ≡ true → not (side p) ≡ true
first-not_side = rule first-rule

-- where √2 does not divide u, exactly one of t and ω t needs no T in front, and so for t and ω⁻¹ t
one-rule : Rule (λ p q. some p q && not (rest p)) (λ p q. xor (plain p q) (plain p (turned q)) && xor (plain p q) (plain p (backed q)))
one-rule = record { test = refl }

pub one_plain : (p q : Bits) → some p q ≡ true → not (rest p) ≡ true → (xor (plain p q) (plain p (turned q)) ≡ true) × (xor (plain p q) (plain p (backed q)) ≡ true)
one_plain p q e f = both_true _ _ (rule one-rule p q (both_of e f))

-- ---- the sum u + i^(−b) t
odd-later-rule : Rule (λ p q. later p q && (odd p && plain p q)) (λ p q. full (sum p (unturned p q)))
odd-later-rule = record { test = refl }

pub odd-later : (p q : Bits) → later p q ≡ true → odd p ≡ true → plain p q ≡ true → full (sum p (unturned p q)) ≡ true
odd-later p q e f g = rule odd-later-rule p q (both_of e (both_of f g))

odd-first-rule : Rule (λ p q. first p q && (odd p && plain p q)) (λ p q. none (sum p (unturned p q)))
odd-first-rule = record { test = refl }

pub odd-first : (p q : Bits) → first p q ≡ true → odd p ≡ true → plain p q ≡ true → none (sum p (unturned p q)) ≡ true
odd-first p q e f g = rule odd-first-rule p q (both_of e (both_of f g))

side-later-rule : Rule (λ p q. later p q && (side p && plain p q)) (λ p q. none (sum p (unturned p q)))
side-later-rule = record { test = refl }

pub side-later : (p q : Bits) → later p q ≡ true → side p ≡ true → plain p q ≡ true → none (sum p (unturned p q)) ≡ true
side-later p q e f g = rule side-later-rule p q (both_of e (both_of f g))

-- ---- what follows: x is of the next u, and that of ω times the next t is the rest of √2 u, or of u
full-rule : Rule (λ p x. full (rooted x)) (λ p x. side x)
full-rule = record { test = refl }

pub full-side : (x : Bits) → full (rooted x) ≡ true → side x ≡ true
full-side x = rule full-rule x x

odd-next-rule : Rule (λ p x. odd p && side x) (λ p x. plain x (backed (sum (rooted p) x)))
odd-next-rule = record { test = refl }

pub odd-next : (p x : Bits) → odd p ≡ true → side x ≡ true → plain x (backed (sum (rooted p) x)) ≡ true
odd-next p x e f = rule odd-next-rule p x (both_of e f)

side-next-rule : Rule (λ p x. side p && some x (backed (sum p x))) (λ p x. odd x && plain x (backed (sum p x)))
side-next-rule = record { test = refl }

pub side-next : (p x : Bits) → side p ≡ true → some x (backed (sum p x)) ≡ true → (odd x ≡ true) × (plain x (backed (sum p x)) ≡ true)
side-next p x e f = both_true _ _ (rule side-next-rule p x (both_of e f))
