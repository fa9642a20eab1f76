-- Linear arithmetic over ℤ in the middle of a proof: both sides are normalised first, and each monomial is an integer unknown, which
-- `omega` sees as its two parts. With ρ the list of the unknowns,
--     goal≤ ρ (search polyZ) (omega (arith, from≤ ρ h (search polyZ), from< ρ k (search polyZ)))
-- proves an order from the orders h and k. The unknowns may be any terms.
use Rattle.std.specs.Prelude.{◌≡◌, List, Bool, true, false, ℕ, suc, ◌+◌, ◌*◌, ◌≤◌, ◌<◌, ℤ, pos, negsuc, ◌+ℤ◌, ◌*ℤ◌}
use Rattle.std.proofs.Common.{sym, ◌∙◌, ap₂, subst₂, arith}
use Rattle.integers.specs.Difference.{◌⊖◌, ◌≼◌, ◌≺◌, up, dn, self-⊖, ⊖-+, ⊖-*, ⊖-eq, ⊖-≤, ⊖-<, ⊖-≡, pos-⊖, negsuc-⊖}
use Rattle.integers.specs.lemmas.Ring.{S, none, more, nf, mono, ev, sound, Poly, Polys}
use Rattle.integers.specs.lemmas.RingZ.{ringℤ}

-- c · m, by its two parts (true: the positive one)
abbrev pub part : Bool → ℤ → ℤ → ℕ
part true (pos k) x = k * up x
part false (pos k) x = k * dn x
part true (negsuc k) x = suc k * dn x
part false (negsuc k) x = suc k * up x

abbrev pub half : Bool → S → List ℤ → ℕ
half s none ρ = 0
half s (more c m t) ρ = part s c (mono ringℤ m ρ) + half s t ρ

part-spec : (c x : ℤ) → c *ℤ x ≡ part true c x ⊖ part false c x
part-spec (pos k) x = ap₂ ◌*ℤ◌ (pos-⊖ k) (self-⊖ x) ∙ ⊖-* k 0 (up x) (dn x) ∙ ⊖-eq _ _ _ _ (omega arith)
part-spec (negsuc k) x = ap₂ ◌*ℤ◌ (negsuc-⊖ k) (self-⊖ x) ∙ ⊖-* 0 (suc k) (up x) (dn x) ∙ ⊖-eq _ _ _ _ (omega arith)

half_spec : (s : S) (ρ : List ℤ) → ev ringℤ s ρ ≡ half true s ρ ⊖ half false s ρ
half_spec none ρ = pos-⊖ 0
half_spec (more c m t) ρ = ap₂ ◌+ℤ◌ (part-spec c (mono ringℤ m ρ)) (half_spec t ρ) ∙ ⊖-+ _ _ _ _

read : {ρ : List ℤ} {z : ℤ} (p : Poly ringℤ ρ z) → z ≡ half true (nf p.ex) ρ ⊖ half false (nf p.ex) ρ
read {ρ} p = sym p.ok ∙ sound ringℤ p.ex ρ ∙ half_spec (nf p.ex) ρ

-- ---- a fact over ℤ as a fact over ℕ (`from`), and back (`goal`)
abbrev pub lo : {ρ : List ℤ} {a b : ℤ} → Polys ringℤ ρ a b → ℕ
lo {ρ} p = half true (nf p.left.ex) ρ + half false (nf p.right.ex) ρ

abbrev pub hi : {ρ : List ℤ} {a b : ℤ} → Polys ringℤ ρ a b → ℕ
hi {ρ} p = half true (nf p.right.ex) ρ + half false (nf p.left.ex) ρ

pub from≤ : {a b : ℤ} (ρ : List ℤ) → a ≼ b → (p : Polys ringℤ ρ a b) → lo p ≤ hi p
from≤ ρ h p = (⊖-≤ _ _ _ _).0 (subst₂ ◌≼◌ (read p.left) (read p.right) h)

pub from< : {a b : ℤ} (ρ : List ℤ) → a ≺ b → (p : Polys ringℤ ρ a b) → lo p < hi p
from< ρ h p = (⊖-< _ _ _ _).0 (subst₂ ◌≺◌ (read p.left) (read p.right) h)

pub from≡ : {a b : ℤ} (ρ : List ℤ) → a ≡ b → (p : Polys ringℤ ρ a b) → lo p ≡ hi p
from≡ ρ h p = (⊖-≡ _ _ _ _).0 (sym (read p.left) ∙ h ∙ read p.right)

pub goal≤ : {a b : ℤ} (ρ : List ℤ) (p : Polys ringℤ ρ a b) → lo p ≤ hi p → a ≼ b
goal≤ ρ p h = subst₂ ◌≼◌ (sym (read p.left)) (sym (read p.right)) ((⊖-≤ _ _ _ _).1 h)

pub goal< : {a b : ℤ} (ρ : List ℤ) (p : Polys ringℤ ρ a b) → lo p < hi p → a ≺ b
goal< ρ p h = subst₂ ◌≺◌ (sym (read p.left)) (sym (read p.right)) ((⊖-< _ _ _ _).1 h)

pub goal≡ : {a b : ℤ} (ρ : List ℤ) (p : Polys ringℤ ρ a b) → lo p ≡ hi p → a ≡ b
goal≡ ρ p h = read p.left ∙ (⊖-≡ _ _ _ _).1 h ∙ sym (read p.right)
