-- States that differ in l by 8s go the same way.
use Rattle.std.specs.Prelude.{◌≡◌, refl, Bool, true, false, cond, ◌&&◌, List, ◌++◌, ℕ, zero, suc, ◌+◌, ◌-◌, ◌/◌, ◌%◌}
use Rattle.std.proofs.Common.{sym, ◌∙◌, ap, ap₂, subst, arith}
use Rattle.integers.specs.lemmas.Booleans.{both_of}
use Rattle.ring.specs.Point.Divide.{halves}
use Rattle.gate_theory.specs.Bits.{odd, side, none, bare, Rule, rule}
use Rattle.gate_theory.specs.Points.{back, halved}
use Rattle.gate_theory.specs.Parities.{parities}
use Rattle.gate_theory.specs.State.{State, is_bare, plus, less, next, Stage, last, odds, sides, Ready}
use Rattle.gate_theory.specs.Table.{Letter, tail, tail_at}
use Rattle.gate_theory.specs.Word.{syllable, body}
use Rattle.gate_theory.specs.Matrix.{Spells, of_state}
use Rattle.gate_theory.proofs.lemmas.Run.{made-rest}
use Rattle.gate_theory.proofs.lemmas.Unique.{Alike}

-- s with another l
abbrev pub at : State → ℕ → State
at s l = record { k = s.k; u = s.u; t = s.t; l = l }

pub alike_is : (s r : State) → Alike s r → r ≡ at s r.l
alike_is s r h = λ i. record { k = sym h.k i; u = sym h.u i; t = sym h.t i; l = r.l }

pub at-alike : (s : State) (l : ℕ) → s.l % 8 ≡ l % 8 → Alike s (at s l)
at-alike s l e = record { k = refl; u = refl; t = refl; l = e }

-- ---- steps, words and matrices
branches : (c : Bool) (a b : State) (l m : ℕ) → a.l % 8 ≡ l % 8 → b.l % 8 ≡ m % 8 → Alike (cond c a b) (cond c (at a l) (at b m))
branches true a b l m e f = at-alike a l e
branches false a b l m e f = at-alike b m f

next-at : (s : State) (l : ℕ) → s.l % 8 ≡ l % 8 → Alike (next s) (next (at s l))
unfolding next
next-at s l e =
    let n : (s.l + cond (is_bare s) 3 1) % 8 ≡ (l + cond (is_bare s) 3 1) % 8 = omega arith in
    branches (none (parities (plus s)))
    (record { k = s.k - 1; u = halved (plus s); t = back (halved (less s)); l = s.l + cond (is_bare s) 3 1 })
    (record { k = s.k; u = halves (plus s); t = back (halves (less s)); l = s.l + cond (is_bare s) 3 1 })
    (l + cond (is_bare s) 3 1) (l + cond (is_bare s) 3 1) n n

pub next-alike : (s r : State) → Alike s r → Alike (next s) (next r)
next-alike s r h = subst (λ x. Alike (next s) (next x)) (sym (alike_is s r h)) (next-at s r.l h.l)

pub body_alike : (n : ℕ) (s r : State) → Alike s r → body n s ≡ body n r
unfolding body tail
body_alike zero s r h = ap₂ (λ u t. tail_at u t (s.l % 8 / 2)) h.u h.t ∙ ap (λ m. tail_at r.u r.t (m / 2)) h.l
body_alike (suc n) s r h = ap₂ (λ b w. syllable b ++ w) (ap₂ (λ u t. bare (parities u) (parities t)) h.u h.t) (body_alike n (next s) (next r) (next-alike s r h))

pub spells_alike : (w : List Letter) (s r : State) → Alike s r → Spells w s.k (of_state s) → Spells w r.k (of_state r)
spells_alike w s r h e =
    subst (λ x. Spells w x.k (of_state x)) (sym (alike_is s r h)) (subst (Spells w s.k) (made-rest s.u s.t s.l (r.l % 8) h.l ∙ sym (made-rest s.u s.t r.l (r.l % 8) refl)) e)

-- ---- the number of syllables
two_classes : Rule (λ p q. odd p && side p) (λ p q. false)
two_classes = record { test = refl }

not_both-classes : (s : State) → odd (parities s.u) ≡ true → side (parities s.u) ≡ true → ⊥
not_both-classes s o d = let e : false ≡ true = rule two_classes (parities s.u) (parities s.u) (both_of o d) in let z : ◌≡◌ {A = ℕ} 0 1 = cc in omega arith

pub one_number : (m n : ℕ) (s : State) → Stage m s → Stage n s → m ≡ n
one_number m n s (last k l a) (last j i b) = omega arith
one_number m n s (last k l a) (odds j o p b) = absurd (omega arith)
one_number m n s (last k l a) (sides j o p b) = absurd (omega arith)
one_number m n s (odds k o p a) (last j i b) = absurd (omega arith)
one_number m n s (odds k o p a) (odds j d q b) = omega arith
one_number m n s (odds k o p a) (sides j d q b) = absurd (not_both-classes s o d)
one_number m n s (sides k o p a) (last j i b) = absurd (omega arith)
one_number m n s (sides k o p a) (odds j d q b) = absurd (not_both-classes s d o)
one_number m n s (sides k o p a) (sides j d q b) = omega arith

pub stage_at : (n : ℕ) (s : State) (l : ℕ) → s.l % 8 ≡ l % 8 → Stage n s → Stage n (at s l)
stage_at n s l e (last k i a) = last k (omega arith) a
stage_at n s l e (odds k o p a) = odds k o p (omega arith)
stage_at n s l e (sides k o p a) = sides k o p (omega arith)

pub bodies : (m n : ℕ) (s r : State) → Alike s r → Ready m s → Ready n r → body m s ≡ body n r
bodies m n s r h a b =
    let e = one_number m n (at s r.l) (stage_at m s r.l h.l a.stage) (subst (Stage n) (alike_is s r h) b.stage) in
    body_alike m s r h ∙ ap (λ i. body i r) e
