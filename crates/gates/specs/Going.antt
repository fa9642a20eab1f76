-- What holds while syllables are written: those that are left fit, and numbers stay small.
use Rattle.std.specs.Prelude.{◌≡◌, refl, Bool, true, false, cond, ◌++◌, ℕ, zero, suc, ◌+◌, ◌-◌, ◌*◌, ◌%◌, ◌^◌, ◌≤◌, ◌<◌, length}
use Rattle.std.proofs.Common.{sym, ◌∙◌, ap, subst, arith, eq-eqb, ne_eqb}
use Rattle.record_ranges.specs.Ranges.{top_scale}
use Rattle.gate_theory.specs.declared.State.{State}
use Rattle.gate_theory.specs.Bits.{odd, none}
use Rattle.gate_theory.specs.Parities.{parities}
use Rattle.gate_theory.specs.State.{is_plain, is_bare, plus, next, Stage, last, odds, sides, Ready, Narrow}
use Rattle.gate_theory.proofs.lemmas.Step.{step, next-even, next-not}
use Rattle.gate_theory.specs.Table.{tail}
use Rattle.gate_theory.specs.Word.{syllable, syllables, bare_at_zero, body}
use Rattle.gate_theory.proofs.lemmas.Length.{narrow}
use Rattle.gates.specs.Written.{Word}
use Rattle.gates.specs.lemmas.Fit.{shift_small}

pub record Going (r : ℕ) (s : State) (w : Word) : Type 0 where
  pub ready : Ready r s
  pub scale : s.k ≤ top_scale
  pub phase : s.l + 3 * r < 2 ^ 31
  pub room : w.len + (3 * r + 10) ≤ 128

true_false : ◌≡◌ {A = Bool} true false → ⊥
true_false e = let z : ◌≡◌ {A = ℕ} 0 1 = cc in omega arith

-- ---- one syllable
pub body_more : (r : ℕ) (s : State) → 0 < r → body r s ≡ syllable (is_bare s) ++ body (r - 1) (next s)
unfolding body
body_more zero s h = absurd (omega arith)
body_more (suc r) s h = let e : r ≡ suc r - 1 = omega arith in ap (λ n. syllable (is_bare s) ++ body n (next s)) e

pub body-none : (r : ℕ) (s : State) → r ≡ 0 → body r s ≡ tail s
unfolding body
body-none r s e = ap (λ n. body n s) e

ready_next : (r : ℕ) (s : State) → 0 < r → Ready r s → Ready (r - 1) (next s)
ready_next zero s h e = absurd (omega arith)
ready_next (suc r) s h e = let j : r ≡ suc r - 1 = omega arith in subst (λ n. Ready n (next s)) j (step r s e)

pub some-scale : (r : ℕ) (s : State) → 0 < r → Stage r s → 1 ≤ s.k
some-scale r s h (last k l n) = absurd (omega arith)
some-scale r s h (odds k o p n) = k
some-scale r s h (sides k o p n) = omega arith

next_small : (s : State) → ((next s).k ≤ s.k) × ((next s).l ≤ s.l + 3)
next_small s = go (none (parities (plus s))) refl
  where
    go : (b : Bool) → none (parities (plus s)) ≡ b → ((next s).k ≤ s.k) × ((next s).l ≤ s.l + 3)
    go true e = rw (next-even s e) (omega arith, omega (arith, shift_small (is_bare s)))
    go false e = rw (next-not s e) (omega arith, omega (arith, shift_small (is_bare s)))

pub syllable-length : (b : Bool) → length (syllable b) ≤ 3
syllable-length true = omega arith
syllable-length false = omega arith

module _ {r : ℕ} {s : State} {w : Word} (h : 0 < r) (g : Going r s w) where
  pub steps : Narrow s.u × Narrow s.t × (1 ≤ s.k) × (s.l < 2 ^ 31)
  steps = let n = narrow s.k s.u s.t g.scale g.ready.equation in (n.0, n.1, some-scale r s h g.ready.stage, omega (arith, g.phase))

  pub goes : (v : Word) → v.len ≡ w.len + length (syllable (is_bare s)) → Going (r - 1) (next s) v
  goes v e = record {
    ready = ready_next r s h g.ready;
    scale = omega (arith, next_small s, g.scale);
    phase = omega (arith, next_small s, g.phase);
    room = omega (arith, syllable-length (is_bare s), g.room);
  }

-- ---- how many syllables
pub syllables-none : (s : State) → s.k ≡ 0 → 0 ≡ syllables s
syllables-none s e = sym (ap (λ b. cond b 0 (cond (odd (parities s.u)) (2 * s.k - 2 + s.l % 2) (2 * s.k - 3 + (s.l + 1) % 2))) (eq-eqb s.k 0 e))

module _ (s : State) (n : s.k ≡ 0 → ⊥) where
  some : cond (odd (parities s.u)) (2 * s.k - 2 + s.l % 2) (2 * s.k - 3 + (s.l + 1) % 2) ≡ syllables s
  some = sym (ap (λ b. cond b 0 (cond (odd (parities s.u)) (2 * s.k - 2 + s.l % 2) (2 * s.k - 3 + (s.l + 1) % 2))) (ne_eqb s.k 0 n))

  pub syllables-odd : odd (parities s.u) ≡ true → 2 * s.k - 2 + s.l % 2 ≡ syllables s
  syllables-odd o = ap (λ b. cond b (2 * s.k - 2 + s.l % 2) (2 * s.k - 3 + (s.l + 1) % 2)) (sym o) ∙ some

  pub syllables-side : odd (parities s.u) ≡ false → 2 * s.k - 3 + (s.l + 1) % 2 ≡ syllables s
  syllables-side o = ap (λ b. cond b (2 * s.k - 2 + s.l % 2) (2 * s.k - 3 + (s.l + 1) % 2)) (sym o) ∙ some

  pub side-two : {r : ℕ} → Stage r s → odd (parities s.u) ≡ false → 2 ≤ s.k
  side-two (last k l m) o = absurd (n k)
  side-two (odds k p q m) o = let z : ◌≡◌ {A = Bool} true false = sym p ∙ o in absurd (true_false z)
  side-two (sides k p q m) o = k

  pub plain-some : is_plain s ≡ bare_at_zero s
  plain-some = sym (ap (λ b. cond b true (is_plain s)) (ne_eqb s.k 0 n))

pub plain-none : (s : State) → s.k ≡ 0 → true ≡ bare_at_zero s
plain-none s e = sym (ap (λ b. cond b true (is_plain s)) (eq-eqb s.k 0 e))
