-- A step keeps what a word needs: from r + 1 syllables to r.
use Rattle.std.specs.Prelude.{◌≡◌, refl, Bool, true, false, not, cond, ◌&&◌, [], ◌∷◌, ℕ, suc, ◌+◌, ◌-◌, ◌*◌, ◌%◌, ◌≤◌}
use Rattle.std.proofs.Common.{sym, ◌∙◌, ap, subst, arith}
use Rattle.std.proofs.Math.Decide.{dec_le}
use Rattle.integers.specs.lemmas.Booleans.{both_true}
use Rattle.integers.specs.lemmas.Ring.{poly, by_ring}
use Rattle.ring.specs.declared.Point.{Point}
use Rattle.ring.specs.Point.{◌+ω◌, ◌-ω◌, ◌*ω◌, √2ω, ringω}
use Rattle.ring.specs.Point.Divide.{halves}
use Rattle.gate_theory.specs.Bits.{Bits, not_true, odd, side, rest, full, none, sum, rooted, backed, plain, unturned, Rule, rule}
use Rattle.gate_theory.proofs.lemmas.Finite.{some, odd-later, odd-first, side-later, full-side, odd-next, side-next}
use Rattle.gate_theory.specs.Points.{back, halved}
use Rattle.gate_theory.specs.Parities.{parities, parities-+, parities--, parities-back, parities-√2}
use Rattle.gate_theory.specs.State.{State, Equation, is_plain, is_bare, unturn, plus, less, next, Stage, last, odds, sides, Ready}
use Rattle.gate_theory.proofs.lemmas.Halving.{Halves, halved-twice, by_two, over-√2, by-√2, N-back, F-back}
use Rattle.gate_theory.proofs.lemmas.Equation.{at_first, at-later, at_some, equation_turned, equation_half, equation_same}

-- ---- i^(−b) t
parities-unturn : (s : State) → parities (unturn s) ≡ unturned (parities s.u) (parities s.t)
parities-unturn s = go (is_bare s)
  where
    go : (b : Bool) → parities (cond b s.t (back (back s.t))) ≡ cond b (parities s.t) (backed (backed (parities s.t)))
    go true = refl
    go false = parities-back (back s.t) ∙ ap backed (parities-back s.t)

pub equation_unturn : (s : State) → Equation s.k s.u s.t → Equation s.k s.u (unturn s)
equation_unturn s = go (is_bare s)
  where
    go : (b : Bool) → Equation s.k s.u s.t → Equation s.k s.u (cond b s.t (back (back s.t)))
    go true e = e
    go false e = equation_turned _ _ s.t _ (N-back (back s.t) ∙ N-back s.t) (F-back (back s.t) ∙ F-back s.t) e

parities-plus : (s : State) → parities (plus s) ≡ sum (parities s.u) (unturned (parities s.u) (parities s.t))
parities-plus s = parities-+ s.u (unturn s) ∙ ap (sum (parities s.u)) (parities-unturn s)

parities-less : (s : State) → parities (less s) ≡ parities (plus s)
parities-less s = parities-- s.u (unturn s) ∙ sym (parities-+ s.u (unturn s))

-- ---- the two branches
abbrev pub shift : State → ℕ
shift s = cond (is_bare s) 3 1

pub next-even : (s : State) → none (parities (plus s)) ≡ true → next s ≡ record { k = s.k - 1; u = halved (plus s); t = back (halved (less s)); l = s.l + shift s }
unfolding next
next-even s e = rw e refl

pub next-not : (s : State) → none (parities (plus s)) ≡ false → next s ≡ record { k = s.k; u = halves (plus s); t = back (halves (less s)); l = s.l + shift s }
unfolding next
next-not s e = rw e refl

pub halves-even : (s : State) → none (parities (plus s)) ≡ true → Halves s.u (unturn s) (halved (plus s)) (halved (less s))
halves-even s e = by_two _ _ _ _ (halved-twice (plus s) e) (halved-twice (less s) (ap none (parities-less s) ∙ e))

pub halves-rest : (s : State) → rest (parities (plus s)) ≡ true → Halves (s.u *ω √2ω) (unturn s *ω √2ω) (halves (plus s)) (halves (less s))
halves-rest s e = by-√2 _ _ _ _ (over-√2 (plus s) e) (over-√2 (less s) (ap rest (parities-less s) ∙ e))

-- y is the rest of U
parities-rest : (U Z x y : Point) → Halves U Z x y → parities (back y) ≡ backed (sum (parities U) (parities x))
parities-rest U Z x y h = parities-back y ∙ ap backed (ap parities (other x y ∙ ap (λ t. t -ω x) (sym h.sum)) ∙ parities-- U x)
  where
    other : (x y : Point) → y ≡ (x +ω y) -ω x
    other x y = by_ring ringω (x ∷ y ∷ []) (search poly depth 20) refl

full-rule : Rule (λ p q. full p) (λ p q. rest p && not (none p))
full-rule = record { test = refl }

pub full-rest : (p : Bits) → full p ≡ true → (rest p ≡ true) × (none p ≡ false)
full-rest p e = let f = both_true (rest p) (not (none p)) (rule full-rule p p e) in (f.0, not_true (none p) f.1)

turns : (s : State) → (s.l + shift s + 1) % 2 ≡ s.l % 2
turns s = go (is_bare s)
  where
    go : (b : Bool) → (s.l + cond b 3 1 + 1) % 2 ≡ s.l % 2
    go true = omega arith
    go false = omega arith

-- ---- u + i^(−b) t is all even, or all odd
pub data Branch (s : State) : Type 0 where
  evens : 1 ≤ s.k → none (parities (plus s)) ≡ true → Branch s
  fulls : full (parities (plus s)) ≡ true → Branch s

module _ (s : State) (e : Equation s.k s.u s.t) (p : is_plain s ≡ true) where
  odd-full : 2 ≤ s.k → odd (parities s.u) ≡ true → full (parities (plus s)) ≡ true
  odd-full k o = ap full (parities-plus s) ∙ odd-later (parities s.u) (parities s.t) (at-later _ _ _ k e) o p

  odd-none : s.k ≡ 1 → odd (parities s.u) ≡ true → none (parities (plus s)) ≡ true
  odd-none k o = ap none (parities-plus s) ∙ odd-first (parities s.u) (parities s.t) (at_first _ _ _ k e) o p

  side-none : 2 ≤ s.k → side (parities s.u) ≡ true → none (parities (plus s)) ≡ true
  side-none k o = ap none (parities-plus s) ∙ side-later (parities s.u) (parities s.t) (at-later _ _ _ k e) o p

pub branch : (r : ℕ) (s : State) → Ready (suc r) s → Branch s
branch r s h = go h.stage
  where
    go : Stage (suc r) s → Branch s
    go (last k l n) = absurd (omega arith)
    go (odds k o p n) = elim (dec_le 2 s.k) [ yes j ↦ fulls (odd-full s h.equation p j o) | no j ↦ evens k (odd-none s h.equation p (omega arith) o) ]
    go (sides k o p n) = evens (omega arith) (side-none s h.equation p k o)

-- ---- the steps
module _ (r : ℕ) (s : State) (e : Equation s.k s.u s.t) where
  full-step : full (parities (plus s)) ≡ true → 2 ≤ s.k → odd (parities s.u) ≡ true → suc r + 2 ≡ 2 * s.k + s.l % 2 → Ready r (next s)
  full-step f k o n =
      let c = full-rest (parities (plus s)) f in
      let x = halves (plus s) in
      let y = halves (less s) in
      let h = halves-rest s c.0 in
      let q : parities (back y) ≡ backed (sum (rooted (parities s.u)) (parities x)) = parities-rest _ _ x y h ∙ ap (λ t. backed (sum t (parities x))) (parities-√2 s.u) in
      let d : side (parities x) ≡ true = full-side (parities x) (ap full (sym (parities-√2 x) ∙ ap parities (over-√2 (plus s) c.0)) ∙ f) in
      subst (Ready r) (sym (next-not s c.1)) (record {
        equation = equation_turned s.k x y (back y) (N-back y) (F-back y) (equation_same s.k s.u (unturn s) x y h (equation_unturn s e));
        stage = sides k d (ap (plain (parities x)) q ∙ odd-next (parities s.u) (parities x) o d) (omega (arith, turns s));
      })

  -- what halving leaves
  halved-equation : 1 ≤ s.k → none (parities (plus s)) ≡ true → Equation (s.k - 1) (halved (plus s)) (back (halved (less s)))
  halved-equation k c =
      let x = halved (plus s) in
      let y = halved (less s) in
      equation_turned (s.k - 1) x y (back y) (N-back y) (F-back y) (equation_half s.k s.u (unturn s) x y k (halves-even s c) (equation_unturn s e))

  side-step : none (parities (plus s)) ≡ true → 2 ≤ s.k → side (parities s.u) ≡ true → suc r + 3 ≡ 2 * s.k + (s.l + 1) % 2 → Ready r (next s)
  side-step c k o n =
      let x = halved (plus s) in
      let y = halved (less s) in
      let w = halved-equation (omega arith) c in
      let q : parities (back y) ≡ backed (sum (parities s.u) (parities x)) = parities-rest _ _ x y (halves-even s c) in
      let m : some (parities x) (backed (sum (parities s.u) (parities x))) ≡ true = ap (some (parities x)) (sym q) ∙ at_some (s.k - 1) x (back y) (omega arith) w in
      let d = side-next (parities s.u) (parities x) o m in
      subst (Ready r) (sym (next-even s c)) (record { equation = w; stage = odds (omega arith) d.0 (ap (plain (parities x)) q ∙ d.1) (omega (arith, turns s)) })

  first_step : none (parities (plus s)) ≡ true → s.k ≡ 1 → suc r + 2 ≡ 2 * s.k + s.l % 2 → Ready r (next s)
  first_step c k n = subst (Ready r) (sym (next-even s c)) (record { equation = halved-equation (omega arith) c; stage = last (omega arith) (omega (arith, turns s)) (omega arith) })

pub step : (r : ℕ) (s : State) → Ready (suc r) s → Ready r (next s)
step r s h = go h.stage
  where
    go : Stage (suc r) s → Ready r (next s)
    go (last k l n) = absurd (omega arith)
    go (odds k o p n) = elim (dec_le 2 s.k) [
      | yes j ↦ full-step r s h.equation (odd-full s h.equation p j o) j o n
      | no j ↦ first_step r s h.equation (odd-none s h.equation p (omega arith) o) (omega arith) n
    ]
    go (sides k o p n) = side-step r s h.equation (side-none s h.equation p k o) k o n
