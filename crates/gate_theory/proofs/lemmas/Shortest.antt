-- No word in H, S and W of equal product leads a tail of the table.
use Rattle.std.specs.Prelude.{◌≡◌, refl, Bool, true, ◌&&◌, ◌∷◌, ℕ, zero, suc, ◌/◌, ◌%◌, ◌≤◌, ◌<◌, ◌^◌, leb, pos, ◌+ℤ◌}
use Rattle.std.proofs.Common.{sym, ◌∙◌, ap₂, subst, arith}
use borrow.Author.Tests.{leb-true}
use Rattle.integers.specs.lemmas.Booleans.{both_true, both_of}
use Rattle.ring.specs.declared.Point.{Point}
use Rattle.gate_theory.specs.Bits.{implies, since, odd, plain}
use Rattle.gate_theory.specs.Points.{N, F}
use Rattle.gate_theory.specs.Parities.{parities}
use Rattle.gate_theory.specs.State.{State, Equation, Stage, last, odds, sides, Ready}
use Rattle.gate_theory.specs.Table.{Letter, H, S, T, W, tail_at, tail}
use Rattle.gate_theory.proofs.lemmas.Tails.{equal, equal_is, solves, points}
use Rattle.gate_theory.proofs.lemmas.Base.{points-law, small, solves-is}
use Rattle.gate_theory.proofs.lemmas.Moves.{number, base, moved, l_of, exact, fine, fines, moves, moves-0, moves-1}

-- ---- the base as a test and as a state
pub base-of : (s : State) → Ready 0 s → (base s.k s.u s.t ≡ true) × (s.k ≤ 1) × (s.l % 2 ≡ 0)
base-of s h = go s.k refl h.equation h.stage
  where
    go : (k : ℕ) → s.k ≡ k → Equation s.k s.u s.t → Stage 0 s → (base k s.u s.t ≡ true) × (k ≤ 1) × (s.l % 2 ≡ 0)
    go zero j e (last k l n) = (solves-is 0 s.u s.t (subst (λ i. Equation i s.u s.t) j e), omega arith, l)
    go zero j e (odds k o p n) = absurd (omega arith)
    go zero j e (sides k o p n) = absurd (omega arith)
    go (suc zero) j e (last k l n) = absurd (omega arith)
    go (suc zero) j e (odds k o p n) = (both_of (solves-is 1 s.u s.t (subst (λ i. Equation i s.u s.t) j e)) (both_of o p), omega arith, omega arith)
    go (suc zero) j e (sides k o p n) = absurd (omega arith)
    go (suc (suc i)) j e (last k l n) = absurd (omega arith)
    go (suc (suc i)) j e (odds k o p n) = absurd (omega arith)
    go (suc (suc i)) j e (sides k o p n) = absurd (omega arith)

of_solves : (k : ℕ) (u t : Point) → solves k u t ≡ true → Equation k u t
of_solves k u t e = let f = both_true (equal (N u +ℤ N t) (pos (2 ^ k))) (equal (F u +ℤ F t) (pos 0)) e in record { squares = equal_is _ _ f.0; crosses = equal_is _ _ f.1 }

pub of_base : (k : ℕ) (u t : Point) (l : ℕ) → base k u t ≡ true → l % 2 ≡ 0 → Ready 0 (record { k = k; u = u; t = t; l = l })
of_base zero u t l b e = record { equation = of_solves 0 u t b; stage = last refl e refl }
of_base (suc zero) u t l b e =
    let f = both_true (solves 1 u t) (odd (parities u) && plain (parities u) (parities t)) b in
    let g = both_true (odd (parities u)) (plain (parities u) (parities t)) f.1 in
    record { equation = of_solves 1 u t f.0; stage = odds (omega arith) g.0 g.1 (omega arith) }
of_base (suc (suc k)) u t l b e = let z : ◌≡◌ {A = ℕ} 0 1 = cc in absurd (omega arith)

-- ---- the test, for a state
moves-are : (k : ℕ) (u t : Point) → k ≤ 1 → base k u t ≡ true → Equation k u t → moves k u t ≡ true
moves-are zero u t h b e =
    let s = small u t 1 e.squares (omega arith) in
    since (base 0 u t) (moves 0 u t) (points-law (λ t. implies (base 0 u t) (moves 0 u t)) (points-law (λ u. points (λ t. implies (base 0 u t) (moves 0 u t))) moves-0 u s.0) t s.1) b
moves-are (suc zero) u t h b e =
    let s = small u t 2 e.squares (omega arith) in
    since (base 1 u t) (moves 1 u t) (points-law (λ t. implies (base 1 u t) (moves 1 u t)) (points-law (λ u. points (λ t. implies (base 1 u t) (moves 1 u t))) moves-1 u s.0) t s.1) b
moves-are (suc (suc k)) u t h b e = absurd (omega arith)

fines-at : (k : ℕ) (u t : Point) (l : ℕ) → l % 2 ≡ 0 → moves k u t ≡ true → fines k u t (l % 8) ≡ true
fines-at k u t l e m = go (l % 8) (omega arith) (omega arith)
  where
    f : ℕ → Bool
    f l = fines k u t l

    all : f 0 && f 2 && (f 4 && f 6) ≡ true
    all = (both_true (exact (record { k = k; u = u; t = t; l = 0 })) (f 0 && f 2 && (f 4 && f 6)) m).1

    go : (r : ℕ) → r < 8 → r % 2 ≡ 0 → f r ≡ true
    go zero h p = (both_true (f 0) (f 2) (both_true (f 0 && f 2) (f 4 && f 6) all).0).0
    go (suc zero) h p = absurd (omega arith)
    go (suc (suc zero)) h p = (both_true (f 0) (f 2) (both_true (f 0 && f 2) (f 4 && f 6) all).0).1
    go (suc (suc (suc zero))) h p = absurd (omega arith)
    go (suc (suc (suc (suc zero)))) h p = (both_true (f 4) (f 6) (both_true (f 0 && f 2) (f 4 && f 6) all).1).0
    go (suc (suc (suc (suc (suc zero))))) h p = absurd (omega arith)
    go (suc (suc (suc (suc (suc (suc zero)))))) h p = (both_true (f 4) (f 6) (both_true (f 0 && f 2) (f 4 && f 6) all).1).1
    go (suc (suc (suc (suc (suc (suc (suc r))))))) h p = absurd (omega arith)

-- ---- a letter before a tail
l_of-rest : (x : Letter) (l : ℕ) → l % 2 ≡ 0 → (l_of x (l % 8) % 8 / 2 ≡ l_of x l % 8 / 2) × (l_of x l % 2 ≡ 0)
l_of-rest H l e = (omega arith, omega arith)
l_of-rest S l e = (omega arith, omega arith)
l_of-rest T l e = (omega arith, omega arith)
l_of-rest W l e = (omega arith, omega arith)

three-of : (f : Letter → Bool) → f H && (f S && f W) ≡ true → (x : Letter) → (x ≡ T → ⊥) → f x ≡ true
three-of f e H n = (both_true (f H) (f S && f W) e).0
three-of f e S n = (both_true (f S) (f W) (both_true (f H) (f S && f W) e).1).0
three-of f e T n = absurd (n refl)
three-of f e W n = (both_true (f S) (f W) (both_true (f H) (f S && f W) e).1).1

module _ (s : State) (h : Ready 0 s) where
  all-moves : moves s.k s.u s.t ≡ true
  all-moves = let b = base-of s h in moves-are s.k s.u s.t b.1 b.0 h.equation

  pub exact-is : exact (record { k = s.k; u = s.u; t = s.t; l = 0 }) ≡ true
  exact-is = (both_true (exact (record { k = s.k; u = s.u; t = s.t; l = 0 })) (fines s.k s.u s.t 0 && fines s.k s.u s.t 2 && (fines s.k s.u s.t 4 && fines s.k s.u s.t 6)) all-moves).0

  fine-is : (x : Letter) → (x ≡ T → ⊥) → fine x s ≡ true
  fine-is x n =
      let even = (base-of s h).2 in
      let r = moved x s in
      let f = three-of (λ x. fine x (record { k = s.k; u = s.u; t = s.t; l = s.l % 8 })) (fines-at s.k s.u s.t s.l even all-moves) x n in
      let d : s.l % 8 / 2 ≡ s.l % 8 % 8 / 2 = omega arith in
      ap₂ (λ m n. base r.k r.u r.t && leb (number (tail_at r.u r.t m)) (number (x ∷ tail_at s.u s.t n))) (sym (l_of-rest x s.l even).0) d ∙ f

  pub moved_ready : (x : Letter) → (x ≡ T → ⊥) → Ready 0 (moved x s)
  moved_ready x n =
      let r = moved x s in
      of_base r.k r.u r.t r.l (both_true (base r.k r.u r.t) (leb (number (tail_at r.u r.t (r.l % 8 / 2))) (number (x ∷ tail_at s.u s.t (s.l % 8 / 2)))) (fine-is x n)).0 (l_of-rest x s.l (base-of s h).2).1

  pub moved-number : (x : Letter) → (x ≡ T → ⊥) → number (tail (moved x s)) ≤ number (x ∷ tail s)
  unfolding tail
  moved-number x n =
      let r = moved x s in
      leb-true _ _ (both_true (base r.k r.u r.t) (leb (number (tail_at r.u r.t (r.l % 8 / 2))) (number (x ∷ tail_at s.u s.t (s.l % 8 / 2)))) (fine-is x n)).1
