-- No word in H, S, T and W, of any length and at any scale, does with fewer T than the shortest pattern: SPEC, "Shortest pattern".
use Rattle.std.specs.Prelude.{◌≡◌, refl, true, List, ℕ, zero, suc, ◌+◌, ◌*◌, ◌/◌, ◌%◌, ◌≤◌, ◌<◌, Option, Some, None}
use Rattle.std.proofs.Common.{sym, ap, subst, ◌∙◌, arith}
use Rattle.std.proofs.Math.Decide.{dec_lt}
use Rattle.ring.specs.declared.Point.{Point}
use Rattle.ring.specs.Point.Divide.{divide_root2, halves, divide_whole}
use Rattle.ring.specs.Point.Exponent.{exponent_of, exponent_zero, exponent_not, pulse_count}
use Rattle.region.specs.declared.Job.{Job}
use Rattle.region.specs.Region.{top_scale, solves}
use Rattle.region.specs.lemmas.Membership.{solves-true, true_solves}
use Rattle.region.specs.Selection.{exponent_most}
use Rattle.entry_equation.specs.Equation.{completes}
use Rattle.gate_theory.specs.Table.{Letter}
use Rattle.gate_theory.specs.Matrix.{Hs, Spells, made}
use Rattle.gate_theory.specs.Word.{Ts}
use Rattle.gate_theory.proofs.lemmas.Run.{run, product-run}
use Rattle.pattern_shortest.specs.declared.Pattern.TheVariants as P
use Rattle.pattern_shortest.specs.Pattern.{at, pattern_of}
use Rattle.pattern_shortest.specs.lemmas.Pair.{completed, over-both, step, m_rises}
use Rattle.pattern_shortest.specs.lemmas.Scale as Scale
use Rattle.pattern_shortest.specs.Minimal.{FoundBy, minimal, found-pair}
use Rattle.gate_words_lent.specs.lemmas.Theorems.{handed-Ts}
use Rattle.pattern_optimal.proofs.lemmas.Unitary.{column-spells, column-parity, spells_equation}
use Rattle.pattern_optimal.proofs.lemmas.Fewest.{pulses}
use Rattle.pattern_optimal.proofs.lemmas.Closing.{Closed, no_phase, evened, unphased}
use Rattle.pattern_optimal.proofs.lemmas.Handed.{handed_word, handed-has}
use Rattle.pattern_optimal.specs.Unbeaten.{Inside, Meets, Special, Enters, Attained}

-- up to the top scale these are the solutions of the job
pub inside_solves : (j : Job) (i : ℕ) (v : Point) → i ≤ top_scale → Inside j i v → solves (at j i) v ≡ true
inside_solves j i v h m = true_solves (at j i) v (record { scale = h; first = m.first; second = m.second })

pub solves-inside : (j : Job) (i : ℕ) (v : Point) → solves (at j i) v ≡ true → Inside j i v
solves-inside j i v e = let m = solves-true (at j i) v e in record { first = m.first; second = m.second }

pub even-special : (w : List Letter) → Ts w % 2 ≡ 0 → Special w
even-special w h =
    let n = (run w).l / 2 in
    let e : (run w).l ≡ n * 2 = omega (arith, column-parity w) in
    let f = evened n (run w).u (run w).t in
    record { u = f.v; t = f.x; n = n; spells = subst (Spells w (Hs w)) (ap (made (run w).u (run w).t) e ∙ f.is) (column-spells w) }

-- ---- down to the exponent
record Lowest (j : Job) (e : ℕ) : Type 0 where
  u : Point
  t : Point
  inside : Inside j e u
  equation : completes e u t ≡ true

lower : (j : Job) (i : ℕ) (u x : Point) → divide_root2 u ≡ Some x → Inside j (suc i) u → Inside j i x
lower j i u x d m =
    let n = subst (Inside j (suc i)) (sym (divide_whole u x d)) m in
    record { first = sym (Scale.first j i x) ∙ n.first; second = sym (Scale.second j i x) ∙ n.second }

lowest : (j : Job) (i : ℕ) (u t : Point) → Inside j i u → completes i u t ≡ true → Lowest j (exponent_of i u)
lowest j zero u t m c = rw (exponent_zero u) (record { u = u; t = t; inside = m; equation = c })
lowest j (suc i) u t m c = go (divide_root2 u) refl (λ x y p q. lowest j i x y p q)
  where
    go : (q : Option Point) → divide_root2 u ≡ q → ((x y : Point) → Inside j i x → completes i x y ≡ true → Lowest j (exponent_of i x)) → Lowest j (exponent_of (suc i) u)
    go (Some x) d ih = subst (Lowest j) (sym (step i u x d)) (ih x (halves t) (lower j i u x d m) (over-both i u t x c d))
    go None d ih = subst (Lowest j) (exponent_not (suc i) u (omega arith) d) (record { u = u; t = t; inside = m; equation = c })

-- ---- for a word of any determinant: an odd power of ω may spare one T
module _ (j : Job) (i : ℕ) (u t : Point) (l : ℕ) (w : List Letter) (inside : Inside j i u) (spells : Spells w i (made u t l)) where
  -- the exponent of u is a scale at which there is a pair
  by-then : exponent_of i u ≤ j.k → exponent_of i u ≤ top_scale → FoundBy (pattern_of j) (exponent_of i u)
  by-then h k =
      let e = exponent_of i u in
      let l = lowest j i u t inside (completed i u t (spells_equation w i u t l spells)) in
      let f = minimal j e l.u l.t h (record { inside = inside_solves j e l.u k l.inside; equation = l.equation }) in
      record { scale = f.scale; u = f.u; t = f.t; is = f.is; by = omega (arith, f.by, exponent_most e l.u) }

  rises : (s : ℕ) → s ≤ exponent_of i u → pulse_count s ≤ Ts w + l % 2
  rises s h = omega (arith, m_rises s (exponent_of i u) h, pulses i u t l w spells)

  found-most : (s : ℕ) (v x : Point) → pattern_of j ≡ P.Found s v x → pulse_count s ≤ Ts w + l % 2
  found-most s v x f = elim (dec_lt (exponent_of i u) s) [ yes l ↦ absurd (earlier l) | no l ↦ rises s (omega arith) ]
    where
      earlier : exponent_of i u < s → ⊥
      earlier l =
          let (h, p, n) = found-pair j s v x f in
          let g = by-then (omega arith) (omega (arith, (solves-true (at j s) v p.inside).scale)) in
          let y : P.Found g.scale g.u g.t ≡ P.Found s v x = sym g.is ∙ f in
          let z : g.scale ≡ s = cc in
          omega (arith, g.by)

  missing-most : j.k ≤ top_scale → pattern_of j ≡ P.Missing → pulse_count (suc j.k) ≤ Ts w + l % 2
  missing-most k f = elim (dec_lt j.k (exponent_of i u)) [ yes l ↦ rises (suc j.k) l | no l ↦ absurd (none (omega arith)) ]
    where
      none : exponent_of i u ≤ j.k → ⊥
      none h =
          let g = by-then h (omega arith) in
          let y : P.Found g.scale g.u g.t ≡ P.Missing = sym g.is ∙ f in
          let z : ◌≡◌ {A = ℕ} 0 1 = cc in
          omega arith

-- ---- the theorems
module _ (j : Job) (w : List Letter) (m : Meets j (Spells w)) where
  plain : Closed (Ts w) m.i (made m.u m.t 0)
  plain = unphased w m.i m.n (made m.u m.t 0) m.spells

  -- where the shortest pattern is found at scale s, every word that meets the job has at least as many T as its pulse count
  pub unbeaten : (s : ℕ) (u t : Point) → pattern_of j ≡ P.Found s u t → pulse_count s ≤ Ts w
  unbeaten s u t f = omega (arith, found-most j m.i m.u m.t 0 plain.word m.inside plain.spells s u t f, plain.Ts-are)

  -- where none is found up to k, every word that meets the job has at least as many as k + 1
  pub beyond_all : j.k ≤ top_scale → pattern_of j ≡ P.Missing → pulse_count (suc j.k) ≤ Ts w
  beyond_all k f = omega (arith, missing-most j m.i m.u m.t 0 plain.word m.inside plain.spells k f, plain.Ts-are)

-- of any word at all, with one T more where their number is odd
module _ (j : Job) (w : List Letter) (m : Enters j w) where
  own : Inside j (Hs w) (run w).u
  own = subst (λ x. Inside j (Hs w) x.a) (product-run w) m

  pub unbeaten_any : (s : ℕ) (u t : Point) → pattern_of j ≡ P.Found s u t → pulse_count s ≤ Ts w + Ts w % 2
  unbeaten_any s u t f = omega (arith, found-most j (Hs w) (run w).u (run w).t (run w).l w own (column-spells w) s u t f, column-parity w)

  pub beyond_any : j.k ≤ top_scale → pattern_of j ≡ P.Missing → pulse_count (suc j.k) ≤ Ts w + Ts w % 2
  beyond_any k f = omega (arith, missing-most j (Hs w) (run w).u (run w).t (run w).l w own (column-spells w) k f, column-parity w)

pub attained : (j : Job) (s : ℕ) (u t : Point) → pattern_of j ≡ P.Found s u t → Attained j s (handed_word s u t)
attained j s u t f =
    let (h, p, n) = found-pair j s u t f in
    let x = handed-has s u t p.equation in
    record {
      meets = record { i = s; u = u; t = x.t; n = 0; inside = solves-inside j s u p.inside; spells = subst (Spells (handed_word s u t) s) (sym (no_phase (made u x.t 0))) x.spells };
      Ts-are = handed-Ts s u t p.equation ∙ ap pulse_count n;
    }
