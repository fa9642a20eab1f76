-- No word in H, S, T and W, of any length and at any scale, does with fewer T than the shortest pattern: SPEC, "Shortest pattern".
use Rattle.std.specs.Prelude.{◌≡◌, true, List, ℕ, suc}
use Rattle.ring.specs.declared.Point.{Point}
use Rattle.ring.specs.RootTwo.Power.{√2^, turn}
use Rattle.ring.specs.Point.{√2x, √2y, conjω}
use Rattle.ring.specs.Point.Exponent.{pulse_count}
use Rattle.region.specs.declared.Job.{Job}
use Rattle.region.specs.Region.{holds}
use Rattle.gate_theory.specs.Table.{Letter}
use Rattle.gate_theory.specs.Matrix.{Matrix, scale, product, Hs, ω^, Spells, made}
use Rattle.gate_theory.specs.Word.{Ts}
use Rattle.pattern_optimal.specs.GateSet.{Gate, gate_product, gate_hs}

-- u = v/√2^i lies in A and its conjugate in B: SPEC, "Membership", at any scale
pub record Inside (j : Job) (i : ℕ) (v : Point) : Type 0 where
  pub first : holds j.a (√2^ (suc i)) (√2x v) (√2y v) ≡ true
  pub second : holds j.b (√2^ (suc i)) (turn i (√2x (conjω v))) (turn i (√2y (conjω v))) ≡ true

-- a word that meets the job: its product, each H over √2, is ω^n times the matrix with rows (u, −t†) and (t, u†) over √2^i, of determinant 1, with u in A and its conjugate in B. Any i, any phase.
-- What it spells is `Spells w`, or `GateSpells g` for a word with S†, T†, X, Y and Z
pub record Meets (j : Job) (spelled : ℕ → Matrix → Type 0) : Type 0 where
  pub i : ℕ
  pub u : Point
  pub t : Point
  pub n : ℕ
  pub inside : Inside j i u
  pub spells : spelled i (scale (ω^ n) (made u t 0))

-- every word with an even number of T is one such, where its u lies there
pub record Special (w : List Letter) : Type 0 where
  pub u : Point
  pub t : Point
  pub n : ℕ
  pub spells : Spells w (Hs w) (scale (ω^ n) (made u t 0))

-- a word whose own product, of any determinant, has its upper left entry there
abbrev pub Enters : Job → List Letter → Type 0
Enters j w = Inside j (Hs w) (product w).a

abbrev pub GatesEnter : Job → List Gate → Type 0
GatesEnter j g = Inside j (gate_hs g) (gate_product g).a

-- ---- and a word has as many: the one that is handed back for the pattern, that of U or of TUT†
pub record Attained (j : Job) (s : ℕ) (w : List Letter) : Type 0 where
  pub meets : Meets j (Spells w)
  pub Ts-are : Ts w ≡ pulse_count s
