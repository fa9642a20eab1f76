-- Nor does a word with S†, T†, X, Y and Z: SPEC, "Shortest pattern".
use Rattle.std.specs.Prelude.{◌≡◌, refl, List, [], ◌∷◌, ℕ, zero, suc, ◌+◌, ◌%◌, ◌≤◌}
use Rattle.std.proofs.Common.{sym, subst, ◌∙◌, arith}
use Rattle.integers.specs.lemmas.Ring.{poly, by_ring}
use Rattle.ring.specs.declared.Point.{Point}
use Rattle.ring.specs.Point.{◌*ω◌, √2ω, ringω, *ω-one}
use Rattle.ring.specs.Point.Exponent.{pulse_count}
use Rattle.region.specs.declared.Job.{Job}
use Rattle.region.specs.Region.{top_scale}
use Rattle.gate_theory.specs.Matrix.{scale, Hs, ω^, Spells, made}
use Rattle.gate_theory.specs.Matrix as W
use Rattle.pattern_shortest.specs.declared.Pattern.TheVariants as P
use Rattle.pattern_shortest.specs.Pattern.{pattern_of}
use Rattle.pattern_shortest.specs.lemmas.Scale as Scale
use Rattle.pattern_optimal.specs.GateSet.{Gate, gate_product, gate_hs, gate_ts, GateSpells, letters_of, mores}
use Rattle.pattern_optimal.proofs.GateSet.{gates_is, gates-Hs, gates-Ts, gates_spell}
use Rattle.pattern_optimal.specs.Unbeaten.{Inside, Meets, Enters, GatesEnter}
use Rattle.pattern_optimal.proofs.Unbeaten.{unbeaten, beyond_all, unbeaten_any, beyond_any}

-- and of words with S†, T†, X, Y and Z
module _ (j : Job) (g : List Gate) (m : Meets j (GateSpells g)) where
  pub gates_meet : Meets j (Spells (letters_of g))
  gates_meet = record { i = m.i; u = m.u; t = m.t; n = m.n; inside = m.inside; spells = gates_spell g m.i (scale (ω^ m.n) (made m.u m.t 0)) m.spells }

  pub gates_unbeaten : (s : ℕ) (u t : Point) → pattern_of j ≡ P.Found s u t → pulse_count s ≤ gate_ts g
  gates_unbeaten s u t f = omega (arith, unbeaten j (letters_of g) gates_meet s u t f, gates-Ts g)

  pub gates_beyond_all : j.k ≤ top_scale → pattern_of j ≡ P.Missing → pulse_count (suc j.k) ≤ gate_ts g
  gates_beyond_all k f = omega (arith, beyond_all j (letters_of g) gates_meet k f, gates-Ts g)

-- of any word in the gates: that of its letters has the same entry, over a higher power of √2
raised : (j : Job) (n i : ℕ) (v : Point) → Inside j i v → Inside j (n + i) (W.√2^ n *ω v)
raised j zero i v m =
    let e : i ≡ 0 + i = omega arith in
    subst (λ h. Inside j h (W.√2^ 0 *ω v)) e (subst (Inside j i) (sym (*ω-one v)) m)
raised j (suc n) i v m =
    let e : suc (n + i) ≡ suc n + i = omega arith in
    let x = W.√2^ n *ω v in
    let r = raised j n i v m in
    subst (λ h. Inside j h (W.√2^ (suc n) *ω v)) e (subst (Inside j (suc (n + i))) (last (W.√2^ n) v √2ω) (record { first = Scale.first j (n + i) x ∙ r.first; second = Scale.second j (n + i) x ∙ r.second }))
  where
    last : (x y z : Point) → x *ω y *ω z ≡ x *ω z *ω y
    last x y z = by_ring ringω (x ∷ y ∷ z ∷ []) (search poly depth 20) refl

module _ (j : Job) (g : List Gate) (m : GatesEnter j g) where
  gates-enter : Enters j (letters_of g)
  gates-enter = subst (λ x. Inside j (Hs (letters_of g)) x.a) (sym (gates_is g)) (subst (λ h. Inside j h (W.√2^ (mores g) *ω (gate_product g).a)) (sym (gates-Hs g)) (raised j (mores g) (gate_hs g) (gate_product g).a m))

  pub gates_unbeaten_any : (s : ℕ) (u t : Point) → pattern_of j ≡ P.Found s u t → pulse_count s ≤ gate_ts g + gate_ts g % 2
  gates_unbeaten_any s u t f = rw (gates-Ts g) at (unbeaten_any j (letters_of g) gates-enter s u t f)

  pub gates_beyond_any : j.k ≤ top_scale → pattern_of j ≡ P.Missing → pulse_count (suc j.k) ≤ gate_ts g + gate_ts g % 2
  gates_beyond_any k f = rw (gates-Ts g) at (beyond_any j (letters_of g) gates-enter k f)
