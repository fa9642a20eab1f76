-- The numbers of the adjugate: their sizes, and the form in which they are computed.
use Rattle.std.specs.Prelude.{◌≡◌, refl, [], ◌∷◌, ℕ, zero, suc, ◌+◌, ◌*◌, ℤ, pos, neg_ℤ, nat_abs, ◌+ℤ◌, ◌-ℤ◌, ◌*ℤ◌}
use Rattle.std.proofs.Common.{sym, ◌∙◌, ap, one-mul, arith}
use Rattle.std.proofs.Math.IntN.{+ℤ_idl}
use Rattle.integers.specs.Parity.{half}
use Rattle.integers.specs.lemmas.Size.{size-neg, size-*}
use Rattle.integers.specs.lemmas.RingZ.{by_ring, polyZ}
use Rattle.operator.specs.declared.Operator.{Operator}
use Rattle.operator.specs.Operator.{ext}
use Rattle.operator.specs.Inverse.{adjugate, times}
use Rattle.operator.specs.Accepted.{Small}
use Rattle.operator.specs.lemmas.Halves.{half-neg, half-size}

pub adjugate-small : (m : ℕ) (g : Operator) → Small m g → Small (m + m) (adjugate g)
unfolding adjugate
adjugate-small m g h =
    let na = size-neg g.a in
    let nc = size-neg g.c in
    let nai = size-neg g.ai in
    let nci = size-neg g.ci in
    record {
      a = omega (arith, half-size (neg_ℤ g.ci) (neg_ℤ g.ai) (neg_ℤ g.c) (neg_ℤ g.a));
      b = omega (arith, size-neg g.b);
      c = omega (arith, half-size g.ci g.ai (neg_ℤ g.c) (neg_ℤ g.a));
      d = omega arith;
      ai = omega (arith, half-size g.ci (neg_ℤ g.ai) g.c (neg_ℤ g.a));
      bi = omega arith;
      ci = omega (arith, half-size (neg_ℤ g.ci) g.ai g.c (neg_ℤ g.a));
      di = omega (arith, size-neg g.di);
    }

-- the adjugate as it is computed: signs turned after halving
abbrev pub computed : Operator → Operator
computed g = record {
  a = pos 0 -ℤ half (g.ci +ℤ g.ai +ℤ g.c +ℤ g.a);
  b = pos 0 -ℤ g.b;
  c = half (g.ci +ℤ g.ai -ℤ g.c -ℤ g.a);
  d = g.bi;
  ai = half (g.ci +ℤ g.c -ℤ g.ai -ℤ g.a);
  bi = g.d;
  ci = half (g.ai +ℤ g.c -ℤ g.ci -ℤ g.a);
  di = pos 0 -ℤ g.di;
}

pub computed-is : (g : Operator) → adjugate g ≡ computed g
unfolding adjugate
computed-is g =
    let e = turned g.a g.c g.ai g.ci in
    ext
    (ap half e.0 ∙ half-neg (g.ci +ℤ g.ai +ℤ g.c +ℤ g.a) ∙ sym (+ℤ_idl _)) (sym (+ℤ_idl _)) refl refl
    (ap half e.1) refl (ap half e.2) (sym (+ℤ_idl _))
  where
    turned : (a c ai ci : ℤ) → (neg_ℤ ci -ℤ ai -ℤ c -ℤ a ≡ neg_ℤ (ci +ℤ ai +ℤ c +ℤ a)) × (ci -ℤ ai +ℤ c -ℤ a ≡ ci +ℤ c -ℤ ai -ℤ a) × (neg_ℤ ci +ℤ ai +ℤ c -ℤ a ≡ ai +ℤ c -ℤ ci -ℤ a)
    turned a c ai ci = let ρ = a ∷ c ∷ ai ∷ ci ∷ [] in (by_ring ρ (search polyZ depth 60) refl, by_ring ρ (search polyZ depth 60) refl, by_ring ρ (search polyZ depth 60) refl)

-- a square that is 1 is of a number of size 1
pub unit_size : (k x : ℤ) → k *ℤ k ≡ pos 1 → nat_abs (k *ℤ x) ≡ nat_abs x
unit_size k x h = size-* k x ∙ ap (λ n. n * nat_abs x) one ∙ one-mul (nat_abs x)
  where
    square : (n : ℕ) → n * n ≡ 1 → n ≡ 1
    square zero h = omega arith
    square (suc zero) h = refl
    square (suc (suc n)) h = absurd (omega arith)

    one : nat_abs k ≡ 1
    one = square (nat_abs k) (sym (size-* k k) ∙ ap nat_abs h)

pub times-small : (m : ℕ) (k : ℤ) (g : Operator) → k *ℤ k ≡ pos 1 → Small m g → Small m (times k g)
unfolding times
times-small m k g h s =
    record {
      a = rw (unit_size k g.a h) s.a;
      b = rw (unit_size k g.b h) s.b;
      c = rw (unit_size k g.c h) s.c;
      d = rw (unit_size k g.d h) s.d;
      ai = rw (unit_size k g.ai h) s.ai;
      bi = rw (unit_size k g.bi h) s.bi;
      ci = rw (unit_size k g.ci h) s.ci;
      di = rw (unit_size k g.di h) s.di;
    }
