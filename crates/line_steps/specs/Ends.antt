-- The ends of an interval divided by n, as digits: ⌊x/n⌋ + 10,000 and ⌈x/n⌉ + 10,000.
use Rattle.std.specs.Prelude.{◌≡◌, refl, ℕ, ◌+◌, ◌*◌, ◌/◌, ◌≤◌, ◌<◌, ℤ, pos, negsuc, neg_ℤ, nat_abs, ◌+ℤ◌, ◌-ℤ◌, ◌*ℤ◌}
use Rattle.std.proofs.Common.{sym, subst, arith, div-add-mod', mod-lt, div-lt_iff_lt-mul, le→leb, leb→le, lt→ltb, ltb→lt}
use Rattle.integers.specs.Difference.{by⊖, zz, ◌≼◌, ◌≺◌}
use Rattle.integers.specs.lemmas.Order.{≼_trans}
use Rattle.line_rows.specs.declared.Band.{Band}
use Rattle.line_steps.specs.Line.{bound, span, coordinate}
use Rattle.line_steps.specs.Strips.{size-within, Ranged}

-- the sizes at which the division is done
pub record Divided (k : ℕ) (n x : ℤ) : Type 0 where
  pub one : pos 1 ≼ n
  pub scale : nat_abs n ≤ 100
  pub from : neg_ℤ (pos bound) ≼ x
  pub size : nat_abs x ≤ k

module _ (s : Band) (r : Ranged s) where
  scale-size : nat_abs s.m ≤ 100
  scale-size = size-within 100 s.m (≼_trans (neg_ℤ (pos 100)) (pos 1) s.m (record { le = tt }) r.one) r.scale

  pub lo-divided : Divided (2 * bound) s.m s.lo.p
  lo-divided = record { one = r.one; scale = scale-size; from = r.lo-from; size = omega (arith, size-within bound s.lo.p r.lo-from r.lo-to) }

  pub hi-divided : Divided bound s.m s.hi.p
  hi-divided = record { one = r.one; scale = scale-size; from = r.hi-from; size = size-within bound s.hi.p r.hi-from r.hi-to }

-- ---- the ends of an interval, divided: f = ⌊x/n⌋ + 10,000
abbrev pub floor_of : ℤ → ℤ → ℕ
floor_of n x = nat_abs (x +ℤ pos bound *ℤ n) / nat_abs n

abbrev pub ceiling_of : ℤ → ℤ → ℕ
ceiling_of n x = floor_of n (x +ℤ n -ℤ pos 1)

nn_pos : (z : ℤ) → pos 0 ≼ z → z ≡ pos (nat_abs z)
nn_pos (pos n) h = refl
nn_pos (negsuc n) h = absurd h.le

pos-≼ : (m n : ℕ) → m ≤ n → pos m ≼ pos n
pos-≼ m n h = record { le = le→leb m n h }

module _ (n x : ℤ) (one : pos 1 ≼ n) (from : neg_ℤ (pos bound) ≼ x) where
  pub up-nn : pos 0 ≼ x +ℤ pos bound *ℤ n
  up-nn = go n x one from
    where
      go : (n x : ℤ) → pos 1 ≼ n → neg_ℤ (pos bound) ≼ x → pos 0 ≼ x +ℤ pos bound *ℤ n
      go = by⊖ _ λ p p'. by⊖ _ λ q q'. simp zz (omega arith)

  pub n_is : n ≡ pos (nat_abs n)
  n_is = nn_pos n (≼_trans (pos 0) (pos 1) n (record { le = tt }) one)

  abbrev X : ℕ
  X = nat_abs (x +ℤ pos bound *ℤ n)

  abbrev N : ℕ
  N = nat_abs n

  pub N-one : 1 ≤ N
  N-one = leb→le 1 N (subst (λ (t : ℤ). pos 1 ≼ t) n_is one).le

  X-is : pos X ≡ x +ℤ pos bound *ℤ n
  X-is = sym (nn_pos (x +ℤ pos bound *ℤ n) up-nn)

  pub floor-from : n *ℤ coordinate (floor_of n x) ≼ x
  floor-from =
      go n (pos (floor_of n x)) (pos X) x X-is
      (subst (λ (t : ℤ). pos (floor_of n x) *ℤ t ≼ pos X) (sym n_is) (pos-≼ (X / N * N) X (omega (arith, div-add-mod' X N))))
    where
      go : (n w y x : ℤ) → y ≡ x +ℤ pos bound *ℤ n → w *ℤ n ≼ y → n *ℤ (w -ℤ pos bound) ≼ x
      go = by⊖ _ λ p p'. by⊖ _ λ q q'. by⊖ _ λ r r'. by⊖ _ λ s s'. simp zz (omega arith)

  floor-to : x ≺ n *ℤ (coordinate (floor_of n x) +ℤ pos 1)
  floor-to =
      go n (pos (floor_of n x)) (pos X) x X-is
      (subst (λ (t : ℤ). pos X ≺ pos (floor_of n x) *ℤ t +ℤ t) (sym n_is) (record { lt = lt→ltb X (X / N * N + N) (omega (arith, div-add-mod' X N, mod-lt X N-one)) }))
    where
      go : (n w y x : ℤ) → y ≡ x +ℤ pos bound *ℤ n → y ≺ w *ℤ n +ℤ n → x ≺ n *ℤ (w -ℤ pos bound +ℤ pos 1)
      go = by⊖ _ λ p p'. by⊖ _ λ q q'. by⊖ _ λ r r'. by⊖ _ λ s s'. simp zz (omega arith)

  pub floor-below : x ≺ pos bound +ℤ n → floor_of n x < span
  floor-below h =
      (div-lt_iff_lt-mul N-one).1
      (ltb→lt X (span * N) (subst (λ (t : ℤ). pos X ≺ pos span *ℤ t) n_is (subst (λ (t : ℤ). t ≺ pos span *ℤ n) (sym X-is) (go n x one h))).lt)
    where
      go : (n x : ℤ) → pos 1 ≼ n → x ≺ pos bound +ℤ n → x +ℤ pos bound *ℤ n ≺ pos span *ℤ n
      go = by⊖ _ λ p p'. by⊖ _ λ q q'. simp zz (omega arith)

ceiling_from : (n x : ℤ) → pos 1 ≼ n → neg_ℤ (pos bound) ≼ x → neg_ℤ (pos bound) ≼ x +ℤ n -ℤ pos 1
ceiling_from = by⊖ _ λ p p'. by⊖ _ λ q q'. simp zz (omega arith)

pub ceiling_to : (n x : ℤ) → pos 1 ≼ n → neg_ℤ (pos bound) ≼ x → x ≼ n *ℤ coordinate (ceiling_of n x)
ceiling_to n x one from = go n (coordinate (ceiling_of n x)) x (floor-to n (x +ℤ n -ℤ pos 1) one (ceiling_from n x one from))
  where
    go : (n c x : ℤ) → x +ℤ n -ℤ pos 1 ≺ n *ℤ (c +ℤ pos 1) → x ≼ n *ℤ c
    go = by⊖ _ λ p p'. by⊖ _ λ q q'. by⊖ _ λ r r'. simp zz (omega arith)

pub lo-below : (s : Band) → Ranged s → floor_of s.m s.lo.p < span
lo-below s r = floor-below s.m s.lo.p r.one r.lo-from (go s.m s.lo.p r.one r.lo-to)
  where
    go : (n x : ℤ) → pos 1 ≼ n → x ≼ pos bound → x ≺ pos bound +ℤ n
    go = by⊖ _ λ p p'. by⊖ _ λ q q'. simp zz (omega arith)
