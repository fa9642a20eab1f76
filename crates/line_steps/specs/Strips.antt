-- An interval as a strip, its range, and the test of a pair by the bounds of its row.
use Rattle.std.specs.Prelude.{◌≡◌, refl, true, ◌&&◌, ℕ, ◌≤◌, T, ℤ, pos, negsuc, neg_ℤ, nat_abs}
use Rattle.std.proofs.Common.{sym, ◌∙◌, ap₂, subst, arith, leb→le}
use Rattle.std.specs.Int.Signed.{le_z}
use Rattle.integers.specs.lemmas.Booleans.{both_true}
use Rattle.integers.specs.Difference.{◌≼◌, ≤→ℕ, neg_up, neg_dn}
use Rattle.ring.specs.declared.RootTwo.{RootTwo}
use Rattle.ring.specs.RootTwo.{conj, num_parts}
use Rattle.line_rows.specs.declared.Band.{Band}
use Rattle.line_rows.specs.Row.{at, above, below, lower, upper}
use Rattle.line_rows.specs.lemmas.Both.{regroup}
use Rattle.line_steps.specs.declared.Interval.{Interval}
use Rattle.line_steps.specs.Line.{within, in_range, accepted, holds, solves, bound}

-- ---- an interval as a strip
abbrev pub strip_of : Interval → Band
strip_of i = record { m = i.n; lo = at i.lo (pos 0); hi = at i.hi (pos 0) }

holds-is : (i : Interval) (z : RootTwo) → holds i z ≡ above (strip_of i) z && below (strip_of i) z
unfolding holds
holds-is i z = rw (num_parts i.lo, num_parts i.hi) refl

-- a pair solves if and only if it meets the lower bounds and the upper ones
pub solves-row : (i j : Interval) (a b : ℤ) → solves i j a b ≡ lower (strip_of i) (strip_of j) a b && upper (strip_of i) (strip_of j) a b
unfolding solves
solves-row i j a b = ap₂ ◌&&◌ (holds-is i (at a b)) (holds-is j (conj (at a b))) ∙ regroup (above (strip_of i) (at a b)) (below (strip_of i) (at a b)) (above (strip_of j) (conj (at a b))) (below (strip_of j) (conj (at a b)))

-- ---- the ranges
pub record Ranged (s : Band) : Type 0 where
  pub one : pos 1 ≼ s.m
  pub scale : s.m ≼ pos 100
  pub lo-from : neg_ℤ (pos bound) ≼ s.lo.p
  pub lo-to : s.lo.p ≼ pos bound
  pub hi-from : neg_ℤ (pos bound) ≼ s.hi.p
  pub hi-to : s.hi.p ≼ pos bound

-- |z| ≤ k
pub size-within : (k : ℕ) (z : ℤ) → neg_ℤ (pos k) ≼ z → z ≼ pos k → nat_abs z ≤ k
size-within k (pos n) h g = leb→le n k g.le
size-within k (negsuc n) h g = omega (arith, ≤→ℕ (neg_ℤ (pos k)) (negsuc n) h, neg_up (pos k), neg_dn (pos k))

pub le_true : (a b : ℤ) → le_z a b ≡ true → a ≼ b
le_true a b e = record { le = subst T (sym e) tt }

within-true : (lo hi z : ℤ) → within lo hi z ≡ true → (lo ≼ z) × (z ≼ hi)
within-true lo hi z e = let (f, g) = both_true _ _ e in (le_true lo z f, le_true z hi g)

pub ranged : (i : Interval) → in_range i ≡ true → Ranged (strip_of i)
unfolding in_range
ranged i e =
    let (n, e) = both_true _ _ e in
    let (l, h) = both_true _ _ e in
    let n = within-true (pos 1) (pos 100) i.n n in
    let l = within-true (neg_ℤ (pos bound)) (pos bound) i.lo l in
    let h = within-true (neg_ℤ (pos bound)) (pos bound) i.hi h in
    record { one = n.0; scale = n.1; lo-from = l.0; lo-to = l.1; hi-from = h.0; hi-to = h.1 }

pub both-ranged : (i j : Interval) → accepted i j ≡ true → Ranged (strip_of i) × Ranged (strip_of j)
both-ranged i j ok = let (e, f) = both_true (in_range i) (in_range j) ok in (ranged i e, ranged j f)

pub strips_ranged : (i j : Interval) → accepted i j ≡ true → (s t : Band) → s ≡ strip_of i → t ≡ strip_of j → Ranged s × Ranged t
strips_ranged i j ok s t e f = let (r, q) = both-ranged i j ok in (subst Ranged (sym e) r, subst Ranged (sym f) q)
