-- Scales in turn: what the next one leaves of the pattern.
use Rattle.std.specs.Prelude.{◌≡◌, ℕ, suc, ◌-◌}
use Rattle.std.proofs.Common.{sym, ap, arith}
use Rattle.ring.specs.declared.Point.{Point}
use Rattle.region.specs.declared.Job.{Job}
use Rattle.pattern_pairing.specs.declared.Found.TheVariants as F
use Rattle.pattern_shortest.specs.declared.Pattern.TheVariants as P
use Rattle.pattern_shortest.specs.Pattern.{at, found_at, or_else, from_scale, pattern_of}

pub all-scales : (j : Job) → pattern_of j ≡ from_scale j (suc (j.k - 0)) 0
unfolding pattern_of
all-scales j = let e : j.k ≡ j.k - 0 = omega arith in ap (λ n. from_scale j (suc n) 0) e

pub scale-found : (j : Job) (n i : ℕ) {u t : Point} → found_at (at j i) ≡ F.At u t → P.Found i u t ≡ from_scale j (suc n) i
unfolding from_scale
scale-found j n i e = sym (ap (or_else i (from_scale j n (suc i))) e)

pub scale-missing : (j : Job) (n i : ℕ) → found_at (at j i) ≡ F.Missing → from_scale j (suc n) i ≡ from_scale j n (suc i)
unfolding from_scale
scale-missing j n i e = ap (or_else i (from_scale j n (suc i))) e

pub no_scale : (j : Job) (n i : ℕ) → n ≡ 0 → P.Missing ≡ from_scale j n i
unfolding from_scale
no_scale j n i e = sym (ap (λ m. from_scale j m i) e)
