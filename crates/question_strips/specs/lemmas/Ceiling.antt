-- Whole numbers that are at least a number of Z[√2].
use Rattle.std.specs.Prelude.{◌≡◌, refl, true, [], ◌∷◌, ℕ, ◌+◌, ◌*◌, ℤ, pos, nat_abs, ◌+ℤ◌, ◌-ℤ◌, ◌*ℤ◌}
use Rattle.std.proofs.Common.{zero-le, le_refl, le→leb}
use Rattle.integers.specs.Difference.{◌≼◌}
use Rattle.integers.specs.lemmas.Order.{≼→nn}
use Rattle.ring.specs.declared.RootTwo.{RootTwo}
use Rattle.ring.specs.RootTwo.{◌⊞◌, ◌⊟◌, ◌⊠◌, num, √2, parts, by_parts, poly√}
use Rattle.ring.specs.RootTwo.Order.{nonneg, Nn, ◌⊑◌, nn_by, nn-+, nn-*, nn_num, nn-√2, one⊑√2, num-⊑, ⊑_trans}
use Rattle.line_rows.specs.Row.{at}
use Rattle.region.specs.Accepted.{size-≼}

-- a guess t that passes the test
pub by_guess : (x : RootTwo) (t : ℤ) → nonneg (at (t -ℤ x.p) (pos 0 -ℤ x.q)) ≡ true → x ⊑ num (pos (nat_abs t))
by_guess x t e = ⊑_trans x (num t) (num (pos (nat_abs t))) (nn_by (step x t) (record { nn = e })) (num-⊑ (size-≼ t (nat_abs t) (le_refl (nat_abs t))))
  where
    step : (x : RootTwo) (t : ℤ) → at (t -ℤ x.p) (pos 0 -ℤ x.q) ≡ num t ⊟ x
    step x t = simp parts (by_parts (t ∷ x.p ∷ x.q ∷ []) (search poly√ depth 40) refl refl)

-- p + q√2 ≤ |p| + 2|q|
pub surely : (x : RootTwo) → x ⊑ num (pos (nat_abs x.p + 2 * nat_abs x.q))
surely x = nn_by (step x (pos (nat_abs x.p)) (pos (nat_abs x.q))) (nn-+ (nn-+ (room x.p) (nn-* (nn_num (whole (nat_abs x.q))) (nn-* nn-√2 one⊑√2))) (nn-* (room x.q) nn-√2))
  where
    whole : (n : ℕ) → pos 0 ≼ pos n
    whole n = record { le = le→leb 0 n zero-le }

    room : (z : ℤ) → Nn (num (pos (nat_abs z) -ℤ z))
    room z = nn_num (≼→nn z (pos (nat_abs z)) (size-≼ z (nat_abs z) (le_refl (nat_abs z))))

    step : (x : RootTwo) (a b : ℤ) → num (a -ℤ x.p) ⊞ num b ⊠ (√2 ⊠ (√2 ⊟ num (pos 1))) ⊞ num (b -ℤ x.q) ⊠ √2 ≡ num (a +ℤ pos 2 *ℤ b) ⊟ x
    step x a b = simp parts (by_parts (a ∷ b ∷ x.p ∷ x.q ∷ []) (search poly√ depth 40) refl refl)
