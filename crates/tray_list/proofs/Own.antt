-- Keeping the points with one region's bit gives that region's walk alone, whatever the other regions are: SPEC, "Trays".
use Rattle.std.specs.Prelude.{◌≡◌, refl, Bool, true, false, cond, List, [], ◌∷◌, ◌++◌, ℕ, suc, ◌<◌, ℤ}
use Rattle.std.proofs.Common.{sym, ap, ◌∙◌}
use Rattle.std.proofs.lemmas.Bool.{false≢true}
use Rattle.ranks.specs.Handed.{flat}
use Rattle.ranks.specs.Rest.{rest}
use Rattle.ranks.proofs.Rest.{rest-hit, rest-miss, rest_over, rest-induct}
use Rattle.ranks.specs.Rank.{top}
use Rattle.cuts.specs.Digits.{span}
use Rattle.walk_list.specs.Walk as One
use Rattle.tray_list.specs.declared.Tray.{Tray}
use Rattle.tray_list.specs.Tray.{job_at, holds, size, any_at, mask_at, five_of, left, full}
use Rattle.tray_list.specs.Bits.{bit}
use Rattle.tray_list.proofs.Bits.{bit-of, some_of}
use Rattle.tray_list.specs.Own.{kept, four_of}

-- of the numbers that pass one test, those that pass a narrower one
module _ (test own f : ℕ → Bool) (top : ℕ) (narrow : (r : ℕ) → own r ≡ true → test r ≡ true) (same : (r : ℕ) → f r ≡ own r) where
  kept-hit : (p : ℕ) → p < top → (b : Bool) → own p ≡ b → kept f (rest test top (suc p)) ≡ rest own top (suc p)
      → cond (f p) (p ∷ kept f (rest test top (suc p))) (kept f (rest test top (suc p))) ≡ rest own top p
  kept-hit p h true e ih = rw (same p, e) (ap (λ (l : List ℕ). p ∷ l) ih ∙ sym (rest-hit own top p h e))
  kept-hit p h false e ih = rw (same p, e) (ih ∙ sym (rest-miss own top p h e))

  kept-miss : (p : ℕ) → p < top → test p ≡ false → (b : Bool) → own p ≡ b → kept f (rest test top (suc p)) ≡ rest own top (suc p)
      → kept f (rest test top (suc p)) ≡ rest own top p
  kept-miss p h t true e ih = absurd (false≢true (sym t ∙ narrow p e))
  kept-miss p h t false e ih = ih ∙ sym (rest-miss own top p h e)

  pub kept-rest : (p : ℕ) → kept f (rest test top p) ≡ rest own top p
  kept-rest =
      rest-induct test top (λ p l. kept f l ≡ rest own top p) (λ p h. sym (rest_over own top p h))
      (λ p h t ih. kept-hit p h (own p) refl ih) (λ p h t ih. kept-miss p h t (own p) refl ih)

-- the points with bit j are those of region j's own list
pub own-left : (t : Tray) (j : ℕ) → j < size t → (p : ℕ) → kept (λ r. bit (mask_at t r) j) (left t p) ≡ One.left (job_at t j) p
own-left t j h =
    kept-rest (any_at t) (One.listed_at (job_at t j)) (λ r. bit (mask_at t r) j) (top span) (λ r e. some_of (size t) j (holds t r) h e) (λ r. bit-of (size t) j (holds t r) h)

pub own-list : (t : Tray) (j : ℕ) → j < size t → kept (λ r. bit (mask_at t r) j) (full t) ≡ One.full (job_at t j)
unfolding full One.full
own-list t j h = own-left t j h 0

four-flat : (t : Tray) (j : ℕ) (l : List ℕ) → four_of j (flat (five_of t) l) ≡ flat One.numbers_in (kept (λ r. bit (mask_at t r) j) l)
four-flat t j [] = refl
four-flat t j (r ∷ l) = go (bit (mask_at t r) j) (four-flat t j l)
  where
    go : (b : Bool) → four_of j (flat (five_of t) l) ≡ flat One.numbers_in (kept (λ q. bit (mask_at t q) j) l)
        → cond b (One.numbers_in r ++ four_of j (flat (five_of t) l)) (four_of j (flat (five_of t) l)) ≡ flat One.numbers_in (cond b (r ∷ kept (λ q. bit (mask_at t q) j) l) (kept (λ q. bit (mask_at t q) j) l))
    go true e = ap (λ (x : List ℤ). One.numbers_in r ++ x) e
    go false e = e

pub own-numbers : (t : Tray) (j : ℕ) → j < size t → four_of j (flat (five_of t) (full t)) ≡ flat One.numbers_in (One.full (job_at t j))
own-numbers t j h = four-flat t j (full t) ∙ ap (flat One.numbers_in) (own-list t j h)
