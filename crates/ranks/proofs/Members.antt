-- The list of the numbers that pass is in rising order, each once, and holds just those; no other list does.
-- Assumes nothing.
use Rattle.std.specs.Prelude.{◌≡◌, refl, Bool, true, false, ◌≢◌, ℕ, zero, suc, ◌≤◌, ◌<◌, take}
use Rattle.std.proofs.Common.{sym, ap, ◌∙◌, ⊎_elim, arith}
use Rattle.std.proofs.lemmas.Bool.{false≢true}
use mathlib.Core.List.Memᴰ
use mathlib.Core.List.{List, [], ◌∷◌, Memᴰ}
use Rattle.std.proofs.Math.Decide.{dec_lt}
use Rattle.ranks.specs.Rest.{rest}
use Rattle.ranks.proofs.Rest.{rest-hit, rest-skip, rest-induct, View, nothing, least, view}
use Rattle.ranks.specs.Members.{Rising}

rising-from-below : (lo hi : ℕ) (l : List ℕ) → lo ≤ hi → Rising hi l → Rising lo l
rising-from-below lo hi [] h r = tt
rising-from-below lo hi (q ∷ l) h r = (omega arith, r.1)

pub rising-take : (n lo : ℕ) (l : List ℕ) → Rising lo l → Rising lo (take n l)
rising-take zero lo l h = tt
rising-take (suc n) lo [] h = tt
rising-take (suc n) lo (q ∷ l) h = (h.0, rising-take n (suc q) l h.1)

mem_of_rising : (lo : ℕ) (l : List ℕ) {r : ℕ} → Rising lo l → Memᴰ r l → lo ≤ r
mem_of_rising lo [] h m = absurd (Memᴰ.not-nil m)
mem_of_rising lo (x ∷ l) h m =
    ⊎_elim (λ e. omega arith) (λ k. let i = mem_of_rising (suc x) l h.1 k in omega arith) (Memᴰ.cases_cons m)

mem_cons : (p r : ℕ) (l : List ℕ) → p ≤ r → (p < r → Memᴰ r l) → Memᴰ r (p ∷ l)
mem_cons p r l h m = go (dec_lt p r)
  where
    go : Dec (p < r) → Memᴰ r (p ∷ l)
    go (yes k) = Memᴰ.tail (m k)
    go (no f) = let e : r ≡ p = omega arith in Memᴰ.head e

false_of_not_true : (b : Bool) → (b ≡ true → ⊥) → b ≡ false
false_of_not_true true f = absurd (f refl)
false_of_not_true false f = refl

module _ (test : ℕ → Bool) (top : ℕ) where
  -- the list from p on is in rising order, each once
  pub rest-rising : (p : ℕ) → Rising p (rest test top p)
  rest-rising =
      rest-induct test top Rising (λ p h. tt) (λ p h t ih. (omega arith, ih)) (λ p h t ih. rising-from-below p (suc p) (rest test top (suc p)) (omega arith) ih)

  -- a number is in the list from p on if and only if it is from p on, below top, and passes
  pub rest-sound : (p r : ℕ) → Memᴰ r (rest test top p) → (p ≤ r) × (r < top) × (test r ≡ true)
  rest-sound p r =
      rest-induct test top (λ p l. Memᴰ r l → (p ≤ r) × (r < top) × (test r ≡ true)) (λ p h m. absurd (Memᴰ.not-nil m))
      (λ p h t ih m. ⊎_elim (λ e. (omega arith, omega arith, ap test e ∙ t)) (λ k. let i = ih k in (omega arith, i.1, i.2)) (Memᴰ.cases_cons m))
      (λ p h t ih m. let i = ih m in (omega arith, i.1, i.2)) p

  pub rest-complete : (p r : ℕ) → p ≤ r → r < top → test r ≡ true → Memᴰ r (rest test top p)
  rest-complete p r =
      rest-induct test top (λ p l. p ≤ r → r < top → test r ≡ true → Memᴰ r l) (λ p h a b c. absurd (omega arith))
      (λ p h t ih a b c. mem_cons p r (rest test top (suc p)) a (λ k. ih k b c))
      (λ p h t ih a b c. let n : p ≢ r = λ e. false≢true (sym t ∙ ap test e ∙ c) in ih (omega arith) b c) p

  unique-nil : (p : ℕ) → ((r : ℕ) → p ≤ r → r < top → test r ≡ true → Memᴰ r []) → View test top p → [] ≡ rest test top p
  unique-nil p c (nothing e) = sym e
  unique-nil p c (least q a b t e) = absurd (Memᴰ.not-nil (c q a b t))

  -- a list that rises from p on and holds just the numbers that are below top and pass is the list
  pub rest-unique : (p : ℕ) (l : List ℕ) → Rising p l → ((r : ℕ) → Memᴰ r l → (r < top) × (test r ≡ true))
      → ((r : ℕ) → p ≤ r → r < top → test r ≡ true → Memᴰ r l) → l ≡ rest test top p
  rest-unique p [] h s c = unique-nil p c (view test top p)
  rest-unique p (x ∷ l) h s c =
      let (x_below, x-passes) = s x (Memᴰ.head refl) in
      let later : (r : ℕ) → r ≢ x → Memᴰ r (x ∷ l) → Memᴰ r l = λ r n m. ⊎_elim (λ e. absurd (n e)) (λ k. k) (Memᴰ.cases_cons m) in
      let fails : (r : ℕ) → p ≤ r → r < x → test r ≡ false =
      λ r a b. false_of_not_true (test r) (λ t. let i = mem_of_rising (suc x) l h.1 (later r (omega arith) (c r a (omega arith) t)) in omega arith) in
      let e = rest-unique (suc x) l h.1 (λ r m. s r (Memᴰ.tail m)) (λ r a b t. later r (omega arith) (c r (omega arith) b t)) in
      ap (λ (t : List ℕ). x ∷ t) e ∙ sym (rest-skip test top p x h.0 fails ∙ rest-hit test top x x_below x-passes)
