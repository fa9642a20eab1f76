-- Where the numbers begin that pass one of two tests: at the nearer of where those of each begin.
-- Assumes nothing.
use Rattle.std.specs.Prelude.{◌≡◌, refl, Bool, true, false, ◌||◌, List, [], ◌∷◌, ℕ, suc, ◌≤◌, ◌<◌, min, eqb}
use Rattle.std.proofs.Common.{sym, ap, ◌∙◌, arith, eq-eqb, ne_eqb}
use Rattle.std.proofs.Math.Nat.{min-eq_left, min-eq_right}
use Rattle.ranks.specs.Rest.{rest, Place, at, ended, place_of}
use Rattle.ranks.proofs.Rest.{rest-hit, rest-miss, rest_over, rest-induct, View, view, nothing, least}

-- the nearer of two places
abbrev pub nearer : Place → Place → Place
nearer ended w = w
nearer (at p) ended = at p
nearer (at p) (at q) = at (min p q)

-- a place at a number
abbrev pub is_at : Place → ℕ → Bool
is_at (at p) r = eqb p r
is_at ended r = false

-- a place from a number on
abbrev From : ℕ → Place → Type 0
From p (at q) = p ≤ q
From p ended = Unit {0}

nearer-left : (p : ℕ) (w : Place) → From p w → nearer (at p) w ≡ at p
nearer-left p (at q) h = ap at (min-eq_left h)
nearer-left p ended h = refl

nearer-right : (p : ℕ) (w : Place) → From p w → nearer w (at p) ≡ at p
nearer-right p (at q) h = ap at (min-eq_right h)
nearer-right p ended h = refl

module _ (test : ℕ → Bool) (top : ℕ) where
  place-from : (p : ℕ) → From p (place_of (rest test top p))
  place-from p = go (view test top p)
    where
      go : View test top p → From p (place_of (rest test top p))
      go (nothing e) = rw e tt
      go (least q a b t e) = rw e a

  -- where the numbers from r on begin tells whether r passes
  pub at-hit : (r : ℕ) → r < top → is_at (place_of (rest test top r)) r ≡ test r
  at-hit r h = go (test r) refl
    where
      later : (w : Place) → From (suc r) w → is_at w r ≡ false
      later (at q) l = ne_eqb q r (λ e. omega arith)
      later ended l = refl

      go : (b : Bool) → test r ≡ b → is_at (place_of (rest test top r)) r ≡ b
      go true e = rw (rest-hit test top r h e) (eq-eqb r r refl)
      go false e = rw (rest-miss test top r h e) (later (place_of (rest test top (suc r))) (place-from (suc r)))

module _ (f g : ℕ → Bool) (top : ℕ) where
  abbrev both : ℕ → Bool
  both r = f r || g r

  abbrev Near : ℕ → List ℕ → Type 0
  Near p l = place_of l ≡ nearer (place_of (rest f top p)) (place_of (rest g top p))

  near-hit : (p : ℕ) → p < top → (a b : Bool) → f p ≡ a → g p ≡ b → a || b ≡ true → Near p (p ∷ rest both top (suc p))
  near-hit p h true b e i t = rw (rest-hit f top p h e) (sym (nearer-left p (place_of (rest g top p)) (place-from g top p)))
  near-hit p h false true e i t = rw (rest-hit g top p h i) (sym (nearer-right p (place_of (rest f top p)) (place-from f top p)))
  near-hit p h false false e i t = absurd (let z : ◌≡◌ {A = ℕ} 0 1 = cc in omega arith)

  near-miss : (p : ℕ) → p < top → (a b : Bool) → f p ≡ a → g p ≡ b → a || b ≡ false → Near (suc p) (rest both top (suc p)) → Near p (rest both top (suc p))
  near-miss p h true b e i t ih = absurd (let z : ◌≡◌ {A = ℕ} 0 1 = cc in omega arith)
  near-miss p h false true e i t ih = absurd (let z : ◌≡◌ {A = ℕ} 0 1 = cc in omega arith)
  near-miss p h false false e i t ih = rw (rest-miss f top p h e, rest-miss g top p h i) ih

  pub place-either : (p : ℕ) → place_of (rest both top p) ≡ nearer (place_of (rest f top p)) (place_of (rest g top p))
  place-either =
      rest-induct both top Near (λ p h. rw (rest_over f top p h, rest_over g top p h) refl) (λ p h t ih. near-hit p h (f p) (g p) refl refl t)
      (λ p h t ih. near-miss p h (f p) (g p) refl refl t ih)

-- no number passes: none is left
pub none_left : (test : ℕ → Bool) (top : ℕ) → ((r : ℕ) → test r ≡ false) → (p : ℕ) → rest test top p ≡ []
none_left test top f = rest-induct test top (λ p l. l ≡ []) (λ p h. refl) (λ p h t ih. absurd (let e = sym (f p) ∙ t in let z : ◌≡◌ {A = ℕ} 0 1 = cc in omega arith)) (λ p h t ih. ih)
