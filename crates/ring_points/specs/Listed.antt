-- The points that pass a test, as a list of their ranks: it holds them all, in point order, each once, and no other list does.
use Rattle.std.specs.Prelude.{◌≡◌, refl, Bool, true, false, ◌↔◌, ℕ, ◌≤◌, ◌<◌}
use Rattle.std.proofs.Common.{sym, ap, subst, ◌∙◌, ⊎_elim, zero-le, arith}
use Rattle.std.proofs.lemmas.Bool.{false≢true}
use mathlib.Core.List.Memᴰ
use mathlib.Core.List.{List, [], ◌∷◌, map, Memᴰ}
use Rattle.ring.specs.declared.Point.{Point}
use Rattle.ranks.specs.Rest.{rest}
use Rattle.ranks.specs.Rank.{top}
use Rattle.ranks.specs.Members.{Rising}
use Rattle.ranks.proofs.Members.{rest-sound, rest-complete, rest-unique}
use Rattle.ring_points.specs.Digits.{span}
use Rattle.ring_points.specs.Points.{Fits32, point_of, rank_of, rank-point, point-rank, rank_of_below}

-- v is in a list of ranks
pub record Listed (l : List ℕ) (v : Point) : Type 0 where
  pub at : ℕ
  pub held : Memᴰ at l
  pub point : point_of at ≡ v

-- the points of the ranks are just those that are in it
pub listed-there : (l : List ℕ) (v : Point) → Memᴰ v (map point_of l) → Listed l v
listed-there [] v m = absurd (Memᴰ.not-nil m)
listed-there (r ∷ l) v m =
    ⊎_elim (λ e. record { at = r; held = Memᴰ.head refl; point = sym e }) (λ k. let h = listed-there l v k in record { at = h.at; held = Memᴰ.tail h.held; point = h.point })
    (Memᴰ.cases_cons m)

held_there : (l : List ℕ) (v : Point) (r : ℕ) → Memᴰ r l → point_of r ≡ v → Memᴰ v (map point_of l)
held_there [] v r m e = absurd (Memᴰ.not-nil m)
held_there (q ∷ l) v r m e = ⊎_elim (λ f. Memᴰ.head (sym e ∙ ap point_of f)) (λ k. Memᴰ.tail (held_there l v r k e)) (Memᴰ.cases_cons m)

pub there_listed : (l : List ℕ) (v : Point) → Listed l v → Memᴰ v (map point_of l)
there_listed l v h = held_there l v h.at h.held h.point

-- the points from a rank on that pass a test
abbrev pub passing : (Point → Bool) → ℕ → List ℕ
passing t p = rest (λ r. t (point_of r)) (top span) p

-- where only points of four signed 32-bit numbers pass
module _ (t : Point → Bool) (fits : (v : Point) → t v ≡ true → Fits32 v) where
  pub passing-holds : (p : ℕ) (v : Point) → ((t v ≡ true) × (p ≤ rank_of v)) ↔ Listed (passing t p) v
  passing-holds p v = ((λ h. there h.0 h.1), λ h. back h)
    where
      there : t v ≡ true → p ≤ rank_of v → Listed (passing t p) v
      there e h =
          let f = fits v e in
          let q = point-rank v f in
          record { at = rank_of v; held = rest-complete (λ r. t (point_of r)) (top span) p (rank_of v) h (rank_of_below v f) (ap t q ∙ e); point = q }

      back : Listed (passing t p) v → (t v ≡ true) × (p ≤ rank_of v)
      back h =
          let s = rest-sound (λ r. t (point_of r)) (top span) p h.at h.held in
          let e : h.at ≡ rank_of v = sym (rank-point h.at) ∙ ap rank_of h.point in
          (subst (λ u. t u ≡ true) h.point s.2, omega (arith, s.0))

  pub all_hold : (v : Point) → (t v ≡ true) ↔ Listed (passing t 0) v
  all_hold v = ((λ e. (passing-holds 0 v).0 (e, zero-le)), λ h. ((passing-holds 0 v).1 h).0)

  pub all-unique : (l : List ℕ) → Rising 0 l → ((v : Point) → (t v ≡ true) ↔ Listed l v) → l ≡ passing t 0
  all-unique l h s =
      rest-unique (λ r. t (point_of r)) (top span) 0 l h
      (λ r m. let e = (s (point_of r)).1 (record { at = r; held = m; point = refl }) in (subst (λ n. n < top span) (rank-point r) (rank_of_below (point_of r) (fits (point_of r) e)), e))
      (λ r a b e. let k = (s (point_of r)).0 e in subst (λ n. Memᴰ n l) (sym (rank-point k.at) ∙ ap rank_of k.point ∙ rank-point r) k.held)

  -- the list is empty just where nothing passes
  pub all-empty : (passing t 0 ≡ []) ↔ ((v : Point) → t v ≡ false)
  all-empty = ((λ e v. none v e (t v) refl), (λ h. nothing (passing t 0) h (λ v. (all_hold v).1)))
    where
      none : (v : Point) → passing t 0 ≡ [] → (b : Bool) → t v ≡ b → b ≡ false
      none v e true i = let k = (all_hold v).0 i in absurd (Memᴰ.not-nil (subst (λ l. Memᴰ k.at l) e k.held))
      none v e false i = refl

      nothing : (l : List ℕ) → ((v : Point) → t v ≡ false) → ((v : Point) → Listed l v → t v ≡ true) → l ≡ []
      nothing [] h f = refl
      nothing (r ∷ l) h f = absurd (false≢true (sym (h (point_of r)) ∙ f (point_of r) (record { at = r; held = Memᴰ.head refl; point = refl })))
