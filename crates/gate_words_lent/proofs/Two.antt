-- Two `&κ mut [T]` that are lent again to one call, for a lifetime that is made for it, and come back; then both are shared for all the time that they have left. It says nothing of the crate, and can be copied as it stands, with `Again.antt` and `Shared.antt`.
--     Tokens           the new lifetime's token, a half for each of the callee's two lifetimes
--     Lent, Kept       the slices as the callee gets them, under the names δ₁ and δ₂, and what is kept meanwhile
--     Shared, Ends     the slices as `&κ [T]`, and how the names that they came with end
--     lends_two        [κ]_q ∗ the slices  ⊢ ⇛ ∃ ν δ₁ δ₂. Tokens ∗ Lent ∗ Kept
--     backs_two        given `Room`, and that s' and t' are as long as s and t:  Tokens ∗ what the callee says of the last lists s' and t' ∗ Kept  ⊢ ⇛ [κ]_q ∗ Shared ∗ Ends
-- Assumes `Logic`.
use mathlib.Core.Path.{◌≡◌}
use Prim.Native.Nat.{ℕ}
use mathlib.Core.List.{[], ◌∷◌, List}
use lib.ListN.{length}
use seplogic.Ra.Ura.{Ura}
use base.Fraction.{full_share}
use mir.Syntax.{named}
use mir.Val.{Val}
use base.Logic.{ent, ex}
use base.Fml.{Lft, Share, GName, Fml, ftrue, flft, fdead}
use base.Share
use types.Logic.{Logic}
use types.Kit.{Item, mean, ‵, ◌⊛◌, ⋆, some, later, ◌$◌, ◌∵◌, !, qed, move, drop, use1, use2, use3, split, join, pick, await, updating, now as at_once, show, done}
use types.Tokens.{lft_new, lft_end}
use denote.RattleType.{RattleType, RowLaws}
use denote.Shares.{Shares}
use denote.Ref.{Bor, MutBor}
use denote.Slice.{slice_val, MutSlice, ShrSlice, Room, finally}
use denote.Steps.{nothing}
use Rattle.gate_words_lent.proofs.Again.{LentAgain, lends_again, comes_back}
use Rattle.gate_words_lent.proofs.Shared.{shares}

module _ (R : RattleType) {M : Type 1} {𝓤 : Ura M} (𝓛 : Logic 𝓤) (κ : Lft) (q : Share) (b₁ o₁ b₂ o₂ : ℕ) (γ₁ γ₂ : GName) (s t : List R.Denot) where
  -- the slices, under a name at a list, and their machine values
  open 𝓛 use {H}

  abbrev x₁ : GName → List R.Denot → MutBor (List R.Denot)
  x₁ δ l = record { ref_ptr = (b₁, o₁); ghost_name = δ; now = l }

  abbrev x₂ : GName → List R.Denot → MutBor (List R.Denot)
  x₂ δ l = record { ref_ptr = (b₂, o₂); ghost_name = δ; now = l }

  abbrev v₁ : List Val
  v₁ = slice_val (b₁, o₁) (length s) ∷ []

  abbrev v₂ : List Val
  v₂ = slice_val (b₂, o₂) (length t) ∷ []

  abbrev Own₁ : List R.Denot → Fml
  Own₁ l = (MutSlice (named 0) κ R).own_val (x₁ γ₁ l) v₁

  abbrev Own₂ : List R.Denot → Fml
  Own₂ l = (MutSlice (named 0) κ R).own_val (x₂ γ₂ l) v₂

  abbrev Kept₁ : ℕ → GName → Fml
  Kept₁ ν δ = LentAgain R κ (ν ∷ []) (Share.left q) γ₁ b₁ o₁ δ s

  abbrev Kept₂ : ℕ → GName → Fml
  Kept₂ ν δ = LentAgain R κ (ν ∷ []) (Share.right q) γ₂ b₂ o₂ δ t

  abbrev pub Tokens : ℕ → Item 𝓤
  Tokens ν = ‵ (flft (ν ∷ []) (Share.left full_share)) ⊛ (‵ (flft (ν ∷ []) (Share.right full_share)) ⊛ ‵ ftrue)

  abbrev pub Lent : ℕ × (GName × GName) → Item 𝓤
  Lent z = ‵ ((MutSlice (named 0) (z.0 ∷ []) R).own_val (x₁ z.1.0 s) v₁) ⊛ ‵ ((MutSlice (named 1) (z.0 ∷ []) R).own_val (x₂ z.1.1 t) v₂)

  abbrev pub Kept : ℕ × (GName × GName) → Item 𝓤
  Kept z = ‵ (Kept₁ z.0 z.1.0) ⊛ ‵ (Kept₂ z.0 z.1.1)

  pub lends_two : ent 𝓤 (⋆ 𝓛 (‵ (flft κ q) ∷ ‵ (Own₁ s) ∷ ‵ (Own₂ t) ∷ [])) (H.⇛ (ex 𝓤 (λ (z : ℕ × (GName × GName)). mean 𝓛 (Tokens z.0 ⊛ (Lent z ⊛ Kept z)))))
  lends_two =
      qed 𝓛 (‵ (flft κ q) ∷ ‵ (Own₁ s) ∷ ‵ (Own₂ t) ∷ []) ∵ updating ! $ lft_new ! tt (λ ν. move ! (1 ∷ []) $
      use1 𝓛 (‵ (flft κ (Share.left q)) ⊛ ‵ (flft κ (Share.right q))) (𝓛.lfts.lft_split κ q) $ split ! $ move ! (3 ∷ 0 ∷ []) $
      use2 𝓛 (later (some (λ (δ : GName). ‵ ((MutSlice (named 0) (ν ∷ []) R).own_val (x₁ δ s) v₁) ⊛ ‵ (Kept₁ ν δ)))) (lends_again R κ (ν ∷ []) (Share.left q) γ₁ b₁ o₁ 𝓛 (named 0) (named 0) s) $ await ! tt $ pick ! (λ δ₁. split ! $
      -- [first, lent again; what is kept; the other half of the token; ν's token; second]
      move ! (4 ∷ 2 ∷ []) $
      use2 𝓛 (later (some (λ (δ : GName). ‵ ((MutSlice (named 1) (ν ∷ []) R).own_val (x₂ δ t) v₂) ⊛ ‵ (Kept₂ ν δ)))) (lends_again R κ (ν ∷ []) (Share.right q) γ₂ b₂ o₂ 𝓛 (named 0) (named 1) t) $ await ! tt $ pick ! (λ δ₂. split ! $
      -- [second, lent again; what is kept; first, lent again; what is kept; ν's token]
      move ! (2 ∷ 0 ∷ []) $ join ! $ move ! (2 ∷ 1 ∷ []) $ join ! $ move ! (2 ∷ []) $
      use1 𝓛 (‵ (flft (ν ∷ []) (Share.left full_share)) ⊛ ‵ (flft (ν ∷ []) (Share.right full_share))) (𝓛.lfts.lft_split (ν ∷ []) full_share) $ split ! $
      nothing ! $ move ! (2 ∷ 0 ∷ []) $ join ! $ move ! (1 ∷ 0 ∷ []) $ join ! $
      -- [the tokens; what is kept; what is lent]
      at_once ! $ show ! (λ (z : ℕ × (GName × GName)). mean 𝓛 (Tokens z.0 ⊛ (Lent z ⊛ Kept z))) (ν, (δ₁, δ₂)) $ move ! (0 ∷ 2 ∷ 1 ∷ []) $ done !)))

  module _ (s' t' : List R.Denot) where
    abbrev y₁ : Bor (List R.Denot)
    y₁ = record { ref_ptr = (b₁, o₁); now = s' }

    abbrev y₂ : Bor (List R.Denot)
    y₂ = record { ref_ptr = (b₂, o₂); now = t' }

    abbrev Shr₁ : Fml
    Shr₁ = (ShrSlice (named 0) κ R).own_val y₁ v₁

    abbrev Shr₂ : Fml
    Shr₂ = (ShrSlice (named 0) κ R).own_val y₂ v₂

    abbrev pub Ends : Item 𝓤
    Ends = ‵ (finally R γ₁ s') ⊛ ‵ (finally R γ₂ t')

    abbrev pub Shared : Item 𝓤
    Shared = ‵ (flft κ q) ⊛ (‵ Shr₁ ⊛ (‵ Shr₂ ⊛ Ends))

    pub backs_two : RowLaws R → Shares 𝓛 R κ → (z : ℕ × (GName × GName)) → Room R (length s) → Room R (length t) → length s' ≡ length s → length t' ≡ length t
        → ent 𝓤 (⋆ 𝓛 (Tokens z.0 ∷ (‵ (finally R z.1.0 s') ⊛ ‵ (finally R z.1.1 t')) ∷ Kept z ∷ [])) (H.⇛ (mean 𝓛 Shared))
    backs_two lw sh z room₁ room₂ e₁ e₂ =
        qed 𝓛 (Tokens z.0 ∷ (‵ (finally R z.1.0 s') ⊛ ‵ (finally R z.1.1 t')) ∷ Kept z ∷ []) ∵ updating ! $ split ! $ move ! (1 ∷ []) $ split ! $ move ! (2 ∷ 0 ∷ []) $
        use2 𝓛 (‵ (flft (z.0 ∷ []) full_share)) (𝓛.lfts.lft_join (z.0 ∷ []) full_share) $ lft_end ! tt $ move ! (1 ∷ []) $ drop ! $
        use1 𝓛 (‵ (fdead (z.0 ∷ [])) ⊛ ‵ (fdead (z.0 ∷ []))) (𝓛.lfts.dead_dup (z.0 ∷ [])) $ split ! $ move ! (2 ∷ []) $ split ! $ move ! (4 ∷ []) $ split ! $
        -- [what first kept; what second kept; how first ends; how second ends; the lifetime is over, twice]
        move ! (4 ∷ 0 ∷ 2 ∷ []) $
        use3 𝓛 (later (‵ (Own₁ s') ⊛ ‵ (flft κ (Share.left q)))) (comes_back R κ (z.0 ∷ []) (Share.left q) γ₁ b₁ o₁ 𝓛 (named 0) (named 0) s z.1.0 s' room₁ e₁) $ await ! tt $ split ! $
        use2 𝓛 (later (‵ Shr₁ ⊛ (‵ (finally R γ₁ s') ⊛ ‵ (flft κ (Share.left q))))) (shares 𝓛 R lw (named 0) (named 0) κ sh (Share.left q) b₁ o₁ γ₁ s' v₁) $ await ! tt $ split ! $
        -- [first, shared; how it ends and its token; what second kept; how second ends; the lifetime is over]
        move ! (4 ∷ 2 ∷ 3 ∷ []) $
        use3 𝓛 (later (‵ (Own₂ t') ⊛ ‵ (flft κ (Share.right q)))) (comes_back R κ (z.0 ∷ []) (Share.right q) γ₂ b₂ o₂ 𝓛 (named 0) (named 1) t z.1.1 t' room₂ e₂) $ await ! tt $ split ! $
        use2 𝓛 (later (‵ Shr₂ ⊛ (‵ (finally R γ₂ t') ⊛ ‵ (flft κ (Share.right q))))) (shares 𝓛 R lw (named 0) (named 0) κ sh (Share.right q) b₂ o₂ γ₂ t' v₂) $ await ! tt $ split ! $
        -- [second, shared; how it ends and its token; first, shared; how it ends and its token]
        move ! (1 ∷ []) $ split ! $ move ! (4 ∷ []) $ split ! $ move ! (1 ∷ 3 ∷ []) $ use2 𝓛 (‵ (flft κ q)) (𝓛.lfts.lft_join κ q) $
        at_once ! $ move ! (0 ∷ 4 ∷ 3 ∷ 1 ∷ 2 ∷ []) $ done !
