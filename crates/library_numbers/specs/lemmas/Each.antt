-- A list made from another one element by element, in a loop: g of each new element is f of the old one.
-- Assumes nothing.
use Rattle.std.specs.Prelude.{◌≡◌, List, [], ◌∷◌, ◌++◌, map, ℕ, ◌+◌, ◌≤◌, ◌<◌, length, take, get_or, set}
use Rattle.std.proofs.Common.{sym, ap, ap₂, ◌∙◌, add-one, take_all, take-suc, take-suc-set}
use Rattle.std.proofs.lemmas.List.{map-append}

module _ {A B C : Type 0} (g : B → C) (f : A → C) (from : List A) (to : List B) (i : ℕ) where
  -- so far
  abbrev pub Made : Type 0
  Made = map g (take i to) ≡ map f (take i from)

  pub made-next : (d : A) (x : B) → Made → g x ≡ f (get_or from i d) → i < length from → i < length to → map g (take (i + 1) (set to i x)) ≡ map f (take (i + 1) from)
  made-next d x m e h k =
      rw (add-one, take-suc-set to i x k, take-suc from i d h)
      (map-append g (take i to) (x ∷ []) ∙ ap₂ (λ (a : List C) (b : C). a ++ (b ∷ [])) m e ∙ sym (map-append f (take i from) (get_or from i d ∷ [])))

  pub made_all : Made → length from ≤ i → length to ≤ i → map g to ≡ map f from
  made_all m h k = ap (map g) (sym (take_all i to k)) ∙ m ∙ ap (map f) (take_all i from h)
