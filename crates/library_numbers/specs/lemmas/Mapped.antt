-- A list made by an array's `map`: each call of the closure at x gave v of x, or a y whose w is x.
-- Assumes nothing.
use Rattle.std.specs.Prelude.{◌≡◌, List, [], ◌∷◌, map, ℕ, length}
use Rattle.std.specs.Array.{IsMapOf}
use Rattle.std.specs.Fn.{Called}
use Rattle.std.proofs.Common.{sym, ◌∙◌, arith}
use Rattle.std.proofs.Math.ListN.{length-map}
use Rattle.std.proofs.lemmas.List.{same_lists, get_or-map}
use denote.Param.Members.{Mut}

pub mapped : {F A B : Type 0} (g : Mut F (A × Unit {0}) B) (v : A → B) (f : F) → ((p : F) (x : A) (y : B) (q : F) → Called g p (x, tt) y q → y ≡ v x)
    → (xs : List A) (ys : List B) (n : ℕ) → length xs ≡ n → IsMapOf g f xs ys n → ys ≡ map v xs
mapped g v f one [] ys n e m = let h = m.long in same_lists ys [] (omega arith) (λ k y l. absurd (omega arith))
mapped g v f one (x ∷ xs) ys n e m =
    let h = m.long in
    let s : length (map v (x ∷ xs)) ≡ n = simp length-map e in
    same_lists ys (map v (x ∷ xs)) (omega arith) (λ k y l. let t = m.at k x y (omega arith) in one _ _ _ _ t.2 ∙ sym (get_or-map v (x ∷ xs) k x y (omega arith)))

pub mapped-back : {F A B : Type 0} (g : Mut F (A × Unit {0}) B) (w : B → A) (f : F) → ((p : F) (x : A) (y : B) (q : F) → Called g p (x, tt) y q → w y ≡ x)
    → (xs : List A) (ys : List B) (n : ℕ) → length xs ≡ n → IsMapOf g f xs ys n → map w ys ≡ xs
mapped-back g w f one xs [] n e m = let h = m.long in same_lists [] xs (omega arith) (λ k x l. absurd (omega arith))
mapped-back g w f one xs (y ∷ ys) n e m =
    let h = m.long in
    let s : length (map w (y ∷ ys)) ≡ n = simp length-map h in
    same_lists (map w (y ∷ ys)) xs (omega arith) (λ k x l. let t = m.at k x y (omega arith) in get_or-map w (y ∷ ys) k y x (omega arith) ∙ one _ _ _ _ t.2)
