-- The place of the first byte b of a list, or the list's length.
use Rattle.std.specs.Prelude.{ℕ, suc, Bool, true, false, List, [], ◌∷◌}
use lib.Dec.{eqb}

unfoldable pub index_after : Bool → ℕ → ℕ
index_after true n = 0
index_after false n = suc n

unfoldable pub index_of : ℕ → List ℕ → ℕ
index_of b [] = 0
index_of b (x ∷ l) = index_after (eqb x b) (index_of b l)
