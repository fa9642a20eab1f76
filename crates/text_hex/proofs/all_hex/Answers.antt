-- All bytes pass the test where each does.
use Rattle.std.proofs.Common.{◌≡◌, ℕ, zero, suc, ◌<◌, ◌↔◌, Bool, true, false, cond, List, [], ◌∷◌, length, get_or, IsTrue, EachIndex, refl, sym, arith, rules}
use lib.Dec.{ltb}
use Rattle.text_hex.specs.Hex.{digit_of, all_hex}
use Rattle.text_hex.proofs.all_hex.Goals as goal

each : (w : List ℕ) → ((k : ℕ) → k < length w → IsTrue (ltb (digit_of (get_or w k 0)) 16)) → all_hex w ≡ true
unfolding all_hex
each [] h = refl
each (b ∷ w) h =
    let e : ltb (digit_of b) 16 ≡ true = h 0 (omega arith) in
    rw (e, each w (λ k l. h (suc k) (omega arith)))

both : (t u : Bool) → cond t u false ≡ true → (t ≡ true) × (u ≡ true)
both true u e = (refl, e)
both false u e = (e, absurd (false_true e))
  where
    false_true : ◌≡◌ {A = Bool} false true → ⊥
    false_true e = cc

every : (w : List ℕ) → all_hex w ≡ true → (k : ℕ) → k < length w → IsTrue (ltb (digit_of (get_or w k 0)) 16)
unfolding all_hex
every [] e k l = absurd (omega arith)
every (b ∷ w) e zero l = (both (ltb (digit_of b) 16) (all_hex w) e).0
every (b ∷ w) e (suc k) l = every w (both (ltb (digit_of b) 16) (all_hex w) e).1 k (omega arith)

told : (w : List ℕ) (r : Bool) → (IsTrue r ↔ EachIndex w (λ k. IsTrue (ltb (digit_of (get_or w k 0)) 16))) → r ≡ all_hex w
told w true h = sym (each w (h.0 refl))
told w false h = go (all_hex w) refl
  where
    go : (t : Bool) → all_hex w ≡ t → false ≡ t
    go true e = h.1 (every w e)
    go false e = refl

pub returns : goal.returns
returns c =
    let h : IsTrue c.all.result ↔ EachIndex c.args.word.now (λ k. IsTrue (ltb (digit_of (get_or c.args.word.now k 0)) 16)) = search rules in
    told c.args.word.now c.all.result h
