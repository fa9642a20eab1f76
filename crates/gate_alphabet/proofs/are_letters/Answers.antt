-- All bytes pass the test where each does.
use Rattle.std.proofs.Common.{◌≡◌, ℕ, zero, suc, ◌+◌, ◌<◌, ◌↔◌, Bool, true, false, List, [], ◌∷◌, length, get_or, IsTrue, EachIndex, refl, sym, arith, rules}
use Rattle.integers.specs.lemmas.Booleans.{both_true}
use Rattle.gate_alphabet.specs.Letters.{is_letter, are_letters}
use Rattle.gate_alphabet.proofs.are_letters.Goals as goal

each : (w : List ℕ) → ((k : ℕ) → k < length w → IsTrue (is_letter (get_or w k 0))) → are_letters w ≡ true
unfolding are_letters
each [] h = refl
each (b ∷ w) h =
    let e : is_letter b ≡ true = h 0 (omega arith) in
    rw (e, each w (λ k l. h (suc k) (omega arith)))

every : (w : List ℕ) → are_letters w ≡ true → (k : ℕ) → k < length w → IsTrue (is_letter (get_or w k 0))
unfolding are_letters
every [] e k l = absurd (omega arith)
every (b ∷ w) e zero l = (both_true (is_letter b) (are_letters w) e).0
every (b ∷ w) e (suc k) l = every w (both_true (is_letter b) (are_letters w) e).1 k (omega arith)

told : (w : List ℕ) (r : Bool) → (IsTrue r ↔ EachIndex w (λ k. IsTrue (is_letter (get_or w k 0)))) → r ≡ are_letters w
told w true h = sym (each w (h.0 refl))
told w false h = go (are_letters w) refl
  where
    go : (t : Bool) → are_letters w ≡ t → false ≡ t
    go true e = h.1 (every w e)
    go false e = refl

pub returns : goal.returns
returns c =
    let h : IsTrue c.all.result ↔ EachIndex c.args.word.now (λ k. IsTrue (is_letter (get_or c.args.word.now k 0))) = search rules in
    told c.args.word.now c.all.result h
