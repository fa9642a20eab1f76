-- The words in H, S and W: one for each of the 192 products, packed, and the place of a state's word among them.
use Rattle.std.specs.Prelude.{Bool, true, false, cond, List, [], ◌∷◌, ℕ, zero, suc, ◌+◌, ◌-◌, ◌*◌, ◌/◌, ◌%◌, eqb, ℤ, pos, negsuc, get_or}
use Rattle.ring.specs.declared.Point.{Point}
use Rattle.gate_theory.specs.State.{State}

pub data Letter : Type 0 where
  H S T W : Letter

-- a word's number: digits to the base 4, H = 1, S = 2, W = 3, the first letter highest
abbrev pub letter : ℕ → Letter
letter zero = W
letter (suc zero) = H
letter (suc (suc zero)) = S
letter (suc (suc (suc n))) = W

-- the last n letters of the word of c, before w
abbrev pub unpack : ℕ → ℕ → List Letter → List Letter
unpack zero c w = w
unpack (suc n) zero w = w
unpack (suc n) (suc c) w = unpack n (suc c / 4) (letter (suc c % 4) ∷ w)

-- in rows of 32: t = 0; u = 0; then t = u, i u, −u and −i u. In a row by the power of ω that u is (t where u = 0), then by l
abbrev pub tails : List ℕ
tails =
    0 ∷ 2 ∷ 10 ∷ 42 ∷ 171 ∷ 3 ∷ 11 ∷ 43 ∷ 175 ∷ 687 ∷ 15 ∷ 47 ∷ 191 ∷ 703 ∷ 2751 ∷ 63 ∷ 255 ∷ 767 ∷ 2815 ∷ 11007 ∷ 44031 ∷ 1023 ∷ 3071 ∷ 11263 ∷ 45055 ∷ 176127 ∷ 4095 ∷ 12287 ∷ 49151 ∷ 180223 ∷ 704511 ∷ 16383 ∷
    1690 ∷ 6762 ∷ 105 ∷ 422 ∷ 1691 ∷ 6763 ∷ 6809 ∷ 423 ∷ 1695 ∷ 6767 ∷ 27055 ∷ 617 ∷ 2471 ∷ 6783 ∷ 27071 ∷ 39577 ∷ 2665 ∷ 9887 ∷ 27135 ∷ 108287 ∷ 170649 ∷ 10663 ∷ 39551 ∷ 108543 ∷ 434175 ∷ 10857 ∷ 42655 ∷ 158207 ∷ 105114 ∷ 420458 ∷ 6569 ∷ 26278 ∷
    26 ∷ 106 ∷ 1 ∷ 6 ∷ 27 ∷ 107 ∷ 153 ∷ 7 ∷ 31 ∷ 111 ∷ 431 ∷ 615 ∷ 2463 ∷ 127 ∷ 447 ∷ 1727 ∷ 6911 ∷ 9855 ∷ 511 ∷ 1791 ∷ 7167 ∷ 27647 ∷ 39423 ∷ 2047 ∷ 8191 ∷ 28671 ∷ 110591 ∷ 157695 ∷ 630783 ∷ 32767 ∷ 43433 ∷ 173734 ∷
    38 ∷ 154 ∷ 618 ∷ 9 ∷ 39 ∷ 155 ∷ 619 ∷ 665 ∷ 2663 ∷ 159 ∷ 623 ∷ 2479 ∷ 9919 ∷ 10655 ∷ 639 ∷ 2495 ∷ 9983 ∷ 39679 ∷ 42623 ∷ 2559 ∷ 10239 ∷ 39935 ∷ 158719 ∷ 170495 ∷ 108198 ∷ 40959 ∷ 159743 ∷ 27049 ∷ 1702 ∷ 6810 ∷ 27242 ∷ 425 ∷
    41 ∷ 166 ∷ 666 ∷ 2666 ∷ 2713 ∷ 167 ∷ 667 ∷ 2667 ∷ 10671 ∷ 1641 ∷ 671 ∷ 2671 ∷ 10687 ∷ 42687 ∷ 6567 ∷ 2687 ∷ 10751 ∷ 42751 ∷ 6761 ∷ 26271 ∷ 105087 ∷ 43007 ∷ 171007 ∷ 27047 ∷ 108191 ∷ 420351 ∷ 172031 ∷ 27241 ∷ 2473 ∷ 9894 ∷ 39578 ∷ 158314 ∷
    10858 ∷ 169 ∷ 678 ∷ 2714 ∷ 1642 ∷ 25 ∷ 102 ∷ 410 ∷ 1643 ∷ 1689 ∷ 103 ∷ 411 ∷ 1647 ∷ 6575 ∷ 6759 ∷ 415 ∷ 1663 ∷ 6591 ∷ 26303 ∷ 27039 ∷ 108159 ∷ 6655 ∷ 26367 ∷ 105215 ∷ 158313 ∷ 432639 ∷ 26623 ∷ 105471 ∷ 421887 ∷ 10665 ∷ 42662 ∷ 106495 ∷
    []

abbrev pub positive : ℤ → Bool
positive (pos zero) = false
positive (pos (suc n)) = true
positive (negsuc n) = false

abbrev pub negative : ℤ → Bool
negative (pos n) = false
negative (negsuc n) = true

-- v is ω to this power; 8 for 0
abbrev pub log : Point → ℕ
log v =
    cond (positive v.d) 0 (cond (positive v.c) 1 (cond (positive v.b) 2 (cond (positive v.a) 3
    (cond (negative v.d) 4 (cond (negative v.c) 5 (cond (negative v.b) 6 (cond (negative v.a) 7 8)))))))

-- the place of (u, t) and l = 2m: shape, power and m
abbrev pub index : Point → Point → ℕ → ℕ
index u t m = cond (eqb (log t) 8) (log u * 4 + m) (cond (eqb (log u) 8) (32 + log t * 4 + m) (64 + (log t + 8 - log u) % 8 / 2 * 32 + log u * 4 + m))

abbrev pub tail_at : Point → Point → ℕ → List Letter
tail_at u t m = unpack 10 (get_or tails (index u t m) 0) []

unfoldable pub tail : State → List Letter
tail s = tail_at s.u s.t (s.l % 8 / 2)
