-- A letter H, S or W before a tail: the product has a tail too, whose number is not above that of the letter before the tail. One computed test.
use Rattle.std.specs.Prelude.{◌≡◌, refl, Bool, true, false, cond, ◌&&◌, List, [], ◌∷◌, ℕ, zero, suc, ◌+◌, ◌*◌, ◌/◌, ◌%◌, ◌^◌, eqb, leb, ◌+ℤ◌, ◌-ℤ◌, length}
use Rattle.ring.specs.declared.Point.{Point}
use Rattle.ring.specs.Point.Divide.{halves}
use Rattle.gate_theory.specs.Bits.{implies, odd, rest, none, plain}
use Rattle.gate_theory.specs.Points.{turn, halved}
use Rattle.gate_theory.specs.Parities.{parities}
use Rattle.gate_theory.specs.State.{State}
use Rattle.gate_theory.specs.Table.{Letter, H, S, T, W, tail_at}
use Rattle.gate_theory.proofs.lemmas.Tails.{points, solves}

-- the word as a number: digits to the base 4
abbrev pub digit : Letter → ℕ
digit H = 1
digit S = 2
digit T = 0
digit W = 3

abbrev pub number : List Letter → ℕ
number [] = 0
number (x ∷ w) = digit x * 4 ^ length w + number w

-- no syllable is left for (u, t) at k
abbrev pub base : ℕ → Point → Point → Bool
base zero u t = solves 0 u t
base (suc zero) u t = solves 1 u t && (odd (parities u) && plain (parities u) (parities t))
base (suc (suc k)) u t = false

abbrev pub plus : Point → Point → Point
plus u t = record { a = u.a +ℤ t.a; b = u.b +ℤ t.b; c = u.c +ℤ t.c; d = u.d +ℤ t.d }

abbrev pub less : Point → Point → Point
less u t = record { a = u.a -ℤ t.a; b = u.b -ℤ t.b; c = u.c -ℤ t.c; d = u.d -ℤ t.d }

-- a letter on the left: H at k = 0 lets no √2 go out, at k = 1 two or one
abbrev pub halving : Bool → Point → Point
halving true v = halved v
halving false v = halves v

abbrev pub k_of : Letter → ℕ → Point → Point → ℕ
k_of H k u t = cond (eqb k 0) 1 (cond (none (parities (plus u t))) 0 1)
k_of S k u t = k
k_of T k u t = k
k_of W k u t = k

abbrev pub u_of : Letter → ℕ → Point → Point → Point
u_of H k u t = cond (eqb k 0) (plus u t) (halving (none (parities (plus u t))) (plus u t))
u_of S k u t = u
u_of T k u t = u
u_of W k u t = turn u

abbrev pub t_of : Letter → ℕ → Point → Point → Point
t_of H k u t = cond (eqb k 0) (less u t) (halving (none (parities (plus u t))) (less u t))
t_of S k u t = turn (turn t)
t_of T k u t = t
t_of W k u t = turn t

abbrev pub l_of : Letter → ℕ → ℕ
l_of H l = suc (suc (suc (suc l)))
l_of S l = suc (suc l)
l_of T l = l
l_of W l = suc (suc l)

abbrev pub moved : Letter → State → State
moved x s = record { k = k_of x s.k s.u s.t; u = u_of x s.k s.u s.t; t = t_of x s.k s.u s.t; l = l_of x s.l }

-- and they do go out
abbrev pub exact : State → Bool
exact s = cond (eqb s.k 0) true (rest (parities (plus s.u s.t)) && rest (parities (less s.u s.t)))

abbrev pub fine : Letter → State → Bool
fine x s =
    let r = moved x s in
    base r.k r.u r.t && leb (number (tail_at r.u r.t (r.l % 8 / 2))) (number (x ∷ tail_at s.u s.t (s.l % 8 / 2)))

abbrev pub fines : ℕ → Point → Point → ℕ → Bool
fines k u t l = let s : State = record { k = k; u = u; t = t; l = l } in fine H s && (fine S s && fine W s)

abbrev pub moves : ℕ → Point → Point → Bool
moves k u t = exact (record { k = k; u = u; t = t; l = 0 }) && (fines k u t 0 && fines k u t 2 && (fines k u t 4 && fines k u t 6))

pub moves-0 : points (λ u. points (λ t. implies (base 0 u t) (moves 0 u t))) ≡ true
moves-0 = refl

pub moves-1 : points (λ u. points (λ t. implies (base 1 u t) (moves 1 u t))) ≡ true
moves-1 = refl
