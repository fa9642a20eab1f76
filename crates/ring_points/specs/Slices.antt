-- Points in a list of numbers, four for each: SPEC, "Walk".
use Rattle.std.specs.Prelude.{◌≡◌, refl, List, [], ◌∷◌, ◌++◌, map, ℕ, zero, suc, ◌+◌, ◌*◌, ◌≤◌, ℤ, pos, length, take, get_or}
use Rattle.std.proofs.Common.{sym, ap, ap₂, ◌∙◌, arith}
use Rattle.ring.specs.declared.Point.{Point}
use Rattle.ranks.specs.Handed.{flat}
use Rattle.ring_points.specs.Points.{point_of, numbers_in}

-- numbers read as points
abbrev pub points_of : List ℤ → List Point
points_of [] = []
points_of (a ∷ []) = []
points_of (a ∷ b ∷ []) = []
points_of (a ∷ b ∷ c ∷ []) = []
points_of (a ∷ b ∷ c ∷ d ∷ l) = record { a = a; b = b; c = c; d = d } ∷ points_of l

-- the point number i of them
unfoldable pub point_ranked : List ℤ → ℕ → Point
point_ranked l i = record { a = get_or l (4 * i) (pos 0); b = get_or l (4 * i + 1) (pos 0); c = get_or l (4 * i + 2) (pos 0); d = get_or l (4 * i + 3) (pos 0) }

-- those of ranks
pub flat-points : (l : List ℕ) → points_of (flat numbers_in l) ≡ map point_of l
flat-points [] = refl
flat-points (r ∷ l) = ap (λ (t : List Point). point_of r ∷ t) (flat-points l)

pub map-points : (l m : List ℕ) → map point_of (l ++ m) ≡ map point_of l ++ map point_of m
map-points [] m = refl
map-points (r ∷ l) m = ap (λ (t : List Point). point_of r ∷ t) (map-points l m)

pub length-points : (l : List ℕ) → length (map point_of l) ≡ length l
length-points [] = refl
length-points (r ∷ l) = ap suc (length-points l)

-- a point later in the list, the first one left out
pub next-point : (a b c d : ℤ) (l : List ℤ) (i : ℕ) → point_ranked (a ∷ b ∷ c ∷ d ∷ l) (suc i) ≡ point_ranked l i
unfolding point_ranked
next-point a b c d l i =
    let e : 4 * suc i ≡ suc (suc (suc (suc (4 * i)))) = omega arith in
    let f : suc (suc (suc (suc (4 * i)))) + 1 ≡ suc (suc (suc (suc (4 * i + 1)))) = omega arith in
    let g : suc (suc (suc (suc (4 * i)))) + 2 ≡ suc (suc (suc (suc (4 * i + 2)))) = omega arith in
    let h : suc (suc (suc (suc (4 * i)))) + 3 ≡ suc (suc (suc (suc (4 * i + 3)))) = omega arith in
    rw (e, f, g, h) refl

pub first-point : (a b c d : ℤ) (l : List ℤ) → point_ranked (a ∷ b ∷ c ∷ d ∷ l) 0 ≡ record { a = a; b = b; c = c; d = d }
unfolding point_ranked
first-point a b c d l = refl

-- the first i + 1 points are the first i and the next
pub points-next : (l : List ℤ) (i : ℕ) → 4 * i + 4 ≤ length l → points_of (take (4 * suc i) l) ≡ points_of (take (4 * i) l) ++ (point_ranked l i ∷ [])
points-next [] i h = absurd (omega arith)
points-next (a ∷ []) i h = absurd (omega arith)
points-next (a ∷ b ∷ []) i h = absurd (omega arith)
points-next (a ∷ b ∷ c ∷ []) i h = absurd (omega arith)
points-next (a ∷ b ∷ c ∷ d ∷ l) zero h = ap (λ (v : Point). v ∷ []) (sym (first-point a b c d l))
points-next (a ∷ b ∷ c ∷ d ∷ l) (suc i) h =
    let e : 4 * suc (suc i) ≡ suc (suc (suc (suc (4 * suc i)))) = omega arith in
    let f : 4 * suc i ≡ suc (suc (suc (suc (4 * i)))) = omega arith in
    let p : Point = record { a = a; b = b; c = c; d = d } in
    ap (λ (n : ℕ). points_of (take n (a ∷ b ∷ c ∷ d ∷ l))) e
    ∙ ap (λ (t : List Point). p ∷ t) (points-next l i (omega arith))
    ∙ ap₂ (λ (n : ℕ) (v : Point). points_of (take n (a ∷ b ∷ c ∷ d ∷ l)) ++ (v ∷ [])) (sym f) (sym (next-point a b c d l i))

pub points-count : (l : List ℤ) (i : ℕ) → 4 * i ≤ length l → length (points_of (take (4 * i) l)) ≡ i
points-count l zero h = refl
points-count [] (suc i) h = absurd (omega arith)
points-count (a ∷ []) (suc i) h = absurd (omega arith)
points-count (a ∷ b ∷ []) (suc i) h = absurd (omega arith)
points-count (a ∷ b ∷ c ∷ []) (suc i) h = absurd (omega arith)
points-count (a ∷ b ∷ c ∷ d ∷ l) (suc i) h =
    let f : 4 * suc i ≡ suc (suc (suc (suc (4 * i)))) = omega arith in
    ap (λ (n : ℕ). length (points_of (take n (a ∷ b ∷ c ∷ d ∷ l)))) f ∙ ap suc (points-count l i (omega arith))
