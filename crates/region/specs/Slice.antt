-- How far a slice reaches: no farther than its disk, and no farther than a sum of the disk's cut and a multiple of the half plane says. Both are cuts, and a
-- cut times a natural number and the sum of two cuts are cuts, so that no multiple needs a proof. Where the half plane only touches the disk, they have one point in common.
use Rattle.std.specs.Prelude.{◌≡◌, refl, [], ◌∷◌, Bool, true, ℕ, ◌+◌, ◌*◌, ◌≤◌, ℤ, pos, nat_abs, ◌+ℤ◌, ◌-ℤ◌, ◌*ℤ◌}
use Rattle.std.proofs.Common.{◌∙◌, ap, subst, zero-le, arith, le→leb}
use Rattle.integers.specs.Difference.{◌≼◌}
use Rattle.integers.specs.lemmas.Order.{≼_trans}
use Rattle.integers.specs.lemmas.Ring.{poly, by_ring}
use Rattle.integers.specs.lemmas.RingZ.{polyZ}
use Rattle.integers.specs.lemmas.RingZ as Z
use Rattle.ring.specs.declared.RootTwo.{RootTwo}
use Rattle.ring.specs.RootTwo.{◌⊞◌, ◌⊟◌, ◌⊠◌, neg, num, ring√, num-+, num-*, num_neg}
use Rattle.ring.specs.RootTwo.Order.{nn_by, nn-+, nn-*, nn_num, nn_cancel, num-⊑, sq-⊑}
use Rattle.ring.specs.RootTwo.Order as O
use Rattle.plane_lengths.specs.Products.{square, touches, touches-true}
use Rattle.plane_lengths.specs.Rounded.{Length}
use Rattle.region.specs.declared.Slice.{Slice}
use Rattle.region.specs.declared.Region.TheVariants as R
use Rattle.region.specs.Region.{discriminant, form, disk}
use Rattle.region.specs.lemmas.Membership.{holds-in, holds-disk}
use Rattle.region.specs.Reach.{width2}
use Rattle.region.specs.Over.{Over, over-ellipse}

-- what holds of the disk
pub over-disk : (s : Slice) (u v h : ℤ) → Over (R.Ellipse (disk s)) u v h → Over (R.Slice s) u v h
over-disk s u v h o w X Y hw t = o w X Y hw (holds-disk s w X Y t)

-- q (u, v) + p z reaches m, so that q times the reach of (u, v) is at most m − p w
pub over-half : (s : Slice) (u v h m : ℤ) (p q : ℕ) → 1 ≤ q → m -ℤ pos p *ℤ s.w ≼ pos q *ℤ h → Over (R.Slice s) (pos q *ℤ u +ℤ pos p *ℤ s.zx) (pos q *ℤ v +ℤ pos p *ℤ s.zy) m → Over (R.Slice s) u v h
over-half s u v h m p q one l o w X Y hw t =
    let n = num (pos s.n) in
    let P = num (pos p) in
    let Q = num (pos q) in
    let above = simp (num-*, num-+, num_neg) at (num-⊑ l) in
    let far = simp (num-*, num-+) at (o w X Y hw t) in
    nn_cancel Q _ (num-⊑ (record { le = le→leb 1 q one }))
    (nn_by (sum Q P (num u) (num v) (num s.zx) (num s.zy) (num s.w) (num m) (num h) w (n ⊠ X) (n ⊠ Y))
    (nn-+ (nn-+ (nn-* above hw) far) (nn-* (nn_num {k = pos p} (record { le = le→leb 0 p zero-le })) (holds-in (R.Slice s) w X Y t).beyond)))
  where
    sum : (Q P u v a b c m h w x y : RootTwo)
        → (Q ⊠ h ⊟ (m ⊟ P ⊠ c)) ⊠ w ⊞ (m ⊠ w ⊟ ((Q ⊠ u ⊞ P ⊠ a) ⊠ x ⊞ (Q ⊠ v ⊞ P ⊠ b) ⊠ y)) ⊞ P ⊠ (a ⊠ x ⊞ b ⊠ y ⊟ c ⊠ w)
        ≡ Q ⊠ (h ⊠ w ⊟ (u ⊠ x ⊞ v ⊠ y))
    sum Q P u v a b c m h w x y = by_ring ring√ (Q ∷ P ∷ u ∷ v ∷ a ∷ b ∷ c ∷ m ∷ h ∷ w ∷ x ∷ y ∷ []) (search poly depth 60 fits 5000) refl

-- ---- the half plane leaves one point of the disk at most: w is at least n |z|
abbrev pub is_point : Slice → Bool
is_point s = touches (pos s.n) s.zx s.zy s.w

pub record OnePoint (s : Slice) : Type 0 where
  pub positive : pos 1 ≼ s.w
  pub enough : pos s.n *ℤ pos s.n *ℤ (s.zx *ℤ s.zx +ℤ s.zy *ℤ s.zy) ≼ s.w *ℤ s.w

pub one-point : (s : Slice) → is_point s ≡ true → OnePoint s
one-point s e = let h = touches-true (pos s.n) s.zx s.zy s.w e in record { positive = h.0; enough = h.1 }

-- S = w x − n² zx W and T = w y − n² zy W are 0, as −(S² + T²) is a sum of what the slice says; so w (u x + v y) is n² (u zx + v zy) W
pub over-point : (s : Slice) (u v h : ℤ) → OnePoint s → pos s.n *ℤ pos s.n *ℤ (u *ℤ s.zx +ℤ v *ℤ s.zy) ≼ s.w *ℤ h → Over (R.Slice s) u v h
over-point s u v h o l w X Y hw t =
    let n = num (pos s.n) in
    let N = n ⊠ n in
    let c = num s.w in
    let a = num s.zx in
    let b = num s.zy in
    let m = holds-in (R.Slice s) w X Y t in
    let near = nn_by (ap (λ k. k ⊠ (w ⊠ w) ⊟ form (disk s) (n ⊠ X ⊟ num (pos 0) ⊠ w) (n ⊠ Y ⊟ num (pos 0) ⊠ w)) (num-* (pos s.n) (pos s.n)) ∙ round N w (n ⊠ X) (n ⊠ Y)) m.within.near in
    let long = simp (num-*, num-+, num_neg) at (num-⊑ o.enough) in
    let far = simp (num-*, num-+, num_neg) at (num-⊑ l) in
    let hc = nn_num {k = s.w} (≼_trans (pos 0) (pos 1) s.w (record { le = tt }) o.positive) in
    let hN = O.nn_sq n in
    let S = c ⊠ (n ⊠ X) ⊟ N ⊠ a ⊠ w in
    let T = c ⊠ (n ⊠ Y) ⊟ N ⊠ b ⊠ w in
    let none = nn_by (squares c N a b w (n ⊠ X) (n ⊠ Y))
    (nn-+ (nn-+ (nn-* (O.nn_sq c) near) (nn-* (nn-* (nn-* hc hN) (nn-* (nn_num {k = pos 2} (record { le = tt })) hw)) m.beyond)) (nn-* (nn-* hN (O.nn_sq w)) long)) in
    let zero = sq-⊑ (num u ⊠ S ⊞ num v ⊠ T) (num (pos 0)) (nn_num {k = pos 0} (record { le = tt }))
    (nn_by (cauchy (num u) (num v) S T) (nn-+ (nn-* (nn-+ (O.nn_sq (num u)) (O.nn_sq (num v))) none) (O.nn_sq (num u ⊠ T ⊟ num v ⊠ S)))) in
    nn_cancel c _ (num-⊑ o.positive) (nn_by (rest c N a b (num u) (num v) (num h) w (n ⊠ X) (n ⊠ Y)) (nn-+ (nn-* far hw) zero))
  where
    round : (N w x y : RootTwo)
        → N ⊠ (w ⊠ w) ⊟ (num (pos 1) ⊠ ((x ⊟ num (pos 0) ⊠ w) ⊠ (x ⊟ num (pos 0) ⊠ w)) ⊞ num (pos 2) ⊠ (num (pos 0) ⊠ ((x ⊟ num (pos 0) ⊠ w) ⊠ (y ⊟ num (pos 0) ⊠ w))) ⊞ num (pos 1) ⊠ ((y ⊟ num (pos 0) ⊠ w) ⊠ (y ⊟ num (pos 0) ⊠ w)))
        ≡ N ⊠ (w ⊠ w) ⊟ (x ⊠ x ⊞ y ⊠ y)
    round N w x y = by_ring ring√ (N ∷ w ∷ x ∷ y ∷ []) (search poly depth 40) refl

    squares : (c N a b w x y : RootTwo)
        → c ⊠ c ⊠ (N ⊠ (w ⊠ w) ⊟ (x ⊠ x ⊞ y ⊠ y)) ⊞ c ⊠ N ⊠ (num (pos 2) ⊠ w) ⊠ (a ⊠ x ⊞ b ⊠ y ⊟ c ⊠ w) ⊞ N ⊠ (w ⊠ w) ⊠ (c ⊠ c ⊟ N ⊠ (a ⊠ a ⊞ b ⊠ b))
        ≡ neg ((c ⊠ x ⊟ N ⊠ a ⊠ w) ⊠ (c ⊠ x ⊟ N ⊠ a ⊠ w) ⊞ (c ⊠ y ⊟ N ⊠ b ⊠ w) ⊠ (c ⊠ y ⊟ N ⊠ b ⊠ w))
    squares c N a b w x y = by_ring ring√ (c ∷ N ∷ a ∷ b ∷ w ∷ x ∷ y ∷ []) (search poly depth 60 fits 5000) refl

    cauchy : (u v S T : RootTwo)
        → (u ⊠ u ⊞ v ⊠ v) ⊠ neg (S ⊠ S ⊞ T ⊠ T) ⊞ (u ⊠ T ⊟ v ⊠ S) ⊠ (u ⊠ T ⊟ v ⊠ S)
        ≡ num (pos 0) ⊠ num (pos 0) ⊟ (u ⊠ S ⊞ v ⊠ T) ⊠ (u ⊠ S ⊞ v ⊠ T)
    cauchy u v S T = by_ring ring√ (u ∷ v ∷ S ∷ T ∷ []) (search poly depth 40) refl

    rest : (c N a b u v h w x y : RootTwo)
        → (c ⊠ h ⊟ N ⊠ (u ⊠ a ⊞ v ⊠ b)) ⊠ w ⊞ (num (pos 0) ⊟ (u ⊠ (c ⊠ x ⊟ N ⊠ a ⊠ w) ⊞ v ⊠ (c ⊠ y ⊟ N ⊠ b ⊠ w)))
        ≡ c ⊠ (h ⊠ w ⊟ (u ⊠ x ⊞ v ⊠ y))
    rest c N a b u v h w x y = by_ring ring√ (c ∷ N ∷ a ∷ b ∷ u ∷ v ∷ h ∷ w ∷ x ∷ y ∷ []) (search poly depth 60 fits 5000) refl

-- ---- the disk's reach in a long direction: n √(a² + b²), rounded up
pub over-length : (s : Slice) (a b : ℤ) (m : ℕ) → Length s.n a b m → Over (R.Slice s) a b (pos m)
over-length s a b m l =
    over-disk s a b (pos m)
    (subst (λ (h : ℤ). Over (R.Ellipse (disk s)) a b h) (centre a b (pos m))
    (over-ellipse (disk s) a b (pos m) (record { le = tt }) (record { le = tt }) (record { le = le→leb 0 m zero-le }) (rw (width a b, square a, square b) enough)))
  where
    centre : (a b m : ℤ) → a *ℤ pos 0 +ℤ b *ℤ pos 0 +ℤ m ≡ m
    centre a b m = Z.by_ring (a ∷ b ∷ m ∷ []) (search polyZ depth 30) refl

    width : (a b : ℤ) → width2 (disk s) a b ≡ a *ℤ a +ℤ b *ℤ b
    width a b = Z.by_ring (a ∷ b ∷ []) (search polyZ depth 30) refl

    enough : pos (s.n * s.n) *ℤ pos (nat_abs a * nat_abs a + nat_abs b * nat_abs b) ≼ pos m *ℤ pos m *ℤ discriminant (disk s)
    enough = record { le = le→leb (s.n * s.n * (nat_abs a * nat_abs a + nat_abs b * nat_abs b)) (m * m * 1) (omega (arith, l.enough)) }
