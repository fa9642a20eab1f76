-- The least point: no coordinate of it can be less, so it is the first of all in point order.
use Rattle.std.specs.Prelude.{◌≡◌, Bool, true, ◌&&◌, eqb}
use Rattle.std.proofs.Common.{eqb-true}
use Rattle.integers.specs.lemmas.Booleans.{both_true}
use Rattle.ring.specs.declared.Point.{Point}
use Rattle.ranks.proofs.Rank.{rank-zero}
use Rattle.cuts.specs.Digits.{span, digit}
use Rattle.walk_list.specs.Walk.{rank_of}

-- all four coordinates are −2³¹
abbrev pub is_least : Point → Bool
is_least v = eqb (digit v.a) 0 && (eqb (digit v.b) 0 && (eqb (digit v.c) 0 && eqb (digit v.d) 0))

pub least-rank : (v : Point) → is_least v ≡ true → rank_of v ≡ 0
least-rank v e =
    let (a, bcd) = both_true _ _ e in
    let (b, cd) = both_true _ _ bcd in
    let (c, d) = both_true _ _ cd in
    rw (eqb-true (digit v.a) 0 a, eqb-true (digit v.b) 0 b, eqb-true (digit v.c) 0 c, eqb-true (digit v.d) 0 d) (rank-zero span)
