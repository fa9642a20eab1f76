use Rattle.std.specs.Prelude.{◌≡◌, neg_ℤ}
use Rattle.std.proofs.Common.{sym, ap, ◌∙◌, rules, SFits, to_z-of_z}
use Rattle.std.specs.Int.{w16, w32}
use Rattle.integers.specs.lemmas.Size.{back}
use Rattle.region.specs.declared.Slice.{Slice}
use Rattle.region.specs.Reach.{reach_of}
use Rattle.pattern_apart.specs.Shared.{disk-shares, slice-shares}
use Rattle.pattern_apart.proofs.share.sliced.Goals as goal

pub returns-then-abs-gt-FARTHEST : goal.returns-then-abs-gt-FARTHEST
returns-then-abs-gt-FARTHEST c = rw c.disk.ensures (disk-shares _)

pub returns-then-is_accepted : goal.returns-then-is_accepted
returns-then-is_accepted c =
    let a = c.args in
    let x : SFits w16 a.w.x = search rules in
    let y : SFits w16 a.w.y = search rules in
    let s : Slice = record { n = c.scale.result; zx = a.w.x; zy = a.w.y; w = c.turned.result } in
    let w : s.w ≡ neg_ℤ (reach_of a.r (neg_ℤ s.zx) (neg_ℤ s.zy)) = c.turned.ensures ∙ ap neg_ℤ (to_z-of_z c.ranges.h ∙ c.requires.1) in
    rw (to_z-of_z x, to_z-of_z y, back w32 c.turned.type_inv)
    (slice-shares a.r s c.scale.ensures w (rw (to_z-of_z x, to_z-of_z y, back w32 c.turned.type_inv) at (sym c.is_accepted.ensures ∙ c.if-is_accepted.true)))

pub returns-else-is_accepted : goal.returns-else-is_accepted
returns-else-is_accepted c = rw c.disk-else-is_accepted.ensures (disk-shares _)
