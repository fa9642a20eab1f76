use mathlib.Core.Path.{◌≡◌, refl, sym, ap, ◌∙◌}
use mathlib.Core.Bool.{Bool, true, cond, false≢true}
use Prim.Native.Nat.{ℕ, ◌<◌}
use native.Mathlib.Nat.{add-zero}
use native.Mathlib.Decide.{dec_lt}
use native.Mathlib.Omega.{arith}
use borrow.Author.Rules.{rules}
use lib.IntN.{ℤ}
use mathlib.Core.List.{List}
use Rattle.ranks.specs.Rest.{Place}
use Rattle.walk_list.specs.Walk.{rank_of}
use Rattle.tray_list.specs.Nearer.{is_at}
use Rattle.tray_merge.specs.Lane.{front_of, front-none}
use Rattle.tray_merge.proofs.lanes.pass.Statement.{statement}
use Rattle.tray_merge.proofs.lanes.pass.Tie as tie

front-requires : tie.Need-front-f-requires
front-requires c κs = search rules

is-at-requires : tie.Need-is_at-requires
is-at-requires c κs = search rules

-- what the test says
tested : (a : tie.After-is_at) → let s = a in a.is_at.result ≡ is_at (front_of a.args.queue.now a.args.j a.args.i a.args.e) (rank_of a.args.v)
tested a = a.is_at.ensures ∙ ap (λ (w : Place). is_at w (rank_of a.args.v)) a.front-f.ensures

-- a front is a queued point
queued : (q : List ℤ) (j i e r : ℕ) → is_at (front_of q j i e) r ≡ true → i < e
queued q j i e r h = go (dec_lt i e)
  where
    go : Dec (i < e) → i < e
    go (yes l) = l
    go (no n) = absurd (false≢true (ap (λ (w : Place). is_at w r) (front-none q j i e (omega arith)) ∙ h))

returns : tie.Need-returns-then-not-is_at
returns c =
    let a = c.before in
    let s = a in
    let e = sym (tested c.before) ∙ c.if-not-is_at.true in
    (sym (ap (λ (b : Bool). cond b 1 0) e), sym (add-zero c.args.i), c.requires.1, c.front-f.ensures)

add-n : tie.Need-overflow_add-n
add-n c = search rules

front-requires-2 : tie.Need-front-requires
front-requires-2 c κs = search rules

returns-2 : tie.Need-returns
returns-2 c =
    let d = c in
    let a = d.before in
    let s = a in
    let e = sym (tested c.before.before) ∙ c.if-not-is_at.false in
    let l = queued c.args.queue.now c.args.j c.args.i c.args.e (rank_of c.args.v) e in
    (sym (ap (λ (b : Bool). cond b 1 0) e), refl, omega arith, c.front.ensures)

pub pass_spec : {M : Type 1} → statement M
pass_spec = tie.close (tie.spec front-requires is-at-requires returns add-n front-requires-2 returns-2)
