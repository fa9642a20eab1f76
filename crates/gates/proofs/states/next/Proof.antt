use mathlib.Core.Path.{◌≡◌, refl, sym, ◌∙◌, ap, ap₂, subst}
use mathlib.Core.Bool.{cond}
use Prim.Native.Nat.{◌+◌, ◌^◌, ◌<◌}
use native.Mathlib.Omega.{arith}
use lib.IntN.{nat_abs}
use Rattle.ring.specs.Point.{◌+ω◌, ◌-ω◌}
use Rattle.ring.specs.Point.Divide.{halves}
use Rattle.gate_theory.specs.Bits.{none, bare}
use Rattle.gate_theory.specs.Points.{back, halved}
use Rattle.gate_theory.specs.Parities.{parities}
use Rattle.gate_theory.specs.declared.State.{State}
use Rattle.gate_theory.specs.State.{Narrow, is_bare, unturn, plus, less}
use Rattle.gate_theory.proofs.lemmas.Step.{shift, next-even, next-not}
use Rattle.gates.specs.lemmas.Fit.{narrow_unturn, less-halved, less-halves, state, shift_small}
use borrow.Author.Rules.{rules}
use Rattle.gates.proofs.states.next.Statement.{statement}
use Rattle.gates.proofs.states.next.Tie as tie

parities-requires : tie.Need-parities-pu-requires
parities-requires c κs = search rules

parities-requires-2 : tie.Need-parities-pt-requires
parities-requires-2 c κs = search rules

bare-requires : tie.Need-bare-b-requires
bare-requires c κs = search rules

unturn-requires : tie.Need-unturn-z-requires
unturn-requires c κs = search rules

-- the places, from the call of `unturn` back to the start
abbrev self : tie.After-unturn-z → State
self c = c.args.s

bare-is : (c : tie.After-unturn-z) → c.bare-b.result ≡ is_bare (self c)
bare-is c = c.bare-b.ensures ∙ ap₂ bare c.parities-pu.ensures c.parities-pt.ensures

z-is : (c : tie.After-unturn-z) → c.unturn-z.result ≡ unturn (self c)
z-is c = c.unturn-z.ensures ∙ ap (λ b. cond b (self c).t (back (back (self c).t))) (bare-is c)

narrow-z : (c : tie.After-unturn-z) → Narrow c.unturn-z.result
narrow-z c = subst Narrow (sym (z-is c)) (narrow_unturn (is_bare (self c)) (self c).t c.requires.1)

p-is : (c : tie.After-plus-p) → c.plus-p.result ≡ plus (self c.before)
p-is c = c.plus-p.ensures ∙ ap (λ z. (self c.before).u +ω z) (z-is c.before)

q-is : (c : tie.After-less-q) → c.less-q.result ≡ less (self c.before.before)
q-is c = c.less-q.ensures ∙ ap (λ z. (self c.before.before).u -ω z) (z-is c.before.before)

l-is : (c : tie.After-shift) → c.shift.result ≡ shift (self c.before.before.before)
l-is c = c.shift.ensures ∙ ap (λ b. cond b 3 1) (bare-is c.before.before.before)

none_is : (c : tie.After-none) → c.none.result ≡ none (parities (plus (self c.before.before.before.before.before.before)))
none_is c = c.none.ensures ∙ ap none (c.parities-pp.ensures ∙ ap parities (p-is c.before.before.before.before.before))

plus-requires : tie.Need-plus-p-requires
plus-requires c κs = (c.requires.0, narrow-z c)

less-requires : tie.Need-less-q-requires
less-requires c κs = (c.requires.0, narrow-z c.before)

shift-requires : tie.Need-shift-requires
shift-requires c κs = search rules

add-l : tie.Need-overflow_add-l
add-l c = omega (arith, c.shift.ensures, shift_small c.bare-b.result, c.requires.3)

parities-requires-3 : tie.Need-parities-pp-requires
parities-requires-3 c κs = search rules

none-requires : tie.Need-none-requires
none-requires c κs = search rules

half-requires : tie.Need-half-x-requires
half-requires c κs = search rules

half-requires-2 : tie.Need-half-requires
half-requires-2 c κs = search rules

over-omega-requires : tie.Need-over_omega-y-requires
over-omega-requires c κs =
    let s = c.before.before.before.before.before.before.before.before.before in
    subst (λ v. nat_abs v.d < 2 ^ 30) (sym (c.half.ensures ∙ ap halved c.less-q.ensures)) (less-halved (self s).u c.unturn-z.result c.requires.0 (narrow-z s))

sub-t20 : tie.Need-overflow_sub-result
sub-t20 c = c.requires.2

over-root2-requires : tie.Need-over_root2-x-requires
over-root2-requires c κs = search rules

over-root2-requires-2 : tie.Need-over_root2-requires
over-root2-requires-2 c κs = search rules

over-omega-requires-2 : tie.Need-over_omega-y-requires-else-none
over-omega-requires-2 c κs =
    let s = c.before.before.before.before.before.before.before.before.before in
    subst (λ v. nat_abs v.d < 2 ^ 30) (sym (c.over_root2.ensures ∙ ap halves c.less-q.ensures)) (less-halves (self s).u c.unturn-z.result c.requires.0 (narrow-z s))

returns : tie.Need-returns-then-none
returns c =
    let m = c.before.before.before.before.before in
    state refl
    (c.half-x.ensures ∙ ap halved (p-is m.before.before.before.before.before))
    (c.over_omega-y.ensures ∙ ap back (c.half.ensures ∙ ap halved (q-is m.before.before.before.before)))
    (ap (λ n. c.args.s.l + n) (l-is m.before.before.before))
    ∙ sym (next-even (self m.before.before.before.before.before.before) (sym (none_is m) ∙ c.if-none.true))

returns-2 : tie.Need-returns-else-none
returns-2 c =
    let m = c.before.before.before.before in
    state refl
    (c.over_root2-x.ensures ∙ ap halves (p-is m.before.before.before.before.before))
    (c.over_omega-y-else-none.ensures ∙ ap back (c.over_root2.ensures ∙ ap halves (q-is m.before.before.before.before)))
    (ap (λ n. c.args.s.l + n) (l-is m.before.before.before))
    ∙ sym (next-not (self m.before.before.before.before.before.before) (sym (none_is m) ∙ c.if-none.false))

pub next_spec : {M : Type 1} → statement M
next_spec =
    tie.close
    (tie.spec
    parities-requires
    parities-requires-2
    bare-requires
    unturn-requires
    plus-requires
    less-requires
    shift-requires
    add-l
    parities-requires-3
    none-requires
    half-requires
    half-requires-2
    over-omega-requires
    sub-t20
    over-root2-requires
    over-root2-requires-2
    over-omega-requires-2
    returns
    returns-2)
