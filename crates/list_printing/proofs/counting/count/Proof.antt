-- `count` ends, since each page but the last leaves less; what it has counted and what is left are together what was left at first. Assumes nothing.
use Prim.Native.Nat.{ℕ, suc, ◌+◌, ◌<◌}
use mathlib.Core.Path.{◌≡◌, refl, sym, ap, ◌∙◌}
use mathlib.Core.Bool.{Bool, true, false}
use native.Mathlib.Omega.{arith}
use borrow.Author.Rules.{rules}
use Rattle.integers_wide.specs.declared.Size.{Size}
use Rattle.integers_wide.specs.Meaning.{size_of, wrapped}
use Rattle.session_stages.specs.Session.{meaning}
use Rattle.list_pages.specs.Given.{left_of}
use Rattle.list_printing.specs.Counting.{wrapped-more}
use Rattle.list_printing.proofs.counting.count.Statement.{statement}
use Rattle.list_printing.proofs.counting.count.Tie as tie

-- pages to come
abbrev weight : Bool → ℕ → ℕ
weight true n = suc n
weight false n = 0

less : (more : Bool) (n m : ℕ) → (more ≡ true → n < m) → weight more n < suc m
less true n m h = let k = h refl in omega arith
less false n m h = omega arith

-- points to come
abbrev rest : Bool → ℕ → ℕ
rest true n = n
rest false n = 0

same : (more : Bool) (n : ℕ) → (more ≡ false → n ≡ 0) → rest more n ≡ n
same true n h = refl
same false n h = sym (h refl)

-- what is counted so far, kept in two words, with what is to come, in all
record Sum (total : Size) (left all : ℕ) : Type 0 where
  far : ℕ
  is : total ≡ wrapped far
  rest : far + left ≡ all

nothing : record { hi = 0; lo = 0 } ≡ wrapped 0
unfolding wrapped
nothing = refl

-- one page more: n of it, with m left of k before
more_of : (t s : Size) (n m k all : ℕ) → Sum t k all → s ≡ wrapped (size_of t + n) → n + m ≡ k → Sum s m all
more_of t s n m k all h e g = let f = h.rest in record { far = h.far + n; is = e ∙ wrapped-more t h.far n h.is; rest = omega arith }

abbrev invariant-loop : tie.invariant-loop-more
invariant-loop left₀ total₀ more₀ left total more = Sum total (rest more (left_of (meaning left))) (left_of (meaning left₀))

abbrev decreases-loop : tie.decreases-loop-more
decreases-loop left₀ total₀ more₀ left total more = weight more (left_of (meaning left))

loop-holds : tie.Need-loop-more-init invariant-loop decreases-loop
loop-holds c = record { far = 0; is = nothing; rest = omega arith }

count-page-requires : tie.Need-count_page-p-requires invariant-loop decreases-loop
count-page-requires c κs = search rules

plus-requires : tie.Need-plus-total-requires invariant-loop decreases-loop
plus-requires c κs = search rules

loop-less : tie.Need-loop-more-smaller invariant-loop decreases-loop
loop-less c =
    let p = c in
    let t = p in
    rw c.loop-more-test.true (less c.count_page-p.result.more (left_of (meaning c.count_page-p.result.session)) (left_of (meaning c.loop-more.left)) c.count_page-p.ensures.less)

loop-again : tie.Need-loop-more-preserved invariant-loop decreases-loop
loop-again c =
    let p = c in
    let t = p in
    let l = c.loop-more in
    let r = c.count_page-p.result in
    let e = c.count_page-p.ensures in
    let i : Sum l.total (left_of (meaning l.left)) _ = rw c.loop-more-test.true at l.invariant in
    rw (same r.more (left_of (meaning r.session)) e.last) (more_of l.total c.plus-total.result r.count _ _ _ i c.plus-total.ensures e.sum)

returns : tie.Need-returns invariant-loop decreases-loop
returns c =
    let i = rw c.loop-more-test.false at c.loop-more.invariant in
    let e = i.rest in
    let f : i.far ≡ left_of (meaning c.args.s) = omega arith in
    i.is ∙ ap wrapped f

pub count_spec : {M : Type 1} → statement M
count_spec = tie.close (tie.spec invariant-loop decreases-loop loop-holds count-page-requires plus-requires loop-less loop-again returns)
