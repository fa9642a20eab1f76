use mathlib.Core.Bool.{Bool, true, false}
use mathlib.Core.Path.{◌≡◌, refl, sym, ap₂, ◌∙◌}
use Prim.Native.Nat.{ℕ}
use native.Mathlib.Omega.{arith}
use borrow.Author.Tests.{eq-eqb, ne_eqb, eqb-true, eqb-false}
use borrow.Author.Rules.{rules}
use lib.Dec.{eqb}
use mir.Facts.{to_z-of_z}
use mir.Val.{SFits}
use mir.Syntax.{w32}
use Rattle.ring_points.specs.Points.{Fits32, rank_of, word, word_below, rank-words}
use Rattle.ring_points.proofs.order.is_same.Statement.{statement}
use Rattle.ring_points.proofs.order.is_same.Tie as tie

eqb_same : (a b c d : ℕ) → (a ≡ b → c ≡ d) → (c ≡ d → a ≡ b) → eqb a b ≡ eqb c d
eqb_same a b c d f g = go (eqb a b) refl
  where
    go : (t : Bool) → eqb a b ≡ t → t ≡ eqb c d
    go true h = sym (eq-eqb c d (f (eqb-true a b h)))
    go false h = sym (ne_eqb c d (λ e. eqb-false a b h (g e)))

fits-v : (c : tie.Start) → Fits32 c.args.v
fits-v c =
    let v = c.args.v in
    let a : SFits w32 v.a = search rules in
    let b : SFits w32 v.b = search rules in
    let d : SFits w32 v.c = search rules in
    let e : SFits w32 v.d = search rules in
    record { a = a; b = b; c = d; d = e }

fits-w : (c : tie.Start) → Fits32 c.args.w
fits-w c =
    let v = c.args.w in
    let a : SFits w32 v.a = search rules in
    let b : SFits w32 v.b = search rules in
    let d : SFits w32 v.c = search rules in
    let e : SFits w32 v.d = search rules in
    record { a = a; b = b; c = d; d = e }

abbrev start : tie.After-word-2 → tie.Start
start c = c.before.before.before.before.before.before

-- the last words
low-v : (c : tie.After-word-2) → let s = start c in c.word.result ≡ word s.args.v.c s.args.v.d
low-v c = let f = fits-v (start c) in c.word.ensures ∙ ap₂ word (to_z-of_z f.c) (to_z-of_z f.d)

low-w : (c : tie.After-word-2) → let s = start c in c.word-2.result ≡ word s.args.w.c s.args.w.d
low-w c = let f = fits-w (start c) in c.word-2.ensures ∙ ap₂ word (to_z-of_z f.c) (to_z-of_z f.d)

-- points of one rank have the same words
module _ (s : tie.Start) (e : rank_of s.args.v ≡ rank_of s.args.w) where
  same_low : word s.args.v.c s.args.v.d ≡ word s.args.w.c s.args.w.d
  same_low =
      let f = fits-v s in
      let g = fits-w s in
      omega (arith, rank-words s.args.v, rank-words s.args.w, word_below _ _ f.c f.d, word_below _ _ g.c g.d)

  same-high : word s.args.v.a s.args.v.b ≡ word s.args.w.a s.args.w.b
  same-high =
      let f = fits-v s in
      let g = fits-w s in
      omega (arith, rank-words s.args.v, rank-words s.args.w, word_below _ _ f.c f.d, word_below _ _ g.c g.d)

word-requires : tie.Need-word-requires
word-requires c κs = search rules

word-requires-2 : tie.Need-word-requires-2
word-requires-2 c κs = search rules

returns : tie.Need-returns-then-word
returns c =
    let m = c.before in
    let s = start m in
    let f = fits-v s in
    let g = fits-w s in
    let h = c.if-word.true in
    sym (ne_eqb _ _ (λ e. h (low-v m ∙ same_low s e ∙ sym (low-w m))))

word-requires-3 : tie.Need-word-requires-3
word-requires-3 c κs = search rules

word-requires-4 : tie.Need-word-requires-4
word-requires-4 c κs = search rules

returns-2 : tie.Need-returns
returns-2 c =
    let m = c in
    let e = m in
    let p = e.before in
    let s = start p.before.before.before.before.before.before in
    let f = fits-v s in
    let g = fits-w s in
    let x = m.word-3.ensures ∙ ap₂ word (to_z-of_z f.a) (to_z-of_z f.b) in
    let y = c.word-4.ensures ∙ ap₂ word (to_z-of_z g.a) (to_z-of_z g.b) in
    let low = sym (low-v p.before.before.before.before.before.before) ∙ e.if-word.false ∙ low-w p.before.before.before.before.before.before in
    eqb_same _ _ _ _ (λ h. let high = sym x ∙ h ∙ y in omega (arith, rank-words s.args.v, rank-words s.args.w)) (λ h. x ∙ same-high s h ∙ sym y)

pub is_same_spec : {M : Type 1} → statement M
is_same_spec =
    tie.close
    (tie.spec word-requires word-requires-2 returns word-requires-3 word-requires-4 returns-2)
