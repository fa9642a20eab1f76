-- `dashed` meets its contract. Assumes nothing.
use mathlib.Core.Path.{◌≡◌, refl, sym, ◌∙◌}
use mathlib.Core.List.{[], ◌∷◌}
use Rattle.text_words.specs.Names.{is_name, name_told}
use Rattle.text_words.specs.Bytes.{dash_of, dash_written}
use borrow.Author.Rules.{rules}
use Rattle.text_words.proofs.digits.dashed.Statement.{statement}
use Rattle.text_words.proofs.digits.dashed.Tie as tie

-- the test tells whether the word is a dash
told : (c : tie.After-same) → c.same.result ≡ is_name c.args.word.now (45 ∷ [])
told c = name_told _ _ c.same.result c.same.ensures.0 c.same.ensures.1

same-requires : tie.Need-same-requires
same-requires c κs = search rules

returns : tie.Need-returns-then-same
unfolding dash_of dash_written
returns c =
    let e = sym (told c.before) ∙ c.if-same.true in
    (rw e refl, rw e refl)

unhex-requires : tie.Need-unhex-requires
unhex-requires c κs = search rules

same_length : tie.Need-shape_of-out
same_length c = search rules

returns-2 : tie.Need-returns
unfolding dash_of dash_written
returns-2 c =
    let b = c in
    let e = sym (told b.before.before.before.before.before) ∙ b.if-same.false in
    let u = c.unhex.ensures in
    (rw e u.0, rw e u.1)

pub dashed_spec : {M : Type 1} → statement M
dashed_spec =
    tie.close (tie.spec same-requires returns unhex-requires same_length returns-2)
