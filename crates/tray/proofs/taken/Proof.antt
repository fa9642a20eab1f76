use mathlib.Core.List.{[]}
use mathlib.Core.Path.{refl, ap₂, ◌∙◌}
use borrow.Author.Rules.{rules}
use Rattle.tray.specs.Session.{answer_of, outcome, meaning, took_taken, took_refused}
use Rattle.tray.proofs.taken.Statement.{statement}
use Rattle.tray.proofs.taken.Tie as tie

enum_told : tie.Need-enum_told-1
enum_told c = search rules

begun-requires : tie.Need-begun-requires
begun-requires c κs = search rules

enum-known-v : tie.Need-enum_known-v
enum-known-v c = search rules

refused-requires : tie.Need-refused-requires
refused-requires c κs = search rules

returns : tie.Need-returns-in-Ok
returns c =
    let s = c in
    ap₂ (λ a m. (answer_of [] a, m)) c.begun.ensures.1 c.begun.ensures.0
    ∙ took_taken (meaning c.args.s) c.args.g.tray _ c.args.g.verdict refl c.in-Ok.is

returns-2 : tie.Need-returns-in-Err
returns-2 c =
    let s = c in
    ap₂ (λ z a. outcome [] z a) c.refused.ensures.0 c.refused.ensures.1
    ∙ took_refused (meaning c.args.s) c.args.g.tray _ c.args.g.verdict refl _ c.in-Err.is

pub taken_spec : {M : Type 1} → statement M
taken_spec =
    tie.close
    (tie.spec
    enum_told
    begun-requires
    enum-known-v
    refused-requires
    returns
    returns-2)
