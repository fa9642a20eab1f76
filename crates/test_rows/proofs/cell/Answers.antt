-- `cell` meets its contract. Assumes nothing.
use Rattle.std.proofs.Common.{◌≡◌, refl, ap, ◌∙◌, List, [], ℕ, Bor, Option, None, Some, rules, tests}
use Rattle.std.specs.Option.{option_map, unwrap_or}
use Rattle.std.proofs.lemmas.Iterator.Consumers.{nth_from_yields_List}
use Rattle.std.proofs.lemmas.Iterator.Splits.{YieldsList-from_slice_split}
use Rattle.std.proofs.lemmas.Option.{unwrap_or-slice_get}
use Rattle.std.proofs.lemmas.Str.Ascii.{trim_ascii_is}
use Rattle.test_rows.specs.Cells.{trim_start, trim_end}
use Rattle.test_rows.proofs.cell.Goals as goal

-- a part, or nothing, as a slice and as a list
shown : (r : Option (Bor (List ℕ))) (d : Bor (List ℕ)) → d.now ≡ [] → (unwrap_or r d).now ≡ unwrap_or (option_map (λ x. x.now) r) []
shown None d e = e
shown (Some x) d e = refl

pub returns : goal.returns
returns c =
    let nth = nth_from_yields_List _ _ c.args.n c.nth.ensures.ran (YieldsList-from_slice_split _ _ c.args.row.now c.split.ensures.rest c.split.ensures.done c.split.ensures.closure (λ x r q k. search (rules, tests))) in
    trim_ascii_is _ _ _ refl c.trim_ascii.ensures.value
    ∙ ap (λ s. trim_end (trim_start s)) (ap (λ (x : Bor (List ℕ)). x.now) c.unwrap_or.ensures ∙ shown c.nth.result _ refl ∙ ap (λ o. unwrap_or o []) nth ∙ unwrap_or-slice_get _ c.args.n [])
