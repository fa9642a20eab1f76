use Rattle.std.specs.Prelude.{Err}
use mathlib.Core.Path.{◌≡◌, sym, ap, subst}
use borrow.Author.Rules.{rules}
use Rattle.region.specs.Decide.{not_accepted}
use Rattle.region.specs.Selection.{unsolved}
use Rattle.ranks.specs.Rest.{left_at}
use Rattle.ranks.specs.Rank.{top}
use Rattle.cuts.specs.Digits.{span}
use Rattle.walk_list.specs.Walk.{listed_at, spot_of}
use Rattle.walk.specs.Prepared.{job_of, Prepares}
use Rattle.walk.specs.lemmas.Hand.{none-at, gave_none}
use Rattle.walk.proofs.hand_out_of.Statement.{statement}
use Rattle.walk.proofs.hand_out_of.Tie as tie

enum-known-p : tie.Need-enum_known-p
enum-known-p c = search rules

enum-known-from : tie.Need-enum_known-from
enum-known-from c = search rules

deal-requires : tie.Need-deal-requires
deal-requires c κs =
    let p = c in
    subst Prepares c.in-Ok.is c.requires

same_length : tie.Need-shape_of-out-in-Some
same_length c = search rules

returns : tie.Need-returns-in-Some
returns c =
    let f = c in
    let p = f in
    rw (c.in-Ok.is, ap spot_of c.in-Some.is) c.deal.ensures

enum_told : tie.Need-enum_told-1
enum_told c = search rules

enum-told-2 : tie.Need-enum_told-in_default
enum-told-2 c = search rules

returns-2 : tie.Need-returns-in_default-from
returns-2 c =
    let s = c in
    gave_none _ _ _ (ap (λ w. left_at (listed_at (job_of c.args.p)) (top span) (spot_of w)) c.in_default-from.is)

returns-3 : tie.Need-returns-in_default
returns-3 c =
    let s = c in
    let j = c.in_default.field-0 in
    let e : c.args.p ≡ Err j = c.in_default.is in
    let n = subst Prepares e c.requires in
    gave_none _ _ _ (rw e (none-at j (λ v. unsolved j v (sym (not_accepted j v n))) (spot_of c.args.from)))

pub hand_out_of_spec : {M : Type 1} → statement M
hand_out_of_spec = tie.close (tie.spec enum-known-p enum-known-from deal-requires same_length returns enum_told enum-told-2 returns-2 returns-3)
