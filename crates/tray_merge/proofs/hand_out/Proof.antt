use mathlib.Core.List.{List, []}
use mathlib.Core.Path.{◌≡◌, refl, ap}
use Prim.Native.Nat.{ℕ}
use native.Mathlib.Omega.{arith}
use borrow.Author.Rules.{rules}
use lib.IntN.{ℤ}
use Rattle.tray_list.specs.Tray.{any_at, five_of}
use Rattle.tray_list.specs.declared.Tray.{Tray}
use Rattle.walk_list.specs.Walk.{spot_of}
use Rattle.cuts.specs.Digits.{span}
use Rattle.ranks.specs.Handed.{Gave}
use Rattle.ranks.proofs.Handed.{dealt_none, dealt_end}
use Rattle.ranks.specs.Rank.{top}
use Rattle.ranks.specs.Rest.{left_at, ended}
use Rattle.tray_merge.proofs.hand_out.Statement.{statement}
use Rattle.tray_merge.proofs.hand_out.Tie as tie

-- where nothing is left, nothing is handed out
gave_none : (t : Tray) (ps : List ℕ) (old : List ℤ) (n : ℕ) → ps ≡ [] → Gave (five_of t) 5 ps old n 0 old ended
gave_none t ps old n e =
    rw e (dealt_end (five_of t) 5 (λ r. refl) [] old 0 n old ended refl (dealt_none (five_of t) 5 (λ r. refl) [] old ended refl) (omega arith))

enum-known-from : tie.Need-enum_known-from
enum-known-from c = search rules

deal-requires : tie.Need-deal-requires
deal-requires c κs = search rules

enum_told : tie.Need-enum_told-1
enum_told c = search rules

same_length : tie.Need-shape_of-out
same_length c = search rules

returns : tie.Need-returns-in-Some
returns c = rw (ap spot_of c.in-Some.is) c.deal.ensures

returns-2 : tie.Need-returns-in-None
returns-2 c =
    let s = c in
    gave_none c.args.t _ _ _ (ap (λ p. left_at (any_at c.args.t) (top span) (spot_of p)) c.in-None.is)

pub hand_out_spec : {M : Type 1} → statement M
hand_out_spec =
    tie.close (tie.spec enum-known-from deal-requires enum_told same_length returns returns-2)
