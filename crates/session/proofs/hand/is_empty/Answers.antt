use Rattle.std.proofs.Common.{◌≡◌, refl, sym, ap, ◌∙◌, Bool, true, false, not, List, [], ◌∷◌, ℕ}
use Rattle.std.proofs.lemmas.Bool.{false≢true}
use Rattle.ranks.specs.Rest.{at, is_nil, left_at}
use Rattle.ranks.specs.Rank.{top}
use Rattle.cuts.specs.Digits.{span}
use Rattle.walk_list.specs.Walk.{listed_at, spot_of, full}
use Rattle.session_stages.specs.Place.{least-rank}
use Rattle.session.proofs.hand.is_empty.Goals as goal

not_is : (b : Bool) → not (not b) ≡ true → b ≡ true
not_is true e = refl
not_is false e = e

nil_is : (l : List ℕ) → is_nil l ≡ true → l ≡ []
nil_is [] e = refl
nil_is (x ∷ l) e = absurd (false≢true e)

pub returns-then-is_least : goal.returns-then-is_least
unfolding full
returns-then-is_least c = record {
  none = λ e.
      let j = c.args.c.job in
      let nil : is_nil (full j) ≡ true = not_is (is_nil (full j)) (sym (ap not c.has_solution.ensures) ∙ e) in
      ap (left_at (listed_at j) (top span)) (ap spot_of c.in-Some.is ∙ ap at (least-rank c.in-Some.v (sym c.is_least.ensures ∙ c.if-is_least.true))) ∙ nil_is (full j) nil;
}
