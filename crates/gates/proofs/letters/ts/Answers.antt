use Rattle.std.specs.Prelude.{◌≡◌, cond, List, [], ◌∷◌, ℕ, ◌+◌, eqb, take, count_by, fold}
use Rattle.std.proofs.Common.{◌∙◌, arith, rules}
use Rattle.gates.specs.Written.{one, tally}
use Rattle.gates.proofs.letters.ts.Goals as goal

counted : (n : ℕ) (l : List ℕ) → fold (λ a b. a + cond (eqb b 84) 1 0) n l ≡ n + tally l
counted n [] = omega arith
counted n (b ∷ l) = let h = counted (n + one b) l in omega arith

pub returns : goal.returns
returns c =
    let e : c.count.result ≡ count_by (λ b. eqb b 84) (take c.args.w.len c.args.w.letters) = search rules in
    let f : 0 + tally (take c.args.w.len c.args.w.letters) ≡ tally (take c.args.w.len c.args.w.letters) = omega arith in
    e ∙ counted 0 (take c.args.w.len c.args.w.letters) ∙ f
