-- Text put after text: what stands before a place, and then more. Assumes nothing.
use Rattle.std.specs.Prelude.{ℕ, ◌+◌, ◌≤◌, ◌≡◌, refl, List, [], ◌∷◌, ◌++◌}
use Rattle.std.proofs.Common.{sym, ap₂, ◌∙◌, append_assoc, arith, length-take, take-append-drop, take_at, drop_at, drop-drop, length-take-le}
use Rattle.std.proofs.Math.Path.{ap}
use Rattle.std.proofs.Math.Nat.{min-le_right}
use Rattle.std.proofs.Math.Decide.{dec_le}
use borrow.Author.Tests.{le-leb, lt-leb}
use Rattle.std.proofs.Math.ListN.{length, take, drop, length-append, length-drop}
use Rattle.text.specs.Written.{written, after}

-- ys stands after the first `at` bytes of xs, and ends at r
pub record Appended (xs : List ℕ) (at : ℕ) (ys out : List ℕ) (r : ℕ) : Type 0 where
  pub text : take r out ≡ take at xs ++ ys
  pub end : r ≡ at + length ys
  pub same : length out ≡ length xs
  pub past : drop r out ≡ drop r xs

module _ (xs : List ℕ) (at : ℕ) (ys : List ℕ) where
  pub appended : (out : List ℕ) (r : ℕ) → at + length ys ≤ length xs → out ≡ written xs at ys → r ≡ after xs at ys → Appended xs at ys out r
  unfolding written after
  appended out r h e f =
      let fit = le-leb (at + length ys) (length xs) h in
      let o : out ≡ take at xs ++ ys ++ drop (at + length ys) xs = e ∙ simp fit in
      let s : r ≡ at + length ys = f ∙ simp fit in
      let n : length (take at xs ++ ys) ≡ at + length ys = length-append (take at xs) ys ∙ ap (λ (k : ℕ). k + length ys) (length-take-le at xs (omega arith)) in
      record {
        text = rw (o, s) (take_at (take at xs ++ ys) (drop (at + length ys) xs) (at + length ys) n);
        end = s;
        past = rw (o, s) (drop_at (take at xs ++ ys) (drop (at + length ys) xs) (at + length ys) n);
        same = rw o (length-append (take at xs ++ ys) (drop (at + length ys) xs) ∙ omega (arith, n, length-drop (at + length ys) xs));
      }

  pub append-more : (zs mid out : List ℕ) (r r' : ℕ) → Appended xs at ys mid r → Appended mid r zs out r' → Appended xs at (ys ++ zs) out r'
  append-more zs mid out r r' a b = record {
    text = b.text ∙ ap (λ (l : List ℕ). l ++ zs) a.text ∙ append_assoc (take at xs) ys zs;
    end = let n = length-append ys zs in let e = a.end in let f = b.end in omega arith;
    same = b.same ∙ a.same;
    past = b.past ∙ rw b.end (sym (drop-drop (length zs) r mid) ∙ ap (drop (length zs)) a.past ∙ drop-drop (length zs) r xs);
  }

-- the same, where the second writer says what it put
pub append-put : (xs : List ℕ) (at : ℕ) (ys zs mid : List ℕ) (r : ℕ) {out : List ℕ} {r' : ℕ} → Appended xs at ys mid r → at + length ys + length zs ≤ length xs
    → (out ≡ written mid r zs) × (r' ≡ after mid r zs) → Appended xs at (ys ++ zs) out r'
append-put xs at ys zs mid r {out} {r'} a h p =
    append-more xs at ys zs mid out r r' a (appended mid r zs out r' (omega (arith, a.end, a.same)) p.0 p.1)

-- ---- from the start of a list: nothing yet, and all of it
pub append-none : (xs : List ℕ) → Appended xs 0 [] xs 0
append-none xs = record { text = refl; end = refl; same = refl; past = refl }

pub append-whole : (xs ys out : List ℕ) (r : ℕ) → length ys ≤ length xs → Appended xs 0 ys out r → out ≡ written xs 0 ys
unfolding written
append-whole xs ys out r h a =
    let e : r ≡ 0 + length ys = a.end in
    let fit = le-leb (0 + length ys) (length xs) (omega arith) in
    sym (take-append-drop r out) ∙ ap₂ ◌++◌ a.text (a.past ∙ ap (λ (k : ℕ). drop k xs) e) ∙ sym (simp fit)

-- text of at most n bytes and a mark after it
pub marked : (xs : List ℕ) (at : ℕ) (ys : List ℕ) (mark n : ℕ) (mid out : List ℕ) (r r' : ℕ) → length ys ≤ n → at + n + 1 ≤ length xs → (mid ≡ written xs at ys) × (r ≡ after xs at ys)
    → (out ≡ written mid r (mark ∷ [])) × (r' ≡ after mid r (mark ∷ [])) → Appended xs at (ys ++ (mark ∷ [])) out r' × (r' ≤ at + n + 1)
marked xs at ys mark n mid out r r' l h p q =
    let a = appended xs at ys mid r (omega arith) p.0 p.1 in
    let e = a.end in
    let s = a.same in
    let b = appended mid r (mark ∷ []) out r' (omega arith) q.0 q.1 in
    let f = b.end in
    (append-more xs at ys (mark ∷ []) mid out r r' a b, omega arith)

-- a place never leaves the list
pub after-within : (xs : List ℕ) (at : ℕ) (ys : List ℕ) → at ≤ length xs → after xs at ys ≤ length xs
unfolding after
after-within xs at ys h = elim (dec_le (at + length ys) (length xs)) [
  | yes k ↦ simp (le-leb _ _ k) k
  | no k ↦ simp (lt-leb (at + length ys) (length xs) (omega arith)) h
]

-- what a writer put at the start, and what stands after nothing, are within the list
pub put-within : (xs ys out : List ℕ) (r : ℕ) → (out ≡ written xs 0 ys) × (r ≡ after xs 0 ys) → r ≤ length out
unfolding written after
put-within xs ys out r p = elim (dec_le (0 + length ys) (length xs)) [
  | yes k ↦ let a = appended xs 0 ys out r k p.0 p.1 in let e = a.end in let s = a.same in omega arith
  | no k ↦
      let n = lt-leb (0 + length ys) (length xs) (omega arith) in
      let z : r ≡ 0 = p.1 ∙ simp n in
      omega arith
]

pub appended_within : (xs ys out : List ℕ) (r : ℕ) → Appended xs 0 ys out r → r ≤ length out
appended_within xs ys out r a =
    let t = ap length a.text in
    let n = length-take r out in
    let m = min-le_right r (length out) in
    let e = a.end in
    omega arith
