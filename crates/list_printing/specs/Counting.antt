-- The number that hand-outs without their lines count is the number of the points that are left.
use Rattle.std.specs.Prelude.{◌≡◌, refl, Bool, true, false, not, List, [], ◌∷◌, ℕ, ◌+◌, ◌*◌, ◌/◌, ◌%◌, ◌^◌, ◌≤◌, ◌<◌, ℤ, length, take, drop}
use Rattle.std.proofs.Common.{sym, ap, ◌∙◌, div-add-mod', arith, lit≤, length-append, take-append-drop}
use Rattle.std.proofs.Math.Nat.{mul-add-div_right, mul-add-mod_self_right, mod-add-mod}
use Rattle.ranks.specs.Rest.{at, ended, is_nil, rest}
use Rattle.ranks.proofs.Rest.{left-place}
use Rattle.ranks.specs.Rank.{top}
use Rattle.cuts.specs.Digits.{span}
use Rattle.walk_list.specs.Walk.{listed_at}
use Rattle.session_model.specs.Session.{handOut, refused, taken, handed, done, says, best, early, walking, step}
use Rattle.session_model.specs.Session as Model
use Rattle.session_stages.specs.World.{world}
use Rattle.integers_wide.specs.declared.Size.{Size}
use Rattle.integers_wide.specs.Meaning.{size_of, wrapped}
use Rattle.list_pages.specs.Page.{page_of}
use Rattle.list_pages.specs.Given.{is_handed, left_of, page-handed, page-less}

-- a page of n points, of a session m that it leaves as t
pub record Counted (m t : Model.Session world) (n : ℕ) (more : Bool) : Type 0 where
  pub sum : n + left_of t ≡ left_of m
  pub last : more ≡ false → left_of t ≡ 0
  pub less : more ≡ true → left_of t < left_of m

split : (k : ℕ) (l : List ℕ) → length (take k l) + length (drop k l) ≡ length l
split k l = sym (length-append (take k l) (drop k l)) ∙ ap length (take-append-drop k l)

none : (l : List ℕ) → not (is_nil l) ≡ false → length l ≡ 0
none [] e = refl
none (x ∷ l) e = absurd (let z : ◌≡◌ {A = ℕ} 0 1 = cc in omega arith)

page-sum : (room : ℕ) (m : Model.Session world) → (page_of room m).count + left_of (page_of room m).session ≡ left_of m
unfolding page_of
page-sum room (early p) = refl
page-sum room (walking j ended o) = refl
page-sum room (walking j (at p) o) = rw (left-place (listed_at j) (top span) room p) (split room (rest (listed_at j) (top span) p))

page-last : (room : ℕ) (m : Model.Session world) → (page_of room m).more ≡ false → left_of (page_of room m).session ≡ 0
unfolding page_of
page-last room (early p) e = refl
page-last room (walking j ended o) e = refl
page-last room (walking j (at p) o) e = rw (left-place (listed_at j) (top span) room p) (none (drop room (rest (listed_at j) (top span) p)) e)

-- a hand-out that is not refused
pub handed-counts : (old new : List ℤ) (n : ℕ) (e : Bool) (t m : Model.Session world) → 1 ≤ length old / 4 → ◌≡◌ {A = Model.Outcome world} (handed n e new, t) (step world (handOut old) m) → Counted m t n (not e)
handed-counts old new n e t m room h =
    let p = page-handed old new n e t m h in
    let k = length old / 4 in
    record {
      sum = rw (p.count, p.session) (page-sum k m);
      last = λ f. rw p.session (page-last k m (sym p.more ∙ f));
      less = λ f. rw p.session (page-less k room m (sym p.more ∙ f));
    }

-- one that is refused
pub refused_counts : (old : List ℤ) (a : Model.Answer world) (t m : Model.Session world) → is_handed a ≡ false → ◌≡◌ {A = Model.Outcome world} (a, t) (step world (handOut old) m) → Counted m t 0 false
refused_counts old a t (early p) e h = let s : t ≡ early p = ap (λ (o : Model.Outcome world). o.1) h in rw s (record { sum = refl; last = λ f. refl; less = λ f. absurd (let z : ◌≡◌ {A = ℕ} 0 1 = cc in omega arith) })
refused_counts old a t (walking j ended o) e h =
    let s : t ≡ walking j ended o = ap (λ (o : Model.Outcome world). o.1) h in rw s (record { sum = refl; last = λ f. refl; less = λ f. absurd (let z : ◌≡◌ {A = ℕ} 0 1 = cc in omega arith) })
refused_counts old a t (walking j (at p) o) e h =
    let f : is_handed a ≡ true = ap (λ (o : Model.Outcome world). is_handed o.0) h in
    absurd (let z : false ≡ true = sym e ∙ f in let y : ◌≡◌ {A = ℕ} 0 1 = cc in omega arith)

-- ---- a number kept in two words, and one more
module _ (B : ℕ) (some : 0 < B) (x n : ℕ) where
  abbrev kept : ℕ
  kept = x / B % B * B + x % B

  whole : x + n ≡ x / B * B + (x % B + n)
  whole = let e = div-add-mod' x B in omega arith

  part : kept + n ≡ x / B % B * B + (x % B + n)
  part = omega arith

  lower : (kept + n) % B ≡ (x + n) % B
  lower = ap (λ (t : ℕ). t % B) part ∙ mul-add-mod_self_right (x / B % B) B (x % B + n) ∙ sym (ap (λ (t : ℕ). t % B) whole ∙ mul-add-mod_self_right (x / B) B (x % B + n))

  upper : (kept + n) / B % B ≡ (x + n) / B % B
  upper =
      ap (λ (t : ℕ). t / B % B) part ∙ ap (λ (t : ℕ). t % B) (mul-add-div_right some (x / B % B) (x % B + n)) ∙ mod-add-mod (x / B) B ((x % B + n) / B)
      ∙ sym (ap (λ (t : ℕ). t / B % B) whole ∙ ap (λ (t : ℕ). t % B) (mul-add-div_right some (x / B) (x % B + n)))

pub wrapped-more : (s : Size) (x n : ℕ) → s ≡ wrapped x → wrapped (size_of s + n) ≡ wrapped (x + n)
unfolding size_of wrapped
wrapped-more s x n e = rw e (λ i. record { hi = upper (2 ^ 64) (lit≤ tt) x n i; lo = lower (2 ^ 64) (lit≤ tt) x n i })
