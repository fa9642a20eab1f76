-- A hand-out's outcome is a page: by the three kinds of sessions.
use Rattle.std.specs.Prelude.{◌≡◌, Bool, true, false, ℕ, ◌-◌, ◌*◌, ◌/◌, ◌≤◌, ◌<◌, ℤ, drop}
use Rattle.std.proofs.Math.Path.{refl, ap}
use Rattle.std.proofs.Common.{sym, ap₂, ◌∙◌, arith, length-drop}
use Rattle.std.proofs.Math.Bool.{not}
use mathlib.Core.List.{List, [], ◌∷◌}
use Rattle.std.proofs.Math.Nat.{min-le_left}
use Rattle.std.proofs.Math.ListN.{length, take, length-take}
use Rattle.ranks.specs.Rest.{at, ended, is_nil, rest, left_at}
use Rattle.ranks.proofs.Rest.{left-place}
use Rattle.ranks.specs.Rank.{top}
use Rattle.ranks.specs.Handed.{put}
use Rattle.ranks.proofs.Handed.{take_put}
use Rattle.cuts.specs.Digits.{span}
use Rattle.walk_list.specs.Walk.{listed_at, numbers_in}
use Rattle.session_model.specs.Session.{handOut, refused, taken, handed, done, says, best, early, walking, step}
use Rattle.session_model.specs.Session as Model
use Rattle.session_stages.specs.World.{world}
use Rattle.list_lines.specs.Lines.{lines_of}
use Rattle.session_stages.specs.Session.{scale_of}
use Rattle.list_pages.specs.Page.{Paging, page_of}

abbrev pub is_handed : Model.Answer world → Bool
is_handed (refused r) = false
is_handed (taken n) = false
is_handed (handed n e l) = true
is_handed done = false
is_handed (says b) = false
is_handed (best b) = false

first : {o q : Model.Outcome world} → o ≡ q → o.0 ≡ q.0
first e = ap (λ (o : Model.Outcome world). o.0) e

clash : {P : Type 0} {a b : Model.Answer world} → is_handed a ≡ false → is_handed b ≡ true → a ≡ b → P
clash f g e = absurd (let z : false ≡ true = sym f ∙ ap is_handed e ∙ g in let y : ◌≡◌ {A = ℕ} 0 1 = cc in omega arith)

-- a hand-out that is not refused: the page's parts, and the lines of its points
pub record Handing (n : ℕ) (e : Bool) (new : List ℤ) (m t : Model.Session world) (space : ℕ) (p : Paging) : Type 0 where
  pub session : t ≡ p.session
  pub count : n ≡ p.count
  pub more : not e ≡ p.more
  pub text : lines_of (scale_of m) (take (4 * n) new) ≡ p.text
  pub fits : n ≤ space

module _ (old new : List ℤ) (n : ℕ) (e : Bool) (t : Model.Session world) where
  pub page-handed : (m : Model.Session world) → ◌≡◌ {A = Model.Outcome world} (handed n e new, t) (step world (handOut old) m) → Handing n e new m t (length old / 4) (page_of (length old / 4) m)
  unfolding page_of
  page-handed (early p) h = clash refl refl (sym (first h))
  page-handed (walking j ended o) h = clash refl refl (sym (first h))
  page-handed (walking j (at p) o) h =
      let left = rest (listed_at j) (top span) p in
      let k = length old / 4 in
      let ps = take k left in
      let a : handed n e new ≡ handed (length ps) (is_nil (drop k left)) (put numbers_in 4 ps old) = first h in
      let count : n ≡ length ps = cc in
      let end : e ≡ is_nil (drop k left) = cc in
      let slice : new ≡ put numbers_in 4 ps old = cc in
      record {
        session = ap (λ (q : Model.Outcome world). q.1) h;
        count = count;
        more = ap not end;
        text = ap (lines_of j.k) (ap₂ (λ (i : ℕ) (l : List ℤ). take (4 * i) l) count slice ∙ take_put numbers_in 4 (λ r. refl) ps old);
        fits = rw (count, length-take k left) (min-le_left k (length left));
      }

-- one that is refused: nothing, and the session as it was
pub record Nothing (m : Model.Session world) (p : Paging) : Type 0 where
  pub session : m ≡ p.session
  pub count : 0 ≡ p.count
  pub more : false ≡ p.more
  pub text : [] ≡ p.text

module _ (old : List ℤ) (a : Model.Answer world) (t : Model.Session world) (not-handed : is_handed a ≡ false) where
  pub page-nothing : (m : Model.Session world) → ◌≡◌ {A = Model.Outcome world} (a, t) (step world (handOut old) m) → Nothing m (page_of (length old / 4) m)
  unfolding page_of
  page-nothing (early p) h = record { session = refl; count = refl; more = refl; text = refl }
  page-nothing (walking j ended o) h = record { session = refl; count = refl; more = refl; text = refl }
  page-nothing (walking j (at p) o) h = clash not-handed refl (first h)

-- ---- what is left after a page, where more is to come
abbrev pub left_of : Model.Session world → ℕ
left_of (early p) = 0
left_of (walking j w o) = length (left_at (listed_at j) (top span) w)

shorter : (k : ℕ) (l : List ℕ) → 1 ≤ k → not (is_nil (drop k l)) ≡ true → length (drop k l) < length l
shorter k l h e = go (drop k l) (length-drop k l) e
  where
    go : (r : List ℕ) → length r ≡ length l - k → not (is_nil r) ≡ true → length r < length l
    go [] f g = absurd (let y : ◌≡◌ {A = ℕ} 0 1 = cc in omega arith)
    go (x ∷ r) f g = omega arith

pub page-less : (room : ℕ) → 1 ≤ room → (m : Model.Session world) → (page_of room m).more ≡ true → left_of (page_of room m).session < left_of m
unfolding page_of
page-less room h (early p) e = absurd (let y : ◌≡◌ {A = ℕ} 0 1 = cc in omega arith)
page-less room h (walking j ended o) e = absurd (let y : ◌≡◌ {A = ℕ} 0 1 = cc in omega arith)
page-less room h (walking j (at p) o) e = rw (left-place (listed_at j) (top span) room p) (shorter room (rest (listed_at j) (top span) p) h e)
