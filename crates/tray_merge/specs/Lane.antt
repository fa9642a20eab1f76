-- A lane: the next points of one job, the first of them queued.
use Rattle.std.specs.Prelude.{◌≡◌, refl, List, [], ◌∷◌, ◌++◌, ℕ, zero, suc, ◌+◌, ◌-◌, ◌*◌, ◌≤◌, ◌<◌, ℤ, pos, length, take, drop, get_or}
use Rattle.std.proofs.Common.{sym, ap, ap₂, ◌∙◌, append_assoc, arith, length-take, length-append, take-append-drop, get_or-append-add, get_or-take, get_or-drop}
use Rattle.std.proofs.Math.Nat.{min-le_left}
use Rattle.std.proofs.Math.Decide.{dec_lt}
use Rattle.std.proofs.Math.ListN.{get_or-append}
use Rattle.std.proofs.Math.Seq.{drop-nil}
use Rattle.ring.specs.declared.Point.{Point}
use Rattle.region.specs.declared.Job.{Job}
use Rattle.ranks.specs.Rest.{Place, at, ended, place_of, left_at}
use Rattle.ranks.proofs.Rest.{left-place}
use Rattle.ranks.specs.Rank.{top}
use Rattle.ranks.specs.Handed.{Gave, flat}
use Rattle.ring_points.specs.Points.{rank-point}
use Rattle.cuts.specs.Digits.{span}
use Rattle.walk_list.specs.Walk.{point_of, rank_of, numbers_in, listed_at}

-- the point at a place of the queue
abbrev pub point_ranked : List ℤ → ℕ → Point
point_ranked q k = record { a = get_or q k (pos 0); b = get_or q (k + 1) (pos 0); c = get_or q (k + 2) (pos 0); d = get_or q (k + 3) (pos 0) }

-- what is left of a job's list at a place
abbrev pub left_of : Job → Place → List ℕ
left_of j w = left_at (listed_at j) (top span) w

-- n points of the queue, from place k on
unfoldable pub ranks_in : List ℤ → ℕ → ℕ → List ℕ
ranks_in q k zero = []
ranks_in q k (suc n) = rank_of (point_ranked q k) ∷ ranks_in q (k + 4) n

-- lane number j: its points number a to e, which are queued, and then those that its walk has from w on
abbrev pub content : Job → List ℤ → ℕ → ℕ → ℕ → Place → List ℕ
content J q j a e w = ranks_in q (2048 * j + 4 * a) (e - a) ++ left_of J w

-- the first of those that are queued
abbrev pub front_of : List ℤ → ℕ → ℕ → ℕ → Place
front_of q j a e = place_of (ranks_in q (2048 * j + 4 * a) (e - a))

ranks_next : (q : List ℤ) (j a e : ℕ) → a < e → ranks_in q (2048 * j + 4 * a) (e - a) ≡ rank_of (point_ranked q (2048 * j + 4 * a)) ∷ ranks_in q (2048 * j + 4 * (a + 1)) (e - (a + 1))
unfolding ranks_in
ranks_next q j a e h =
    let m : e - a ≡ suc (e - (a + 1)) = omega arith in
    let k : 2048 * j + 4 * a + 4 ≡ 2048 * j + 4 * (a + 1) = omega arith in
    ap (ranks_in q (2048 * j + 4 * a)) m ∙ ap (λ (i : ℕ). rank_of (point_ranked q (2048 * j + 4 * a)) ∷ ranks_in q i (e - (a + 1))) k

ranks_none : (q : List ℤ) (k a e : ℕ) → e ≤ a → ranks_in q k (e - a) ≡ []
unfolding ranks_in
ranks_none q k a e h = let m : e - a ≡ 0 = omega arith in ap (ranks_in q k) m

pub front-live : (q : List ℤ) (j a e : ℕ) → a < e → at (rank_of (point_ranked q (2048 * j + 4 * a))) ≡ front_of q j a e
front-live q j a e h = sym (ap place_of (ranks_next q j a e h))

pub front-none : (q : List ℤ) (j a e : ℕ) → e ≤ a → ended ≡ front_of q j a e
front-none q j a e h = sym (ap place_of (ranks_none q (2048 * j + 4 * a) a e h))

module _ (J : Job) (q : List ℤ) (j a e : ℕ) (w : Place) where
  content-next : a < e → content J q j a e w ≡ rank_of (point_ranked q (2048 * j + 4 * a)) ∷ content J q j (a + 1) e w
  content-next h = ap (λ (l : List ℕ). l ++ left_of J w) (ranks_next q j a e h)

  pub content-spent : e ≤ a → content J q j a e w ≡ left_of J w
  content-spent h = ap (λ (l : List ℕ). l ++ left_of J w) (ranks_none q (2048 * j + 4 * a) a e h)

  -- a front is where the lane goes on, unless the queue is at its end
  pub content-front : a < e → front_of q j a e ≡ place_of (content J q j a e w)
  content-front l = sym (front-live q j a e l) ∙ sym (ap place_of (content-next l))

  -- behind its front
  pub content-behind : (r : ℕ) (l : List ℕ) → front_of q j a e ≡ at r → content J q j a e w ≡ r ∷ l → content J q j (a + 1) e w ≡ l
  content-behind r l f c = go (dec_lt a e)
    where
      go : Dec (a < e) → content J q j (a + 1) e w ≡ l
      go (yes h) = let both = sym (content-next h) ∙ c in cc
      go (no n) = let u : ended ≡ at r = front-none q j a e (omega arith) ∙ f in let z : ◌≡◌ {A = ℕ} 0 1 = cc in absurd (omega arith)

-- ---- the queue of another lane is as it was
pub record Elsewhere (j : ℕ) (q q' : List ℤ) : Type 0 where
  pub before : (k : ℕ) → k < 2048 * j → get_or q' k (pos 0) ≡ get_or q k (pos 0)
  pub behind : (k : ℕ) → 2048 * j + 2048 ≤ k → get_or q' k (pos 0) ≡ get_or q k (pos 0)

ranks_same : (q q' : List ℤ) (s n : ℕ) → ((k : ℕ) → s ≤ k → k < s + 4 * n → get_or q' k (pos 0) ≡ get_or q k (pos 0)) → ranks_in q' s n ≡ ranks_in q s n
unfolding ranks_in
ranks_same q q' s zero h = refl
ranks_same q q' s (suc n) h =
    let p : point_ranked q' s ≡ point_ranked q s =
    λ x. record {
      a = h s (omega arith) (omega arith) x;
      b = h (s + 1) (omega arith) (omega arith) x;
      c = h (s + 2) (omega arith) (omega arith) x;
      d = h (s + 3) (omega arith) (omega arith) x;
    } in
    ap₂ ◌∷◌ (ap rank_of p) (ranks_same q q' (s + 4) n (λ k a b. h k (omega arith) (omega arith)))

module _ (i j : ℕ) (q q' : List ℤ) (e : Elsewhere i q q') (other : i ≡ j → ⊥) where
  number-there : (k : ℕ) → 2048 * j ≤ k → k < 2048 * j + 2048 → get_or q' k (pos 0) ≡ get_or q k (pos 0)
  number-there k a b = go (dec_lt i j)
    where
      go : Dec (i < j) → get_or q' k (pos 0) ≡ get_or q k (pos 0)
      go (yes l) = e.behind k (omega arith)
      go (no m) = let l : j < i = less (dec_lt j i) in e.before k (omega arith)
        where
          less : Dec (j < i) → j < i
          less (yes l) = l
          less (no f) = let same : i ≡ j = omega arith in absurd (other same)

  pub content-there : (J : Job) (a b : ℕ) (w : Place) → a ≤ b → b ≤ 512 → content J q' j a b w ≡ content J q j a b w
  content-there J a b w h few =
      ap (λ (l : List ℕ). l ++ left_of J w) (ranks_same q q' (2048 * j + 4 * a) (b - a) (λ k x y. number-there k (omega arith) (omega arith)))

-- ---- a lane is filled
-- points that were written are read back
ranks_flat : (l : List ℕ) (pre rest : List ℤ) (s : ℕ) → length pre ≡ s → ranks_in (pre ++ (flat numbers_in l ++ rest)) s (length l) ≡ l
unfolding ranks_in
ranks_flat [] pre rest s e = refl
ranks_flat (r ∷ l) pre rest s e =
    let tail = flat numbers_in (r ∷ l) ++ rest in
    let at_of : (k : ℕ) → get_or (pre ++ tail) (s + k) (pos 0) ≡ get_or tail k (pos 0) = λ k. rw (← e) (get_or-append-add pre tail k (pos 0)) in
    let z : s + 0 ≡ s = omega arith in
    let p : point_ranked (pre ++ tail) s ≡ point_of r =
    λ x. record {
      a = (ap (λ (k : ℕ). get_or (pre ++ tail) k (pos 0)) (sym z) ∙ at_of 0) x;
      b = at_of 1 x;
      c = at_of 2 x;
      d = at_of 3 x;
    } in
    let split : pre ++ tail ≡ (pre ++ numbers_in r) ++ (flat numbers_in l ++ rest) = sym (append_assoc pre (numbers_in r) (flat numbers_in l ++ rest)) in
    let long : length (pre ++ numbers_in r) ≡ s + 4 = length-append pre (numbers_in r) ∙ ap (λ (n : ℕ). n + 4) e in
    ap₂ ◌∷◌ (ap rank_of p ∙ rank-point r) (ap (λ (q : List ℤ). ranks_in q (s + 4) (length l)) split ∙ ranks_flat l (pre ++ numbers_in r) rest (s + 4) long)

stays : (j : Job) (n : ℕ) (w : Place) → left_of j (place_of (drop n (left_of j w))) ≡ drop n (left_of j w)
stays j n (at p) = left-place (listed_at j) (top span) n p
stays j n ended = rw (drop-nil {A = ℕ} n)

none-taken : (n : ℕ) (l : List ℕ) → 0 < n → 0 ≡ length (take n l) → drop n l ≡ []
none-taken zero l h e = absurd (omega arith)
none-taken (suc n) [] h e = refl
none-taken (suc n) (x ∷ l) h e = absurd (omega arith)

module _ (J : Job) (from : Place) (n s : ℕ) (old new pre post : List ℤ) (count : ℕ) (w : Place) (g : Gave numbers_in 4 (left_of J from) old n count new w) (e : length pre ≡ s) where
  abbrev ps : List ℕ
  ps = left_of J from

  abbrev queue : List ℤ
  queue = pre ++ (new ++ post)

  goes_on : left_of J w ≡ drop n ps
  goes_on = ap (left_of J) g.place ∙ stays J n from

  pub filled_content : (j : ℕ) → s ≡ 2048 * j → content J queue j 0 count w ≡ left_of J from
  filled_content j i =
      let d = drop (4 * length (take n ps)) old in
      let split : new ++ post ≡ flat numbers_in (take n ps) ++ (d ++ post) = ap (λ (l : List ℤ). l ++ post) g.slice ∙ append_assoc (flat numbers_in (take n ps)) d post in
      let k : 2048 * j + 4 * 0 ≡ s = omega arith in
      let m : count - 0 ≡ length (take n ps) = let c = g.count in omega arith in
      ap₂ ◌++◌
      (ap₂ (ranks_in queue) k m ∙ ap (λ (l : List ℤ). ranks_in (pre ++ l) s (length (take n ps))) split ∙ ranks_flat (take n ps) pre (d ++ post) s e)
      goes_on
      ∙ take-append-drop n ps

  pub filled_few : n ≤ 512 → count ≤ 512
  filled_few h = omega (arith, g.count, length-take n ps, min-le_left n (length ps))

  pub filled_none : 0 < n → 0 ≡ count → w ≡ ended
  filled_none h c = g.place ∙ ap place_of (none-taken n ps h (c ∙ g.count))

  -- the rest of the queue is as it was
  pub filled_elsewhere : (i : ℕ) (q : List ℤ) → s ≡ 2048 * i → n ≤ 512 → length new ≡ 4 * n → pre ≡ take s q → post ≡ drop (s + 4 * n) q → s + 4 * n ≤ length q → Elsewhere i q queue
  filled_elsewhere i q is few long a b fits =
      record {
        before = λ k h. get_or-append pre (new ++ post) (pos 0) k (omega arith) ∙ ap (λ (l : List ℤ). get_or l k (pos 0)) a ∙ get_or-take s q k (pos 0) (omega arith);
        behind = λ k h.
            let m = k - (s + 4 * n) in
            let x : k ≡ length (pre ++ new) + m = omega (arith, length-append pre new) in
            let y : s + 4 * n + m ≡ k = omega arith in
            ap (λ (l : List ℤ). get_or l k (pos 0)) (sym (append_assoc pre new post))
            ∙ ap (λ (z : ℕ). get_or ((pre ++ new) ++ post) z (pos 0)) x
            ∙ get_or-append-add (pre ++ new) post m (pos 0)
            ∙ ap (λ (l : List ℤ). get_or l m (pos 0)) b
            ∙ get_or-drop (s + 4 * n) q m (pos 0)
            ∙ ap (λ (z : ℕ). get_or q z (pos 0)) y;
      }
