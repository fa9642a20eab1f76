-- The lanes of a tray's regions, and where the tray's list goes on.
use Rattle.ring.specs.declared.Point.{Point}
use Rattle.std.specs.Prelude.{◌≡◌, refl, Bool, true, false, cond, ◌⊎◌, ℕ, zero, suc, ◌+◌, ◌*◌, ◌^◌, ◌≤◌, ◌<◌, ℤ, pos, length, get_or, set, drop, replicate, Option, Some, None, Ok}
use Rattle.std.proofs.Common.{sym, ap, ap₂, subst, ◌∙◌, inl, inr, ⊎_elim, add-zero, add-one, arith, length-set, get_or-set_same, get_or-set_other, eqb-true}
use mathlib.Core.List.{List, [], ◌∷◌, Memᴰ}
use Rattle.std.proofs.Math.Nat.{min-le_right}
use Rattle.std.proofs.Math.Decide.{dec_lt}
use Rattle.std.proofs.lemmas.List.{get_or-replicate}
use Rattle.std.proofs.Math.Seq.{drop-nil}
use Rattle.region.specs.declared.Job.{Job}
use Rattle.region.specs.declared.Region.TheVariants as Shape
use Rattle.ranks.specs.Rest.{Place, at, ended, place_of, left_at, rest}
use Rattle.ranks.proofs.Rest.{rest-hit, rest-miss, rest-skip, next-drop, next-below}
use Rattle.ranks.specs.Rank.{top}
use Rattle.ranks.proofs.Members.{rest-sound, rest-complete}
use Rattle.cuts.specs.Digits.{span}
use Rattle.walk_list.specs.Walk.{listed_at, rank_of, spot_of}
use Rattle.walk_list.specs.Walk as One
use Rattle.tray_list.specs.declared.Tray.{Tray}
use Rattle.tray_list.specs.Tray.{some, bits, job_at, holds, size, any_at, mask_at, left}
use Rattle.tray_list.proofs.Bits.{some_of}
use Rattle.tray_list.specs.Nearer.{nearer, is_at, at-hit, place-either, none_left}
use Rattle.cuts.specs.declared.Bounds.{Bounds}
use Rattle.cuts.specs.declared.Cut.{Cut}
use Rattle.cuts.specs.declared.Strip.{Strip}
use Rattle.walk.specs.Prepared.{job_of, Prepares}
use Rattle.tray_merge.specs.declared.lanes.Source.{Source}
use Rattle.tray_merge.specs.declared.lanes.Mark.{Mark}
use Rattle.tray_merge.specs.Past.{past, Past, past_is, past_near, past-left, past-not_at, past_all, Near, nearest_of, nearest_same, nearest_more, nearest_none, left_out, left-out-on}
use Rattle.tray_merge.specs.Lane.{left_of, content, front_of, front-none, content-front, content-behind, content-spent, Elsewhere, content-there}

-- what is read beyond an array's end
abbrev pub no_mark : Mark
no_mark = record { spot = None }

abbrev pub no_source : Source
no_source =
    let r = Shape.Rectangle (record { n = 0; xl = pos 0; xh = pos 0; yl = pos 0; yh = pos 0 }) in
    let j : Job = record { k = 0; all = false; a = r; b = r } in
    let c : Cut = record { p = pos 0; q = pos 0; a = pos 0; b = pos 0; c = pos 0; d = pos 0 } in
    let s : Strip = record { low = c; high = c } in
    let n : Bounds = record { job = j; a = s; ea = s; eb = s; a2 = s; b3 = s; b = s; b2 = s; ya = s; yb = s; yc = s; xa = s; xb = s } in
    record { job = j; near = false; walk = Ok n }

abbrev pub source_at : List Source → ℕ → Source
source_at ls i = get_or ls i no_source

-- where the walk of lane number i goes on
abbrev pub mark_at : List Mark → ℕ → Place
mark_at ws i = spot_of (get_or ws i no_mark).spot

-- a job's source: ready if it is near
pub record Made (j : Job) (s : Source) : Type 0 where
  pub job : s.job ≡ j
  pub ready : s.near ≡ true → (job_of s.walk ≡ j) × Prepares s.walk

pub made-own : (j : Job) (s : Source) → Made j s → Made s.job s
made-own j s m = record { job = refl; ready = λ n. let r = m.ready n in (r.0 ∙ sym m.job, r.1) }

-- the sources of the regions' jobs
abbrev pub Ready : Tray → List Source → Type 0
Ready t ls = (i : ℕ) → i < size t → Made (job_at t i) (source_at ls i)

-- marks with what is left of each region's list at a place
abbrev pub Floors : Tray → Place → List Mark → Type 0
Floors t w ws = (i : ℕ) → i < size t → left_of (job_at t i) (mark_at ws i) ≡ left_of (job_at t i) w

-- the front of lane number i
abbrev pub front_at : List ℤ → List ℕ → List ℕ → ℕ → Place
front_at q xs es i = front_of q i (get_or xs i 0) (get_or es i 0)

-- every lane's place is at most its queue's end, and that is at most what a queue has room for
abbrev pub Within : ℕ → List ℕ → List ℕ → Type 0
Within n xs es = (i : ℕ) → i < n → (get_or xs i 0 ≤ get_or es i 0) × (get_or es i 0 ≤ 512)

-- all lanes behind the point of rank r: which had it as their front, where they are, and the nearest front
pub record Stepped (q : List ℤ) (xs xs' es : List ℕ) (n r m : ℕ) (w : Place) : Type 0 where
  pub long : length xs' ≡ 8
  pub mask : m ≡ bits n (λ i. is_at (front_at q xs es i) r)
  pub moved : (i : ℕ) → i < n → get_or xs' i 0 ≡ get_or xs i 0 + cond (is_at (front_at q xs es i) r) 1 0
  pub within : Within n xs' es
  pub next : w ≡ nearest_of n (front_at q xs' es)

-- what lane number i has
abbrev pub content_at : (ℕ → Job) → List ℤ → List ℕ → List ℕ → List Mark → ℕ → List ℕ
content_at J q xs es ws i = content (J i) q i (get_or xs i 0) (get_or es i 0) (mark_at ws i)

-- where a lane is at its queue's end, its walk goes on past a place
abbrev pub Told : ℕ → List ℕ → List ℕ → List Mark → Place → Type 0
Told n xs es ws w = (i : ℕ) → i < n → get_or xs i 0 ≡ get_or es i 0 → past (mark_at ws i) w ≡ true

-- the same as an order
abbrev pub Told' : ℕ → List ℕ → List ℕ → List Mark → Place → Type 0
Told' n xs es ws w = (i : ℕ) → i < n → get_or xs i 0 ≡ get_or es i 0 → Past (mark_at ws i) w

-- every lane has what it had
pub record Refilled (J : ℕ → Job) (n : ℕ) (q : List ℤ) (xs es : List ℕ) (ws : List Mark) (w : Place) (q' : List ℤ) (xs' es' : List ℕ) (ws' : List Mark) : Type 0 where
  pub long : (length xs' ≡ 8) × (length es' ≡ 8)
  pub same : (i : ℕ) → i < n → content_at J q' xs' es' ws' i ≡ content_at J q xs es ws i
  pub within : Within n xs' es'
  pub told : Told n xs' es' ws' w

-- ---- the lanes at a rank
-- each has what is left of its region's list
abbrev pub Has : Tray → (ℕ → Job) → ℕ → List ℤ → List ℕ → List ℕ → List Mark → Type 0
Has t J p q xs es ws = (i : ℕ) → i < size t → content_at J q xs es ws i ≡ One.left (job_at t i) p

-- and a front, unless its walk goes on behind the rank
pub record Lanes (t : Tray) (J : ℕ → Job) (p : ℕ) (q : List ℤ) (xs es : List ℕ) (ws : List Mark) : Type 0 where
  pub has : Has t J p q xs es ws
  pub within : Within (size t) xs es
  pub told : Told' (size t) xs es ws (at p)

-- the same at the point where the walk stands
abbrev pub Stands : Tray → (ℕ → Job) → Option Point → List ℤ → List ℕ → List ℕ → List Mark → Type 0
Stands t J (Some v) q xs es ws = Lanes t J (rank_of v) q xs es ws
Stands t J None q xs es ws = Unit {0}

-- where the list of the first i regions begins
abbrev first_of : Tray → ℕ → ℕ → Place
first_of t i p = place_of (rest (λ r. some i (holds t r)) (top span) p)

first-is : (t : Tray) (i p : ℕ) → nearest_of i (λ j. place_of (One.left (job_at t j) p)) ≡ first_of t i p
unfolding some nearest_of
first-is t zero p = sym (ap place_of (none_left (λ r. some 0 (holds t r)) (top span) (λ r. refl) p))
first-is t (suc i) p =
    ap (λ (w : Place). nearer w (place_of (One.left (job_at t i) p))) (first-is t i p) ∙ sym (place-either (λ r. some i (holds t r)) (listed_at (job_at t i)) (top span) p)

-- a lane's front is where its list begins, unless it is at its queue's end
module _ (t : Tray) (J : ℕ → Job) (p : ℕ) (q : List ℤ) (xs es : List ℕ) (ws : List Mark) (has : Has t J p q xs es ws) (within : Within (size t) xs es) where
  abbrev begins : ℕ → Place
  begins i = place_of (One.left (job_at t i) p)

  front-is : (i : ℕ) → i < size t → (front_at q xs es i ≡ begins i) ⊎ ((front_at q xs es i ≡ ended) × (get_or xs i 0 ≡ get_or es i 0))
  front-is i b = go (dec_lt (get_or xs i 0) (get_or es i 0))
    where
      go : Dec (get_or xs i 0 < get_or es i 0) → (front_at q xs es i ≡ begins i) ⊎ ((front_at q xs es i ≡ ended) × (get_or xs i 0 ≡ get_or es i 0))
      go (yes l) = inl (content-front (J i) q i (get_or xs i 0) (get_or es i 0) (mark_at ws i) l ∙ ap place_of (has i b))
      go (no n) = let m = (within i b).0 in inr (sym (front-none q i (get_or xs i 0) (get_or es i 0) (omega arith)), omega arith)

  -- and then that is past what its mark is past
  begins-past : (i : ℕ) → i < size t → get_or xs i 0 ≡ get_or es i 0 → (v : Place) → Past (mark_at ws i) v → Past (begins i) v
  begins-past i b e v h =
      let s : left_of (J i) (mark_at ws i) ≡ One.left (job_at t i) p = sym (content-spent (J i) q i (get_or xs i 0) (get_or es i 0) (mark_at ws i) (omega arith)) ∙ has i b in
      subst (λ (l : List ℕ). Past (place_of l) v) s (past-left (listed_at (J i)) (top span) (mark_at ws i) v h)

  -- no front comes before the place where the tray's list goes on
  pub fronts_on : Near (place_of (left t p)) (nearest_of (size t) (front_at q xs es))
  fronts_on =
      subst (λ (v : Place). Near v (nearest_of (size t) (front_at q xs es))) (first-is t (size t) p)
      (left-out-on (front_at q xs es) begins (size t) (λ i b. ⊎_elim inl (λ k. inr k.0) (front-is i b)))

  -- the nearest front is that place, if the lanes without a front go on past it
  pub nearest_is : Told' (size t) xs es ws (place_of (left t p)) → nearest_of (size t) (front_at q xs es) ≡ place_of (left t p)
  nearest_is told =
      left_out (front_at q xs es) begins (place_of (left t p)) (size t) (first-is t (size t) p)
      (λ i b. ⊎_elim inl (λ k. inr (k.0, begins-past i b k.1 (place_of (left t p)) (told i b k.1))) (front-is i b))

-- past a place, and so past a nearer one
pub told-near : (n : ℕ) (xs es : List ℕ) (ws : List Mark) (w v : Place) → Near v w → Told n xs es ws w → Told' n xs es ws v
told-near n xs es ws w v h f i b e = past_near (mark_at ws i) w v (past_is (mark_at ws i) w (f i b e)) h

-- all marks are past a place
pub told-all : (n : ℕ) (xs es : List ℕ) (ws : List Mark) (m w v : Place) → Near v w → m ≡ nearest_of n (mark_at ws) → past m w ≡ true → Told' n xs es ws v
told-all n xs es ws m w v h e f i b u =
    past_near (mark_at ws i) w v (past_all n (mark_at ws) w (subst (λ (x : Place). Past x w) e (past_is m w f)) i b) h

-- nothing is listed before the next point
module _ (t : Tray) (p r : ℕ) (e : place_of (left t p) ≡ at r) where
  next : left t p ≡ r ∷ left t (suc r)
  next = next-drop (any_at t) (top span) 0 p r e

  none_before : (x : ℕ) → p ≤ x → x < r → (i : ℕ) → i < size t → (b : Bool) → listed_at (job_at t i) x ≡ b → b ≡ false
  none_before x a b i h false f = refl
  none_before x a b i h true f =
      let r-below = next-below (any_at t) (top span) 0 p r e in
      let m : Memᴰ x (left t p) = rest-complete (any_at t) (top span) p x a (omega arith) (some_of (size t) i (holds t x) h f) in
      absurd (⊎_elim (λ u. omega arith) (λ k. let s = rest-sound (any_at t) (top span) (suc r) x k in omega arith) (mathlib.Core.List.Memᴰ.cases_cons (subst (λ l. Memᴰ x l) next m)))

  from_on : p ≤ r
  from_on = (rest-sound (any_at t) (top span) p r (subst (λ l. Memᴰ r l) (sym next) (mathlib.Core.List.Memᴰ.head refl))).0

  same_left : (i : ℕ) → i < size t → One.left (job_at t i) p ≡ One.left (job_at t i) r
  same_left i h = rest-skip (listed_at (job_at t i)) (top span) p r from_on (λ x a b. none_before x a b i h (listed_at (job_at t i) x) refl)

-- so the lanes stand where the walk does
pub stands_on : (t : Tray) (J : ℕ → Job) (p : ℕ) (q : List ℤ) (xs es : List ℕ) (ws : List Mark) (s : Option Point) → spot_of s ≡ place_of (left t p) → Has t J p q xs es ws → Within (size t) xs es → Told' (size t) xs es ws (place_of (left t p))
    → Stands t J s q xs es ws
stands_on t J p q xs es ws (Some v) e h w f = record { has = λ i b. h i b ∙ same_left t p (rank_of v) (sym e) i b; within = w; told = subst (Told' (size t) xs es ws) (sym e) f }
stands_on t J p q xs es ws None e h w f = tt

-- ---- lanes behind a point
bits-same : (n : ℕ) (f g : ℕ → Bool) → ((i : ℕ) → i < n → f i ≡ g i) → bits n f ≡ bits n g
unfolding bits
bits-same zero f g h = refl
bits-same (suc n) f g h = ap₂ (λ (m : ℕ) (b : Bool). m + cond b (2 ^ n) 0) (bits-same n f g (λ i b. h i (omega arith))) (h n (omega arith))

module _ (t : Tray) (J : ℕ → Job) (r : ℕ) (below : r < top span) (q : List ℤ) (xs xs' es : List ℕ) (ws : List Mark) (mask : ℕ) (next : Place) (h : Lanes t J r q xs es ws) (s : Stepped q xs xs' es (size t) r mask next) where
  -- a front tells whether the region lists the point
  tells : (i : ℕ) → i < size t → is_at (front_at q xs es i) r ≡ holds t r i
  tells i b = ⊎_elim (λ e. ap (λ (w : Place). is_at w r) e ∙ hit) (λ k. ap (λ (w : Place). is_at w r) k.0 ∙ sym (past-not_at (place_of (One.left (job_at t i) r)) r (begins-past t J r q xs es ws h.has h.within i b k.1 (at r) (h.told i b k.1))) ∙ hit) (front-is t J r q xs es ws h.has h.within i b)
    where
      hit : is_at (place_of (One.left (job_at t i) r)) r ≡ holds t r i
      hit = at-hit (listed_at (job_at t i)) (top span) r below

  pub step-mask : mask ≡ mask_at t r
  step-mask = s.mask ∙ bits-same (size t) _ _ tells

  is-place : (w : Place) → is_at w r ≡ true → w ≡ at r
  is-place (at p) e = ap at (eqb-true p r e)
  is-place ended e = cc

  has-next : (i : ℕ) → i < size t → (b : Bool) → is_at (front_at q xs es i) r ≡ b → content_at J q xs' es ws i ≡ One.left (job_at t i) (suc r)
  has-next i b true e =
      let l : listed_at (job_at t i) r ≡ true = sym (tells i b) ∙ e in
      let m : get_or xs' i 0 ≡ get_or xs i 0 + 1 = s.moved i b ∙ ap (λ (x : Bool). get_or xs i 0 + cond x 1 0) e in
      let w = mark_at ws i in
      ap (λ (a : ℕ). content (J i) q i a (get_or es i 0) w) m
      ∙ content-behind (J i) q i (get_or xs i 0) (get_or es i 0) w r (One.left (job_at t i) (suc r)) (is-place _ e) (h.has i b ∙ rest-hit (listed_at (job_at t i)) (top span) r below l)
  has-next i b false e =
      let l : listed_at (job_at t i) r ≡ false = sym (tells i b) ∙ e in
      let m : get_or xs' i 0 ≡ get_or xs i 0 = s.moved i b ∙ ap (λ (x : Bool). get_or xs i 0 + cond x 1 0) e ∙ add-zero (get_or xs i 0) in
      ap (λ (a : ℕ). content (J i) q i a (get_or es i 0) (mark_at ws i)) m ∙ h.has i b ∙ rest-miss (listed_at (job_at t i)) (top span) r below l

  pub step-has : Has t J (suc r) q xs' es ws
  step-has i b = has-next i b (is_at (front_at q xs es i) r) refl

-- lanes that were filled
pub refilled : (t : Tray) (J : ℕ → Job) (p : ℕ) (q : List ℤ) (xs es : List ℕ) (ws : List Mark) (w : Place) (q' : List ℤ) (xs' es' : List ℕ) (ws' : List Mark) → Has t J p q xs es ws
    → Refilled J (size t) q xs es ws w q' xs' es' ws' → Has t J p q' xs' es' ws'
refilled t J p q xs es ws w q' xs' es' ws' h f i b = f.same i b ∙ h i b

-- lanes before their first fill: nothing is queued
pub opened_within : (n : ℕ) → n ≤ 8 → Within n (replicate 8 0) (replicate 8 0)
opened_within n l i b = let e = get_or-replicate {A = ℕ} 8 i 0 0 (omega arith) in (omega arith, omega arith)

pub opened_has : (t : Tray) (J : ℕ → Job) (q : List ℤ) (ws : List Mark) (p : ℕ) → ((i : ℕ) → i < size t → J i ≡ job_at t i) → Floors t (at p) ws → Has t J p q (replicate 8 0) (replicate 8 0) ws
opened_has t J q ws p f l i b =
    let few = min-le_right t.count 8 in
    let x = get_or-replicate {A = ℕ} 8 i 0 0 (omega arith) in
    rw x (content-spent (J i) q i 0 0 (mark_at ws i) (omega arith) ∙ ap (λ (j : Job). left_of j (mark_at ws i)) (f i b) ∙ l i b)

-- a place in a list is below the top
pub below_top : (test : ℕ → Bool) (n k q : ℕ) (w : Place) → place_of (drop k (left_at test n w)) ≡ at q → q < n
below_top test n k q (at p) e = next-below test n k p q e
below_top test n k q ended e = let u : ended ≡ at q = sym (ap place_of (drop-nil {A = ℕ} k)) ∙ e in let z : ◌≡◌ {A = ℕ} 0 1 = cc in absurd (omega arith)

-- ---- which regions listed a point
times : (b : Bool) (m : ℕ) → cond b 1 0 * m ≡ cond b m 0
times true m = omega arith
times false m = omega arith

pub bits-more : (i held : ℕ) (f : ℕ → Bool) → held ≡ cond (f i) 1 0 → bits i f + held * 2 ^ i ≡ bits (suc i) f
unfolding bits
bits-more i held f e = ap (λ (x : ℕ). bits i f + x) (ap (λ (h : ℕ). h * 2 ^ i) e ∙ times (f i) (2 ^ i))

pub bits_none : (f : ℕ → Bool) → 0 ≡ bits 0 f
unfolding bits
bits_none f = refl

-- ---- an element that was stored, and the others
module _ {A : Type 0} (P : ℕ → A → Type 0) (l : List A) (j : ℕ) (x d : A) (long : j < length l) where
  pub stored : P j x → ((i : ℕ) → i < j → P i (get_or l i d)) → (i : ℕ) → i < j + 1 → P i (get_or (set l j x) i d)
  stored own f i b = go (dec_lt i j)
    where
      go : Dec (i < j) → P i (get_or (set l j x) i d)
      go (yes m) = subst (P i) (sym (get_or-set_other l j i x d (λ u. omega arith))) (f i m)
      go (no m) = let u : j ≡ i = omega arith in subst (λ (n : ℕ). P n (get_or (set l j x) n d)) u (subst (P j) (sym (get_or-set_same l j x d long)) own)

-- ---- the first j lanes behind the point of rank r
pub record Passed (q : List ℤ) (xs₀ es : List ℕ) (r j : ℕ) (xs : List ℕ) (m : ℕ) (w : Place) : Type 0 where
  pub long : length xs ≡ 8
  pub mask : m ≡ bits j (λ i. is_at (front_at q xs₀ es i) r)
  pub next : w ≡ nearest_of j (front_at q xs es)
  pub moved : (i : ℕ) → i < j → get_or xs i 0 ≡ get_or xs₀ i 0 + cond (is_at (front_at q xs₀ es i) r) 1 0
  pub most : (i : ℕ) → i < j → get_or xs i 0 ≤ get_or es i 0
  pub ahead : (i : ℕ) → j ≤ i → get_or xs i 0 ≡ get_or xs₀ i 0

pub passed_none : (q : List ℤ) (xs es : List ℕ) (r : ℕ) → length xs ≡ 8 → Passed q xs es r 0 xs 0 ended
passed_none q xs es r h =
    record {
      long = h;
      mask = bits_none (λ i. is_at (front_at q xs es i) r);
      next = nearest_none (front_at q xs es);
      moved = λ i b. absurd (omega arith);
      most = λ i b. absurd (omega arith);
      ahead = λ i b. refl;
    }

pub passed-all : (q : List ℤ) (xs₀ es : List ℕ) (r n : ℕ) (xs : List ℕ) (m : ℕ) (w : Place) → Within n xs₀ es → Passed q xs₀ es r n xs m w → Stepped q xs₀ xs es n r m w
passed-all q xs₀ es r n xs m w f h =
    record { long = h.long; mask = h.mask; moved = h.moved; within = λ i b. (h.most i b, (f i b).1); next = h.next }

module _ (q : List ℤ) (xs₀ es : List ℕ) (r j : ℕ) (xs : List ℕ) (m : ℕ) (w : Place) (h : Passed q xs₀ es r j xs m w) (few : j < 8) (x held bit : ℕ) (f : Place) (holds : held ≡ cond (is_at (front_at q xs es j) r) 1 0) (here : x ≡ get_or xs j 0 + held) (most : x ≤ get_or es j 0) (front : f ≡ front_of q j x (get_or es j 0)) (power : bit ≡ 2 ^ j) where
  same-front : front_at q xs es j ≡ front_at q xs₀ es j
  same-front = ap (λ (a : ℕ). front_of q j a (get_or es j 0)) (h.ahead j (omega arith))

  held_first : held ≡ cond (is_at (front_at q xs₀ es j) r) 1 0
  held_first = holds ∙ ap (λ (v : Place). cond (is_at v r) 1 0) same-front

  in_list : j < length xs
  in_list = let l = h.long in omega arith

  other-front : (i : ℕ) → i < j → front_at q xs es i ≡ front_at q (set xs j x) es i
  other-front i b = ap (λ (a : ℕ). front_of q i a (get_or es i 0)) (sym (get_or-set_other xs j i x 0 (λ u. omega arith)))

  own-front : f ≡ front_at q (set xs j x) es j
  own-front = front ∙ ap (λ (a : ℕ). front_of q j a (get_or es j 0)) (sym (get_or-set_same xs j x 0 in_list))

  pub passed-more : Passed q xs₀ es r (j + 1) (set xs j x) (m + held * bit) (nearer w f)
  passed-more =
      let one = add-one j in
      record {
        long = length-set xs j x ∙ h.long;
        mask = ap₂ (λ (a b : ℕ). a + held * b) h.mask power ∙ bits-more j held (λ i. is_at (front_at q xs₀ es i) r) held_first ∙ ap (λ (n : ℕ). bits n (λ i. is_at (front_at q xs₀ es i) r)) (sym one);
        next = ap₂ nearer (h.next ∙ nearest_same j (front_at q xs es) (front_at q (set xs j x) es) other-front) own-front ∙ nearest_more j (front_at q (set xs j x) es) ∙ ap (λ (n : ℕ). nearest_of n (front_at q (set xs j x) es)) (sym one);
        moved = stored (λ i a. a ≡ get_or xs₀ i 0 + cond (is_at (front_at q xs₀ es i) r) 1 0) xs j x 0 in_list (here ∙ ap₂ ◌+◌ (h.ahead j (omega arith)) held_first) h.moved;
        most = stored (λ i a. a ≤ get_or es i 0) xs j x 0 in_list most h.most;
        ahead = λ i b. get_or-set_other xs j i x 0 (λ u. omega arith) ∙ h.ahead i (omega arith);
      }

same? : (i j : ℕ) → Dec (i ≡ j)
same? i j = go (dec_lt i j) (dec_lt j i)
  where
    go : Dec (i < j) → Dec (j < i) → Dec (i ≡ j)
    go (yes h) d = no (λ e. omega arith)
    go (no h) (yes l) = no (λ e. omega arith)
    go (no h) (no l) = yes (omega arith)

-- ---- lanes are filled, one after another
pub record Filling (J : ℕ → Job) (n : ℕ) (q₀ : List ℤ) (xs₀ es₀ : List ℕ) (ws₀ : List Mark) (w : Place) (j : ℕ) (q : List ℤ) (xs es : List ℕ) (ws : List Mark) : Type 0 where
  pub room : length q ≡ 16384
  pub long : (length xs ≡ 8) × (length es ≡ 8) × (length ws ≡ 8)
  pub same : (i : ℕ) → i < n → content_at J q xs es ws i ≡ content_at J q₀ xs₀ es₀ ws₀ i
  pub within : Within n xs es
  pub told : Told j xs es ws w

pub filling_none : (J : ℕ → Job) (n : ℕ) (q : List ℤ) (xs es : List ℕ) (ws : List Mark) (w : Place) → length q ≡ 16384 → (length xs ≡ 8) × (length es ≡ 8) × (length ws ≡ 8) → Within n xs es
    → Filling J n q xs es ws w 0 q xs es ws
filling_none J n q xs es ws w r l h = record { room = r; long = l; same = λ i b. refl; within = h; told = λ i b. absurd (omega arith) }

pub filling_all : (J : ℕ → Job) (n : ℕ) (q₀ : List ℤ) (xs₀ es₀ : List ℕ) (ws₀ : List Mark) (w : Place) (q : List ℤ) (xs es : List ℕ) (ws : List Mark) → Filling J n q₀ xs₀ es₀ ws₀ w n q xs es ws
    → Refilled J n q₀ xs₀ es₀ ws₀ w q xs es ws
filling_all J n q₀ xs₀ es₀ ws₀ w q xs es ws h = record { long = (h.long.0, h.long.1); same = h.same; within = h.within; told = h.told }

module _ (J : ℕ → Job) (n : ℕ) (q₀ : List ℤ) (xs₀ es₀ : List ℕ) (ws₀ : List Mark) (w : Place) (j : ℕ) (q : List ℤ) (xs es : List ℕ) (ws : List Mark) (h : Filling J n q₀ xs₀ es₀ ws₀ w j q xs es ws) where
  -- lane number j is not at its queue's end, or goes on past the place
  pub filling_kept : (get_or xs j 0 ≡ get_or es j 0 → past (mark_at ws j) w ≡ true) → Filling J n q₀ xs₀ es₀ ws₀ w (j + 1) q xs es ws
  filling_kept f = record { room = h.room; long = h.long; same = h.same; within = h.within; told = λ i b. go i b (dec_lt i j) }
    where
      go : (i : ℕ) → i < j + 1 → Dec (i < j) → get_or xs i 0 ≡ get_or es i 0 → past (mark_at ws i) w ≡ true
      go i b (yes m) = h.told i m
      go i b (no m) = let u : j ≡ i = omega arith in subst (λ (k : ℕ). get_or xs k 0 ≡ get_or es k 0 → past (mark_at ws k) w ≡ true) u f

  -- it is, and is filled
  module _ (in-tray : j < n) (few : j < 8) (spent : get_or xs j 0 ≡ get_or es j 0) (q' : List ℤ) (count : ℕ) (s : Option Point) (else : Elsewhere j q q') (sized : length q' ≡ 16384) (now : content (J j) q' j 0 count (spot_of s) ≡ left_of (J j) (mark_at ws j)) (most : count ≤ 512) (over : 0 ≡ count → spot_of s ≡ ended) where
    abbrev mark : Mark
    mark = record { spot = s }

    abbrev xs' : List ℕ
    xs' = set xs j 0

    abbrev es' : List ℕ
    es' = set es j count

    abbrev ws' : List Mark
    ws' = set ws j mark

    lx : get_or xs' j 0 ≡ 0
    lx = let l = h.long in get_or-set_same xs j 0 0 (omega arith)

    le : get_or es' j 0 ≡ count
    le = let l = h.long in get_or-set_same es j count 0 (omega arith)

    lw : get_or ws' j no_mark ≡ mark
    lw = let l = h.long in get_or-set_same ws j mark no_mark (omega arith)

    own : content_at J q' xs' es' ws' j ≡ content (J j) q' j 0 count (spot_of s)
    own = rw (lx, le, lw) refl

    -- another lane
    other : (i : ℕ) → i < n → (j ≡ i → ⊥) → content_at J q' xs' es' ws' i ≡ content_at J q xs es ws i
    other i b f =
        let w = h.within i b in
        rw (get_or-set_other xs j i 0 0 (λ u. f (sym u)), get_or-set_other es j i count 0 (λ u. f (sym u)), get_or-set_other ws j i mark no_mark (λ u. f (sym u)))
        (content-there j i q q' else f (J i) (get_or xs i 0) (get_or es i 0) (mark_at ws i) w.0 w.1)

    pub filling_more : Filling J n q₀ xs₀ es₀ ws₀ w (j + 1) q' xs' es' ws'
    filling_more =
        let l = h.long in
        record {
          room = sized;
          long = (length-set xs j 0 ∙ l.0, length-set es j count ∙ l.1, length-set ws j mark ∙ l.2);
          same = λ i b. same_at i b (same? j i);
          within = λ i b. within-at i b (same? j i);
          told = λ i b. told_at i b (same? j i);
        }
      where
        same_at : (i : ℕ) → i < n → Dec (j ≡ i) → content_at J q' xs' es' ws' i ≡ content_at J q₀ xs₀ es₀ ws₀ i
        same_at i b (yes u) =
            subst (λ (k : ℕ). content_at J q' xs' es' ws' k ≡ content_at J q₀ xs₀ es₀ ws₀ k) u
            (own ∙ now ∙ sym (content-spent (J j) q j (get_or xs j 0) (get_or es j 0) (spot_of (get_or ws j no_mark).spot) (omega arith)) ∙ h.same j in-tray)
        same_at i b (no f) = other i b f ∙ h.same i b

        within-at : (i : ℕ) → i < n → Dec (j ≡ i) → (get_or xs' i 0 ≤ get_or es' i 0) × (get_or es' i 0 ≤ 512)
        within-at i b (yes u) = subst (λ (k : ℕ). (get_or xs' k 0 ≤ get_or es' k 0) × (get_or es' k 0 ≤ 512)) u (let a = lx in let c = le in (omega arith, omega arith))
        within-at i b (no f) = rw (get_or-set_other xs j i 0 0 (λ u. f (sym u)), get_or-set_other es j i count 0 (λ u. f (sym u))) (h.within i b)

        told_at : (i : ℕ) → i < j + 1 → Dec (j ≡ i) → get_or xs' i 0 ≡ get_or es' i 0 → past (mark_at ws' i) w ≡ true
        told_at i b (yes u) =
            subst (λ (k : ℕ). get_or xs' k 0 ≡ get_or es' k 0 → past (mark_at ws' k) w ≡ true) u
            (λ e.
            let z : 0 ≡ count = sym lx ∙ e ∙ le in
            rw (lw, over z) refl)
        told_at i b (no f) =
            λ e. rw (get_or-set_other ws j i mark no_mark (λ u. f (sym u))) (h.told i (omega arith) (sym (get_or-set_other xs j i 0 0 (λ u. f (sym u))) ∙ e ∙ get_or-set_other es j i count 0 (λ u. f (sym u))))
