-- A page of a segment: what is shown of a hand-out, cut where a goes past hi, and what is left after it.
use Rattle.std.specs.Prelude.{◌≡◌, refl, Bool, true, false, cond, List, [], ◌∷◌, ◌++◌, ℕ, suc, ◌*◌, ◌≤◌, ◌<◌, ltb, ℤ, pos, ◌+ℤ◌, length, take, drop}
use Rattle.std.proofs.Common.{sym, ap, ap₂, ◌∙◌, append_assoc, append-nil, arith, length-append, length-drop, take-append-drop, take_at, length-take-le, take_all, SFits}
use Rattle.std.specs.Int.Signed.{le_z}
use Rattle.std.specs.Int.{w32}
use Rattle.ring.specs.declared.Point.{Point}
use Rattle.region.specs.declared.Job.{Job}
use Rattle.ranks.specs.Rest.{rest, Place, at, ended, place_of, left_at}
use Rattle.ranks.proofs.Rest.{left-place, next-drop}
use Rattle.ranks.specs.Rank.{top}
use Rattle.ranks.specs.Handed.{flat, Gave}
use Rattle.ranks.proofs.Handed.{flat_append, take_put, length-flat}
use Rattle.ring_points.specs.Digits.{span}
use Rattle.ring_points.specs.Slices.{points_of, flat-points}
use Rattle.walk_list.specs.Walk.{listed_at, point_of, rank_of, numbers_in, full}
use Rattle.list_lines.specs.Lines.{lines_of}
use Rattle.text.specs.Append.{Appended}
use Rattle.list_segment.specs.declared.Piece.{Piece}
use Rattle.list_segment.specs.Part.{chosen, within}
use Rattle.list_segment.specs.lemmas.Between.{chosen-same, chosen-rest}
use Rattle.list_segment.specs.Ranks.{first_from, within-between, to_rank, after-top}
use Rattle.list_segment.specs.Joined.{lines_append}
use Rattle.list_segment.specs.Leading.{leading, leading-short, leading-take, leading-stops, leading-passes, leading-map, leading-rest}

-- a up to hi
abbrev pub up_to : ℤ → Point → Bool
up_to hi v = le_z v.a hi

-- of a job's list, from a rank on, the points with a up to hi
abbrev pub segment_from : Job → ℤ → ℕ → List ℕ
segment_from j hi p = rest (listed_at j) (first_from (hi +ℤ pos 1)) p

abbrev pub rank_lines : ℕ → List ℕ → List ℕ
rank_lines k l = lines_of k (flat numbers_in l)

-- the lines of the ranks shown stand at the start of the slice; shown and what is left are what was left before
pub record Paged (j : Job) (hi : ℤ) (from : Point) (r : Piece) (old new : List ℕ) : Type 0 where
  pub shown : List ℕ
  pub text : Appended old 0 (rank_lines j.k shown) new r.length
  pub joined : shown ++ cond r.more (segment_from j hi (rank_of r.from)) [] ≡ segment_from j hi (rank_of from)
  pub some : r.more ≡ true → 0 < length shown

none_left : (l : List ℕ) → ended ≡ place_of l → l ≡ []
none_left [] e = refl
none_left (x ∷ l) e = cc

module _ (j : Job) (hi : ℤ) (fits : SFits w32 hi) (p room : ℕ) (old new : List ℤ) (count m : ℕ) (place : Place)
    (g : Gave numbers_in 4 (rest (listed_at j) (top span) p) old room count new place) (cut : m ≡ length (leading (up_to hi) (points_of (take (4 * count) new)))) where
  abbrev all : List ℕ
  all = rest (listed_at j) (top span) p

  abbrev page : List ℕ
  page = take room all

  abbrev after : List ℕ
  after = drop room all

  abbrev end : ℕ
  end = first_from (hi +ℤ pos 1)

  abbrev below : ℕ → Bool
  below r = ltb r end

  tests : ◌≡◌ {A = ℕ → Bool} (λ r. up_to hi (point_of r)) below
  tests i r = to_rank hi r i

  written : take (4 * length page) new ≡ flat numbers_in page
  written = rw g.slice (take_put numbers_in 4 (λ r. refl) page old)

  cut-is : m ≡ length (leading below page)
  cut-is =
      cut ∙ ap (λ (n : ℕ). length (leading (up_to hi) (points_of (take (4 * n) new)))) g.count ∙ ap (λ (l : List ℤ). length (leading (up_to hi) (points_of l))) written
      ∙ ap (λ (l : List Point). length (leading (up_to hi) l)) (flat-points page) ∙ leading-map point_of (up_to hi) page ∙ ap (λ (f : ℕ → Bool). length (leading f page)) tests

  pub cut_short : m ≤ count
  cut_short = rw (cut-is, g.count) (leading-short below page)

  -- the numbers of the points shown
  pub numbers : take (4 * m) new ≡ flat numbers_in (take m page)
  numbers =
      let n : length (take m page) ≡ m = length-take-le m page (let s = cut_short in let c = g.count in omega arith) in
      let f : flat numbers_in page ≡ flat numbers_in (take m page) ++ flat numbers_in (drop m page) = ap (flat numbers_in) (sym (take-append-drop m page)) ∙ flat_append numbers_in (take m page) (drop m page) in
      let e : new ≡ flat numbers_in (take m page) ++ (flat numbers_in (drop m page) ++ drop (4 * length page) old) =
      g.slice ∙ ap (λ (l : List ℤ). l ++ drop (4 * length page) old) f ∙ append_assoc (flat numbers_in (take m page)) (flat numbers_in (drop m page)) (drop (4 * length page) old) in
      ap (take (4 * m)) e ∙ take_at (flat numbers_in (take m page)) (flat numbers_in (drop m page) ++ drop (4 * length page) old) (4 * m) (length-flat numbers_in 4 (λ r. refl) (take m page) ∙ ap (◌*◌ 4) n)

  whole : leading below (page ++ after) ≡ segment_from j hi p
  whole = ap (leading below) (take-append-drop room all) ∙ leading-rest (listed_at j) (top span) end p (after-top hi fits)

  -- where one goes past hi, the segment ends before it
  pub page-cut : m < count → take m page ≡ segment_from j hi p
  page-cut h =
      let c = g.count in
      let l : length (leading below page) < length page = rw (← cut-is, ← c) h in
      rw cut-is (sym (leading-take below page)) ∙ sym (leading-stops below page after l) ∙ whole

  passes : count ≤ m → page ++ leading below after ≡ segment_from j hi p
  passes h =
      let c = g.count in
      let s = cut_short in
      let l : length (leading below page) ≡ length page = sym cut-is ∙ omega arith in
      sym (leading-passes below page after l) ∙ whole

  kept : count ≤ m → take m page ≡ page
  kept h = take_all m page (let c = g.count in omega arith)

  -- and where none is left, with the last
  pub page-last : count ≤ m → place ≡ ended → take m page ≡ segment_from j hi p
  page-last h e =
      kept h ∙ sym (append-nil page) ∙ ap (λ (l : List ℕ). page ++ leading below l) (sym (none_left after (sym e ∙ g.place))) ∙ passes h

  -- else it goes on at the next one
  pub page-more : (q : ℕ) → count ≤ m → place ≡ at q → take m page ++ segment_from j hi q ≡ segment_from j hi p
  page-more q h e =
      let w : place_of after ≡ at q = sym g.place ∙ e in
      let d : after ≡ rest (listed_at j) (top span) q = sym (left-place (listed_at j) (top span) room p) ∙ ap (left_at (listed_at j) (top span)) w in
      ap₂ ◌++◌ (kept h) (sym (ap (leading below) d ∙ leading-rest (listed_at j) (top span) end q (after-top hi fits))) ∙ passes h

  pub page-some : (q : ℕ) → 0 < room → count ≤ m → place ≡ at q → 0 < length (take m page)
  page-some q r h e =
      let w = ap length (next-drop (listed_at j) (top span) room p q (sym g.place ∙ e)) in
      let d = length-drop room all in
      let n : length page ≡ room = length-take-le room all (omega arith) in
      rw (kept h) (omega arith)

-- ---- pages one after another
-- at the first rank with that a, the segment is the whole of the part
pub segment_part : (j : Job) (lo hi : ℤ) → SFits w32 hi → segment_from j hi (first_from lo) ≡ chosen (within lo hi) (full j)
unfolding full
segment_part j lo hi f = sym (chosen-same _ _ (within-between lo hi) (full j) ∙ chosen-rest (listed_at j) (top span) (first_from lo) (first_from (hi +ℤ pos 1)) (after-top hi f))

-- how many pages there can be
abbrev pub weight : Bool → ℕ → ℕ
weight true n = suc n
weight false n = 0

module _ {j : Job} {hi : ℤ} {from : Point} {r : Piece} {old new : List ℕ} (p : Paged j hi from r old new) where
  abbrev pub remains_after : List ℕ
  remains_after = cond r.more (segment_from j hi (rank_of r.from)) []

  -- the lines of a page and of what is left after it
  pub paged_lines : take r.length new ++ rank_lines j.k remains_after ≡ rank_lines j.k (segment_from j hi (rank_of from))
  paged_lines = ap (λ (l : List ℕ). l ++ rank_lines j.k remains_after) p.text.text ∙ sym (lines_append j.k p.shown remains_after) ∙ ap (rank_lines j.k) p.joined

  pub paged_less : weight r.more (length (segment_from j hi (rank_of r.from))) < suc (length (segment_from j hi (rank_of from)))
  paged_less = go r.more (segment_from j hi (rank_of r.from)) (ap length p.joined) p.some
    where
      go : (b : Bool) (l : List ℕ) → length (p.shown ++ cond b l []) ≡ length (segment_from j hi (rank_of from)) → (b ≡ true → 0 < length p.shown) → weight b (length l) < suc (length (segment_from j hi (rank_of from)))
      go true l e h = let k = h refl in let n = length-append p.shown l in omega arith
      go false l e h = omega arith
