-- Ranges of a one after another: for rising cut points the parts joined are the whole list.
use Rattle.std.specs.Prelude.{◌≡◌, refl, List, [], ◌∷◌, ◌++◌, ℕ, ◌+◌, ◌^◌, ◌≤◌, ℤ, pos, negsuc, neg_ℤ, ◌+ℤ◌, ◌-ℤ◌, Bool}
use Rattle.std.proofs.Common.{sym, ap, ap₂, ◌∙◌, append_assoc, arith}
use Rattle.integers.specs.Difference.{◌≼◌, ◌≺◌, up, dn, ext, +-spec, neg_up, neg_dn, ≤→ℕ, <→ℕ, ℕ→≤}
use Rattle.region.specs.declared.Job.{Job}
use Rattle.ranks.specs.Rest.{rest}
use Rattle.ranks.proofs.Rest.{rest-induct}
use Rattle.ranks.specs.Members.{Rising}
use Rattle.ranks.specs.Rank.{rank, top}
use Rattle.ranks.proofs.Rank.{rank-zero}
use Rattle.ranks.specs.Digits.{pair-from}
use Rattle.ranks.specs.Handed.{flat}
use Rattle.ring_points.specs.Digits.{span, span-is}
use Rattle.walk_list.specs.Walk.{full, listed_at, numbers_in}
use Rattle.walk_list.proofs.lemmas.Full.{full-rising}
use Rattle.list_lines.specs.Lines.{lines_of}
use Rattle.list_segment.specs.Part.{chosen, within, part_lines}
use Rattle.list_segment.specs.lemmas.Between.{between, chosen-same, inside, none_between, rising-joined}
use Rattle.list_segment.specs.Ranks.{first_from, within-between, first-mono}

pub lines_nil : (k : ℕ) → lines_of k [] ≡ []
unfolding lines_of
lines_nil k = refl

pub lines_append : (k : ℕ) (a b : List ℕ) → lines_of k (flat numbers_in (a ++ b)) ≡ lines_of k (flat numbers_in a) ++ lines_of k (flat numbers_in b)
unfolding lines_of
lines_append k [] b = refl
lines_append k (r ∷ a) b = rw (lines_append k a b, append_assoc)

-- cut points that rise from c on, and the last of them
abbrev pub Rises : ℤ → List ℤ → Type 0
Rises c [] = Unit {0}
Rises c (d ∷ ds) = (c ≺ d) × Rises d ds

abbrev pub last_of : ℤ → List ℤ → ℤ
last_of c [] = c
last_of c (d ∷ ds) = last_of d ds

-- f of each range from one cut point to the number before the next
abbrev pub parts_of : (ℤ → ℤ → List ℕ) → ℤ → List ℤ → List ℕ
parts_of f c [] = []
parts_of f c (d ∷ ds) = f c (d -ℤ pos 1) ++ parts_of f d ds

back : (d : ℤ) → (d -ℤ pos 1) +ℤ pos 1 ≡ d
back d = ext _ d (omega (arith, +-spec (d -ℤ pos 1) (pos 1), +-spec d (neg_ℤ (pos 1)), neg_up (pos 1), neg_dn (pos 1)))

lower : (c d : ℤ) → c ≺ d → c ≼ d
lower c d h = ℕ→≤ c d (let k = <→ℕ c d h in omega arith)

last_from : (c : ℤ) (ds : List ℤ) → Rises c ds → c ≼ last_of c ds
last_from c [] h = ℕ→≤ c c (omega arith)
last_from c (d ∷ ds) h = ℕ→≤ c (last_of d ds) (let k = <→ℕ c d h.0 in let i = ≤→ℕ d (last_of d ds) (last_from d ds h.1) in omega arith)

-- the range of ranks of a range from one cut point to another
range : (c d : ℤ) (l : List ℕ) → chosen (within c (d -ℤ pos 1)) l ≡ chosen (between (first_from c) (first_from d)) l
range c d l = chosen-same _ _ (λ r. within-between c (d -ℤ pos 1) r ∙ ap (λ (z : ℤ). between (first_from c) (first_from z) r) (back d)) l

joined : (l : List ℕ) → Rising 0 l → (c : ℤ) (ds : List ℤ) → Rises c ds → parts_of (λ lo hi. chosen (within lo hi) l) c ds ≡ chosen (between (first_from c) (first_from (last_of c ds))) l
joined l u c [] h = sym (none_between (first_from c) l)
joined l u c (d ∷ ds) h =
    ap₂ ◌++◌ (range c d l) (joined l u d ds h.1)
    ∙ rising-joined (first_from c) (first_from d) (first_from (last_of d ds)) 0 l (first-mono c d (lower c d h.0)) (first-mono d (last_of d ds) (last_from d ds h.1)) u

lines_joined : (k : ℕ) (l : List ℕ) (c : ℤ) (ds : List ℤ) → parts_of (λ lo hi. part_lines k lo hi l) c ds ≡ lines_of k (flat numbers_in (parts_of (λ lo hi. chosen (within lo hi) l) c ds))
unfolding lines_of
lines_joined k l c [] = refl
lines_joined k l c (d ∷ ds) = ap (λ (t : List ℕ). part_lines k c (d -ℤ pos 1) l ++ t) (lines_joined k l d ds) ∙ sym (lines_append k (chosen (within c (d -ℤ pos 1)) l) (parts_of (λ lo hi. chosen (within lo hi) l) d ds))

-- a range that holds every rank holds the list
all-chosen : (test : ℕ → Bool) (t a b : ℕ) → a ≡ 0 → t ≤ b → (p : ℕ) → chosen (between a b) (rest test t p) ≡ rest test t p
all-chosen test t a b e h =
    rest-induct test t (λ p l. chosen (between a b) l ≡ l) (λ p k. refl) (λ p k i ih. rw (inside a b p (omega arith) (omega arith)) (ap (λ (l : List ℕ). p ∷ l) ih)) (λ p k i ih. ih)

first-none : (c : ℤ) → c ≼ neg_ℤ (pos (2 ^ 31)) → first_from c ≡ 0
unfolding rank
first-none c h = go (c +ℤ pos (2 ^ 31)) (+-spec c (pos (2 ^ 31))) (≤→ℕ c (neg_ℤ (pos (2 ^ 31))) h)
  where
    go : (w : ℤ) → up w + (dn c + 0) ≡ up c + 2 ^ 31 + dn w → up c + 2 ^ 31 ≤ 0 + dn c → rank span (up w) 0 0 0 ≡ 0
    go w e k = let z : up w ≡ 0 = low w e in rw z (rank-zero span)
      where
        low : (w : ℤ) → up w + (dn c + 0) ≡ up c + 2 ^ 31 + dn w → up w ≡ 0
        low (pos n) e = omega arith
        low (negsuc n) e = refl

first-top : (d : ℤ) → pos (2 ^ 31) ≼ d → top span ≤ first_from d
unfolding rank
first-top d h = pair-from span _ _ 0 (pair-from span _ _ 0 (pair-from span _ _ 0 (omega (arith, span-is, +-spec d (pos (2 ^ 31)), ≤→ℕ (pos (2 ^ 31)) d h))))

-- for rising cut points from the least coordinate or below on to above the largest, the parts joined are the lines of the list
pub parts_whole : (j : Job) (k : ℕ) (c : ℤ) (ds : List ℤ) → c ≼ neg_ℤ (pos (2 ^ 31)) → Rises c ds → pos (2 ^ 31) ≼ last_of c ds
    → parts_of (λ lo hi. part_lines k lo hi (full j)) c ds ≡ lines_of k (flat numbers_in (full j))
unfolding full
parts_whole j k c ds low rises high =
    lines_joined k (full j) c ds
    ∙ ap (λ (l : List ℕ). lines_of k (flat numbers_in l)) (joined (full j) (full-rising j) c ds rises ∙ all-chosen (listed_at j) (top span) (first_from c) (first_from (last_of c ds)) (first-none c low) (first-top (last_of c ds) high) 0)

-- of no points there are no lines
pub parts_none : (k : ℕ) (c : ℤ) (ds : List ℤ) → parts_of (λ lo hi. part_lines k lo hi []) c ds ≡ lines_of k []
unfolding lines_of
parts_none k c [] = refl
parts_none k c (d ∷ ds) = parts_none k d ds
