-- What the line crew's answers depend on: not on t, and of u and k on m alone.
use Rattle.std.specs.Prelude.{◌≡◌, Bool, true, false, ◌||◌, List, ◌++◌, ◌↔◌, eqb, leb, ltb, length, get_or}
use Rattle.std.proofs.Math.Path.{refl, ap₂}
use Rattle.std.proofs.Common.{sym, ap, ◌∙◌, arith, length-append, get_or-append-add, eqb-true, ltb-false, leb-true, ne_eqb, le-leb, le-ltb}
use Rattle.std.proofs.Math.Bool.{cond}
use Prim.Native.Nat.{ℕ, zero, suc, ◌+◌, ◌-◌, ◌*◌, ◌≤◌, ◌<◌}
use Rattle.std.proofs.Math.ListN.{get_or-append}
use Rattle.ring.specs.Point.{ext}
use Rattle.record_ranges.specs.Ranges.{top_scale}
use Rattle.entry_equation.specs.Equation.{completes}
use Rattle.record_fields.specs.Field.{unsigned_at, signed_at, twos, signed_is}
use Rattle.pattern_sheet.specs.declared.Refusal.{Refusal}
use Rattle.pattern_sheet.specs.declared.Refusal.TheVariants.{NoKind, NotASheet, Short, OutOfRange, NotUnitary}
use Rattle.pattern_sheet.specs.declared.Reading.{Reading}
use Rattle.pattern_sheet.specs.declared.Reading.TheVariants.{Desk, Crew, Refused}
use Rattle.pattern_sheet.specs.Sheet.{point_ranked, k_at, u_at, t_at, ticks_at, sheet_at, m_at, desk_of, crew_of, seen_by, reading_of}

-- ---- fields of two lists of bytes that agree there
module _ (s s' : List ℕ) where
  -- from place i on, n bytes
  Agree : ℕ → ℕ → Type 0
  Agree i n = (j : ℕ) → i ≤ j → j < i + n → get_or s j 0 ≡ get_or s' j 0

  unsigned-same : (n i : ℕ) → Agree i n → unsigned_at n s i ≡ unsigned_at n s' i
  unfolding unsigned_at Agree
  unsigned-same zero i f = refl
  unsigned-same (suc n) i f = ap₂ (λ (a b : ℕ). a + 256 * b) (f i (omega arith) (omega arith)) (unsigned-same n (i + 1) (λ j h k. f j (omega arith) (omega arith)))

  signed_same : (n i : ℕ) → Agree i n → signed_at n s i ≡ signed_at n s' i
  signed_same n i f = signed_is n s i ∙ ap (twos (8 * n)) (unsigned-same n i f) ∙ sym (signed_is n s' i)

  point-same : (i : ℕ) → Agree i 16 → point_ranked s i ≡ point_ranked s' i
  unfolding point_ranked Agree
  point-same i f = ext
      (signed_same 4 i (λ j h k. f j (omega arith) (omega arith)))
      (signed_same 4 (i + 4) (λ j h k. f j (omega arith) (omega arith)))
      (signed_same 4 (i + 8) (λ j h k. f j (omega arith) (omega arith)))
      (signed_same 4 (i + 12) (λ j h k. f j (omega arith) (omega arith)))

  -- "they get no refusal that depends on t", and no answer: only how many bytes there are, those before t and those of the ticks count
  pub crew_bytes : length s ≡ length s' → ((j : ℕ) → j < 18 → get_or s j 0 ≡ get_or s' j 0) → ((j : ℕ) → 34 ≤ j → j < 38 → get_or s j 0 ≡ get_or s' j 0) → reading_of 2 s ≡ reading_of 2 s'
  unfolding reading_of crew_of Agree
  crew_bytes l f g =
      let k : k_at s ≡ k_at s' = f 1 (omega arith) in
      let u : u_at s ≡ u_at s' = point-same 2 (λ j h i. f j (omega arith)) in
      let t : ticks_at s ≡ ticks_at s' = unsigned-same 4 34 (λ j h i. g j h i) in
      rw (l, f 0 (omega arith), k, u, t) refl

  -- the answer, a refusal too, is made of the number of bytes, the kind, k, m and the ticks
  pub crew_made : length s ≡ length s' → get_or s 0 0 ≡ get_or s' 0 0 → k_at s ≡ k_at s' → m_at s ≡ m_at s' → ticks_at s ≡ ticks_at s' → reading_of 2 s ≡ reading_of 2 s'
  unfolding reading_of crew_of
  crew_made l f k m t = rw (l, f, m, t) (ap (λ (n : ℕ). after n) k)
    where
      after : ℕ → Reading
      after n = cond (eqb (length s') 0) (Refused NoKind) (cond (eqb (get_or s' 0 0) 7) (cond (ltb (length s') 38) (Refused Short) (cond (leb n top_scale) (Crew (m_at s') (ticks_at s') 38) (Refused OutOfRange))) (Refused NotASheet))

-- a byte behind the first 34
past : (xs ys : List ℕ) (j : ℕ) → length xs ≡ 34 → 34 ≤ j → get_or (xs ++ ys) j 0 ≡ get_or ys (j - 34) 0
past xs ys j l i =
    let b : j ≡ length xs + (j - 34) = omega arith in
    ap (λ (k : ℕ). get_or (xs ++ ys) k 0) b ∙ get_or-append-add xs ys (j - 34) 0

-- ---- the 16 bytes of t, whatever stands before and behind them
pub crew_blind : (front t t' back : List ℕ) → length front ≡ 18 → length t ≡ 16 → length t' ≡ 16 → reading_of 2 (front ++ t ++ back) ≡ reading_of 2 (front ++ t' ++ back)
crew_blind front t t' back f g h = crew_bytes (front ++ t ++ back) (front ++ t' ++ back) (long t g ∙ sym (long t' h)) (λ j i. first t j i ∙ sym (first t' j i)) (λ j i k. last t g j i ∙ sym (last t' h j i))
  where
    long : (t : List ℕ) → length t ≡ 16 → length (front ++ t ++ back) ≡ 34 + length back
    long t e = let a = length-append (front ++ t) back in let b = length-append front t in omega arith

    first : (t : List ℕ) (j : ℕ) → j < 18 → get_or (front ++ t ++ back) j 0 ≡ get_or front j 0
    first t j i = get_or-append (front ++ t) back 0 j (omega (arith, length-append front t)) ∙ get_or-append front t 0 j (omega arith)

    last : (t : List ℕ) → length t ≡ 16 → (j : ℕ) → 34 ≤ j → get_or (front ++ t ++ back) j 0 ≡ get_or back (j - 34) 0
    last t e j i = past (front ++ t) back j (omega (arith, length-append front t)) i

-- ---- the 16 bytes of u and those of t: others with the same m give the same answer, a refusal too
pub crew_only_m : (front both both' back : List ℕ) → length front ≡ 2 → length both ≡ 32 → length both' ≡ 32 → m_at (front ++ both ++ back) ≡ m_at (front ++ both' ++ back) → reading_of 2 (front ++ both ++ back) ≡ reading_of 2 (front ++ both' ++ back)
unfolding Agree
crew_only_m front both both' back f g h m =
    crew_made (front ++ both ++ back) (front ++ both' ++ back) (long both g ∙ sym (long both' h)) (first both 0 (omega arith) ∙ sym (first both' 0 (omega arith))) (first both 1 (omega arith) ∙ sym (first both' 1 (omega arith))) m
    (unsigned-same (front ++ both ++ back) (front ++ both' ++ back) 4 34 (λ j i k. last both g j i ∙ sym (last both' h j i)))
  where
    long : (b : List ℕ) → length b ≡ 32 → length (front ++ b ++ back) ≡ 34 + length back
    long b e = omega (arith, length-append (front ++ b) back, length-append front b)

    first : (b : List ℕ) (j : ℕ) → j < 2 → get_or (front ++ b ++ back) j 0 ≡ get_or front j 0
    first b j i = get_or-append (front ++ b) back 0 j (omega (arith, length-append front b)) ∙ get_or-append front b 0 j (omega arith)

    last : (b : List ℕ) → length b ≡ 32 → (j : ℕ) → 34 ≤ j → get_or (front ++ b ++ back) j 0 ≡ get_or back (j - 34) 0
    last b e j i = past (front ++ b) back j (omega (arith, length-append front b)) i

-- ---- a sheet with k in range
pub record IsSheet (s : List ℕ) : Type 0 where
  pub kind : get_or s 0 0 ≡ 7
  pub whole : 38 ≤ length s
  pub scale : k_at s ≤ top_scale

sheet_seen : (r : ℕ) (s : List ℕ) → eqb r 1 || eqb r 2 ≡ true → IsSheet s → reading_of r s ≡ seen_by r s
unfolding reading_of
sheet_seen r s e h =
    let w = h.whole in
    rw (e, ne_eqb (length s) 0 (λ z. omega arith), h.kind, le-ltb (length s) 38 h.whole, le-leb (k_at s) top_scale h.scale) refl

-- the crew is refused none of these, and sees m and the ticks
pub crew_sees : (s : List ℕ) → IsSheet s → reading_of 2 s ≡ Crew (m_at s) (ticks_at s) 38
unfolding crew_of
crew_sees s h = sheet_seen 2 s refl h

-- and an answer that is no refusal is of one of these
pub crew_accepts : (s : List ℕ) (m n k : ℕ) → reading_of 2 s ≡ Crew m n k → IsSheet s
unfolding reading_of crew_of
crew_accepts s m n k e = go (eqb (length s) 0) (eqb (get_or s 0 0) 7) (ltb (length s) 38) (leb (k_at s) top_scale) refl refl refl e
  where
    go : (a b c d : Bool) → eqb (get_or s 0 0) 7 ≡ b → ltb (length s) 38 ≡ c → leb (k_at s) top_scale ≡ d
        → cond a (Refused NoKind) (cond b (cond c (Refused Short) (cond d (Crew (m_at s) (ticks_at s) 38) (Refused OutOfRange))) (Refused NotASheet)) ≡ Crew m n k → IsSheet s
    go false true false true f g h e = record { kind = eqb-true (get_or s 0 0) 7 f; whole = ltb-false (length s) 38 g; scale = leb-true (k_at s) top_scale h }
    go true b c d f g h e = absurd (let z : ◌≡◌ {A = ℕ} 0 1 = cc in omega arith)
    go false false c d f g h e = absurd (let z : ◌≡◌ {A = ℕ} 0 1 = cc in omega arith)
    go false true true d f g h e = absurd (let z : ◌≡◌ {A = ℕ} 0 1 = cc in omega arith)
    go false true false false f g h e = absurd (let z : ◌≡◌ {A = ℕ} 0 1 = cc in omega arith)

-- "m and the ticks and nothing more": an answer to the crew holds two numbers, or says why there is none
pub data ForCrew : Reading → Type 0 where
  seen : (m ticks : ℕ) → ForCrew (Crew m ticks 38)
  none : (why : Refusal) → ForCrew (Refused why)

pub crew_form : (s : List ℕ) → ForCrew (reading_of 2 s)
unfolding reading_of crew_of
crew_form s = go (eqb (length s) 0) (eqb (get_or s 0 0) 7) (ltb (length s) 38) (leb (k_at s) top_scale)
  where
    go : (a b c d : Bool) → ForCrew (cond a (Refused NoKind) (cond b (cond c (Refused Short) (cond d (Crew (m_at s) (ticks_at s) 38) (Refused OutOfRange))) (Refused NotASheet)))
    go true b c d = none NoKind
    go false false c d = none NotASheet
    go false true true d = none Short
    go false true false false = none OutOfRange
    go false true false true = seen (m_at s) (ticks_at s)

-- "two sheets with k in range and equal m and ticks look the same to them", and no others do
pub crew_same : (s s' : List ℕ) → IsSheet s → IsSheet s' → (reading_of 2 s ≡ reading_of 2 s') ↔ ((m_at s ≡ m_at s') × (ticks_at s ≡ ticks_at s'))
crew_same s s' h h' = (
  (λ e. parts _ _ _ _ (sym (crew_sees s h) ∙ e ∙ crew_sees s' h')),
  (λ e. crew_sees s h ∙ ap₂ (λ (m n : ℕ). Crew m n 38) e.0 e.1 ∙ sym (crew_sees s' h')),
)
  where
    parts : (m n m' n' : ℕ) → Crew m n 38 ≡ Crew m' n' 38 → (m ≡ m') × (n ≡ n')
    parts m n m' n' e = (cc, cc)

-- the desk is refused exactly those that fail the equation
pub desk_sees : (s : List ℕ) → IsSheet s → reading_of 1 s ≡ cond (completes (k_at s) (u_at s) (t_at s)) (Desk (sheet_at s) 38) (Refused NotUnitary)
unfolding desk_of
desk_sees s h = sheet_seen 1 s refl h
