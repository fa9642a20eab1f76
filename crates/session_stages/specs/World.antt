-- The world of the sessions: the records, jobs, solutions and operators of SPEC, as `session_model` asks for them.
use Rattle.operator.specs.declared.Refusal.{Refusal}
use Rattle.refusals.specs.Refusals.{unknown_kind, no_kind, out_of_turn}
use Rattle.record_kinds.specs.Kinds.{number, kind_of, admission_of, kind_4}
use Rattle.record.specs.Record.{reading_of, kind_reading}
use Rattle.std.specs.Prelude.{◌≡◌, refl, Bool, true, false, cond, List, [], ◌∷◌, ℕ, T, eqb, Result, Ok, Err}
use Rattle.std.proofs.Math.Path.{subst⁻¹}
use Rattle.std.proofs.lemmas.Bool.{false≢true}
use Rattle.std.proofs.Math.Option.{Option}
use Rattle.std.proofs.Math.Option as O
use Rattle.std.proofs.Common.{eqb→eq}
use Rattle.ring.specs.declared.Point.{Point}
use Rattle.region.specs.declared.Region.{Region}
use Rattle.region.specs.declared.Job.{Job}
use Rattle.region.specs.Selection.{listed}
use Rattle.operator.specs.declared.Operator.{Operator}
use Rattle.operator.specs.Operator.{identity, image_of}
use Rattle.operator.specs.Inverse.{inverse_of}
use Rattle.record.specs.declared.Record.{Record}
use Rattle.record.specs.declared.Record.TheVariants as R
use Rattle.record_kinds.specs.declared.Turn.{Turn}
use Rattle.record_kinds.specs.declared.Turn.TheVariants as T
use Rattle.record_kinds.specs.declared.Kind.TheVariants as K
use Rattle.record.specs.declared.Reading as Read
use Rattle.record.specs.declared.Reading.TheVariants as RV
use Rattle.ranks.specs.Rank.{top}
use Rattle.cuts.specs.Digits.{span}
use Rattle.walk_list.specs.Walk.{listed_at, numbers_in}
use Rattle.pattern_shortest.specs.declared.Pattern.{Pattern}
use Rattle.pattern_shortest.specs.declared.Pattern.TheVariants as S
use Rattle.pattern_shortest.specs.Pattern.{pattern_of}
use Rattle.session_model.specs.Session.{World, Reading, refuse, accept, Stage, part, whole, is_operator}
use Rattle.session_stages.specs.declared.Parts.{Parts}
use Rattle.session_stages.specs.declared.Parts.TheVariants.{Nothing, Scaled, Selected, First}

-- the turn: scale, at most one selection, region A, region B, then operators
abbrev pub turn_at : Parts → Turn
turn_at Nothing = T.Scale
turn_at (Scaled k) = T.Selection
turn_at (Selected k all) = T.First
turn_at (First k all a) = T.Second

-- a record that joins the job; in another's turn none is accepted
abbrev pub place_scale : Parts → ℕ → ℕ → Reading (Stage Parts Job)
place_scale Nothing k n = accept n (part (Scaled k))
place_scale (Scaled h) k n = refuse out_of_turn
place_scale (Selected h all) k n = refuse out_of_turn
place_scale (First h all a) k n = refuse out_of_turn

abbrev pub place_selection : Parts → Bool → ℕ → Reading (Stage Parts Job)
place_selection Nothing all n = refuse out_of_turn
place_selection (Scaled k) all n = accept n (part (Selected k all))
place_selection (Selected k every) all n = refuse out_of_turn
place_selection (First k every a) all n = refuse out_of_turn

-- without a selection only the new points are listed
abbrev pub place_region : Parts → Region → ℕ → Reading (Stage Parts Job)
place_region Nothing a n = refuse out_of_turn
place_region (Scaled k) a n = accept n (part (First k false a))
place_region (Selected k all) a n = accept n (part (First k all a))
place_region (First k all a) b n = accept n (whole (record { k = k; all = all; a = a; b = b }))

abbrev pub place : Parts → Record → ℕ → Reading (Stage Parts Job)
place p (R.Scale k) n = place_scale p k n
place p (R.Selection all) n = place_selection p all n
place p (R.Region a) n = place_region p a n
place p (R.Operator g) n = refuse out_of_turn

abbrev pub part_reading : Parts → Read.Reading → Reading (Stage Parts Job)
part_reading p (RV.Accepted x n) = place p x n
part_reading p (RV.Refused f) = refuse (number f)

abbrev pub note : Record → ℕ → Reading Operator
note (R.Scale k) n = refuse out_of_turn
note (R.Selection all) n = refuse out_of_turn
note (R.Region a) n = refuse out_of_turn
note (R.Operator g) n = accept n g

abbrev pub operator_reading : Read.Reading → Reading Operator
operator_reading (RV.Accepted x n) = note x n
operator_reading (RV.Refused f) = refuse (number f)

-- yes if and only if the inverse sends w to a listed point
abbrev pub undone : Job → Result Operator Refusal → Point → Bool
undone j (Ok h) w = listed j (image_of h w)
undone j (Err c) w = false

unfoldable pub is_image : Job → Operator → Point → Bool
is_image j g w = undone j (inverse_of g) w

-- the shortest pattern: its scale, u and t
pub record Best : Type 0 where
  pub scale : ℕ
  pub u : Point
  pub t : Point

abbrev pub best_of : Pattern → Option Best
best_of (S.Found k u t) = O.some (record { scale = k; u = u; t = t })
best_of S.Missing = O.none

-- ---- out of turn
-- an operator's bytes before its turn
pub part-refuses : (b : List ℕ) (p : Parts) → is_operator b ≡ true → part_reading p (reading_of b (turn_at p)) ≡ refuse out_of_turn
unfolding reading_of admission_of
part-refuses [] p h = absurd (false≢true h)
part-refuses (k ∷ b) p h = rw (kind_4 k (eqb→eq k 4 (subst⁻¹ T h tt))) (go p)
  where
    go : (p : Parts) → part_reading p (kind_reading K.Operator b (turn_at p)) ≡ refuse out_of_turn
    go Nothing = refl
    go (Scaled k) = refl
    go (Selected k all) = refl
    go (First k all a) = refl

-- others in its turn
pub operator_refuses : (b : List ℕ) → is_operator b ≡ false → (r : ℕ) × (operator_reading (reading_of b T.Operators) ≡ refuse r)
unfolding reading_of kind_of admission_of
operator_refuses [] h = (no_kind, refl)
operator_refuses (k ∷ b) h = rw h (go (eqb k 1) (eqb k 2) (eqb k 3) (eqb k 5) (eqb k 6))
  where
    go : (x y z w s : Bool)
        → (r : ℕ) × (operator_reading (kind_reading (cond x K.Scale (cond y K.Rectangle (cond z K.Ellipse (cond w K.Slice (cond s K.Selection K.Unknown))))) b T.Operators) ≡ refuse r)
    go true y z w s = (out_of_turn, refl)
    go false true z w s = (out_of_turn, refl)
    go false false true w s = (out_of_turn, refl)
    go false false false true s = (out_of_turn, refl)
    go false false false false true = (out_of_turn, refl)
    go false false false false false = (unknown_kind, refl)

abbrev pub world : World
world = record {
  Parts = Parts;
  Job = Job;
  Operator = Operator;
  Point = Point;
  Best = Best;
  none = Nothing;
  identity = identity;
  readPart = λ b p. part_reading p (reading_of b (turn_at p));
  readOperator = λ b. operator_reading (reading_of b T.Operators);
  test = listed_at;
  top = top span;
  width = 4;
  coords = numbers_in;
  image = is_image;
  least = λ j. best_of (pattern_of j);
  wide = λ r. refl;
  turn-part = λ b p h. (out_of_turn, part-refuses b p h);
  turn-operator = operator_refuses;
}
