-- The pieces joined are the output, and they come to an end.
use Rattle.std.specs.Prelude.{◌≡◌, refl, Bool, true, false, cond, List, [], ◌++◌, ℕ, ◌+◌, ◌/◌, ◌≤◌, ◌<◌, ltb, length, drop}
use Rattle.std.proofs.Common.{sym, ap, ap₂, subst, ◌∙◌, append-nil, zero-add, arith, le-ltb, lit≤}
use Rattle.std.proofs.Math.Nat.{le-min}
use Rattle.ranks.specs.Rest.{at, ended, rest}
use Rattle.ranks.proofs.Rest.{left-place}
use Rattle.ranks.specs.Rank.{top}
use Rattle.cuts.specs.Digits.{span}
use Rattle.walk_list.specs.Walk.{listed_at, full}
use Rattle.walk_list.proofs.lemmas.Count.{full-fewer}
use Rattle.session_model.specs.Session.{early, walking}
use Rattle.list_input.specs.Load.{Loaded, ready, refused, tooLong, load_of}
use Rattle.list_lines.specs.Lines.{lines_of, end_line}
use Rattle.list_pages.specs.Page.{page_of, room_in}
use Rattle.list_states.specs.declared.Output.{Output}
use Rattle.list_output.specs.Output.{output_for, output_of}
use Rattle.list_states.specs.State.{State, long, refusal, list, last, done, is_done, state_of, begin}
use Rattle.list_output.specs.Pieces.{part_of, piece_of, Printed, finished, piece, most, rest_of}
use Rattle.integers_wide.specs.lemmas.Wrapped.{wrapped_same}
use Rattle.list_output.specs.lemmas.Pages.{Small, Goes, page-goes, page-less}
use Rattle.list_output.specs.lemmas.Ready.{Begun, load-begun}

part-goes : (n : ℕ) (s : State) → Small s → Goes s (part_of n s)
unfolding page_of lines_of
part-goes n long h = record { joined = append-nil _; small = tt }
part-goes n (refusal r p) h = record { joined = append-nil _; small = tt }
part-goes n (last t) h = record { joined = append-nil _; small = tt }
part-goes n done h = record { joined = refl; small = tt }
part-goes n (list (early p) t) h = record { joined = ap end_line (wrapped_same (t + 0) h); small = tt }
part-goes n (list (walking j ended o) t) h = record { joined = ap end_line (wrapped_same (t + 0) h); small = tt }
part-goes n (list (walking j (at p) o) t) h = page-goes j p o t (room_in n) h (drop (room_in n) (rest (listed_at j) (top span) p)) refl (left-place (listed_at j) (top span) (room_in n) p)

pub piece_goes : (n : ℕ) (s : State) → Small s → Goes s (piece_of n s)
unfolding piece_of
piece_goes n s h = go (ltb n 126)
  where
    go : (b : Bool) → Goes s (cond b (record { text = []; next = s }) (part_of n s))
    go true = record { joined = refl; small = h }
    go false = part-goes n s h

printed_rest : {o : Output} {l : List ℕ} → Printed o l → Small (state_of o) → l ≡ rest_of (state_of o)
printed_rest finished h = refl
printed_rest (piece {o} {r} {old} {new} {rest} f k) h =
    let g = piece_goes (length old) (state_of o) h in
    let e = printed_rest k (subst Small (sym f.next) g.small) ∙ ap rest_of f.next in
    ap₂ ◌++◌ f.text.text e ∙ g.joined

-- ---- from the beginning
pub begin-rest : (x : Loaded) → Begun x → rest_of (begin x) ≡ output_for x
begin-rest (ready (early p)) h = refl
begin-rest (ready (walking j w o)) h = rw (h, zero-add) refl
begin-rest (refused r p) h = refl
begin-rest tooLong h = refl

pub begin-small : (x : Loaded) → Begun x → Small (begin x)
unfolding full
begin-small (ready (early p)) h = lit≤ tt
begin-small (ready (walking j w o)) h = rw (h, zero-add) (full-fewer j)
begin-small (refused r p) h = tt
begin-small tooLong h = tt

-- whatever slices are lent, what `next` fills from the beginning until nothing is left is the output, whole
pub printed_output : (bytes : List ℕ) (o : Output) {l : List ℕ} → state_of o ≡ begin (load_of bytes) → Printed o l → l ≡ output_of bytes
printed_output bytes o e k =
    let b = load-begun bytes in
    printed_rest k (subst Small (sym e) (begin-small (load_of bytes) b)) ∙ ap rest_of e ∙ begin-rest (load_of bytes) b

-- ---- with room for a line, there are ever fewer to come
part-less : (n : ℕ) (s : State) → 126 ≤ n → is_done s ≡ false → most (part_of n s).next < most s
unfolding page_of
part-less n long h e = omega arith
part-less n (refusal r p) h e = omega arith
part-less n (last t) h e = omega arith
part-less n done h e = absurd (let z : ◌≡◌ {A = ℕ} 0 1 = cc in omega arith)
part-less n (list (early p) t) h e = omega arith
part-less n (list (walking j ended o) t) h e = omega arith
part-less n (list (walking j (at p) o) t) h e =
    let some : 1 ≤ n / 70 = omega arith in
    page-less j p o t (room_in n) (le-min (omega arith) some) (drop (room_in n) (rest (listed_at j) (top span) p)) refl (left-place (listed_at j) (top span) (room_in n) p)

pub piece_less : (n : ℕ) (s : State) → 126 ≤ n → is_done s ≡ false → most (piece_of n s).next < most s
unfolding piece_of
piece_less n s h e = rw (le-ltb n 126 h) (part-less n s h e)
