-- The bytes taken are a beginning of the output, and all of it exactly where the answer is true: the end line goes out only behind every line. Assumes nothing.
use Rattle.std.specs.Prelude.{◌≡◌, refl, Bool, true, false, List, [], ◌++◌, ℕ, ◌<◌, length, take, drop}
use Rattle.std.proofs.Common.{sym, ap, ◌∙◌, append_assoc, append-nil, arith, length-append, take-append-drop, take_at}
use Rattle.system_transfer.specs.Sending.{Sent, sent_first, sent_all, sent_less}
use Rattle.list_input.specs.Load.{load_of}
use Rattle.list_states.specs.declared.Output.{Output}
use Rattle.list_states.specs.declared.Piece.{Piece}
use Rattle.list_output.specs.Output.{output_of}
use Rattle.list_states.specs.State.{State, long, refusal, list, last, done, is_done, state_of}
use Rattle.list_output.specs.Pieces.{rest_of, Filled}
use Rattle.list_output.specs.lemmas.Pages.{Small}
use Rattle.list_output.specs.lemmas.Joined.{piece_goes, begin-rest, begin-small}
use Rattle.list_output.specs.lemmas.Ready.{load-begun}
use Rattle.list_printing.specs.Printed.{Run, begun, piece, Listed}

pub record Sound (whole t : List ℕ) (n : Output) (r : Bool) : Type 0 where
  pub first : t ≡ take (length t) whole
  pub rest : r ≡ true → t ++ rest_of (state_of n) ≡ whole
  pub small : Small (state_of n)
  pub less : r ≡ false → length t < length whole

never : {P : Type 0} → true ≡ false → P
never e = absurd (let y : ◌≡◌ {A = ℕ} 0 1 = cc in omega arith)

module _ (whole t : List ℕ) (n : Output) (p : Piece) (old new : List ℕ) (r : Bool) (s : Sound whole t n true) (f : Filled (state_of n) p old new) (h : Sent (take p.length new) r) where
  abbrev text : List ℕ
  text = take p.length new

  abbrev after : List ℕ
  after = rest_of (state_of p.next)

  goes : t ++ (text ++ after) ≡ whole
  goes =
      let g = piece_goes (length old) (state_of n) s.small in
      rw (f.text.text, f.next) (ap (λ (l : List ℕ). t ++ l) g.joined ∙ s.rest refl)

  abbrev left : List ℕ
  left = drop (length h.taken) text

  parted : (t ++ h.taken) ++ (left ++ after) ≡ whole
  parted =
      let e : h.taken ++ left ≡ text = ap (λ (l : List ℕ). l ++ left) (sent_first h) ∙ take-append-drop (length h.taken) text in
      append_assoc t h.taken (left ++ after) ∙ ap (λ (l : List ℕ). t ++ l) (sym (append_assoc h.taken left after) ∙ ap (λ (l : List ℕ). l ++ after) e) ∙ goes

  piece-sound : Sound whole (t ++ h.taken) p.next r
  piece-sound = record {
    first = rw (← parted) (sym (take_at (t ++ h.taken) (left ++ after) (length (t ++ h.taken)) refl));
    rest = λ e. append_assoc t h.taken after ∙ rw (sent_all h e) goes;
    small = rw f.next (piece_goes (length old) (state_of n) s.small).small;
    less = λ e. let z = sent_less h e in let a = length-append t h.taken in let b = length-append t (text ++ after) in let c = length-append text after in let d = ap length goes in omega arith;
  }

run_sound : (o : Output) {t : List ℕ} {n : Output} {r : Bool} → Small (state_of o) → Run o t n r → Sound (rest_of (state_of o)) t n r
run_sound o h begun = record { first = refl; rest = λ e. refl; small = h; less = λ e. never e }
run_sound o h (piece {t} {n} {p} {old} {new} {r} k f x) = piece-sound (rest_of (state_of o)) t n p old new r (run_sound o h k) f x

done_none : (s : State) → is_done s ≡ true → rest_of s ≡ []
done_none long e = never (sym e)
done_none (refusal r p) e = never (sym e)
done_none (list m t) e = never (sym e)
done_none (last t) e = never (sym e)
done_none done e = refl

-- ---- from the beginning
module _ {bytes : List ℕ} {r : Bool} (h : Listed bytes r) where
  whole : rest_of (state_of h.start) ≡ output_of bytes
  whole = ap rest_of h.begins ∙ begin-rest (load_of bytes) (load-begun bytes)

  sound : Sound (rest_of (state_of h.start)) h.printed.taken h.printed.last r
  sound = run_sound h.start (rw h.begins (begin-small (load_of bytes) (load-begun bytes))) h.printed.run

  -- what was taken is a beginning of the output
  pub listed-first : h.printed.taken ≡ take (length h.printed.taken) (output_of bytes)
  listed-first = rw (← whole) sound.first

  -- all of it where the answer is true
  pub listed-all : r ≡ true → h.printed.taken ≡ output_of bytes
  listed-all e = sym (append-nil h.printed.taken) ∙ ap (λ (l : List ℕ). h.printed.taken ++ l) (sym (done_none (state_of h.printed.last) (h.printed.over e))) ∙ sound.rest e ∙ whole

  -- and less of it where it is false
  pub listed-less : r ≡ false → length h.printed.taken < length (output_of bytes)
  listed-less e = rw (← whole) (sound.less e)
