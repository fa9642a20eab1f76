-- The longest run of bytes from a place on, by the byte at that place. Assumes nothing.
use Prim.Native.Nat.{ℕ, ◌+◌, ◌≤◌, ◌<◌}
use mathlib.Core.Path.{◌≡◌, ap, ◌∙◌}
use mathlib.Core.Bool.{Bool, true, false}
use mathlib.Core.List.{List, [], ◌∷◌}
use native.Mathlib.Numerals.{add-one}
use native.Mathlib.Omega.{arith}
use lib.ListN.{length, get_or, drop, drop_of_length-le}
use lib.Seq.{drop-cons}
use Rattle.text_scan.specs.Run.{run, end_of_run}

module _ (p : ℕ → Bool) (s : List ℕ) (i : ℕ) where
  pub run-at-end : length s ≤ i → run p (drop i s) ≡ []
  unfolding run
  run-at-end h = ap (run p) (drop_of_length-le s h)

  pub run_none : i < length s → p (get_or s i 0) ≡ false → run p (drop i s) ≡ []
  unfolding run
  run_none h e = ap (run p) (drop-cons s i 0 h) ∙ simp e

  pub run_more : i < length s → p (get_or s i 0) ≡ true → run p (drop i s) ≡ get_or s i 0 ∷ run p (drop (i + 1) s)
  unfolding run
  run_more h e = ap (run p) (drop-cons s i 0 h) ∙ simp (e, add-one)

  pub run_end-more : i < length s → p (get_or s i 0) ≡ true → end_of_run p s (i + 1) ≡ end_of_run p s i
  unfolding end_of_run
  run_end-more h e = rw (run_more h e) (omega arith)

  pub run_end-here : run p (drop i s) ≡ [] → i ≡ end_of_run p s i
  unfolding end_of_run
  run_end-here e = rw e (omega arith)
