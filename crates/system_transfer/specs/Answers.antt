-- What a call of read or write came to, and how often the system may put us off. Assumes nothing.
use Rattle.system_transfer.specs.declared.Fault.{Fault}
use Rattle.std.specs.Prelude.{◌≡◌, Bool, true, false, cond, ℕ, ◌*◌, ◌-◌, ◌≤◌, eqb, ltb, ℤ, pos, negsuc, Result, Ok, Err}
use Rattle.std.specs.Int.{w32}
use Rattle.std.proofs.Common.{of_z}
use Rattle.std.specs.IoError.{error_kind}
use Rattle.std.specs.declared.io.Error.{Error}
use Rattle.std.specs.declared.io.ErrorKind.{ErrorKind}
use Rattle.std.specs.declared.io.ErrorKind.TheVariants.{WouldBlock, Interrupted}
use Rattle.system_transfer.specs.declared.Fault.TheVariants as A
use Rattle.system_transfer.specs.declared.patience.Patience.{Patience}

-- what a call that is handed n bytes may answer: -1, or how many bytes it moved, at most n
abbrev pub Moved : ℕ → ℤ → Type 0
Moved n (pos k) = k ≤ n
Moved n (negsuc k) = k ≡ 0

-- what errno, as a word, says of a call that failed: EAGAIN is 11, EINTR is 4
abbrev pub error_of : ℕ → Result ℕ Fault
error_of e = cond (eqb e 11) (Err A.NotNow) (cond (eqb e 4) (Err A.Interrupted) (Err A.Failed))

-- what a call answered, with errno after it
abbrev pub answer_of : ℤ → ℤ → Result ℕ Fault
answer_of (pos n) error = Ok n
answer_of (negsuc n) error = error_of (of_z w32 error)

-- the same two numbers of what a reader's or a writer's call answered. An error is told by its kind: 11 where the call would have to wait, 4 where a signal came first, 5 for every other
abbrev pub number_of : ErrorKind → ℤ
number_of WouldBlock = pos 11
number_of Interrupted = pos 4
number_of _ = pos 5

abbrev pub got_of : Result ℕ Error → ℤ
got_of (Ok n) = pos n
got_of (Err e) = negsuc 0

abbrev pub error_of_result : Result ℕ Error → ℤ
error_of_result (Ok n) = pos 0
error_of_result (Err e) = number_of (error_kind e)

-- an answer to a call that was handed n bytes
abbrev pub AtMost : ℕ → Result ℕ Fault → Type 0
AtMost n (Ok k) = k ≤ n
AtMost n (Err A.NotNow) = Unit {0}
AtMost n (Err A.Interrupted) = Unit {0}
AtMost n (Err A.Failed) = Unit {0}

-- a call moves no more bytes than it was handed
error_most : (n e : ℕ) → AtMost n (error_of e)
error_most n e = go (eqb e 11) (eqb e 4)
  where
    go : (b c : Bool) → AtMost n (cond b (Err A.NotNow) (cond c (Err A.Interrupted) (Err A.Failed)))
    go true c = tt
    go false true = tt
    go false false = tt

pub answer-most : (n : ℕ) (g e : ℤ) → Moved n g → AtMost n (answer_of g e)
answer-most n (pos k) e h = h
answer-most n (negsuc k) e h = error_most n (of_z w32 e)

-- ---- patience: how often more in a row without a byte moved, and the milliseconds of the next wait
abbrev pub full_patience : Patience
full_patience = record { left = 36000; pause = 1 }

abbrev pub is_out : Patience → Bool
is_out p = eqb p.left 0

abbrev pub pause_after : ℕ → ℕ
pause_after ms = cond (ltb ms 51) (2 * ms) 100

abbrev pub less_of : Patience → Bool → Patience
less_of p waits = cond (eqb p.left 0) p (record { left = p.left - 1; pause = cond waits (pause_after p.pause) p.pause })
