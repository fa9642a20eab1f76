use Rattle.std.proofs.Common.{◌≡◌, ℕ, ◌+◌, ◌-◌, ◌<◌, ◌≤◌, ◌++◌, length, take, drop, sym, ◌∙◌, append_assoc, arith}
use lib.Seq.{drop-drop}
use Rattle.text.proofs.Writing.{put-fits, put-not}
use Rattle.text.proofs.write.put_bytes.Goals as goal
use Rattle.text.proofs.write.put_bytes.Goals.{then-out-at-via-then-out-at, then-out-at-via-else-out-at+then-out-at-2}

pub returns-then-out-at : goal.returns-then-out-at
returns-then-out-at c =
    let h : length c.args.out.now < c.args.at + length c.args.text.now =
    elim c.then-out-at.branch [ then-out-at-via-then-out-at w ↦ omega arith | then-out-at-via-else-out-at+then-out-at-2 w ↦ omega arith ] in
    put-not c.args.out.now c.args.at c.args.text.now h

pub returns : goal.returns
returns c =
    let xs = c.args.out.now in
    let ys = c.args.text.now in
    let at : ℕ = c.args.at in
    let f = put-fits c.args.out.now c.args.at c.args.text.now (omega arith) in
    let e : c.args.at + length c.args.text.now - c.args.at ≡ length c.args.text.now = omega arith in
    (rw (e, c.copy_from_slice.ensures.after, drop-drop (length ys) at xs) (sym (append_assoc (take at xs) ys (drop (at + length ys) xs)) ∙ f.0), f.1)
