-- The first word lies within the line.
use Rattle.std.proofs.Common.{ℕ, List, ◌≡◌, ◌≤◌, length, true, false, arith}
use Rattle.text_scan.specs.Run.{is_byte, run_end-within, spaces_from, word_end}
use Rattle.console_commands.proofs.command_at.Goals as goal

within : (line : List ℕ) (first end : ℕ) → first ≡ spaces_from line 0 → end ≡ word_end line first → (first ≤ end) × (end ≤ length line)
within line first end s e =
    let f = run_end-within (is_byte 32 true) line 0 (omega arith) in
    let b = run_end-within (is_byte 32 false) line first (omega arith) in
    (omega arith, omega arith)

pub slice_bounds-command_of-count : goal.slice_bounds-command_of-count
slice_bounds-command_of-count c = (within c.args.line.now _ _ c.spaces_from-first.ensures c.word_end-end.ensures).0

pub slice_bounds-command_of-start : goal.slice_bounds-command_of-start
slice_bounds-command_of-start c = (within c.args.line.now _ _ c.spaces_from-first.ensures c.word_end-end.ensures).0

pub slice_bounds-command_of-end : goal.slice_bounds-command_of-end
slice_bounds-command_of-end c = (within c.args.line.now _ _ c.spaces_from-first.ensures c.word_end-end.ensures).1
