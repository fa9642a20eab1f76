-- Any other byte is taken for W, which has no line.
use Rattle.std.proofs.Common.{◌≡◌, rules}
use Rattle.gate_alphabet.specs.Letters.{H, S, T, W, byte, letter-W}
use Rattle.gate_qasm.proofs.Writing.{put-gate, put-none}
use Rattle.gate_qasm.proofs.lines.put_line.Goals as goal

pub returns-else-b : goal.returns-else-b
returns-else-b c =
    let f : c.args.b ≡ byte H → ⊥ = search rules in
    let g : c.args.b ≡ byte S → ⊥ = search rules in
    let h : c.args.b ≡ byte T → ⊥ = search rules in
    put-gate _ W (letter-W _ f g h) _ _ (put-none _ _ c.requires)
