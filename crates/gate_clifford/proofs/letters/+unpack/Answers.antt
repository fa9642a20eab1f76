use Rattle.std.proofs.Common.{◌≡◌, [], ◌∷◌, ◌++◌, ◌-◌, ◌/◌, ◌%◌, sym, ◌∙◌, ap, ap₂, append_assoc, arith}
use Rattle.gate_theory.specs.Table.{letter, unpack as unpack'}
use Rattle.gate_theory.proofs.lemmas.Length.{unpack-length}
use Rattle.gate_clifford.specs.Written.{written, byte, bytes, append-nil, unpack-none, unpack-zero, unpack-more, none-length, more-length}
use Rattle.gate_clifford.proofs.letters.+unpack.Goals as goal

pub returns-then-n-eq0 : goal.returns-then-n-eq0
returns-then-n-eq0 t c =
    let a = c.args in
    let e = unpack-none a.n a.c (omega arith) in
    record { letters = append-nil (written a.w) ∙ ap (λ v. written a.w ++ v) (sym e); len = omega (arith, none-length (unpack' a.n a.c []) e) }

pub returns-then-c-eq0 : goal.returns-then-c-eq0
returns-then-c-eq0 t c =
    let a = c.args in
    let e = unpack-zero a.n a.c (omega arith) in
    record { letters = append-nil (written a.w) ∙ ap (λ v. written a.w ++ v) (sym e); len = omega (arith, none-length (unpack' a.n a.c []) e) }

pub push-requires : goal.push-requires
push-requires t c = omega (arith, c.unpack-v.ensures.len, unpack-length (c.args.n - 1) (c.args.c / 4) [])

pub returns : goal.returns
returns t c =
    let a = c.args in
    let v = c.unpack-v.ensures in
    let r = c.push.ensures in
    let x = bytes (unpack' (a.n - 1) (a.c / 4) []) in
    let e : written a.w ++ (x ++ (byte (letter (a.c % 4)) ∷ [])) ≡ written a.w ++ bytes (unpack' a.n a.c []) = ap (λ l. written a.w ++ l) (sym (unpack-more a.n a.c (omega arith) (omega arith))) in
    record {
      letters = r.0 ∙ ap₂ (λ l b. l ++ (b ∷ [])) v.letters c.letter_byte.ensures ∙ append_assoc (written a.w) x (byte (letter (a.c % 4)) ∷ []) ∙ e;
      len = omega (arith, v.len, r.1, more-length a.n a.c (omega arith) (omega arith));
    }
