-- What a test of two tests says: the kit's law of `◌&&◌`, one way and the other; and when two tests are equal.
use Rattle.std.specs.Prelude.{◌≡◌, refl, Bool, true, false, ◌&&◌}
use Rattle.std.proofs.Common.{sym}
use Rattle.std.proofs.Math.Bool.{and-eq-true_iff}

pub both_true : (x y : Bool) → x && y ≡ true → (x ≡ true) × (y ≡ true)
both_true x y = (and-eq-true_iff x y).0

pub both_of : {x y : Bool} → x ≡ true → y ≡ true → x && y ≡ true
both_of {x} {y} e f = (and-eq-true_iff x y).1 (e, f)

pub iff : (x y : Bool) → (x ≡ true → y ≡ true) → (y ≡ true → x ≡ true) → x ≡ y
iff true y f g = sym (f refl)
iff false true f g = g refl
iff false false f g = refl
