-- Numbers put one behind the other. Assumes nothing.
use mathlib.Core.Path.{◌≡◌, ap, ◌∙◌}
use mathlib.Core.List.{List, [], ◌∷◌, ◌++◌}
use Prim.Native.Nat.{ℕ, ◌+◌, ◌≤◌}
use native.Mathlib.Omega.{arith}
use lib.ListN.{length, length-append}
use lib.IntN.{ℤ}
use Rattle.text.specs.Written.{written, after}
use Rattle.text.specs.Append.{Appended, appended, append-more, append-put, append-whole}
use Rattle.ring.specs.declared.Point.{Point}
use Rattle.record_fields.specs.Bytes.{little_endian, length-bytes}
use Rattle.pattern_sheet.specs.declared.Sheet.{Sheet}
use Rattle.pattern_sheet.specs.Write.{number_bytes, point_bytes, bytes_of, length-number, length-point}

module _ (xs : List ℕ) (at : ℕ) where
  -- one number, whose bytes are put as they were made
  pub put_one : (z z' : ℤ) (bs : List ℕ) {out : List ℕ} {r : ℕ} → z' ≡ z → bs ≡ number_bytes z' → at + 4 ≤ length xs → (out ≡ written xs at bs) × (r ≡ after xs at bs) → Appended xs at (number_bytes z) out r
  put_one z z' bs e f h p =
      let g : bs ≡ number_bytes z = f ∙ ap number_bytes e in
      let q = rw g at p in
      appended xs at (number_bytes z) _ _ (omega (arith, length-number z)) q.0 q.1

  module _ (p : Point) {a b c d : ℤ} (ea : a ≡ p.a) (eb : b ≡ p.b) (ec : c ≡ p.c) (ed : d ≡ p.d) where
    -- four of them
    pub put_four : {o₁ o₂ o₃ o₄ : List ℕ} {r₁ r₂ r₃ r₄ : ℕ} → Appended xs at (number_bytes a) o₁ r₁ → Appended o₁ r₁ (number_bytes b) o₂ r₂ → Appended o₂ r₂ (number_bytes c) o₃ r₃ → Appended o₃ r₃ (number_bytes d) o₄ r₄
        → Appended xs at (point_bytes p) o₄ r₄
    unfolding point_bytes
    put_four {o₁} {o₂} {o₃} {o₄} {r₁} {r₂} {r₃} {r₄} k l m n =
        let two = append-more xs at (number_bytes a) (number_bytes b) o₁ o₂ r₁ r₂ k l in
        let three = append-more xs at (number_bytes a ++ number_bytes b) (number_bytes c) o₂ o₃ r₂ r₃ two m in
        rw (ea, eb, ec, ed) at (append-more xs at (number_bytes a ++ number_bytes b ++ number_bytes c) (number_bytes d) o₃ o₄ r₃ r₄ three n)

-- the kind byte and k, two points and the ticks
pub put_all : (xs : List ℕ) (s : Sheet) {front last o₁ o₂ o₃ o₄ : List ℕ} {r₁ r₂ r₃ r₄ : ℕ} → 38 ≤ length xs → front ≡ 7 ∷ s.k ∷ [] → (o₁ ≡ written xs 0 front) × (r₁ ≡ after xs 0 front)
    → Appended o₁ r₁ (point_bytes s.u) o₂ r₂ → Appended o₂ r₂ (point_bytes s.t) o₃ r₃ → last ≡ little_endian 4 s.ticks → (o₄ ≡ written o₃ r₃ last) × (r₄ ≡ after o₃ r₃ last) → o₄ ≡ written xs 0 (bytes_of s)
unfolding bytes_of
put_all xs s {front} {last} {o₁} {o₂} {o₃} {o₄} {r₁} {r₂} {r₃} {r₄} h ef p k l el q =
    let f : List ℕ = 7 ∷ s.k ∷ [] in
    let u = point_bytes s.u in
    let t = point_bytes s.t in
    let v = little_endian 4 s.ticks in
    let p' = rw ef at p in
    let q' = rw el at q in
    let one = appended xs 0 f o₁ r₁ (omega arith) p'.0 p'.1 in
    let two = append-more xs 0 f u o₁ o₂ r₁ r₂ one k in
    let three = append-more xs 0 (f ++ u) t o₂ o₃ r₂ r₃ two l in
    let n = length-append (f ++ u) t in
    let m = length-append f u in
    let four = append-put xs 0 (f ++ u ++ t) v o₃ r₃ three (omega (arith, n, m, length-point s.u, length-point s.t, length-bytes 4 s.ticks)) q' in
    append-whole xs (f ++ u ++ t ++ v) o₄ r₄ (omega (arith, n, m, length-append (f ++ u ++ t) v, length-point s.u, length-point s.t, length-bytes 4 s.ticks)) four

-- after the kind byte and k, a number or a point there is room for what is left
pub past-number : (xs : List ℕ) (at : ℕ) (z : ℤ) (out : List ℕ) (r : ℕ) → Appended xs at (number_bytes z) out r → (r ≡ at + 4) × (length out ≡ length xs)
past-number xs at z out r a = (a.end ∙ ap (λ (n : ℕ). at + n) (length-number z), a.same)

pub past-point : (xs : List ℕ) (at : ℕ) (p : Point) (out : List ℕ) (r : ℕ) → Appended xs at (point_bytes p) out r → (r ≡ at + 16) × (length out ≡ length xs)
past-point xs at p out r a = (a.end ∙ ap (λ (n : ℕ). at + n) (length-point p), a.same)

pub past_two : (xs : List ℕ) (a b : ℕ) (out : List ℕ) (r : ℕ) → 38 ≤ length xs → (out ≡ written xs 0 (a ∷ b ∷ [])) × (r ≡ after xs 0 (a ∷ b ∷ [])) → (r ≡ 2) × (length out ≡ length xs)
past_two xs a b out r h p = let q = appended xs 0 (a ∷ b ∷ []) out r (omega arith) p.0 p.1 in (q.end, q.same)
