-- Texts put one after another into a slice, each where it fits: what the writers of `text` do in a row, without a word on lengths; and with room for all, they stand there joined.
use Rattle.std.specs.Prelude.{ℕ, ◌+◌, ◌≤◌, ◌≡◌, refl, List, [], ◌∷◌, ◌++◌, length, take}
use Rattle.std.proofs.Common.{sym, ap, subst, ◌∙◌, append-nil, append_assoc, arith, length-append}
use Rattle.text.specs.Append.{Appended, appended, append-more, appended_within}
use Rattle.text.specs.Written.{written, after}

-- a slice and a place in it
abbrev pub Slate : Type 0
Slate = List ℕ × ℕ

abbrev pub put : Slate → List ℕ → Slate
put s y = (written s.0 s.1 y, after s.0 s.1 y)

unfoldable pub puts : Slate → List (List ℕ) → Slate
puts s [] = s
puts s (y ∷ l) = puts (put s y) l

abbrev pub joined : List (List ℕ) → List ℕ
joined [] = []
joined (y ∷ l) = y ++ joined l

-- the texts l, of at most n bytes together
pub record Puts (s : Slate) (l : List (List ℕ)) (t : Slate) (n : ℕ) : Type 0 where
  pub is : t ≡ puts s l
  pub size : length (joined l) ≤ n

joined-append : (a b : List (List ℕ)) → joined (a ++ b) ≡ joined a ++ joined b
joined-append [] b = refl
joined-append (y ∷ a) b = ap (λ (l : List ℕ). y ++ l) (joined-append a b) ∙ sym (append_assoc y (joined a) (joined b))

puts-append : (s : Slate) (a b : List (List ℕ)) → puts s (a ++ b) ≡ puts (puts s a) b
unfolding puts
puts-append s [] b = refl
puts-append s (y ∷ a) b = puts-append (put s y) a b

-- one text, and one row of texts after another
pub one : (xs : List ℕ) (at : ℕ) (y out : List ℕ) (r n : ℕ) → length y ≤ n → (out ≡ written xs at y) × (r ≡ after xs at y) → Puts (xs, at) (y ∷ []) (out, r) n
unfolding puts
one xs at y out r n h p = record { is = λ i. (p.0 i, p.1 i); size = rw append-nil h }

pub join : {s t u : Slate} {a b : List (List ℕ)} {m n : ℕ} → Puts s a t m → Puts t b u n → Puts s (a ++ b) u (m + n)
join {s} {t} {u} {a} {b} p q = record {
  is = q.is ∙ ap (λ (x : Slate). puts x b) p.is ∙ sym (puts-append s a b);
  size = let h = p.size in let k = q.size in rw (joined-append a b) (let e = length-append (joined a) (joined b) in omega arith);
}

pub none : (s : Slate) (n : ℕ) → Puts s [] s n
unfolding puts
none s n = record { is = refl; size = omega arith }

pub retext : {s t : Slate} {a b : List (List ℕ)} {n : ℕ} → a ≡ b → Puts s a t n → Puts s b t n
retext {s} {t} {a} {b} {n} e p = subst (λ (l : List (List ℕ)). Puts s l t n) e p

pub weaken : {s t : Slate} {l : List (List ℕ)} {m : ℕ} (n : ℕ) → m ≤ n → Puts s l t m → Puts s l t n
weaken n h p = record { is = p.is; size = let k = p.size in omega arith }

-- ---- with room for all, the texts stand there joined
stays : (xs : List ℕ) (at : ℕ) → Appended xs at [] xs at
stays xs at = record { text = sym (append-nil (take at xs)); end = omega arith; same = refl; past = refl }

fit : (l : List (List ℕ)) (xs : List ℕ) (at : ℕ) → at + length (joined l) ≤ length xs → Appended xs at (joined l) (puts (xs, at) l).0 (puts (xs, at) l).1
unfolding puts
fit [] xs at h = stays xs at
fit (y ∷ l) xs at h =
    let n = length-append y (joined l) in
    let a = appended xs at y (written xs at y) (after xs at y) (omega arith) refl refl in
    let e = a.end in
    let s = a.same in
    append-more xs at y (joined l) (written xs at y) (puts (put (xs, at) y) l).0 (after xs at y) (puts (put (xs, at) y) l).1 a (fit l (written xs at y) (after xs at y) (omega arith))

pub puts-appended : (xs : List ℕ) (l : List (List ℕ)) (out : List ℕ) (r n : ℕ) → n ≤ length xs → Puts (xs, 0) l (out, r) n → Appended xs 0 (joined l) out r
puts-appended xs l out r n h p =
    let k = p.size in
    subst (λ (t : Slate). Appended xs 0 (joined l) t.0 t.1) (sym p.is) (fit l xs 0 (omega arith))

pub puts-joined : (xs : List ℕ) (l : List (List ℕ)) (out : List ℕ) (r n : ℕ) → n ≤ length xs → Puts (xs, 0) l (out, r) n → take r out ≡ joined l
puts-joined xs l out r n h p = (puts-appended xs l out r n h p).text

pub puts-within : (xs : List ℕ) (l : List (List ℕ)) (out : List ℕ) (r n : ℕ) → n ≤ length xs → Puts (xs, 0) l (out, r) n → r ≤ length out
puts-within xs l out r n h p = appended_within xs (joined l) out r (puts-appended xs l out r n h p)
