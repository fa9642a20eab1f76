-- `word_part` meets its contract: a walk of its MIR, by hand, with two calls and no branch. The three slices are lent again, for a lifetime that is made for both calls. `words` is called at that lifetime and says how the first two end. The struct that it returns is taken apart, and `put` copies the part. Then the lifetime ends, and the slices come back.
-- All that the proof knows of the two is that each meets its contract.
-- Assumes `Logic`.
use Rattle.std.proofs.Common.{◌≡◌, ℕ, List, [], ◌∷◌, refl, subst, ap, ◌∙◌, length, w8, MutBor}
use Rattle.std.proofs.raw_atomic.Walks.{proved, leaves}
use base.Fraction.{full_share}
use base.Share
use base.Logic.{emp, id⊢}
use base.Fml.{Lft, GName, Share, Fml, ftrue, flft, fdead}
use mir.Syntax.{named}
use mir.Val.{Val, vint}
use types.Kit.{‵, raw, given, ◌⊛◌, later, some, ◌$◌, ◌∵◌, !, qed, done, move, keep, drop, use0, use1, use2, use3, split, join, fsplit, feq_l, pick, learn, await, rewrite, suffices}
use types.Run.{enter, addr, of_opd, from, fld, hop, stop, and_then, no_more, returns}
use types.Part.{agg, whole, sub}
use types.ByLocal.{alloc_all, pass_all, free_all, look_at, look_in_at, get, get_in, sets, lands_as}
use types.Tokens.{lft_new, lft_end}
use contract.Lifetimes.{Lfts}
use contract.Monad.{fact, fact_i}
use contract.Running.{tables}
use denote.Builtin.{u8}
use denote.Exit.{yes}
use denote.Laws.{Is, shows}
use denote.Plain.{uint_vals, uint_Tells}
use denote.Ref.{NamedLft}
use denote.Signature.{plain, named_lft}
use denote.Slice.{MutSlice, Room, finally, mut_slice_vals, mut_slice_Tells, shr_slice_vals}
use denote.Steps.{nothing, heard, peeks, only}
use denote.Struct.Laws as LL
use denote.Struct.Rest.{all_own, own_open}
use denote.Triple.Call.{calls_at}
use denote.Triple.Clauses.{Lasts, lasts}
use denote.Triple.Entry.{Args}
use denote.Triple.Spec.{triple_of}
use denote.Triple.Table.{framed}
use denote.Triple.Walked.{Stays, stay_dropped, stay_slice, Goes-dropped, Goes-slice}
use Rattle.ring.specs.declared.Point.{Point}
use Rattle.ring.specs.contracts.Point as P
use Rattle.ring.proofs.Point.TheLaws as P'
use Rattle.text.specs.Written.{written, after}
use Rattle.gate_words.specs.Words.{first_after, second_after}
use Rattle.gate_words_lent.specs.Ends.{Gives}
use Rattle.gate_words_lent.specs.declared.Outcome.{Outcome}
use Rattle.gate_words_lent.specs.contracts.Outcome as T
use Rattle.gate_words_lent.proofs.Outcome.TheLaws as T'
use Rattle.gate_words_lent.proofs.Again.{LentAgain, lends_again, comes_back}
use Rattle.gate_words_lent.specs.contracts.words as words
use Rattle.gate_words_lent.proofs.words.Met.{met as words-met}
use Rattle.gate_word_part.specs.Copies.{Copies}
use Rattle.gate_word_part.specs.lemmas.Laws.{first-length, second-length}
use Rattle.gate_word_part.specs.declared.Copied.{Copied}
use Rattle.gate_word_part.specs.contracts.Copied as S
use Rattle.gate_word_part.proofs.Copied.TheLaws as S'
use Rattle.gate_word_part.specs.contracts.put as put
use Rattle.gate_word_part.proofs.put.Met.{met as put-met}
use Rattle.gate_word_part.specs.contracts.word_part as f
use Rattle.gate_word_part.proofs.word_part.Statement.{statement}
use Rattle.gate_word_part.proofs.word_part.Code as code

abbrev stayed : Stays f.ended.signature.params f.ended.kept
stayed = let sl = stay_slice (0 ∷ []) tt (plain (λ _. u8)) in (stay_dropped _ yes, (stay_dropped _ yes, (stay_dropped _ yes, (sl, (sl, (sl, tt))))))

-- what `put` says of its result and of the last list of the third slice, z before
abbrev Puts : Outcome → Copied → List ℕ → List ℕ → Type 0
Puts o c z l = (c.number ≡ o.number) × (c.len ≡ after z 0 o.word.now) × (l ≡ written z 0 o.word.now)

copies : (k : ℕ) (u t : Point) (x y : MutBor (List ℕ)) {z l : List ℕ} {o : Outcome} {c : Copied} → Gives k u t x y o → Puts o c z l
    → Copies k u t x.now y.now z (first_after k u t x.now y.now) (second_after k u t x.now y.now) l c
copies k u t x y {z} g e = record { number = e.0 ∙ g.number; len = e.1 ∙ ap (after z 0) g.word; first = refl; second = refl; part = e.2 ∙ ap (written z 0) g.word }

pub word_part_spec : {M : Type 1} → statement M
word_part_spec 𝓤 𝓛 𝓜 𝓡 wired =
    let c = f.clauses 𝓛 𝓜.mem 𝓡.returns in
    let pt = Goes-dropped 𝓛 1 (plain (λ _. P.the_row)) yes (λ κs x w. refl) in
    let sl = Goes-slice 𝓛 1 0 tt (plain (λ _. u8)) in
    proved 𝓛 f.ended stayed c 𝓜 𝓡 (Goes-dropped 𝓛 1 (plain (λ _. u8)) yes (λ κs x w. refl), (pt, (pt, (sl, (sl, (sl, tt))))))
    f.Key.name code.function (code.unfolded 𝓤 𝓛.H 𝓜 𝓡 wired)
    (λ κs. (uint_vals w8, ((λ d. P'.lowered d ∷ []), ((λ d. P'.lowered d ∷ []), (mut_slice_vals, (mut_slice_vals, (mut_slice_vals, tt)))))))
    (λ κs. let sl' = mut_slice_Tells (named 0) κs.0 u8 in (uint_Tells w8, (P'.lowers.val_is, (P'.lowers.val_is, (sl', (sl', (sl', tt)))))))
    (λ κs qs bounds a _ are.
    let κ = κs.0 in let q = qs.0 in let k = a.0 in let u = a.1.0 in let t = a.1.1.0 in
    let x = a.1.1.1.0 in let y = a.1.1.1.1.0 in let z = a.1.1.1.1.1.0 in
    let room₁ = are.1.1.1.0.0.1 in let room₂ = are.1.1.1.1.0.0.1 in let room₃ = are.1.1.1.1.1.0.0.1 in
    let Own = λ (κ' : Lft) (vs : List Val) (r : MutBor (List ℕ)). (MutSlice (named 0) κ' u8).own_val r vs in
    let typed = λ (d : Point) (is : Is P.the_row d (P'.lowered d ∷ [])). ((LL.lawful P.the_type P'.the_laws 𝓛).typed d _ is).0 in
    qed 𝓛 (((‵ (flft κ q) ⊛ ‵ ftrue) ⊛ ‵ (u8.own_val k (vint w8 k ∷ [])) ⊛ ‵ (P.the_row.own_val u (P'.lowered u ∷ [])) ⊛ ‵ (P.the_row.own_val t (P'.lowered t ∷ []))
    ⊛ ‵ (Own κ (mut_slice_vals x) x) ⊛ ‵ (Own κ (mut_slice_vals y) y) ⊛ ‵ (Own κ (mut_slice_vals z) z) ⊛ ‵ ftrue) ∷ ‵ ftrue ∷ []) ∵
    split ! $ split ! $ move ! (2 ∷ []) $ split ! $ move ! (1 ∷ []) $ split ! $ move ! (1 ∷ []) $ split ! $ move ! (1 ∷ []) $ split ! $ move ! (1 ∷ []) $ split ! $ move ! (1 ∷ []) $ split ! $
    keep ! (0 ∷ 2 ∷ 3 ∷ 4 ∷ 5 ∷ 6 ∷ 7 ∷ []) $
    -- [part; second; first; t; u; k; the token]
    enter ! _ _ _ _ _ $ alloc_all ! (λ l. pass_all ! refl ((tt, record { fits = are.0.1 }), (typed u are.1.0, (typed t are.1.1.0, ((tt, (tt, (record { fits = room₁.0 }, tt))), ((tt, (tt, (record { fits = room₂.0 }, tt))), ((tt, (tt, (record { fits = room₃.0 }, tt))), tt)))))) $
    sets ! (addr ! (from ! (fld ! refl (hop ! (look_in_at ! 4 (sub ! 0 refl (whole !))) (stop !))))) refl (tt, tt) $
    sets ! (agg ! (and_then ! (get ! refl) (and_then ! (get_in ! (fld ! refl (stop !)) (sub ! 1 refl (whole !))) (no_more !)))) refl (tt, (tt, (record { fits = room₁.0 }, tt))) $
    sets ! (addr ! (from ! (fld ! refl (hop ! (look_in_at ! 5 (sub ! 0 refl (whole !))) (stop !))))) refl (tt, tt) $
    sets ! (agg ! (and_then ! (get ! refl) (and_then ! (get_in ! (fld ! refl (stop !)) (sub ! 1 refl (whole !))) (no_more !)))) refl (tt, (tt, (record { fits = room₂.0 }, tt))) $
    -- all three are lent again, for ν
    lft_new ! tt (λ ν.
    let Lent : MutBor (List ℕ) → GName → Fml = λ r δ. Own (ν ∷ []) (mut_slice_vals r) (record r { ghost_name = δ }) in
    let Kept : Share → MutBor (List ℕ) → GName → Fml = λ p r δ. LentAgain u8 κ (ν ∷ []) p r.ghost_name r.ref_ptr.0 r.ref_ptr.1 δ r.now in
    let lends = λ (p : Share) (r : MutBor (List ℕ)). lends_again u8 κ (ν ∷ []) p r.ghost_name r.ref_ptr.0 r.ref_ptr.1 𝓛 (named 0) (named 0) r.now in
    move ! (7 ∷ []) $ use1 𝓛 (‵ (flft κ (Share.left q)) ⊛ ‵ (flft κ (Share.right q))) (𝓛.lfts.lft_split κ q) $ split ! $ move ! (5 ∷ 0 ∷ []) $
    use2 𝓛 (later (some (λ (δ : GName). ‵ (Lent x δ) ⊛ ‵ (Kept (Share.left q) x δ)))) (lends (Share.left q) x) $ await ! tt $ pick ! (λ δ₁. split ! $ move ! (2 ∷ []) $
    use1 𝓛 (‵ (flft κ (Share.left (Share.right q))) ⊛ ‵ (flft κ (Share.right (Share.right q)))) (𝓛.lfts.lft_split κ (Share.right q)) $ split ! $ move ! (6 ∷ 0 ∷ []) $
    use2 𝓛 (later (some (λ (δ : GName). ‵ (Lent y δ) ⊛ ‵ (Kept (Share.left (Share.right q)) y δ)))) (lends (Share.left (Share.right q)) y) $ await ! tt $ pick ! (λ δ₂. split ! $ move ! (6 ∷ 2 ∷ []) $
    use2 𝓛 (later (some (λ (δ : GName). ‵ (Lent z δ) ⊛ ‵ (Kept (Share.right (Share.right q)) z δ)))) (lends (Share.right (Share.right q)) z) $ await ! tt $ pick ! (λ δ₃. split ! $
    -- `words`, of [part; what it keeps; second; what it keeps; first; what it keeps; the token of ν; t; u; k]
    let κ' : Lfts 1 = (ν ∷ [], tt) in
    let α : NamedLft = named_lft 1 0 tt κ' in
    let G = triple_of 𝓛 words.signature (words.spec 𝓛 𝓜.mem 𝓡.returns) in
    let x' = record x { ghost_name = δ₁ } in let y' = record y { ghost_name = δ₂ } in
    let args : Args words.signature κ' = (k, (u, (t, (x', (y', tt))))) in
    let g : G.Ghost = ((κ', (full_share, tt), tt, args, (vint w8 k ∷ [], (P'.lowered u ∷ [], (P'.lowered t ∷ [], (mut_slice_vals x, (mut_slice_vals y, tt)))))), tt) in
    nothing ! $ move ! (3 ∷ 0 ∷ []) $ join ! $ move ! (4 ∷ 0 ∷ []) $ join ! $ move ! (6 ∷ 0 ∷ []) $ join ! $ move ! (6 ∷ 0 ∷ []) $ join ! $ move ! (6 ∷ 0 ∷ []) $ join ! $
    nothing ! $ move ! (6 ∷ 0 ∷ []) $ join ! $ join ! $ nothing ! $ move ! (1 ∷ 0 ∷ []) $ use2 𝓛 (raw (G.pre g)) (id⊢ 𝓤 _) $
    calls_at ! (framed 𝓤 𝓛.H 𝓜 (tables 𝓤 𝓛.H 𝓜 𝓡 𝓡.env)) G (words-met 𝓤 𝓛 𝓜 𝓡 (code.calls-gate_words_lent::words 𝓡.env wired)) g
    (and_then ! (get ! refl) (and_then ! (get ! refl) (and_then ! (get ! refl) (and_then ! (get ! refl) (and_then ! (get ! refl) (no_more !)))))) (λ w.
    let s' = first_after k u t x.now y.now in let v' = second_after k u t x.now y.now in
    use1 𝓛 (later (some (λ (o : Outcome). ((‵ (flft (ν ∷ []) full_share) ⊛ ‵ ftrue) ⊛ ‵ ((T.the_row α).own_val o (w ∷ []))) ⊛
    some (λ (ws : Lasts words.ended κ' args). ‵ (lasts words.ended κ' args ws) ⊛ raw (fact 𝓤 (Gives k u t x' y' o)) ⊛ ‵ (finally u8 δ₁ s') ⊛ ‵ (finally u8 δ₂ v'))))) (id⊢ 𝓤 _) $
    await ! tt $ pick ! (λ o. split ! $ move ! (1 ∷ []) $ pick ! (λ ws. split ! $ drop ! $ split ! $ heard ! _ (λ gives. split ! $
    -- [how first ends; how second ends; the token of ν and the result; part; what it keeps; what second keeps; what first keeps]
    move ! (2 ∷ []) $ split ! $ move ! (1 ∷ []) $ peeks ! (T.the_row α) _ (shows 𝓛 (T.the_row α)) o (w ∷ []) (λ is.
    let word = (T'.lowers α).val_is o _ is in
    let is' : Is (T.the_row α) o (T'.lowered o ∷ []) = subst (λ (vs : List Val). Is (T.the_row α) o vs) word is in
    let owed = LL.owed (T.the_type α) (T'.the_laws α) o _ is' in
    lands_as ! (ap only word) refl (((LL.lawful (T.the_type α) (T'.the_laws α) 𝓛).typed o _ is').0) $ rewrite ! 0 (λ (vs : List Val). ‵ ((T.the_row α).own_val o vs)) word refl $
    sets ! (of_opd ! (get_in ! (fld ! refl (stop !)) (sub ! 0 refl (whole !)))) refl (tt, record { fits = owed.0.1 }) $
    sets ! (of_opd ! (get_in ! (fld ! refl (stop !)) (sub ! 1 refl (whole !)))) refl (tt, (tt, (record { fits = owed.1.0.0.1.0 }, tt))) $
    sets ! (addr ! (from ! (fld ! refl (hop ! (look_in_at ! 6 (sub ! 0 refl (whole !))) (stop !))))) refl (tt, tt) $
    sets ! (agg ! (and_then ! (get ! refl) (and_then ! (get_in ! (fld ! refl (stop !)) (sub ! 1 refl (whole !))) (no_more !)))) refl (tt, (tt, (record { fits = room₃.0 }, tt))) $
    use1 𝓛 (given (T'.lowered o ∷ [] ≡ T'.lowered o ∷ []) (‵ (all_own (T.the_type α).parts (T'.the_laws α) (o.number, (o.word, tt))))) (own_open 𝓛 (T.the_type α) (T'.the_laws α) (o.number, (o.word, tt)) (T'.lowered o)) $ learn ! (λ _.
    fsplit ! $ move ! (1 ∷ []) $ fsplit ! $
    -- `put`, of [the word; nothing; the number; the token of ν; how first ends; how second ends; part; what it keeps; what second keeps; what first keeps]
    let G' = triple_of 𝓛 put.signature (put.spec 𝓛 𝓜.mem 𝓡.returns) in
    let args' : Args put.signature κ' = (o.number, (o.word, (record z { ghost_name = δ₃ }, tt))) in
    let g' : G'.Ghost = ((κ', (full_share, tt), tt, args', (vint w8 o.number ∷ [], (shr_slice_vals o.word, (mut_slice_vals z, tt)))), tt) in
    nothing ! $ move ! (7 ∷ 0 ∷ []) $ join ! $ move ! (1 ∷ 0 ∷ []) $ join ! $ move ! (2 ∷ 0 ∷ []) $ join ! $ move ! (2 ∷ 0 ∷ []) $ join ! $ nothing ! $ move ! (1 ∷ 0 ∷ []) $ use2 𝓛 (raw (G'.pre g')) (id⊢ 𝓤 _) $
    calls_at ! (framed 𝓤 𝓛.H 𝓜 (tables 𝓤 𝓛.H 𝓜 𝓡 𝓡.env)) G' (put-met 𝓤 𝓛 𝓜 𝓡 (code.calls-gate_word_part::put 𝓡.env wired)) g'
    (and_then ! (get ! refl) (and_then ! (get ! refl) (and_then ! (get ! refl) (no_more !)))) (λ v.
    use1 𝓛 (later (some (λ (r : Copied). ((‵ (flft (ν ∷ []) full_share) ⊛ ‵ ftrue) ⊛ ‵ (S.the_row.own_val r (v ∷ []))) ⊛
    some (λ (ws' : Lasts put.ended κ' args'). ‵ (lasts put.ended κ' args' ws') ⊛ raw (fact 𝓤 (Puts o r z.now ws'.1.1.0)))))) (id⊢ 𝓤 _) $
    await ! tt $ pick ! (λ r. split ! $ move ! (1 ∷ []) $ pick ! (λ ws'. split ! $ move ! (1 ∷ []) $ heard ! _ (λ puts. fsplit ! $ drop ! $ fsplit ! $ drop ! $ fsplit ! $ fsplit ! $ fsplit ! $ move ! (1 ∷ []) $ feq_l ! (λ same.
    move ! (1 ∷ []) $ drop ! $ move ! (1 ∷ []) $ drop ! $ move ! (2 ∷ []) $ drop ! $ move ! (1 ∷ []) $ split ! $ split ! $
    -- the lifetime ends, and the three come back: [the token of ν; nothing; the result; how part, first and second end; what part, second and first keep]
    let l' = ws'.1.1.0 in let len₁ = first-length k u t x.now y.now in let len₂ = second-length k u t x.now y.now in
    let back = λ (p : Share) (h : MutBor (List ℕ)) (δ : GName) (zs : List ℕ) (e : length zs ≡ length h.now) (room : Room u8 (length h.now)). comes_back u8 κ (ν ∷ []) p h.ghost_name h.ref_ptr.0 h.ref_ptr.1 𝓛 (named 0) (named 0) h.now δ zs room e in
    lft_end ! tt $ use1 𝓛 (‵ (fdead (ν ∷ [])) ⊛ ‵ (fdead (ν ∷ []))) (𝓛.lfts.dead_dup (ν ∷ [])) $ split ! $ use1 𝓛 (‵ (fdead (ν ∷ [])) ⊛ ‵ (fdead (ν ∷ []))) (𝓛.lfts.dead_dup (ν ∷ [])) $ split ! $
    move ! (0 ∷ 10 ∷ 6 ∷ []) $ use3 𝓛 (later (‵ (Own κ (mut_slice_vals x) (record x { now = s' })) ⊛ ‵ (flft κ (Share.left q)))) (back (Share.left q) x δ₁ s' len₁ room₁) $ await ! tt $ split ! $
    move ! (2 ∷ 9 ∷ 7 ∷ []) $ use3 𝓛 (later (‵ (Own κ (mut_slice_vals y) (record y { now = v' })) ⊛ ‵ (flft κ (Share.left (Share.right q))))) (back (Share.left (Share.right q)) y δ₂ v' len₂ room₂) $ await ! tt $ split ! $
    move ! (4 ∷ 8 ∷ 7 ∷ []) $ use3 𝓛 (later (‵ (Own κ (mut_slice_vals z) (record z { now = l' })) ⊛ ‵ (flft κ (Share.right (Share.right q))))) (back (Share.right (Share.right q)) z δ₃ l' same room₃) $ await ! tt $ split ! $
    -- [part; its token; second; its token; first; its token; nothing; the result]
    move ! (3 ∷ 1 ∷ []) $ use2 𝓛 (‵ (flft κ (Share.right q))) (𝓛.lfts.lft_join κ (Share.right q)) $ move ! (4 ∷ 0 ∷ []) $ use2 𝓛 (‵ (flft κ q)) (𝓛.lfts.lft_join κ q) $
    move ! (5 ∷ []) $ peeks ! S.the_row _ (shows 𝓛 S.the_row) r (v ∷ []) (λ is₂.
    let word₂ = S'.lowers.val_is r _ is₂ in
    let is₂' : Is S.the_row r (S'.lowered r ∷ []) = subst (λ (vs : List Val). Is S.the_row r vs) word₂ is₂ in
    lands_as ! (ap only word₂) refl (((LL.lawful S.the_type S'.the_laws 𝓛).typed r _ is₂').0) $ rewrite ! 0 (λ (vs : List Val). ‵ (S.the_row.own_val r vs)) word₂ refl $
    returns ! (look_at ! 0 refl) $ free_all ! refl $
    -- [the result; the token; part; second; first; nothing]
    suffices ! _ (leaves 𝓛 f.ended stayed c ((κs, qs, bounds, a, (vint w8 k ∷ [], (P'.lowered u ∷ [], (P'.lowered t ∷ [], (mut_slice_vals x, (mut_slice_vals y, (mut_slice_vals z, tt))))))), tt) (S'.lowered r) r (tt, (tt, (tt, (s', (v', (l', tt)))))) (tt, (tt, (tt, (len₁, (len₂, (same, tt))))))) $
    use0 𝓛 (raw (fact 𝓤 (Copies k u t x.now y.now z.now s' v' l' r))) (fact_i 𝓤 _ (emp 𝓤) (copies k u t x' y' gives puts)) $ move ! (1 ∷ 0 ∷ []) $ join ! $
    nothing ! $ move ! (3 ∷ 0 ∷ []) $ join ! $ move ! (3 ∷ 0 ∷ []) $ join ! $ move ! (3 ∷ 0 ∷ []) $ join ! $ nothing ! $ join ! $ nothing ! $ join ! $ nothing ! $ join ! $ join ! $ move ! (1 ∷ 2 ∷ 0 ∷ []) $ join ! $ join ! $ done !))))))))))))))))))
