-- `words` meets its contract: a walk of its MIR, by hand, with two calls and no branch. Both slices are lent again to `spell_part`, for a lifetime that is made for the call, come back at the lists that it left, and are shared for all the time that they have left, which says how each ends (`Two.antt`). Then `hand_back` picks the part.
-- All that the proof knows of the two is that each meets its contract.
-- Assumes `Logic`.
use Rattle.std.proofs.Common.{◌≡◌, ℕ, List, [], ◌∷◌, refl, subst, ap, ◌∙◌, cond, take, w8, Bor, MutBor}
use Rattle.std.proofs.raw_atomic.Walks.{proved, leaves}
use base.Fraction.{full_share}
use base.Share
use base.Logic.{emp, id⊢}
use base.Fml.{GName, ftrue, flft}
use mir.Syntax.{named}
use mir.Val.{Val, vint}
use types.Kit.{‵, raw, ◌⊛◌, later, some, ◌$◌, ◌∵◌, !, qed, done, move, keep, drop, use0, use1, use2, use3, split, join, fsplit, feq_l, pick, await, rewrite, suffices}
use types.Run.{enter, addr, from, fld, hop, stop, and_then, no_more, returns}
use types.Part.{agg, whole, sub}
use types.ByLocal.{alloc_all, pass_all, free_all, look_at, look_in_at, get, get_in, sets, lands_as}
use contract.Monad.{fact, fact_i}
use contract.Running.{tables}
use denote.Builtin.{u8}
use denote.Exit.{yes, no}
use denote.Laws.{Is, shows}
use denote.Plain.{uint_vals, uint_Tells, uint_row_laws}
use denote.Ref.{NamedLft}
use denote.Copied.{uint_Copied}
use denote.Signature.{plain, named_lft}
use denote.Slice.{MutSlice, finally, mut_slice_vals, mut_slice_Tells}
use denote.Steps.{nothing, heard, peeks, only}
use denote.Struct.Laws as LL
use denote.Triple.Call.{calls_at}
use contract.Lifetimes.{Lfts}
use denote.Triple.Entry.{Args}
use denote.Triple.Clauses.{Lasts, lasts}
use denote.Triple.Spec.{triple_of}
use denote.Triple.Table.{framed}
use denote.Triple.Walked.{Stays, stay_dropped, Goes-dropped, Goes-spent_slice}
use Rattle.ring.specs.declared.Point.{Point}
use Rattle.ring.specs.contracts.Point as P
use Rattle.ring.proofs.Point.TheLaws as P'
use Rattle.gate_words.specs.Words.{Hands}
use Rattle.gate_words.specs.lemmas.Laws.{part-is}
use Rattle.gate_words.specs.declared.Part.{Part}
use Rattle.gate_words.specs.contracts.Part as S
use Rattle.gate_words.proofs.Part.TheLaws as S'
use Rattle.gate_words.specs.contracts.spell_part as spell
use Rattle.gate_words.proofs.spell_part.Met.{met as spell-met}
use Rattle.gate_words_lent.specs.Ends.{Gives}
use Rattle.gate_words_lent.specs.declared.Outcome.{Outcome}
use Rattle.gate_words_lent.specs.contracts.Outcome as T
use Rattle.gate_words_lent.proofs.Outcome.TheLaws as T'
use Rattle.gate_words_lent.proofs.Two as Two
use Rattle.gate_words_lent.specs.contracts.hand_back as back
use Rattle.gate_words_lent.proofs.hand_back.Met.{met as back-met}
use Rattle.gate_words_lent.specs.contracts.words as f
use Rattle.gate_words_lent.proofs.words.Statement.{statement}
use Rattle.gate_words_lent.proofs.words.Code as code

abbrev stayed : Stays f.ended.signature.params f.ended.kept
stayed = (stay_dropped _ yes, (stay_dropped _ yes, (stay_dropped _ yes, (stay_dropped _ no, (stay_dropped _ no, tt)))))

abbrev shared : MutBor (List ℕ) → List ℕ → Bor (List ℕ)
shared x l = record { ref_ptr = x.ref_ptr; now = l }

gives : (k : ℕ) (u t : Point) (x y : MutBor (List ℕ)) {s' t' : List ℕ} {r : Part} {o : Outcome} → Hands k u t x.now y.now s' t' r → o.number ≡ r.number → o.word.now ≡ take r.len (cond r.second t' s')
    → o.word.ref_ptr ≡ cond r.second y.ref_ptr x.ref_ptr → Gives k u t x y o
gives k u t x y h n w p = record { number = n ∙ h.number; word = w ∙ part-is k u t x.now y.now h; place = p ∙ rw h.which }

pub words_spec : {M : Type 1} → statement M
words_spec 𝓤 𝓛 𝓜 𝓡 wired =
    let c = f.clauses 𝓛 𝓜.mem 𝓡.returns in
    let pt = Goes-dropped 𝓛 1 (plain (λ _. P.the_row)) yes (λ κs x w. refl) in
    let sl = Goes-spent_slice 𝓛 1 (0 ∷ []) tt (plain (λ _. u8)) in
    proved 𝓛 f.ended stayed c 𝓜 𝓡 (Goes-dropped 𝓛 1 (plain (λ _. u8)) yes (λ κs x w. refl), (pt, (pt, (sl, (sl, tt)))))
    f.Key.name code.function (code.unfolded 𝓤 𝓛.H 𝓜 𝓡 wired)
    (λ κs. (uint_vals w8, ((λ d. P'.lowered d ∷ []), ((λ d. P'.lowered d ∷ []), (mut_slice_vals, (mut_slice_vals, tt))))))
    (λ κs. (uint_Tells w8, (P'.lowers.val_is, (P'.lowers.val_is, (mut_slice_Tells (named 0) κs.0 u8, (mut_slice_Tells (named 0) κs.0 u8, tt))))))
    (λ κs qs bounds a _ are.
    let κ = κs.0 in let q = qs.0 in let k = a.0 in let u = a.1.0 in let t = a.1.1.0 in
    let x = a.1.1.1.0 in let y = a.1.1.1.1.0 in let s = x.now in let v = y.now in
    let b₁ = x.ref_ptr.0 in let o₁ = x.ref_ptr.1 in let b₂ = y.ref_ptr.0 in let o₂ = y.ref_ptr.1 in let γ₁ = x.ghost_name in let γ₂ = y.ghost_name in
    let room₁ = are.1.1.1.0.0.1 in let room₂ = are.1.1.1.1.0.0.1 in
    let Own = λ (z : MutBor (List ℕ)). (MutSlice (named 0) κ u8).own_val z (mut_slice_vals z) in
    let typed = λ (d : Point) (is : Is P.the_row d (P'.lowered d ∷ [])). ((LL.lawful P.the_type P'.the_laws 𝓛).typed d _ is).0 in
    qed 𝓛 (((‵ (flft κ q) ⊛ ‵ ftrue) ⊛ ‵ (u8.own_val k (vint w8 k ∷ [])) ⊛ ‵ (P.the_row.own_val u (P'.lowered u ∷ [])) ⊛ ‵ (P.the_row.own_val t (P'.lowered t ∷ [])) ⊛ ‵ (Own x) ⊛ ‵ (Own y) ⊛ ‵ ftrue) ∷ ‵ ftrue ∷ []) ∵
    split ! $ split ! $ move ! (2 ∷ []) $ split ! $ move ! (1 ∷ []) $ split ! $ move ! (1 ∷ []) $ split ! $ move ! (1 ∷ []) $ split ! $ move ! (1 ∷ []) $ split ! $
    keep ! (0 ∷ 2 ∷ 3 ∷ 4 ∷ 5 ∷ 6 ∷ []) $
    -- [second; first; t; u; k; the token]
    enter ! _ _ _ _ _ $ alloc_all ! (λ l. pass_all ! refl ((tt, record { fits = are.0.1 }), (typed u are.1.0, (typed t are.1.1.0, ((tt, (tt, (record { fits = room₁.0 }, tt))), ((tt, (tt, (record { fits = room₂.0 }, tt))), tt))))) $
    sets ! (addr ! (from ! (fld ! refl (hop ! (look_in_at ! 4 (sub ! 0 refl (whole !))) (stop !))))) refl (tt, tt) $
    sets ! (agg ! (and_then ! (get ! refl) (and_then ! (get_in ! (fld ! refl (stop !)) (sub ! 1 refl (whole !))) (no_more !)))) refl (tt, (tt, (record { fits = room₁.0 }, tt))) $
    sets ! (addr ! (from ! (fld ! refl (hop ! (look_in_at ! 5 (sub ! 0 refl (whole !))) (stop !))))) refl (tt, tt) $
    sets ! (agg ! (and_then ! (get ! refl) (and_then ! (get_in ! (fld ! refl (stop !)) (sub ! 1 refl (whole !))) (no_more !)))) refl (tt, (tt, (record { fits = room₂.0 }, tt))) $
    -- `spell_part`, of both slices, lent again
    move ! (5 ∷ 1 ∷ 0 ∷ []) $
    use3 𝓛 (later (some (λ (z : ℕ × (GName × GName)). Two.Tokens u8 𝓛 κ q b₁ o₁ b₂ o₂ γ₁ γ₂ s v z.0 ⊛ (Two.Lent u8 𝓛 κ q b₁ o₁ b₂ o₂ γ₁ γ₂ s v z ⊛ Two.Kept u8 𝓛 κ q b₁ o₁ b₂ o₂ γ₁ γ₂ s v z)))) (Two.lends_two u8 𝓛 κ q b₁ o₁ b₂ o₂ γ₁ γ₂ s v) $ await ! tt $ pick ! (λ z.
    split ! $ move ! (1 ∷ []) $ split ! $ split ! $
    -- [first; second; what is kept; the tokens; t; u; k]
    let G = triple_of 𝓛 spell.signature (spell.spec 𝓛 𝓜.mem 𝓡.returns) in
    let κ' : Lfts 2 = (z.0 ∷ [], (z.0 ∷ [], tt)) in
    let args : Args spell.signature κ' = (k, (u, (t, (record x { ghost_name = z.1.0 }, (record y { ghost_name = z.1.1 }, tt))))) in
    let g : G.Ghost = ((κ', (Share.left full_share, (Share.right full_share, tt)), tt, args, (vint w8 k ∷ [], (P'.lowered u ∷ [], (P'.lowered t ∷ [], (mut_slice_vals x, (mut_slice_vals y, tt)))))), tt) in
    nothing ! $ move ! (2 ∷ 0 ∷ []) $ join ! $ move ! (1 ∷ 0 ∷ []) $ join ! $ move ! (3 ∷ 0 ∷ []) $ join ! $ move ! (3 ∷ 0 ∷ []) $ join ! $ move ! (3 ∷ 0 ∷ []) $ join ! $
    move ! (2 ∷ 0 ∷ []) $ join ! $ nothing ! $ move ! (1 ∷ 0 ∷ []) $ use2 𝓛 (raw (G.pre g)) (id⊢ 𝓤 _) $
    calls_at ! (framed 𝓤 𝓛.H 𝓜 (tables 𝓤 𝓛.H 𝓜 𝓡 𝓡.env)) G (spell-met 𝓤 𝓛 𝓜 𝓡 (code.calls-gate_words::spell_part 𝓡.env wired)) g
    (and_then ! (get ! refl) (and_then ! (get ! refl) (and_then ! (get ! refl) (and_then ! (get ! refl) (and_then ! (get ! refl) (no_more !)))))) (λ w.
    use1 𝓛 (later (some (λ (r : Part). (Two.Tokens u8 𝓛 κ q b₁ o₁ b₂ o₂ γ₁ γ₂ s v z.0 ⊛ ‵ (S.the_row.own_val r (w ∷ []))) ⊛
    some (λ (zs : Lasts spell.ended κ' args). ‵ (lasts spell.ended κ' args zs) ⊛ raw (fact 𝓤 (Hands k u t s v zs.1.1.1.0 zs.1.1.1.1.0 r)))))) (id⊢ 𝓤 _) $
    await ! tt $ pick ! (λ r. split ! $ move ! (1 ∷ []) $ pick ! (λ zs. split ! $ move ! (1 ∷ []) $ heard ! _ (λ e.
    let s' = zs.1.1.1.0 in let v' = zs.1.1.1.1.0 in
    -- what says the last lists
    fsplit ! $ drop ! $ fsplit ! $ drop ! $ fsplit ! $ drop ! $ fsplit ! $ fsplit ! $ fsplit ! $ move ! (1 ∷ []) $ feq_l ! (λ e₁. move ! (1 ∷ []) $ drop ! $
    move ! (1 ∷ []) $ fsplit ! $ fsplit ! $ fsplit ! $ move ! (1 ∷ []) $ feq_l ! (λ e₂. move ! (1 ∷ []) $ drop ! $ move ! (1 ∷ []) $ drop ! $
    -- [how second ends; how first ends; the tokens and the answer; what is kept]
    move ! (2 ∷ []) $ split ! $ move ! (1 ∷ []) $ peeks ! S.the_row _ (shows 𝓛 S.the_row) r (w ∷ []) (λ is.
    let word = S'.lowers.val_is r _ is in
    let is' : Is S.the_row r (S'.lowered r ∷ []) = subst (λ (vs : List Val). Is S.the_row r vs) word is in
    lands_as ! (ap only word) refl (((LL.lawful S.the_type S'.the_laws 𝓛).typed r _ is').0) $
    rewrite ! 0 (λ (vs : List Val). ‵ (S.the_row.own_val r vs)) word refl $
    -- [the answer; the tokens; how second ends; how first ends; what is kept]
    sets ! (addr ! (from ! (fld ! refl (hop ! (look_in_at ! 4 (sub ! 0 refl (whole !))) (stop !))))) refl (tt, tt) $
    sets ! (agg ! (and_then ! (get ! refl) (and_then ! (get_in ! (fld ! refl (stop !)) (sub ! 1 refl (whole !))) (no_more !)))) refl (tt, (tt, (record { fits = room₁.0 }, tt))) $
    sets ! (addr ! (from ! (fld ! refl (hop ! (look_in_at ! 5 (sub ! 0 refl (whole !))) (stop !))))) refl (tt, tt) $
    sets ! (agg ! (and_then ! (get ! refl) (and_then ! (get_in ! (fld ! refl (stop !)) (sub ! 1 refl (whole !))) (no_more !)))) refl (tt, (tt, (record { fits = room₂.0 }, tt))) $
    move ! (3 ∷ 2 ∷ []) $ join ! $ move ! (2 ∷ 0 ∷ 3 ∷ []) $
    use3 𝓛 (later (Two.Shared u8 𝓛 κ q b₁ o₁ b₂ o₂ γ₁ γ₂ s v s' v')) (Two.backs_two u8 𝓛 κ q b₁ o₁ b₂ o₂ γ₁ γ₂ s v s' v' (uint_row_laws w8) ((uint_Copied 𝓛 w8).shares full_share κ) z room₁ room₂ e₁ e₂) $ await ! tt $
    split ! $ move ! (1 ∷ []) $ split ! $ move ! (1 ∷ []) $ split ! $
    -- `hand_back`, of [second; how the slices end; first; the token; the answer]
    let α : NamedLft = named_lft 1 0 tt (κ, tt) in
    let G' = triple_of 𝓛 back.signature (back.spec 𝓛 𝓜.mem 𝓡.returns) in
    let args' : Args back.signature (κ, tt) = (r, (shared x s', (shared y v', tt))) in
    let g' : G'.Ghost = (((κ, tt), (q, tt), tt, args', (S'.lowered r ∷ [], (mut_slice_vals x, (mut_slice_vals y, tt)))), tt) in
    nothing ! $ move ! (1 ∷ 0 ∷ []) $ join ! $ move ! (2 ∷ 0 ∷ []) $ join ! $ move ! (3 ∷ 0 ∷ []) $ join ! $
    nothing ! $ move ! (3 ∷ 0 ∷ []) $ join ! $ join ! $ nothing ! $ move ! (1 ∷ 0 ∷ []) $ use2 𝓛 (raw (G'.pre g')) (id⊢ 𝓤 _) $
    calls_at ! (framed 𝓤 𝓛.H 𝓜 (tables 𝓤 𝓛.H 𝓜 𝓡 𝓡.env)) G' (back-met 𝓤 𝓛 𝓜 𝓡 (code.calls-gate_words_lent::hand_back 𝓡.env wired)) g'
    (and_then ! (get ! refl) (and_then ! (get ! refl) (and_then ! (get ! refl) (no_more !)))) (λ w'.
    use1 𝓛 (later (some (λ (o : Outcome). ((‵ (flft κ q) ⊛ ‵ ftrue) ⊛ ‵ ((T.the_row α).own_val o (w' ∷ []))) ⊛ some (λ (zs' : Lasts back.ended (κ, tt) args'). ‵ (lasts back.ended (κ, tt) args' zs') ⊛
    raw (fact 𝓤 (o.number ≡ r.number)) ⊛ raw (fact 𝓤 (o.word.now ≡ take r.len (cond r.second v' s'))) ⊛ raw (fact 𝓤 (o.word.ref_ptr ≡ cond r.second y.ref_ptr x.ref_ptr)))))) (id⊢ 𝓤 _) $
    await ! tt $ pick ! (λ o. split ! $ move ! (1 ∷ []) $ pick ! (λ zs'. split ! $ drop ! $ split ! $ heard ! _ (λ number. split ! $ heard ! _ (λ bytes. heard ! _ (λ place. split ! $ move ! (1 ∷ []) $
    peeks ! (T.the_row α) _ (shows 𝓛 (T.the_row α)) o (w' ∷ []) (λ is₂.
    let word' = (T'.lowers α).val_is o _ is₂ in
    let is₂' : Is (T.the_row α) o (T'.lowered o ∷ []) = subst (λ (vs : List Val). Is (T.the_row α) o vs) word' is₂ in
    lands_as ! (ap only word') refl (((LL.lawful (T.the_type α) (T'.the_laws α) 𝓛).typed o _ is₂').0) $ rewrite ! 0 (λ (vs : List Val). ‵ ((T.the_row α).own_val o vs)) word' refl $
    returns ! (look_at ! 0 refl) $ free_all ! refl $
    -- [the result; the token; how the slices end]
    suffices ! _ (leaves 𝓛 f.ended stayed c ((κs, qs, bounds, a, (vint w8 k ∷ [], (P'.lowered u ∷ [], (P'.lowered t ∷ [], (mut_slice_vals x, (mut_slice_vals y, tt)))))), tt) (T'.lowered o) o (tt, (tt, (tt, (tt, (tt, tt))))) (tt, (tt, (tt, (tt, (tt, tt)))))) $
    use0 𝓛 (raw (fact 𝓤 (Gives k u t x y o))) (fact_i 𝓤 _ (emp 𝓤) (gives k u t x y e number bytes place)) $ move ! (3 ∷ []) $ split ! $
    rewrite ! 0 (λ (zs : List ℕ). ‵ (finally u8 γ₁ zs)) e.first refl $ rewrite ! 1 (λ (zs : List ℕ). ‵ (finally u8 γ₂ zs)) e.second refl $
    -- [how first ends; how second ends; the fact; the result; the token]
    join ! $ move ! (1 ∷ 0 ∷ []) $ join ! $ move ! (1 ∷ 0 ∷ []) $ join ! $ nothing ! $ nothing ! $ join ! $ nothing ! $ join ! $ nothing ! $ join ! $ nothing ! $ join ! $ nothing ! $ join ! $ join ! $ move ! (1 ∷ 0 ∷ []) $ join ! $ done !)))))))))))))))))
