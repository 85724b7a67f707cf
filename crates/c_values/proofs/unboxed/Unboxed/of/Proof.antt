-- `of` keeps what `Box::into_raw_with_allocator` hands out. Assumes `Logic`.
use Rattle.std.proofs.Common.{◌≡◌, List, [], ◌∷◌, ◌++◌, refl, sym, ap, ◌∙◌, subst}
use mir.Syntax.{a_type, dcons, dnil}
use mir.MapTy.{inst_fn}
use mir.Raw.{raw as bare}
use mir.Val.{Val, vstruct, of_list}
use base.Logic.{SProp, ent, never, fst∗, id⊢}
use base.Fml.{Fml, ftrue, fsep, flft}
use prog.Wp.{WpFn}
use types.Logic.{sem}
use types.Kit.{Item, ‵, raw, ◌⊛◌, some, later, ◌$◌, ◌∵◌, !, qed, move, drop, use1, await, pick, split, split3, join}
use types.Kit.{fsplit, fjoin, fpick, feq_l, rewrite, suffices, done}
use types.Run.{stop, fld, of_opd, no_more, and_then, returns, enter}
use types.ByLocal.{alloc_all, pass_all, free_all, look_at, get, get_in, sets, lands_as}
use types.Part.{agg, sub, whole}
use contract.BorrowLft.{◌⊑◌}
use contract.Monad.{fact}
use contract.Running.{tables}
use denote.Builtin.{RawPtr}
use denote.Param.{bounded}
use denote.RattleType.{RattleType}
use denote.RawPtr.{Ptr, block_ptr, null_ptr, ptr_val, in_a_block}
use denote.Signature.{plain}
use denote.Steps.{nothing, heard, only}
use denote.Struct.Tuple.{Tuple}
use denote.Triple.Spec.{triple_of}
use denote.Triple.Call.{calls_at}
use denote.Triple.Walked.{says, Stays, stay_dropped, walk_of, ends_at}
use Rattle.core.proofs.alloc.Calls.{token, handle_tells, Goes-blank}
use Rattle.core.proofs.atomic.Steps.{fm}
use Rattle.std_alloc.specs.Box.Ownership.{box_owns}
use Rattle.std_alloc.proofs.BoxSteps.Form.{Bx, D, τ, R, P, B, word, box_typed}
use Rattle.std_alloc.proofs.BoxSteps.Steps.{box_out, box_in}
use Rattle.std_alloc.specs.contracts.boxed.Box.into_raw_with_allocator as opened
use Rattle.std_alloc.proofs.boxed.Box.into_raw_with_allocator.Met.{met}
use Rattle.std.proofs.raw_atomic.Walks.{proved_at}
use Rattle.c_values.specs.contracts.unboxed.Unboxed as unboxed
use Rattle.c_values.specs.contracts.unboxed.Unboxed.of.{ended, clauses}
use Rattle.c_values.specs.contracts.unboxed.Unboxed.of.Key.{name as #self}
use Rattle.c_values.proofs.unboxed.Unboxed.of.Statement.{statement}
use Rattle.c_values.proofs.unboxed.Unboxed.of.Code as code

pub of_spec : {M : Type 1} → statement M
of_spec 𝓤 𝓛 𝓜 𝓡 wired T A LT LA g d dd dt allocator glued dropped =
    let E : Bx = record { row = T; laws = LT; al = record { row = A; laws = LA; g = g; d = d; drops = dd } } in
    let H = 𝓛.H in
    let 𝓣 = tables 𝓤 H 𝓜 𝓡 𝓡.env in
    let at_types = bounded (a_type ∷ a_type ∷ []) (T, (A, tt)) (dcons d (dcons dd (dcons dt dnil))) in
    let fn = inst_fn at_types code.function in
    let end = ended T A g d dd dt in
    let said = clauses T A g d dd dt 𝓛 𝓜.mem 𝓡.returns in
    let To : RattleType = unboxed.the_row (R E) (P E) g in
    let stays : Stays end.signature.params end.kept = (stay_dropped (plain (λ _. B E)) end.kept.0, tt) in
    let Opens = triple_of 𝓛 (opened.signature T A g d dd dt) (opened.spec T A g d dd dt 𝓛 𝓜.mem 𝓡.returns) in
    proved_at 𝓛 end stays said 𝓜 𝓡 (Goes-blank 𝓛 2 (plain (λ _. B E)) end.kept.0 (λ κs x f. tt), tt)
    (#self at_types) fn (code.unfolded 𝓤 H 𝓜 𝓡 wired (T, (A, tt)) d dd dt) (λ z are.
    let κs = z.0.0 in
    let qs = z.0.1 in
    let boxed : D E = z.0.3.0 in
    let a = boxed.alloc in
    let Owned : Ptr → Fml = λ p. box_owns (token E.al a) (R E) p boxed.value in
    let Post : Val → SProp 𝓤 = (walk_of 𝓛 end stays said).post z in
    let Runs : List Val → SProp 𝓤 = λ ws. WpFn 𝓤 H 𝓣.C 𝓣.Λ fn ws Post in
    let alive : Item 𝓤 = ‵ (flft κs.0 qs.0) ⊛ ‵ (flft κs.1.0 qs.1.0) ⊛ ‵ ftrue in
    let bounds : Item 𝓤 = raw (fact 𝓤 (κs.0 ⊑ T.lives)) ⊛ raw (fact 𝓤 (κs.1.0 ⊑ A.lives)) ⊛ ‵ ftrue in
    qed 𝓛 ((alive ⊛ ‵ (fsep ((B E).own_val boxed z.0.4.0) ftrue)) ∷ bounds ∷ []) ∵
    split ! $ move ! (1 ∷ []) $ fsplit ! $
    box_out E ! boxed z.0.4.0 (λ b o h at word_is fits. box_in E ! boxed b o boxed.value at refl $
    -- [the box; nothing; the tokens; the bounds]
    let w = word E h b o in
    let y : Opens.Ghost = ((κs, qs, tt, (boxed, tt), (w ∷ [], tt)), tt) in
    suffices ! (Runs (w ∷ [])) (subst (λ ws. ent 𝓤 (Runs (w ∷ [])) (Runs ws)) (sym (λ i. word_is i ++ [])) (id⊢ 𝓤 _)) $
    enter ! 𝓣.C 𝓣.Λ fn (w ∷ []) _ $
    alloc_all ! (λ l. pass_all ! refl (box_typed E h b o fits, tt) $
    -- let (at, alloc) = Box::into_raw_with_allocator(object);
    sets ! (of_opd ! (get ! refl)) refl (box_typed E h b o fits) $
    fjoin ! $ move ! (1 ∷ 0 ∷ []) $ join ! $ join ! $
    use1 𝓛 (raw (Opens.pre y)) (id⊢ 𝓤 _) $
    calls_at ! (fm 𝓛 𝓜 𝓡) Opens
    (met 𝓤 𝓛 𝓜 𝓡 (code.calls-std_alloc::boxed::Box::into_raw_with_allocator 𝓡.env wired) T A LT LA g d dd dt allocator
    glued dropped) y (and_then ! (get ! refl) (no_more !)) (λ u.
    use1 𝓛 (later (some (λ (r : Ptr × A.Denot). (alive ⊛ ‵ ((Tuple (RawPtr ∷ P E ∷ [])).own_val r (u ∷ []))) ⊛
    some (λ (_ : (Unit {0} × (Unit {0} × Unit {0})) × Unit {0}). ‵ (fsep (fsep ftrue (fsep ftrue ftrue)) ftrue) ⊛
    (raw (fact 𝓤 (r.1 ≡ a)) ⊛ ‵ (Owned r.0)))))) (id⊢ 𝓤 _) $
    await ! tt $ pick ! (λ r. split ! $ move ! (1 ∷ []) $ pick ! (λ _. split3 ! $ drop ! $
    heard ! (r.1 ≡ a) (λ same.
    -- nothing is owned at null
    in_a_block ! r.0 Owned (fst∗ 𝓤 (never 𝓤) (sem 𝓛 (token E.al a (bare (τ E)) null_ptr))) (λ b' o' at'.
    -- [what the box owned; the tokens with the pair]
    move ! (1 ∷ []) $ split ! $ move ! (1 ∷ []) $
    fpick ! (λ words. fsplit ! $ feq_l ! (λ pair_is. fsplit ! $ feq_l ! (λ ptr_is. fsplit ! $
    rewrite ! 0 (λ s. ‵ (A.own_val s words.1.0)) same refl $
    handle_tells E.al ! a words.1.0 (λ h' alloc_is fits'.
    let w' = word E h' b' o' in
    let made : To.Denot = record { at = block_ptr b' o'; alloc = a; value = boxed.value } in
    let again : D E = record { ptr = block_ptr b' o'; alloc = a; value = boxed.value } in
    let is_pair = pair_is ∙ (λ i. vstruct (of_list ((ptr_is ∙ ap (λ p. ptr_val p ∷ []) at') i ++ (alloc_is i ++ [])))
    ∷ []) in
    lands_as ! (ap only is_pair) refl (box_typed E h' b' o' fits') $
    sets ! (of_opd ! (get_in ! (fld ! refl (stop !)) (sub ! 0 refl (whole !)))) refl (tt, tt) $
    sets ! (of_opd ! (get_in ! (fld ! refl (stop !)) (sub ! 1 refl (whole !)))) refl fits' $
    -- Unboxed { at, alloc }
    sets ! (of_opd ! (get ! refl)) refl fits' $
    sets ! (agg ! (and_then ! (get ! refl) (and_then ! (get ! refl) (no_more !)))) refl (box_typed E h' b' o' fits') $
    returns ! (look_at ! 0 refl) $ free_all ! refl $
    move ! (3 ∷ []) $ fsplit ! $ box_in E ! again b' o' boxed.value refl refl $
    use1 𝓛 (‵ (To.own_val made (w' ∷ []))) (id⊢ 𝓤 _) $ move ! (1 ∷ []) $ drop ! $
    suffices ! _ (ends_at 𝓛 end stays said z w' made ((tt, (tt, tt)), tt) (tt, tt)) $ says ! refl $
    nothing ! $ nothing ! $ fjoin ! $ join ! $ move ! (1 ∷ 0 ∷ []) $ join ! $ done !))))))))))))
