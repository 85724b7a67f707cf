-- `into_box` hands what is owned to `Box::from_raw`. Assumes `Logic`.
use Rattle.std.proofs.Common.{◌≡◌, List, [], ◌∷◌, ◌++◌, refl, sym, ap, subst}
use mir.MapTy.{inst_fn}
use mir.Val.{Val, vptr, has_ty, WT}
use lib.Dec.{T as Holds}
use base.Logic.{SProp, ent, id⊢}
use base.Fml.{ftrue, fsep, flft}
use prog.Wp.{WpFn}
use types.Kit.{Item, ‵, raw, ◌⊛◌, some, later, at_ret, ◌$◌, ◌∵◌, !, qed, move, drop, use1, await, pick, split, split3}
use types.Kit.{join, fsplit, fjoin, feq_i, rewrite, suffices, done}
use types.Run.{stop, fld, of_opd, no_more, and_then, first, blocks, exec, returns, enter}
use types.ByLocal.{alloc_all, pass_all, free_all, look_at, get, get_in, sets, lands_last, env}
use types.Part.{sub, whole}
use contract.BorrowLft.{◌⊑◌}
use contract.Monad.{fact}
use contract.Running.{tables}
use denote.RattleType.{RattleType}
use denote.RawPtr.{block_ptr}
use denote.Signature.{plain}
use denote.Steps.{nothing, heard, only}
use denote.Triple.Spec.{triple_of}
use denote.Triple.Call.{calls_at_last}
use denote.Triple.Walked.{says, Stays, stay_dropped, walk_of, ends_at}
use Rattle.core.proofs.alloc.Calls.{Goes-blank}
use Rattle.core.proofs.alloc.Shapes.{after}
use Rattle.core.proofs.atomic.Steps.{fm}
use Rattle.std_alloc.proofs.BoxSteps.Form.{Bx, D, R, P, B, args, word, box_ty, box_typed}
use Rattle.std_alloc.proofs.BoxSteps.Steps.{box_out, box_in}
use Rattle.std_alloc.specs.contracts.boxed.Box.from_raw as made
use Rattle.std_alloc.proofs.boxed.Box.from_raw.Met.{met}
use Rattle.std.proofs.raw_atomic.Walks.{proved_at}
use Rattle.c_values.specs.contracts.unboxed.Unboxed as unboxed
use Rattle.c_values.specs.contracts.unboxed.Unboxed.into_box.{ended, clauses}
use Rattle.c_values.specs.contracts.unboxed.Unboxed.into_box.Key.{name as #self}
use Rattle.c_values.proofs.unboxed.Unboxed.into_box.Statement.{statement}
use Rattle.c_values.proofs.unboxed.Unboxed.into_box.Code as code

pub into_box_spec : {M : Type 1} → statement M
into_box_spec 𝓤 𝓛 𝓜 𝓡 wired T A LT LA g d dd allocator glued =
    let E : Bx = record { row = T; laws = LT; al = record { row = A; laws = LA; g = g; d = d; drops = dd } } in
    let H = 𝓛.H in
    let 𝓣 = tables 𝓤 H 𝓜 𝓡 𝓡.env in
    let fn = inst_fn (args E) code.function in
    let end = ended T A g d dd in
    let said = clauses T A g d dd 𝓛 𝓜.mem 𝓡.returns in
    let From : RattleType = unboxed.the_row (R E) (P E) g in
    let stays : Stays end.signature.params end.kept = (stay_dropped (plain (λ _. From)) end.kept.0, tt) in
    let Makes = triple_of 𝓛 (made.signature T A g d dd) (made.spec T A g d dd 𝓛 𝓜.mem 𝓡.returns) in
    proved_at 𝓛 end stays said 𝓜 𝓡 (Goes-blank 𝓛 2 (plain (λ _. From)) end.kept.0 (λ κs x f. tt), tt)
    (#self (args E)) fn (code.unfolded 𝓤 H 𝓜 𝓡 wired (T, (A, tt)) d dd) (λ z are.
    let κs = z.0.0 in
    let qs = z.0.1 in
    let a = z.0.3.0.alloc in
    let x = z.0.3.0.value in
    let boxed : D E = record { ptr = z.0.3.0.at; alloc = a; value = x } in
    let Post : Val → SProp 𝓤 = (walk_of 𝓛 end stays said).post z in
    let Runs : List Val → SProp 𝓤 = λ ws. WpFn 𝓤 H 𝓣.C 𝓣.Λ fn ws Post in
    let alive : Item 𝓤 = ‵ (flft κs.0 qs.0) ⊛ ‵ (flft κs.1.0 qs.1.0) ⊛ ‵ ftrue in
    let T_lives : Item 𝓤 = raw (fact 𝓤 (κs.0 ⊑ T.lives)) in
    let A_lives : Item 𝓤 = raw (fact 𝓤 (κs.1.0 ⊑ A.lives)) in
    qed 𝓛 ((alive ⊛ ‵ (fsep ((B E).own_val boxed z.0.4.0) ftrue)) ∷ (T_lives ⊛ A_lives ⊛ ‵ ftrue) ∷ []) ∵
    split ! $ move ! (1 ∷ []) $ fsplit ! $
    box_out E ! boxed z.0.4.0 (λ b o h at word_is fits. fjoin ! $
    -- [what the box owns; its allocator; nothing; the tokens; the bounds]
    let w = word E h b o in
    let y : Makes.Ghost = ((κs, qs, tt, (a, (block_ptr b o, tt)), (h ∷ [], (vptr b o ∷ [], tt))), x) in
    suffices ! (Runs (w ∷ [])) (subst (λ ws. ent 𝓤 (Runs (w ∷ [])) (Runs ws)) (sym (λ i. word_is i ++ [])) (id⊢ 𝓤 _)) $
    enter ! 𝓣.C 𝓣.Λ fn (w ∷ []) _ $
    alloc_all ! (λ l. pass_all ! refl (box_typed E h b o fits, tt) $
    -- let Unboxed { at, alloc } = self;
    sets ! (of_opd ! (get_in ! (fld ! refl (stop !)) (sub ! 0 refl (whole !)))) refl (tt, tt) $
    sets ! (of_opd ! (get_in ! (fld ! refl (stop !)) (sub ! 1 refl (whole !)))) refl fits $
    -- unsafe { Box::from_raw(alloc, at) }
    first ! $ blocks ! $
    sets ! (of_opd ! (get ! refl)) refl fits $
    move ! (4 ∷ []) $ split3 ! $ move ! (2 ∷ []) $ drop ! $ move ! (1 ∷ 2 ∷ []) $ join ! $
    move ! (1 ∷ 0 ∷ []) $ join ! $
    move ! (2 ∷ []) $ feq_i ! (List Val) (vptr b o ∷ []) (vptr b o ∷ []) refl $ fjoin ! $
    move ! (2 ∷ 0 ∷ []) $ fjoin ! $ move ! (2 ∷ 0 ∷ []) $ join ! $ join ! $
    use1 𝓛 (raw (Makes.pre y)) (id⊢ 𝓤 _) $
    calls_at_last ! (fm 𝓛 𝓜 𝓡) Makes
    (met 𝓤 𝓛 𝓜 𝓡 (code.calls-std_alloc::boxed::Box::from_raw 𝓡.env wired) T A LT LA g d dd allocator glued) y
    (and_then ! (get ! refl) (and_then ! (get ! refl) (no_more !))) (λ u.
    use1 𝓛 (later (some (λ (r : D E). (alive ⊛ ‵ ((B E).own_val r (u ∷ []))) ⊛
    some (λ (_ : Unit {0} × (Unit {0} × Unit {0})). ‵ (fsep ftrue (fsep ftrue ftrue)) ⊛
    (raw (fact 𝓤 (r.value ≡ x)) ⊛ raw (fact 𝓤 (r.alloc ≡ a))))))) (id⊢ 𝓤 _) $
    await ! tt $ pick ! (λ r. split ! $ move ! (1 ∷ []) $ pick ! (λ _. split3 ! $ drop ! $
    heard ! (r.value ≡ x) (λ same. drop ! $ split ! $ move ! (1 ∷ []) $
    -- what the call gave is one word of a box's type
    box_out E ! r (u ∷ []) (λ b' o' h' at' is_word fits'. box_in E ! r b' o' r.value at' refl $
    rewrite ! 0 (λ ws. ‵ ((B E).own_val r ws)) (sym is_word) refl $
    let typed : Holds (has_ty (box_ty E) u) × WT u =
    subst (λ v. Holds (has_ty (box_ty E) v) × WT v) (sym (ap only is_word)) (box_typed E h' b' o' fits') in
    lands_last ! refl typed $
    exec ! 𝓣.C 𝓣.Λ (env fn.locals l) (after 3 fn.body) (at_ret (env fn.locals l) Post) $
    sets ! (of_opd ! (get ! refl)) refl typed $
    returns ! (look_at ! 0 refl) $ free_all ! refl $
    suffices ! _ (ends_at 𝓛 end stays said z u r ((tt, (tt, tt)), tt) (tt, tt)) $ says ! same $
    nothing ! $ nothing ! $ fjoin ! $ join ! $ move ! (1 ∷ 0 ∷ []) $ join ! $ done !))))))))
