-- `empty` makes a slot that owns nothing. Assumes `Logic`.
use Rattle.std.proofs.Common.{List, [], ◌∷◌, ◌++◌, refl, sym, subst, None, lit<}
use lib.Dec.{T}
use mir.Val.{Val, vnull, vstruct, vcons, vnil, has_ty, WT}
use base.Logic.{SProp, ent, emp, id⊢}
use base.Fml.{ftrue, fsep}
use prog.Wp.{WpFn}
use types.Kit.{‵, raw, ◌⊛◌, ◌$◌, ◌∵◌, !, qed, move, drop, use1, split, join, fsplit, fjoin, feq_i, fpack, suffices}
use types.Kit.{done}
use types.Run.{lit, no_more, and_then, returns, enter}
use types.ByLocal.{alloc_all, pass_all, free_all, look_at, get, sets}
use types.Part.{agg}
use contract.Running.{tables}
use denote.Builtin.{RawPtr}
use denote.Param.{layout}
use denote.RattleType.{Valss}
use denote.RawPtr.{null_ptr}
use denote.Signature.{plain}
use denote.Steps.{nothing}
use denote.Triple.Walked.{says, Stays, stay_dropped, Goes-dropped, walk_of, ends_at}
use denote.Struct.Struct.{within}
use denote.Struct.Owning.{shape}
use Rattle.core.proofs.alloc.Calls.{handle_tells}
use Rattle.std_alloc.proofs.ResultValues.{and_tt}
use Rattle.std.proofs.raw_atomic.Walks.{proved_at}
use Rattle.std_alloc.proofs.BoxSteps.Form.{P, owning}
use Rattle.c_values.proofs.Slots.{Boxed, ASlot}
use Rattle.c_values.specs.contracts.slot.Slot.empty.{ended, clauses}
use Rattle.c_values.specs.contracts.slot.Slot.empty.Key.{name as #self}
use Rattle.c_values.proofs.slot.Slot.empty.Statement.{statement}
use Rattle.c_values.proofs.slot.Slot.empty.Code as code

pub empty_spec : {M : Type 1} → statement M
empty_spec 𝓤 𝓛 𝓜 𝓡 wired =
    let H = 𝓛.H in
    let 𝓣 = tables 𝓤 H 𝓜 𝓡 𝓡.env in
    let said = clauses 𝓛 𝓜.mem 𝓡.returns in
    let G = Boxed.al in
    let stays : Stays ended.signature.params ended.kept = (stay_dropped (plain (λ _. G.row)) ended.kept.0, tt) in
    proved_at 𝓛 ended stays said 𝓜 𝓡 (Goes-dropped 𝓛 0 (plain (λ _. G.row)) ended.kept.0 (λ κs x w. refl), tt)
    #self code.function (code.unfolded 𝓤 H 𝓜 𝓡 wired) (λ z are.
    let alloc = z.0.3.0 in
    let made : ASlot.Denot = record { at = null_ptr; alloc = alloc; value = None } in
    let Runs : List Val → SProp 𝓤 =
    λ ws. WpFn 𝓤 H 𝓣.C 𝓣.Λ code.function ws ((walk_of 𝓛 ended stays said).post z) in
    qed 𝓛 ((‵ ftrue ⊛ ‵ (fsep (G.row.own_val alloc z.0.4.0) ftrue)) ∷ raw (emp 𝓤) ∷ []) ∵
    split ! $ drop ! $ fsplit ! $
    handle_tells G ! alloc z.0.4.0 (λ h word_is fits.
    let w : Val = vstruct (vcons vnull (vcons h vnil)) in
    let typed : T (has_ty (layout ASlot) w) × WT w =
    (and_tt (has_ty (layout G.row) h) fits.0, (record { fits = lit< tt }, (fits.1, tt))) in
    -- the slot is what lies in its two fields, and nothing beside them
    nothing ! $ move ! (1 ∷ 0 ∷ []) $ fjoin ! $
    feq_i ! (List Val) (vnull ∷ []) (vnull ∷ []) refl $ fjoin ! $
    feq_i ! (List Val) (w ∷ []) (w ∷ []) refl $ fjoin ! $
    fpack ! (Valss (RawPtr ∷ P Boxed ∷ [])) (within (shape (owning Boxed)) (null_ptr, (alloc, tt)) (w ∷ []))
    (vnull ∷ [], (h ∷ [], tt)) $ fjoin ! $
    use1 𝓛 (‵ (ASlot.own_val made (w ∷ []))) (id⊢ 𝓤 _) $
    move ! (1 ∷ []) $ drop ! $
    suffices ! (Runs (h ∷ [])) (subst (λ ws. ent 𝓤 (Runs (h ∷ [])) (Runs ws)) (sym (λ i. word_is i ++ [])) (id⊢ 𝓤 _)) $
    enter ! 𝓣.C 𝓣.Λ code.function (h ∷ []) _ $
    alloc_all ! (λ l. pass_all ! refl (fits, tt) $
    -- Slot { at: null_mut(), alloc }
    sets ! (agg ! (and_then ! (lit ! tt) (and_then ! (get ! refl) (no_more !)))) refl typed $
    returns ! (look_at ! 0 refl) $ free_all ! refl $
    suffices ! _ (ends_at 𝓛 ended stays said z w made (tt, tt) (tt, tt)) $ says ! refl $
    nothing ! $ nothing ! $ fjoin ! $ join ! $ nothing ! $ join ! $ done !)))
