-- `into_unboxed` moves two fields of a slot that has an object, and what they own goes with them. Assumes `Logic`.
use Rattle.std.proofs.Common.{◌≡◌, List, [], ◌∷◌, ◌++◌, refl, sym, subst, Option, Some, None, IsSome, true≢false}
use mir.Val.{Val}
use base.Logic.{SProp, ent, id⊢}
use base.Fml.{ftrue, fsep}
use prog.Wp.{WpFn}
use types.Kit.{‵, raw, ◌⊛◌, ◌$◌, ◌∵◌, !, qed, move, drop, use1, split, join, fsplit, fjoin, suffices, rewrite, done}
use types.Run.{stop, fld, of_opd, no_more, and_then, returns, enter}
use types.ByLocal.{alloc_all, pass_all, free_all, look_at, get, get_in, sets}
use types.Part.{agg, sub, whole}
use contract.Monad.{fact}
use contract.Running.{tables}
use denote.Signature.{plain}
use denote.Steps.{nothing, heard}
use denote.Triple.Walked.{says, Stays, stay_dropped, Goes-dropped, walk_of, ends_at}
use Rattle.std_alloc.proofs.BoxSteps.Form.{D, B, word, box_typed}
use Rattle.std_alloc.proofs.BoxSteps.Steps.{box_out, box_in}
use Rattle.std.proofs.raw_atomic.Walks.{proved_at}
use Rattle.c_values.specs.declared.object.Object.{Object}
use Rattle.c_values.proofs.Slots.{Boxed, ASlot, AnUnboxed}
use Rattle.c_values.specs.contracts.slot.Slot.into_unboxed.{ended, clauses}
use Rattle.c_values.specs.contracts.slot.Slot.into_unboxed.Key.{name as #self}
use Rattle.c_values.proofs.slot.Slot.into_unboxed.Statement.{statement}
use Rattle.c_values.proofs.slot.Slot.into_unboxed.Code as code

-- what is there is some object
object_in : {X : Type 0} → (o : Option X) → IsSome o → (x : X) × (o ≡ Some x)
object_in (Some x) there = (x, refl)
object_in None there = absurd (true≢false (sym there))

pub into_unboxed_spec : {M : Type 1} → statement M
into_unboxed_spec 𝓤 𝓛 𝓜 𝓡 wired =
    let H = 𝓛.H in
    let 𝓣 = tables 𝓤 H 𝓜 𝓡 𝓡.env in
    let said = clauses 𝓛 𝓜.mem 𝓡.returns in
    let stays : Stays ended.signature.params ended.kept = (stay_dropped (plain (λ _. ASlot)) ended.kept.0, tt) in
    proved_at 𝓛 ended stays said 𝓜 𝓡 (Goes-dropped 𝓛 0 (plain (λ _. ASlot)) ended.kept.0 (λ κs x w. refl), tt)
    #self code.function (code.unfolded 𝓤 H 𝓜 𝓡 wired) (λ z are.
    let given = z.0.3.0 in
    let Runs : List Val → SProp 𝓤 =
    λ ws. WpFn 𝓤 H 𝓣.C 𝓣.Λ code.function ws ((walk_of 𝓛 ended stays said).post z) in
    qed 𝓛 ((‵ ftrue ⊛ ‵ (fsep (ASlot.own_val given z.0.4.0) ftrue)) ∷ raw (fact 𝓤 (IsSome given.value)) ∷ []) ∵
    move ! (1 ∷ []) $ heard ! (IsSome given.value) (λ there.
    let some = object_in given.value there in
    let boxed : D Boxed = record { ptr = given.at; alloc = given.alloc; value = some.0 } in
    let made : AnUnboxed.Denot = record { at = given.at; alloc = given.alloc; value = some.0 } in
    let slot_with : Option Object → ASlot.Denot = λ o. record { at = given.at; alloc = given.alloc; value = o } in
    split ! $ drop ! $ fsplit ! $
    rewrite ! 0 (λ o. ‵ (ASlot.own_val (slot_with o) z.0.4.0)) some.1 refl $
    -- what the slot owns is what a box of the object owns
    use1 𝓛 (‵ ((B Boxed).own_val boxed z.0.4.0)) (id⊢ 𝓤 _) $
    box_out Boxed ! boxed z.0.4.0 (λ b o h at word_is fits.
    let w = word Boxed h b o in
    box_in Boxed ! boxed b o boxed.value at refl $
    use1 𝓛 (‵ (AnUnboxed.own_val made (w ∷ []))) (id⊢ 𝓤 _) $
    move ! (1 ∷ []) $ drop ! $
    suffices ! (Runs (w ∷ [])) (subst (λ ws. ent 𝓤 (Runs (w ∷ [])) (Runs ws)) (sym (λ i. word_is i ++ [])) (id⊢ 𝓤 _)) $
    enter ! 𝓣.C 𝓣.Λ code.function (w ∷ []) _ $
    alloc_all ! (λ l. pass_all ! refl (box_typed Boxed h b o fits, tt) $
    -- let Slot { at, alloc } = self;
    sets ! (of_opd ! (get_in ! (fld ! refl (stop !)) (sub ! 0 refl (whole !)))) refl (tt, tt) $
    sets ! (of_opd ! (get_in ! (fld ! refl (stop !)) (sub ! 1 refl (whole !)))) refl fits $
    -- Unboxed { at: at as *mut Object, alloc }
    sets ! (of_opd ! (get ! refl)) refl (tt, tt) $
    sets ! (agg ! (and_then ! (get ! refl) (and_then ! (get ! refl) (no_more !)))) refl (box_typed Boxed h b o fits) $
    returns ! (look_at ! 0 refl) $ free_all ! refl $
    suffices ! _ (ends_at 𝓛 ended stays said z w made (tt, tt) (tt, tt)) $ says ! (sym some.1) $
    nothing ! $ nothing ! $ fjoin ! $ join ! $ nothing ! $ join ! $ done !))))
