-- Two encoders to which the same station was told.
use Rattle.std.proofs.Common.{◌≡◌, ◌≢◌, ℕ, List, [], ◌∷◌, refl, ap, sym, subst, ◌∙◌}
use Rattle.uecp_elements.specs.declared.code.Code.TheVariants.{Applied}
use Rattle.rds_store.specs.declared.group.Group.{Group as WaitingGroup}
use Rattle.rds_store.specs.Value.{Store}
use Rattle.rds_store.specs.Step.{step, group_taken}
use Rattle.uecp_link.specs.Once.{message_at}
use Rattle.uecp_link.specs.History.{Act, Message, Taking, messages_in}
use Rattle.uecp_link.specs.Fold.{value_after, codes_after}
use Rattle.uecp_link.specs.Holds.{history_by}
use Rattle.store_phrases.specs.Laws.{groups_left, told}
use Rattle.promises.specs.Made.{takes_in}
use Rattle.promises.specs.StationLaws.{StationIsIndependent, StationSaysTheSame}
use Rattle.promises.proofs.StationTurns.{AreApplied}
use Rattle.promises.proofs.Taking.{none_taken}
use Rattle.promises.proofs.StationMaking.{made, but_taken}
use Rattle.promises.proofs.Agreeing.{Agree, step_agree, taken_left, taken_right, agree_at_first}

-- ---- A store that is said.

same_left : (gs held : List WaitingGroup) → gs ≢ [] → groups_left gs held ≡ gs
same_left [] held some = absurd (some refl)
same_left (g ∷ gs) held some = refl

pub station_is_independent_lem : StationIsIndependent
station_is_independent_lem v e f ready shut ready' shut' alike alike' es fs os ps l m a b =
    let x = but_taken v e ready shut alike es os l a in
    let y = but_taken v f ready' shut' alike' fs ps m b in (
      x.others ∙ sym (ap (λ (z : Store). record z { groups = l.encoder.value.groups }) y.others),
      λ some none none'.
          none_taken (takes_in (history_by es os)) (told v e.value) l.encoder.value x none
          ∙ ap (λ (gs : List WaitingGroup). record v { groups = gs })
          (same_left v.groups e.value.groups some ∙ sym (same_left v.groups f.value.groups some))
          ∙ sym (none_taken (takes_in (history_by fs ps)) (told v f.value) m.encoder.value y none'),
    )

-- ---- Any station.

module _ (sent : List (List ℕ)) (v w : Store) where
  -- a history comes to its next message
  record Comes (x y : Store) (acts : List Act) (ks : List ℕ) (k : ℕ) : Type 0 where
    pub at : Store
    pub rest : List Act
    pub agree : Agree v w x at
    pub later : messages_in rest ≡ ks
    pub applied : (step at (message_at sent k)).1 ≡ Applied
    pub codes : AreApplied (codes_after step group_taken sent (step at (message_at sent k)).0 rest)
    pub value : value_after step group_taken sent y acts
        ≡ value_after step group_taken sent (step at (message_at sent k)).0 rest

  comes : (x y : Store) (acts : List Act) (ks : List ℕ) (k : ℕ) → messages_in acts ≡ k ∷ ks → Agree v w x y
      → AreApplied (codes_after step group_taken sent y acts) → Comes x y acts ks k
  comes x y [] ks k is h all = absurd (let bad : ⊥ = cc in bad)
  comes x y (Message j ∷ acts) ks k is h all =
      let same : j ≡ k = cc in
      subst (Comes x y (Message j ∷ acts) ks) same (record {
        at = y;
        rest = acts;
        agree = h;
        later = cc;
        applied = all.0;
        codes = all.1;
        value = refl;
      })
  comes x y (Taking ∷ acts) ks k is h all =
      let c = comes x (group_taken y).0 acts ks k is (taken_right v w x y h) all in
      record {
        at = c.at;
        rest = c.rest;
        agree = c.agree;
        later = c.later;
        applied = c.applied;
        codes = c.codes;
        value = c.value;
      }

  only_takes : (x y : Store) (acts : List Act) → messages_in acts ≡ [] → Agree v w x y
      → Agree v w x (value_after step group_taken sent y acts)
  only_takes x y [] is h = h
  only_takes x y (Message k ∷ acts) is h = absurd (let bad : ⊥ = cc in bad)
  only_takes x y (Taking ∷ acts) is h = only_takes x (group_taken y).0 acts is (taken_right v w x y h)

  both : (x y : Store) (acts others : List Act) → messages_in others ≡ messages_in acts → Agree v w x y
      → AreApplied (codes_after step group_taken sent x acts) → AreApplied (codes_after step group_taken sent y others)
      → Agree v w (value_after step group_taken sent x acts) (value_after step group_taken sent y others)
  both x y [] others is h all all' = only_takes x y others is h
  both x y (Taking ∷ acts) others is h all all' = both (group_taken x).0 y acts others is (taken_left v w x y h) all
      all'
  both x y (Message k ∷ acts) others is h all all' =
      let m : List ℕ = message_at sent k in
      let c = comes x y others (messages_in acts) k is h all' in
      subst (λ (z : Store). Agree v w (value_after step group_taken sent (step x m).0 acts) z) (sym c.value)
      (both (step x m).0 (step c.at m).0 acts c.rest c.later (step_agree v w x c.at m c.agree all.0 c.applied) all.1
      c.codes)

pub station_says_the_same_lem : StationSaysTheSame
station_says_the_same_lem e f ready shut ready' shut' alike current station es fs os ps l m a b =
    let x = made step group_taken e ready shut station es os l a in
    let y = made step group_taken f ready' shut' station fs ps m b in
    let h = both station e.value f.value e.value f.value (history_by es os) (history_by fs ps) (y.order ∙ sym x.order)
    (agree_at_first e.value f.value alike current) x.codes y.codes in
    (subst (λ (z : Store). Agree e.value f.value z m.encoder.value) (sym x.store)
    (subst (λ (z : Store). Agree e.value f.value (value_after step group_taken station e.value (history_by es os)) z)
    (sym y.store) h)).told
