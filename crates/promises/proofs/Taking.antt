-- A store from which groups were taken in between, beside one from which none was.
use Rattle.std.proofs.Common.{◌≡◌, ℕ, suc, ◌+◌, ◌≤◌, Bool, true, false, if◌then◌else◌, List, [], ◌∷◌, ◌++◌}
use Rattle.std.proofs.Common.{length, append_assoc, length-append, Ok, Err, refl, ap, sym, subst, ◌∙◌, arith}
use Rattle.std.proofs.Common.{◌==◌}
use Rattle.uecp_elements.specs.declared.code.Code.{Code}
use Rattle.uecp_elements.specs.declared.code.Code.TheVariants.{Applied, UnknownElement, DataSet, Service, OutOfRange}
use Rattle.uecp_elements.specs.declared.code.Code.TheVariants.{ElementLength, NotHere, BufferFull}
use Rattle.uecp_elements.specs.Grammar.{Element, Pi, Ps, TaTp, Ms, Pty, Rt, NoText, Text, Select, Group, Ack}
use Rattle.uecp_elements.specs.Reading.{Item, items}
use Rattle.uecp_elements.specs.Folding.{is_applied, where_applied, folded}
use Rattle.rds_store.specs.declared.group.Group.{Group as WaitingGroup}
use Rattle.rds_store.specs.Value.{Store}
use Rattle.rds_store.specs.Bits.{bits_4_to_0}
use Rattle.rds_store.specs.Content.{adds}
use Rattle.rds_store.specs.Refusals.{code_of}
use Rattle.rds_store.specs.Put.{put, stored, stored_on}
use Rattle.rds_store.specs.Step.{step, group_taken, first_taken, element_by_element, whole_or_none}
use Rattle.store_phrases.specs.Laws.{AppliesEach}
use Rattle.uecp_link.specs.Once.{message_at}
use Rattle.uecp_link.specs.History.{Act, Message, Taking}
use Rattle.uecp_link.specs.Fold.{value_after, codes_after}
use Rattle.promises.specs.Made.{takes_in, IsButTaken}
use Rattle.promises.proofs.StationTurns.{AreApplied, said_in}

-- ---- One element.

-- a store with other groups
abbrev pub with : Store → List WaitingGroup → Store
with y groups = record y { groups = groups }

same_but : (t : ℕ) (y : Store) (gone groups : List WaitingGroup) → y.groups ≡ gone ++ groups → length gone ≤ t
    → IsButTaken t y (with y groups)
same_but t y gone groups is few = record { gone = gone; groups = is; few = few; others = refl }

queued : (y : Store) (gone groups : List WaitingGroup) (t : ℕ) → y.groups ≡ gone ++ groups → length gone ≤ t
    → (g : WaitingGroup) (b : Bool)
    → IsButTaken t (record y { groups = if b then y.groups ++ g ∷ [] else g ∷ [] })
    (record (with y groups) { groups = if b then groups ++ g ∷ [] else g ∷ [] })
queued y gone groups t is few g true = record {
  gone = gone;
  groups = ap (λ (gs : List WaitingGroup). gs ++ g ∷ []) is ∙ append_assoc gone groups (g ∷ []);
  few = few;
  others = refl;
}
queued y gone groups t is few g false = record { gone = []; groups = refl; few = omega arith; others = refl }

selected : (y : Store) (gone groups : List WaitingGroup) (t : ℕ) → y.groups ≡ gone ++ groups → length gone ≤ t
    → (dsn : ℕ) (b : Bool)
    → IsButTaken t (if b then y else record y { current = dsn })
    (if b then with y groups else record (with y groups) { current = dsn })
selected y gone groups t is few dsn true = same_but t y gone groups is few
selected y gone groups t is few dsn false = same_but t (record y { current = dsn }) gone groups is few

stored_with : (y : Store) (gone groups : List WaitingGroup) (t : ℕ) → y.groups ≡ gone ++ groups → length gone ≤ t
    → (e : Element) → IsButTaken t (stored y e) (stored (with y groups) e)
stored_with y gone groups t is few (Pi d p n) = same_but t (stored y (Pi d p n)) gone groups is few
stored_with y gone groups t is few (Ps d p n) = same_but t (stored y (Ps d p n)) gone groups is few
stored_with y gone groups t is few (TaTp d p n) = same_but t (stored y (TaTp d p n)) gone groups is few
stored_with y gone groups t is few (Ms d p n) = same_but t (stored y (Ms d p n)) gone groups is few
stored_with y gone groups t is few (Pty d p n) = same_but t (stored y (Pty d p n)) gone groups is few
stored_with y gone groups t is few (Rt d p NoText) = same_but t (stored y (Rt d p NoText)) gone groups is few
stored_with y gone groups t is few (Rt d p (Text n b)) = same_but t (stored y (Rt d p (Text n b))) gone groups is few
stored_with y gone groups t is few (Select d) = selected y gone groups t is few d (d == 0x00)
stored_with y gone groups t is few (Group k m a b) =
    queued y gone groups t is few (record { kind = k; bits = bits_4_to_0 m; block3 = a; block4 = b }) (adds m)
stored_with y gone groups t is few (Ack c n) = same_but t y gone groups is few

stored_but : (t : ℕ) (y x : Store) (e : Element) → IsButTaken t y x → IsButTaken t (stored y e) (stored x e)
stored_but t y x e h =
    subst (λ (z : Store). IsButTaken t (stored y e) (stored z e)) (sym h.others)
    (stored_with y h.gone x.groups t h.groups h.few e)

pub on_applied : (c : Code) (v : Store) (e : Element) → c ≡ Applied → stored_on c v e ≡ stored v e
on_applied c v e h = ap (λ (k : Code). stored_on k v e) h

pub put_but : (t : ℕ) (y x : Store) (e : Element) → IsButTaken t y x → (put y e).1 ≡ Applied → (put x e).1 ≡ Applied
    → IsButTaken t (put y e).0 (put x e).0
put_but t y x e h one two =
    subst (λ (z : Store). IsButTaken t z (put x e).0) (sym (on_applied (code_of y e) y e one))
    (subst (λ (z : Store). IsButTaken t (stored y e) z) (sym (on_applied (code_of x e) x e two))
    (stored_but t y x e h))

-- ---- One message.
pub done_first : (done : Store × Code) (others : Store → Store × Code) → (where_applied done others).1 ≡ Applied
    → (done.1 ≡ Applied) × (where_applied done others ≡ others done.0)
done_first (w, Applied) others h = (refl, refl)
done_first (w, UnknownElement) others h = cc
done_first (w, DataSet) others h = cc
done_first (w, Service) others h = cc
done_first (w, OutOfRange) others h = cc
done_first (w, ElementLength) others h = cc
done_first (w, NotHere) others h = cc
done_first (w, BufferFull) others h = cc

items_but : (t : ℕ) (y x : Store) (given : List Item) → IsButTaken t y x → (folded put y given).1 ≡ Applied
    → (folded put x given).1 ≡ Applied → IsButTaken t (folded put y given).0 (folded put x given).0
unfolding folded
items_but t y x [] h one two = h
items_but t y x (Err fault ∷ others) h one two = h
items_but t y x (Ok e ∷ others) h one two =
    let a = done_first (put y e) (λ w. folded put w others) one in
    let b = done_first (put x e) (λ w. folded put w others) two in
    subst (λ (r : Store × Code). IsButTaken t r.0 (folded put x (Ok e ∷ others)).0) (sym a.1)
    (subst (λ (r : Store × Code). IsButTaken t (folded put (put y e).0 others).0 r.0) (sym b.1)
    (items_but t (put y e).0 (put x e).0 others (put_but t y x e h a.0 b.0)
    (ap (λ (r : Store × Code). r.1) (sym a.1) ∙ one) (ap (λ (r : Store × Code). r.1) (sym b.1) ∙ two)))

pub taken_whole : (v : Store) (done : Store × Code) → done.1 ≡ Applied → (whole_or_none v done).0 ≡ done.0
taken_whole v done h = ap (λ (c : Code). if is_applied c then done.0 else v) h

step_but : (t : ℕ) (y x : Store) (m : List ℕ) → IsButTaken t y x → (step y m).1 ≡ Applied → (step x m).1 ≡ Applied
    → IsButTaken t (step y m).0 (step x m).0
step_but t y x m h one two =
    subst (λ (z : Store). IsButTaken t z (step x m).0) (sym (taken_whole y (element_by_element y m) one))
    (subst (λ (z : Store). IsButTaken t (element_by_element y m).0 z)
    (sym (taken_whole x (element_by_element x m) two)) (items_but t y x (items m) h one two))

-- ---- One take.
first_but : (t : ℕ) (y x : Store) (groups : List WaitingGroup) → x.groups ≡ groups → IsButTaken t y x
    → IsButTaken (t + 1) y (first_taken x groups).0
first_but t y x [] is h =
    record { gone = h.gone; groups = h.groups; few = omega (arith, h.few); others = h.others }
first_but t y x (g ∷ gs) is h =
    let longer : length (h.gone ++ g ∷ []) ≡ length h.gone + 1 = length-append h.gone (g ∷ []) in
    record {
      gone = h.gone ++ g ∷ [];
      groups = h.groups ∙ ap (λ (xs : List WaitingGroup). h.gone ++ xs) is ∙ sym (append_assoc h.gone (g ∷ []) gs);
      few = omega (arith, h.few, longer);
      others = ap (λ (z : Store). with z gs) h.others;
    }

pub take_but : (t : ℕ) (y x : Store) → IsButTaken t y x → IsButTaken (t + 1) y (group_taken x).0
take_but t y x h = first_but t y x x.groups refl h

-- ---- A history.
pub history_but : (sent : List (List ℕ)) (t : ℕ) (y x after : Store) (acts : List Act) → IsButTaken t y x
    → AppliesEach y (said_in sent acts) after → AreApplied (codes_after step group_taken sent x acts)
    → IsButTaken (t + takes_in acts) after (value_after step group_taken sent x acts)
history_but sent t y x after [] h puts all =
    subst (λ (n : ℕ). IsButTaken n after x) (let e : t ≡ t + 0 = omega arith in e)
    (subst (λ (z : Store). IsButTaken t z x) (sym puts) h)
history_but sent t y x after (Message k ∷ acts) h puts all =
    let m : List ℕ = message_at sent k in
    history_but sent t (step y m).0 (step x m).0 after acts (step_but t y x m h puts.0 all.0) puts.1 all.1
history_but sent t y x after (Taking ∷ acts) h puts all =
    subst (λ (n : ℕ). IsButTaken n after (value_after step group_taken sent (group_taken x).0 acts))
    (let e : t + 1 + takes_in acts ≡ t + suc (takes_in acts) = omega arith in e)
    (history_but sent (t + 1) y (group_taken x).0 after acts (take_but t y x h) puts all)

-- where none was taken, the stores are the same
pub none_taken : (t : ℕ) (y x : Store) → IsButTaken t y x → t ≡ 0 → x ≡ y
none_taken t y x h none =
    let groups : y.groups ≡ x.groups = h.groups ∙ ap (λ (gs : List WaitingGroup). gs ++ x.groups)
    (no_group h.gone (let few : length h.gone ≤ 0 = omega (arith, h.few, none) in few)) in
    h.others ∙ ap (with y) (sym groups)
  where
    no_group : (gs : List WaitingGroup) → length gs ≤ 0 → gs ≡ []
    no_group [] few = refl
    no_group (g ∷ gs) few = absurd (omega (arith, few))
