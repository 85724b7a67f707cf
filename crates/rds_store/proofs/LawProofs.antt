-- The laws of a store under elements.
use Rattle.std.proofs.Common.{◌≡◌, ◌≢◌, ℕ, List, [], ◌∷◌, Ok, Err, Bool, true, false, ◌==◌, ◌&&◌, Option, Some, None}
use Rattle.std.proofs.Common.{refl, ap, ◌∙◌, if◌then◌else◌}
use Rattle.std.specs.Option.{option_map}
use Rattle.std.specs.FinMap.{get}
use Rattle.uecp_elements.specs.declared.code.Code.{Code}
use Rattle.uecp_elements.specs.declared.code.Code.TheVariants.{Applied, UnknownElement, DataSet, Service, OutOfRange}
use Rattle.uecp_elements.specs.declared.code.Code.TheVariants.{ElementLength, NotHere, BufferFull}
use Rattle.uecp_elements.specs.Grammar.{Element, Pi, Ps, TaTp, Ms, Pty, Rt, NoText, Text, Select, Group, Ack}
use Rattle.uecp_elements.specs.Folding.{is_applied, folded}
use Rattle.uecp_elements.specs.Reading.{Item, items}
use Rattle.rds_store.specs.declared.group.Group.{Group as WaitingGroup}
use Rattle.rds_store.specs.Value.{ServiceData, Store}
use Rattle.rds_store.specs.Names.{address, names, names_place}
use Rattle.rds_store.specs.Content.{taken}
use Rattle.rds_store.specs.Refusals.{code_of}
use Rattle.rds_store.specs.Put.{put, stored, stored_on}
use Rattle.rds_store.specs.Step.{element_by_element, whole_or_none}
use Rattle.rds_store.specs.Laws.{RefusalChangesNothing, ChangesNamedPlacesAlone, KeepsSelectionAndGroups}
use Rattle.rds_store.specs.Laws.{KeepsSetsAndServices, MessagesKeepSetsAndServices, TakesOut, GroupsGoOutInOrder}
use Rattle.rds_store.specs.Laws.{IsKnownByPlaces}
use Rattle.rds_store.proofs.Places.{get-change_where, same_places}

-- ---- A refusal.
kept : (c : Code) (v : Store) (e : Element) → c ≢ Applied → stored_on c v e ≡ v
kept Applied v e h = absurd (h refl)
kept UnknownElement v e h = refl
kept DataSet v e h = refl
kept Service v e h = refl
kept OutOfRange v e h = refl
kept ElementLength v e h = refl
kept NotHere v e h = refl
kept BufferFull v e h = refl

pub refusal_changes_nothing : RefusalChangesNothing
refusal_changes_nothing v e h = kept (code_of v e) v e h

-- ---- Places.
same_option : (o : Option ServiceData) → o ≡ option_map (λ s. s) o
same_option None = refl
same_option (Some s) = refl

selected : (b : Bool) (v : Store) (dsn : ℕ) → (if b then v else record v { current = dsn }).places ≡ v.places
selected true v dsn = refl
selected false v dsn = refl

stored-places : (v : Store) (e : Element) (place : ℕ × ℕ)
    → get (stored v e).places place ≡ option_map (λ s. if names v e place then taken e s else s) (get v.places place)
stored-places v (Pi d p n) place = get-change_where (names_place v d p) (taken (Pi d p n)) v.places place
stored-places v (Ps d p n) place = get-change_where (names_place v d p) (taken (Ps d p n)) v.places place
stored-places v (TaTp d p n) place = get-change_where (names_place v d p) (taken (TaTp d p n)) v.places place
stored-places v (Ms d p n) place = get-change_where (names_place v d p) (taken (Ms d p n)) v.places place
stored-places v (Pty d p n) place = get-change_where (names_place v d p) (taken (Pty d p n)) v.places place
stored-places v (Rt d p NoText) place = get-change_where (names_place v d p) (taken (Rt d p NoText)) v.places place
stored-places v (Rt d p (Text n b)) place = get-change_where (names_place v d p) (taken (Rt d p (Text n b))) v.places
    place
stored-places v (Select d) place = ap (λ m. get m place) (selected (d == 0x00) v d) ∙ same_option (get v.places place)
stored-places v (Group k m x y) place = same_option (get v.places place)
stored-places v (Ack c n) place = same_option (get v.places place)

by_code : (c : Code) (v : Store) (e : Element) (place : ℕ × ℕ)
    → get (stored_on c v e).places place ≡ option_map (λ s. if is_applied c && names v e place then taken e s else s)
    (get v.places place)
by_code Applied v e place = stored-places v e place
by_code UnknownElement v e place = same_option (get v.places place)
by_code DataSet v e place = same_option (get v.places place)
by_code Service v e place = same_option (get v.places place)
by_code OutOfRange v e place = same_option (get v.places place)
by_code ElementLength v e place = same_option (get v.places place)
by_code NotHere v e place = same_option (get v.places place)
by_code BufferFull v e place = same_option (get v.places place)

pub changes_named_places_alone : ChangesNamedPlacesAlone
changes_named_places_alone v e place = by_code (code_of v e) v e place

pub is_known_by_places : IsKnownByPlaces
is_known_by_places = same_places

-- ---- What stays.
abbrev Stays : {A : Type 0} → (Store → A) → Store → Element → Code → Type 0
Stays part v e c = part (stored_on c v e) ≡ part v

stays : {A : Type 0} (part : Store → A) (v : Store) (e : Element) → part (stored v e) ≡ part v → (c : Code)
    → Stays part v e c
stays part v e h Applied = h
stays part v e h UnknownElement = refl
stays part v e h DataSet = refl
stays part v e h Service = refl
stays part v e h OutOfRange = refl
stays part v e h ElementLength = refl
stays part v e h NotHere = refl
stays part v e h BufferFull = refl

abbrev Both : Store → Store → Type 0
Both v w = (w.current ≡ v.current) × (w.groups ≡ v.groups)

no_pair : {A : Type 0} (a : ℕ × ℕ) → None ≡ Some a → A
no_pair a h = cc

stored-rest : (v : Store) (e : Element) → (a : ℕ × ℕ) → address e ≡ Some a → Both v (stored v e)
stored-rest v (Pi d p n) a h = (refl, refl)
stored-rest v (Ps d p n) a h = (refl, refl)
stored-rest v (TaTp d p n) a h = (refl, refl)
stored-rest v (Ms d p n) a h = (refl, refl)
stored-rest v (Pty d p n) a h = (refl, refl)
stored-rest v (Rt d p NoText) a h = (refl, refl)
stored-rest v (Rt d p (Text n b)) a h = (refl, refl)
stored-rest v (Select d) a h = no_pair a h
stored-rest v (Group k m x y) a h = no_pair a h
stored-rest v (Ack c n) a h = no_pair a h

pub keeps_selection_and_groups : KeepsSelectionAndGroups
keeps_selection_and_groups v e a h =
    let both = stored-rest v e a h in
    (stays (λ w. w.current) v e both.0 (code_of v e), stays (λ w. w.groups) v e both.1 (code_of v e))

selected_sets : (b : Bool) (v : Store) (dsn : ℕ) → (if b then v else record v { current = dsn }).sets ≡ v.sets
selected_sets true v dsn = refl
selected_sets false v dsn = refl

selected_services : (b : Bool) (v : Store) (dsn : ℕ)
    → (if b then v else record v { current = dsn }).services ≡ v.services
selected_services true v dsn = refl
selected_services false v dsn = refl

stored-sets : (v : Store) (e : Element) → ((stored v e).sets ≡ v.sets) × ((stored v e).services ≡ v.services)
stored-sets v (Pi d p n) = (refl, refl)
stored-sets v (Ps d p n) = (refl, refl)
stored-sets v (TaTp d p n) = (refl, refl)
stored-sets v (Ms d p n) = (refl, refl)
stored-sets v (Pty d p n) = (refl, refl)
stored-sets v (Rt d p NoText) = (refl, refl)
stored-sets v (Rt d p (Text n b)) = (refl, refl)
stored-sets v (Select d) = (selected_sets (d == 0x00) v d, selected_services (d == 0x00) v d)
stored-sets v (Group k m x y) = (refl, refl)
stored-sets v (Ack c n) = (refl, refl)

pub keeps_sets_and_services : KeepsSetsAndServices
keeps_sets_and_services v e =
    let both = stored-sets v e in
    (stays (λ w. w.sets) v e both.0 (code_of v e), stays (λ w. w.services) v e both.1 (code_of v e))

-- a part that no element changes is changed by no message
folded-stays : {A : Type 0} (part : Store → A) → ((v : Store) (e : Element) → part (put v e).0 ≡ part v)
    → (v : Store) (given : List Item) → part (folded put v given).0 ≡ part v
unfolding folded
folded-stays part same v [] = refl
folded-stays part same v (Err fault ∷ others) = refl
folded-stays part same v (Ok e ∷ others) = by (is_applied (put v e).1) (folded-stays part same (put v e).0 others)
  where
    by : (b : Bool) → part (folded put (put v e).0 others).0 ≡ part (put v e).0
        → part (if b then folded put (put v e).0 others else put v e).0 ≡ part v
    by true more = more ∙ same v e
    by false more = same v e

pub elements_keep_sets : (v : Store) (m : List ℕ) → (element_by_element v m).0.sets ≡ v.sets
elements_keep_sets v m = folded-stays (λ w. w.sets) (λ w e. (keeps_sets_and_services w e).0) v (items m)

pub elements_keep_services : (v : Store) (m : List ℕ) → (element_by_element v m).0.services ≡ v.services
elements_keep_services v m = folded-stays (λ w. w.services) (λ w e. (keeps_sets_and_services w e).1) v (items m)

-- and so whether they are taken as a whole or not at all
whole-stays : {A : Type 0} (part : Store → A) (v : Store) (after : Store × Code) → part after.0 ≡ part v
    → part (whole_or_none v after).0 ≡ part v
whole-stays part v after same = by (is_applied after.1)
  where
    by : (b : Bool) → part (if b then after.0 else v) ≡ part v
    by true = same
    by false = refl

pub messages_keep_sets_and_services : MessagesKeepSetsAndServices
messages_keep_sets_and_services v m = (
  whole-stays (λ w. w.sets) v (element_by_element v m) (elements_keep_sets v m),
  whole-stays (λ w. w.services) v (element_by_element v m) (elements_keep_services v m),
)

-- ---- Takes.
all_taken : (v : Store) (groups : List WaitingGroup)
    → TakesOut (record v { groups = groups }) groups (record v { groups = [] })
all_taken v [] = refl
all_taken v (group ∷ groups) = (refl, all_taken v groups)

pub groups_go_out_in_order : GroupsGoOutInOrder
groups_go_out_in_order v = (all_taken v v.groups, refl)
