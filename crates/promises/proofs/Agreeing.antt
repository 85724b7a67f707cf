-- Two stores to which the same elements were told.
use Rattle.std.proofs.Common.{◌≡◌, ℕ, Bool, true, false, ◌&&◌, ◌==◌, if◌then◌else◌, List, [], ◌∷◌, ◌++◌, append_assoc}
use Rattle.std.proofs.Common.{Option, Some, None, is_some, Ok, Err, inl, inr, refl, ap, sym, subst, ◌∙◌, append-nil}
use Rattle.std.specs.Prelude.{nat_le}
use Rattle.std.specs.List.{list_any}
use Rattle.std.specs.Option.{option_map, option_map_or}
use Rattle.std.specs.FinMap.{get}
use Rattle.uecp_elements.specs.declared.code.Code.{Code}
use Rattle.uecp_elements.specs.declared.code.Code.TheVariants.{Applied}
use Rattle.uecp_elements.specs.Grammar.{Element, Pi, Ps, TaTp, Ms, Pty, Rt, NoText, Text, Select, Group, Ack}
use Rattle.uecp_elements.specs.Reading.{Item, items}
use Rattle.uecp_elements.specs.Folding.{is_applied, folded}
use Rattle.rds_store.specs.Value.{StoredText, ServiceData, Store}
use Rattle.rds_store.specs.Names.{names, names_set, service_of, address}
use Rattle.rds_store.specs.Content.{taken, adds, radio_text}
use Rattle.rds_store.specs.Refusals.{code_of}
use Rattle.rds_store.specs.Put.{put, stored}
use Rattle.rds_store.specs.Step.{step, group_taken, first_taken, element_by_element}
use Rattle.rds_store.specs.declared.group.Group.{Group as WaitingGroup}
use Rattle.rds_store.proofs.Public.{changes_named_places_alone, keeps_sets_and_services}
use Rattle.store_phrases.specs.Laws.{AreAlike}
use Rattle.store_phrases.specs.Station.{is_place}
use Rattle.promises.proofs.Taking.{done_first, taken_whole, on_applied}
use Rattle.promises.specs.Alike.{SaidOrAdded, ServicesAgree, PlacesAgree, AgreeAsTold}

-- two stores, which were v and w, as both were told, with the same services
pub record Agree (v w x y : Store) : Type 0 where
  pub told : AgreeAsTold v w x y
  pub services : x.services ≡ y.services

-- ---- One service.

more_texts : (a b s t : List StoredText) → SaidOrAdded a b s t → (new : StoredText) (adds : Bool)
    → SaidOrAdded a b (if adds then s ++ new ∷ [] else new ∷ []) (if adds then t ++ new ∷ [] else new ∷ [])
more_texts a b s t h new false = inl refl
more_texts a b s t h new true =
    elim h [
      | inl same ↦ inl (ap (λ (x : List StoredText). x ++ new ∷ []) same)
      | inr p ↦ inr (
        p.0 ++ new ∷ [],
        ap (λ (x : List StoredText). x ++ new ∷ []) p.1 ∙ append_assoc a p.0 (new ∷ []),
        ap (λ (x : List StoredText). x ++ new ∷ []) p.2 ∙ append_assoc b p.0 (new ∷ []),
      )
    ]

taken_alike : (a b s t : ServiceData) (e : Element) → ServicesAgree a b s t → ServicesAgree a b (taken e s) (taken e t)
taken_alike a b s t (Pi d p n) h =
    record { pi = inl refl; ps = h.ps; tp = h.tp; ta = h.ta; music = h.music; pty = h.pty; texts = h.texts }
taken_alike a b s t (Ps d p n) h =
    record { pi = h.pi; ps = inl refl; tp = h.tp; ta = h.ta; music = h.music; pty = h.pty; texts = h.texts }
taken_alike a b s t (TaTp d p n) h =
    record { pi = h.pi; ps = h.ps; tp = inl refl; ta = inl refl; music = h.music; pty = h.pty; texts = h.texts }
taken_alike a b s t (Ms d p n) h =
    record { pi = h.pi; ps = h.ps; tp = h.tp; ta = h.ta; music = inl refl; pty = h.pty; texts = h.texts }
taken_alike a b s t (Pty d p n) h =
    record { pi = h.pi; ps = h.ps; tp = h.tp; ta = h.ta; music = h.music; pty = inl refl; texts = h.texts }
taken_alike a b s t (Rt d p NoText) h =
    record { pi = h.pi; ps = h.ps; tp = h.tp; ta = h.ta; music = h.music; pty = h.pty; texts = inl refl }
taken_alike a b s t (Rt d p (Text n bytes)) h = record {
  pi = h.pi;
  ps = h.ps;
  tp = h.tp;
  ta = h.ta;
  music = h.music;
  pty = h.pty;
  texts = more_texts a.texts b.texts s.texts t.texts h.texts (radio_text n bytes) (adds n);
}
taken_alike a b s t (Select d) h = h
taken_alike a b s t (Group k m x y) h = h
taken_alike a b s t (Ack c n) h = h

where_named : (a b s t : ServiceData) (e : Element) → ServicesAgree a b s t → (named : Bool)
    → ServicesAgree a b (if named then taken e s else s) (if named then taken e t else t)
where_named a b s t e h true = taken_alike a b s t e h
where_named a b s t e h false = h

-- ---- One place.

at_place : (o p q r : Option ServiceData) (e : Element) → PlacesAgree o p q r → (named : Bool)
    → PlacesAgree o p (option_map (λ s. if named then taken e s else s) q)
    (option_map (λ s. if named then taken e s else s) r)
at_place (Some a) (Some b) (Some s) (Some t) e h named = where_named a b s t e h named
at_place (Some a) (Some b) (Some s) None e h named = absurd h
at_place (Some a) (Some b) None r e h named = absurd h
at_place (Some a) None q r e h named = absurd h
at_place None (Some b) q r e h named = absurd h
at_place None None (Some s) r e h named = absurd h
at_place None None None (Some t) e h named = absurd h
at_place None None None None e h named = tt

-- the same places are named where the services and the current sets are the same
names_by : (current : ℕ) (services : List ℕ) (e : Element) (place : ℕ × ℕ) → Bool
names_by current services e place =
    option_map_or (λ (a : ℕ × ℕ). names_set a.0 current place.0
    && option_map_or (λ service. service == place.1) (service_of services a.1) false) (address e) false

named_alike : (x y : Store) (e : Element) (place : ℕ × ℕ) → x.current ≡ y.current → x.services ≡ y.services
    → names x e place ≡ names y e place
unfolding names_by
named_alike x y e place current services =
    ap (λ (c : ℕ). names_by c x.services e place) current ∙ ap (λ (l : List ℕ). names_by y.current l e place) services

-- ---- One element.

-- the current set after an element
current_by : ℕ → Element → ℕ
current_by current (Select dsn) = if dsn == 0x00 then current else dsn
current_by current _ = current

selected : (b : Bool) (v : Store) (dsn : ℕ) → (if b then v else record v { current = dsn }).current
    ≡ (if b then v.current else dsn)
selected true v dsn = refl
selected false v dsn = refl

stored_current : (v : Store) (e : Element) → (stored v e).current ≡ current_by v.current e
unfolding current_by
stored_current v (Pi d p n) = refl
stored_current v (Ps d p n) = refl
stored_current v (TaTp d p n) = refl
stored_current v (Ms d p n) = refl
stored_current v (Pty d p n) = refl
stored_current v (Rt d p NoText) = refl
stored_current v (Rt d p (Text n b)) = refl
stored_current v (Select d) = selected (d == 0x00) v d
stored_current v (Group k m x y) = refl
stored_current v (Ack c n) = refl

module _ (v w : Store) where
  put_agree : (x y : Store) (e : Element) → Agree v w x y → (put x e).1 ≡ Applied → (put y e).1 ≡ Applied
      → Agree v w (put x e).0 (put y e).0
  put_agree x y e h one two =
      let current : (put x e).0.current ≡ (put y e).0.current =
      ap (λ (z : Store). z.current) (on_applied (code_of x e) x e one)
      ∙ (stored_current x e ∙ (ap (λ (c : ℕ). current_by c e) h.told.current
      ∙ (sym (stored_current y e) ∙ ap (λ (z : Store). z.current) (sym (on_applied (code_of y e) y e two))))) in
      record {
        told = record {
          current = current;
          places = λ place.
              let left = changes_named_places_alone x e place
              ∙ ap (λ (c : Code). option_map (λ s. if is_applied c && names x e place then taken e s else s)
              (get x.places place)) one in
              let right = changes_named_places_alone y e place
              ∙ (ap (λ (c : Code). option_map (λ s. if is_applied c && names y e place then taken e s else s)
              (get y.places place)) two
              ∙ ap (λ (b : Bool). option_map (λ s. if b then taken e s else s) (get y.places place))
              (sym (named_alike x y e place h.told.current h.services))) in
              subst (λ (o : Option ServiceData). PlacesAgree (get v.places place) (get w.places place) o
              (get (put y e).0.places place)) (sym left)
              (subst (λ (o : Option ServiceData). PlacesAgree (get v.places place) (get w.places place)
              (option_map (λ s. if names x e place then taken e s else s) (get x.places place)) o) (sym right)
              (at_place (get v.places place) (get w.places place) (get x.places place) (get y.places place) e
              (h.told.places place) (names x e place)));
        };
        services = (keeps_sets_and_services x e).1 ∙ (h.services ∙ sym (keeps_sets_and_services y e).1);
      }

  -- ---- One message.
  items_agree : (x y : Store) (given : List Item) → Agree v w x y → (folded put x given).1 ≡ Applied
      → (folded put y given).1 ≡ Applied → Agree v w (folded put x given).0 (folded put y given).0
  unfolding folded
  items_agree x y [] h one two = h
  items_agree x y (Err fault ∷ others) h one two = h
  items_agree x y (Ok e ∷ others) h one two =
      let a = done_first (put x e) (λ w. folded put w others) one in
      let b = done_first (put y e) (λ w. folded put w others) two in
      subst (λ (r : Store × Code). Agree v w r.0 (folded put y (Ok e ∷ others)).0) (sym a.1)
      (subst (λ (r : Store × Code). Agree v w (folded put (put x e).0 others).0 r.0) (sym b.1)
      (items_agree (put x e).0 (put y e).0 others (put_agree x y e h a.0 b.0)
      (ap (λ (r : Store × Code). r.1) (sym a.1) ∙ one) (ap (λ (r : Store × Code). r.1) (sym b.1) ∙ two)))

  pub step_agree : (x y : Store) (m : List ℕ) → Agree v w x y → (step x m).1 ≡ Applied → (step y m).1 ≡ Applied
      → Agree v w (step x m).0 (step y m).0
  step_agree x y m h one two =
      subst (λ (z : Store). Agree v w z (step y m).0) (sym (taken_whole x (element_by_element x m) one))
      (subst (λ (z : Store). Agree v w (element_by_element x m).0 z)
      (sym (taken_whole y (element_by_element y m) two)) (items_agree x y (items m) h one two))

  -- ---- One take, at either.
  take_left : (x y : Store) (groups : List WaitingGroup) → Agree v w x y → Agree v w (first_taken x groups).0 y
  take_left x y [] h = h
  take_left x y (g ∷ gs) h =
      record { told = record { current = h.told.current; places = h.told.places }; services = h.services }

  take_right : (x y : Store) (groups : List WaitingGroup) → Agree v w x y → Agree v w x (first_taken y groups).0
  take_right x y [] h = h
  take_right x y (g ∷ gs) h =
      record { told = record { current = h.told.current; places = h.told.places }; services = h.services }

  pub taken_left : (x y : Store) → Agree v w x y → Agree v w (group_taken x).0 y
  taken_left x y h = take_left x y x.groups h

  pub taken_right : (x y : Store) → Agree v w x y → Agree v w x (group_taken y).0
  taken_right x y h = take_right x y y.groups h

-- ---- At first.

service_at_first : (a b : ServiceData) → ServicesAgree a b a b
service_at_first a b = record {
  pi = inr (refl, refl);
  ps = inr (refl, refl);
  tp = inr (refl, refl);
  ta = inr (refl, refl);
  music = inr (refl, refl);
  pty = inr (refl, refl);
  texts = inr ([], sym (append-nil a.texts), sym (append-nil b.texts));
}

place_at_first : (o p : Option ServiceData) → is_some o ≡ is_some p → PlacesAgree o p o p
place_at_first (Some a) (Some b) h = service_at_first a b
place_at_first (Some a) None h = absurd (let bad : ⊥ = cc in bad)
place_at_first None (Some b) h = absurd (let bad : ⊥ = cc in bad)
place_at_first None None h = tt

same_places : (v w : Store) (place : ℕ × ℕ) → AreAlike v w → is_place v place ≡ is_place w place
same_places v w place alike =
    ap (λ (l : List ℕ). list_any (λ number. place.1 == number) l
    && (nat_le 1 place.0 && nat_le place.0 v.sets)) (sym alike.services)
    ∙ ap (λ (n : ℕ). list_any (λ number. place.1 == number) w.services
    && (nat_le 1 place.0 && nat_le place.0 n)) (sym alike.sets)

pub agree_at_first : (v w : Store) → AreAlike v w → v.current ≡ w.current → Agree v w v w
agree_at_first v w alike current = record {
  told = record {
    current = current;
    places = λ place. place_at_first (get v.places place) (get w.places place)
        (alike.said.there place ∙ (same_places v w place alike ∙ sym (alike.held.there place)));
  };
  services = sym alike.services;
}
