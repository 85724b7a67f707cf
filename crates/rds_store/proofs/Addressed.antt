-- What `put` is for an element that names a service.
use Rattle.std.proofs.Common.{◌≡◌, ℕ, true, false, ◌&&◌, Option, Some, None, refl, ap, ◌∙◌, not, is_none, ◌==◌}
use Rattle.std.proofs.Common.{if◌then◌else◌}
use Rattle.std.specs.Option.{option_map_or, unwrap_or}
use Rattle.uecp_elements.specs.declared.code.Code.{Code}
use Rattle.uecp_elements.specs.declared.code.Code.TheVariants.{Applied, DataSet, Service, OutOfRange, BufferFull}
use Rattle.uecp_elements.specs.Grammar.{Element, Pi, Ps, TaTp, Ms, Pty, Rt, NoText, Text, Select, Group, Ack}
use Rattle.rds_store.specs.Value.{Store}
use Rattle.rds_store.specs.Names.{address, is_dsn, service_of, names_set}
use Rattle.rds_store.specs.Content.{taken}
use Rattle.rds_store.specs.Refusals.{is_out_of_range, adds_text, has_full_set, code_of}
use Rattle.rds_store.specs.Put.{stored, stored_at, stored_on, put, change_where}
use Rattle.rds_store.specs.Kept.{at_service}

-- its code, by its DSN and PSN
abbrev pub code_at : Store → Element → (ℕ × ℕ) → Code
code_at v e a =
    if not (is_dsn v.sets a.0) then DataSet
    else if is_none (service_of v.services a.1) then Service
    else if is_out_of_range e then OutOfRange
    else if adds_text e && option_map_or (has_full_set v a.0) (service_of v.services a.1) false then BufferFull
    else Applied

same_pair : (a b : ℕ × ℕ) → Some a ≡ Some b → a ≡ b
same_pair a b h = ap (λ o. unwrap_or o a) h

no_pair : {A : Type 0} (a : ℕ × ℕ) → None ≡ Some a → A
no_pair a h = cc

pub addressed_code : (v : Store) (e : Element) (a : ℕ × ℕ) → address e ≡ Some a → code_of v e ≡ code_at v e a
addressed_code v (Pi d p n) a h = ap (code_at v (Pi d p n)) (same_pair _ _ h)
addressed_code v (Ps d p n) a h = ap (code_at v (Ps d p n)) (same_pair _ _ h)
addressed_code v (TaTp d p n) a h = ap (code_at v (TaTp d p n)) (same_pair _ _ h)
addressed_code v (Ms d p n) a h = ap (code_at v (Ms d p n)) (same_pair _ _ h)
addressed_code v (Pty d p n) a h = ap (code_at v (Pty d p n)) (same_pair _ _ h)
addressed_code v (Rt d p NoText) a h = ap (code_at v (Rt d p NoText)) (same_pair _ _ h)
addressed_code v (Rt d p (Text n b)) a h = ap (code_at v (Rt d p (Text n b))) (same_pair _ _ h)
addressed_code v (Select d) a h = no_pair a h
addressed_code v (Group k m x y) a h = no_pair a h
addressed_code v (Ack c n) a h = no_pair a h

pub addressed_stored : (v : Store) (e : Element) (a : ℕ × ℕ) → address e ≡ Some a → stored v e ≡ stored_at v e a
addressed_stored v (Pi d p n) a h = ap (stored_at v (Pi d p n)) (same_pair _ _ h)
addressed_stored v (Ps d p n) a h = ap (stored_at v (Ps d p n)) (same_pair _ _ h)
addressed_stored v (TaTp d p n) a h = ap (stored_at v (TaTp d p n)) (same_pair _ _ h)
addressed_stored v (Ms d p n) a h = ap (stored_at v (Ms d p n)) (same_pair _ _ h)
addressed_stored v (Pty d p n) a h = ap (stored_at v (Pty d p n)) (same_pair _ _ h)
addressed_stored v (Rt d p NoText) a h = ap (stored_at v (Rt d p NoText)) (same_pair _ _ h)
addressed_stored v (Rt d p (Text n b)) a h = ap (stored_at v (Rt d p (Text n b))) (same_pair _ _ h)
addressed_stored v (Select d) a h = no_pair a h
addressed_stored v (Group k m x y) a h = no_pair a h
addressed_stored v (Ack c n) a h = no_pair a h

module _ (v : Store) (e : Element) (d p : ℕ) (h : address e ≡ Some (d, p)) where
  by_code : (c : Code) → code_of v e ≡ c → put v e ≡ (stored_on c v e, c)
  by_code c k = ap (λ c. (stored_on c v e, c)) k

  pub put-no_set : is_dsn v.sets d ≡ false → put v e ≡ (v, DataSet)
  put-no_set a = by_code DataSet (addressed_code v e (d, p) h ∙ rw a refl)

  pub put-no_service : is_dsn v.sets d ≡ true → service_of v.services p ≡ None → put v e ≡ (v, Service)
  put-no_service a b = by_code Service (addressed_code v e (d, p) h ∙ rw (a, b) refl)

  module _ (n : ℕ) (a : is_dsn v.sets d ≡ true) (b : service_of v.services p ≡ Some n) where
    pub put-out_of_range : is_out_of_range e ≡ true → put v e ≡ (v, OutOfRange)
    put-out_of_range r = by_code OutOfRange (addressed_code v e (d, p) h ∙ rw (a, b, r) refl)

    pub put-full : is_out_of_range e ≡ false → (adds_text e && has_full_set v d n) ≡ true → put v e ≡ (v, BufferFull)
    put-full r f = by_code BufferFull (addressed_code v e (d, p) h ∙ rw (a, b, r, f) refl)

    pub put-stored : is_out_of_range e ≡ false → (adds_text e && has_full_set v d n) ≡ false
        → put v e ≡ (stored_at v e (d, p), Applied)
    put-stored r f = by_code Applied (addressed_code v e (d, p) h ∙ rw (a, b, r, f) refl)
        ∙ ap (λ w. (w, Applied)) (addressed_stored v e (d, p) h)

    -- in the words of one service
    pub put-changed : is_out_of_range e ≡ false → (adds_text e && has_full_set v d n) ≡ false
        → put v e ≡ (
          record v { places = change_where (at_service (names_set d v.current) n) (taken e) v.places },
          Applied,
        )
    put-changed r f = put-stored r f ∙ ap (λ o. (named_change o, Applied)) b
      where
        named_change : Option ℕ → Store
        named_change o = record v {
          places = change_where
              (λ place. names_set d v.current place.0 && option_map_or (λ service. service == place.1) o false)
              (taken e)
              v.places;
        }
