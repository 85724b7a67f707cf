-- Reads of bits that are heard one after another.
use Rattle.std.proofs.Common.{◌≡◌, ◌⊎◌, ℕ, Bool, true, false, ◌||◌, List, [], ◌++◌, Option, Some, None, refl, sym, ap}
use Rattle.std.proofs.Common.{subst}
use Rattle.std.proofs.Common.{◌∙◌, inl, inr}
use Rattle.std.proofs.lemmas.List.Folds.{list_any-append}
use Rattle.std.specs.List.{list_any}
use Rattle.std.specs.Io.KnownBytes.{Consumes, Keeps}
use Rattle.std.proofs.KnownBytes.{Consumes-trans, Consumes-kept}
use Rattle.uecp_text.specs.declared.run_fault.RunFault.{RunFault}
use Rattle.uecp_text.specs.declared.run_fault.RunFault.TheVariants.{Reading, Writing, OutOfMemory}
use Rattle.uecp_text.specs.Faults.{status_of, error_lines}
use Rattle.notices.specs.Told.{Told, Says}
use Rattle.rds_groups.specs.Shown.{switched_on}
use Rattle.rds_groups.specs.View.{receiver_of}
use Rattle.rds_groups.specs.Sync as sync
use Rattle.commands.specs.declared.receive_options.ShownForm.{ShownForm}
use Rattle.receive_command.specs.declared.bit_input.BitHearing.{BitHearing}
use Rattle.receive_command.specs.Bits.{BitStanding, bits_at_first, HearsText, FailsInText, SaysForeign, is_foreign}
use Rattle.receive_command.specs.Bits.{ReceivesBits}
use Rattle.receive_command.specs.View.{bits_of_hearing, SaysMore}
use Rattle.receive_command.proofs.Texts.{hears_nothing, hears_more, fails_more}

-- All that was read was heard, and all that there was to tell and to say was.
abbrev pub HasHeard : ShownForm → (timed : Bool) → (unread unread' held held' : Option (List ℕ)) → (said said' : Told)
    → BitHearing
    → Type 0
HasHeard form timed unread unread' held held' said said' h =
    (text : List ℕ)
    × HearsText form timed text (bits_at_first held) (bits_of_hearing h held')
    × Consumes unread unread' text
    × SaysForeign (list_any is_foreign text) said said'
    × (h.foreign ≡ list_any is_foreign text)

consumes_nothing : (unread : Option (List ℕ)) → Consumes unread unread []
consumes_nothing None = tt
consumes_nothing (Some left) = refl

-- where a hearing stands, by what it has
pub stands : (h : BitHearing) (held : Option (List ℕ)) (x : BitStanding) → x.held ≡ held → h.synchroniser ≡ x.place
    → receiver_of h.receiver ≡ x.heard → bits_of_hearing h held ≡ x
stands h held x holds place heard =
    ap (λ p. record { place = p; heard = receiver_of h.receiver; held = held }) place
    ∙ ap (λ r. record { place = x.place; heard = r; held = held }) heard
    ∙ ap (λ o. record { place = x.place; heard = x.heard; held = o }) (sym holds)

pub heard_at_first : (form : ShownForm) (timed : Bool) (unread held : Option (List ℕ)) (said : Told) (h : BitHearing)
    → h.synchroniser ≡ sync.switched_on → receiver_of h.receiver ≡ switched_on → h.foreign ≡ false
    → HasHeard form timed unread unread held held said said h
heard_at_first form timed unread held said h place heard foreign = (
  [],
  subst (HearsText form timed [] (bits_at_first held)) (sym (stands h held (bits_at_first held) refl place heard))
      (hears_nothing form timed (bits_at_first held)),
  consumes_nothing unread,
  refl,
  foreign,
)

-- what is said once more
says_on : (before more : Bool) (said between said' : Told) → SaysForeign before said between
    → SaysMore before more between said' → SaysForeign (before || more) said said'
says_on true more said between said' first then = subst (SaysForeign true said) (sym then) first
says_on false more said between said' first then = subst (λ s. SaysForeign more s said') first then

fails_with_3 : (fault : RunFault) → (fault ≡ OutOfMemory) ⊎ (fault ≡ Writing) → status_of fault ≡ 3
fails_with_3 fault (inl is) = ap status_of is
fails_with_3 fault (inr is) = ap status_of is

module _ (form : ShownForm) (timed : Bool) (unread between unread' held before : Option (List ℕ)) (said spoken : Told)
    (h : BitHearing) (left : HasHeard form timed unread between held before said spoken h) where
  -- a read that was interrupted
  pub heard_kept : Keeps between unread' → HasHeard form timed unread unread' held before said spoken h
  heard_kept keeps =
      (left.0, left.1, Consumes-kept unread between unread' left.0 left.2 keeps, left.3, left.4)

  -- reading failed
  pub stops_reading : Keeps between unread' → (status : ℕ) (said' : Told) → status ≡ status_of Reading
      → Says spoken said' (error_lines Reading)
      → ReceivesBits form timed status unread unread' held before said said'
  stops_reading keeps status said' is told = inr record {
    text = left.0;
    fault = Reading;
    stops = inl (refl, (bits_of_hearing h before, left.1, refl));
    consumed = Consumes-kept unread between unread' left.0 left.2 keeps;
    between = spoken;
    says = left.3;
    told = told;
    status_is = is;
  }

  module _ (bytes : List ℕ) (consumes : Consumes between unread' bytes) (h' : BitHearing)
      (foreign : h'.foreign ≡ h.foreign || list_any is_foreign bytes) (place : h'.synchroniser ≡ h.synchroniser)
      (heard : h'.receiver ≡ h.receiver) (spoken' : Told)
      (more : SaysMore h.foreign (list_any is_foreign bytes) spoken spoken') where
    same : bits_of_hearing h' before ≡ bits_of_hearing h before
    same = stands h' before (bits_of_hearing h before) refl place (ap receiver_of heard)

    any : list_any is_foreign (left.0 ++ bytes) ≡ (list_any is_foreign left.0 || list_any is_foreign bytes)
    any = list_any-append is_foreign left.0 bytes

    consumed : Consumes unread unread' (left.0 ++ bytes)
    consumed = Consumes-trans unread between unread' left.0 bytes left.2 consumes

    says : SaysForeign (list_any is_foreign (left.0 ++ bytes)) said spoken'
    says = subst (λ b. SaysForeign b said spoken') (sym any)
        (says_on (list_any is_foreign left.0) (list_any is_foreign bytes) said spoken spoken' left.3
        (subst (λ b. SaysMore b (list_any is_foreign bytes) spoken spoken') left.4 more))

    -- a read that was told
    pub heard_on : (held' : Option (List ℕ)) (h'' : BitHearing)
        → HearsText form timed bytes (bits_of_hearing h' before) (bits_of_hearing h'' held') → h''.foreign ≡ h'.foreign
        → HasHeard form timed unread unread' held held' said spoken' h''
    heard_on held' h'' hears stays = (
      left.0 ++ bytes,
      hears_more form timed left.0 bytes (bits_at_first held) (bits_of_hearing h before) left.1
          (bits_of_hearing h'' held') (subst (λ x. HearsText form timed bytes x (bits_of_hearing h'' held')) same
          hears),
      consumed,
      says,
      stays ∙ foreign ∙ ap (λ b. b || list_any is_foreign bytes) left.4 ∙ sym any,
    )

    -- a read that could not be told
    pub heard_off : (held' : Option (List ℕ)) (fault : RunFault)
        → FailsInText form timed bytes (bits_of_hearing h' before) held' fault → (status : ℕ) (said' : Told)
        → status ≡ status_of fault → Says spoken' said' (error_lines fault)
        → ReceivesBits form timed status unread unread' held held' said said'
    heard_off held' fault fails status said' is told = inr record {
      text = left.0 ++ bytes;
      fault = fault;
      stops = inr (fails_more form timed left.0 bytes (bits_at_first held) (bits_of_hearing h before) left.1 held' fault
          (subst (λ x. FailsInText form timed bytes x held' fault) same fails));
      consumed = consumed;
      between = spoken';
      says = says;
      told = told;
      status_is = is ∙ fails_with_3 fault fails.for_this;
    }
