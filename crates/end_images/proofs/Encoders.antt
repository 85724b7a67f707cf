-- Each encoder that can be is one: a new one is, and bytes, takes, a lost line and a start leave one.
use Rattle.std.proofs.Common.{◌≡◌, ◌≢◌, ℕ, ◌==◌, Bool, true, false, List, [], ◌∷◌, Option, Some, None, Ok, Err, refl}
use Rattle.std.proofs.Common.{sym}
use Rattle.std.proofs.Common.{◌∙◌, arith}
use Rattle.std.specs.Prelude.{if◌then◌else◌}
use Rattle.std.proofs.lemmas.Bool.{false≢true, eq-eqb}
use Rattle.uecp_elements.specs.declared.code.Code.{Code}
use Rattle.uecp_elements.specs.Grammar.{AreBytes}
use Rattle.uecp_frame.specs.declared.frame.Frame.{Frame}
use Rattle.uecp_frame.specs.Address.{reaches}
use Rattle.uecp_frame.specs.Findings.{Finding}
use Rattle.uecp_frame.specs.Beyond.{found_beyond, open_beyond}
use Rattle.rds_store.specs.declared.group.Group.{Group}
use Rattle.rds_store.specs.Value.{Store}
use Rattle.rds_store.specs.Step.{step, first_taken}
use Rattle.rds_store.specs.Opening.{opening as opening_store, fault_of}
use Rattle.rds_store.specs.Laws.{MessagesKeepSetsAndServices}
use Rattle.reply_ring.specs.Ring.{kept_code}
use Rattle.reply_ring.proofs.Public.{ring-keep}
use Rattle.store_phrases.specs.Laws.{AreStations}
use Rattle.uecp_encoder.specs.State.{EncoderState, is_next, applied, numbered, after_finding}
use Rattle.uecp_encoder.specs.declared.counts.Counts.{Counts}
use Rattle.uecp_encoder.specs.State.{after_findings, fed, raised}
use Rattle.end_images.specs.Reading.{IsEncoder}
use Rattle.end_images.specs.Laws.{AreEncoders}
use Rattle.end_images.proofs.Bytes.{OfBytes, AllOfBytes, beyond_bytes, open_beyond_bytes}
use Rattle.end_images.proofs.Telling.{station_after, station_opened}

module _ (stations : AreStations) (keeps : MessagesKeepSetsAndServices) where
  applied_is : (e : EncoderState Store) (f : Frame) → AreBytes f.message → f.counter ≢ 0
      → kept_code e.ring f.counter ≡ None → IsEncoder e → IsEncoder (applied step e f)
  applied_is e f bytes some fresh is = record {
    exact = is.exact;
    store = station_after stations keeps e.value (step e.value f.message).0 f.message bytes refl is.store;
    ring = ring-keep e.ring f.counter (step e.value f.message).1 is.ring some fresh;
    open_part = is.open_part;
  }

  same_but_counts : (e : EncoderState Store) (counts : Counts) → IsEncoder e → IsEncoder (record e { counts = counts })
  same_but_counts e counts is = record {
    exact = is.exact;
    store = is.store;
    ring = is.ring;
    open_part = is.open_part;
  }

  known_is : (e : EncoderState Store) (f : Frame) → AreBytes f.message → IsEncoder e → f.counter ≢ 0
      → (k : Option Code) → kept_code e.ring f.counter ≡ k → IsEncoder (numbered step e f k)
  known_is e f bytes is some (Some code) held =
      same_but_counts e (record e.counts { repeats = raised e.counts.repeats }) is
  known_is e f bytes is some None held = go (is_next e.ring f.counter)
    where
      go : (n : Bool) → IsEncoder (if n then applied step e f else e)
      go true = applied_is e f bytes some held is
      go false = is

  frame_is : (e : EncoderState Store) (f : Frame) → AreBytes f.message → IsEncoder e
      → IsEncoder (after_finding step e (Ok f))
  frame_is e f bytes is = go (reaches f.address e.address) (f.counter == 0) refl
    where
      go : (r z : Bool) → (f.counter == 0) ≡ z
          → IsEncoder (if r then (if z
          then record e { counts = record e.counts { unnumbered = raised e.counts.unnumbered } }
          else numbered step e f (kept_code e.ring f.counter))
          else record e { counts = record e.counts { not_for_me = raised e.counts.not_for_me } })
      go true true zero =
          same_but_counts e (record e.counts { unnumbered = raised e.counts.unnumbered }) is
      go true false zero =
          known_is e f bytes is (λ none. false≢true (sym zero ∙ eq-eqb f.counter 0 none))
          (kept_code e.ring f.counter) refl
      go false z zero = same_but_counts e (record e.counts { not_for_me = raised e.counts.not_for_me }) is

  finding_is : (e : EncoderState Store) (f : Finding) → OfBytes f → IsEncoder e → IsEncoder (after_finding step e f)
  finding_is e (Ok f) bytes is = frame_is e f bytes is
  finding_is e (Err fault) bytes is =
      same_but_counts e (record e.counts { dropped = raised e.counts.dropped }) is

  findings_is : (e : EncoderState Store) (fs : List Finding) → AllOfBytes fs → IsEncoder e
      → IsEncoder (after_findings step e fs)
  findings_is e [] bytes is = is
  findings_is e (f ∷ fs) bytes is =
      findings_is (after_finding step e f) fs bytes.1 (finding_is e f bytes.0 is)

  pub fed_is : (e : EncoderState Store) (bytes : List ℕ) → IsEncoder e → AreBytes bytes → IsEncoder (fed step e bytes)
  fed_is e bytes is are =
      findings_is (record e { part = open_beyond e.part bytes }) (found_beyond e.part bytes)
      (beyond_bytes e.part bytes is.open_part are)
      (record {
        exact = is.exact;
        store = is.store;
        ring = is.ring;
        open_part = open_beyond_bytes e.part bytes is.open_part are;
      })

  taken_opens : (v : Store) (groups : List Group) → fault_of v.sets v.services ≡ None
      → fault_of (first_taken v groups).0.sets (first_taken v groups).0.services ≡ None
  taken_opens v [] opens = opens
  taken_opens v (g ∷ gs) opens = opens

  pub are_encoders : AreEncoders
  are_encoders = record {
    opened = λ address sets services exact bytes opens. record {
      exact = exact;
      store = station_opened stations sets services (opening_store sets services) bytes opens refl;
      ring = record { at_most = omega arith; once = tt; numbered = refl };
      open_part = tt;
    };
    after_bytes = fed_is;
    after_a_take = λ e is. record {
      exact = is.exact;
      store = record {
        station = stations.take e.value is.store.station;
        opens = taken_opens e.value e.value.groups is.store.opens;
      };
      ring = is.ring;
      open_part = is.open_part;
    };
    after_a_loss = λ e is. record { exact = is.exact; store = is.store; ring = is.ring; open_part = tt };
    after_a_start = λ e is. record { exact = is.exact; store = is.store; ring = is.ring; open_part = tt };
  }
