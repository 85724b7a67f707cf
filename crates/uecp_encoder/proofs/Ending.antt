-- How a call ends.
use Rattle.std.proofs.Common.{◌≡◌, ℕ, ◌+◌, ◌<◌, ◌≤◌, Bool, List, ◌++◌, length, take, drop, Option, Err, ◌∙◌, ap, sym}
use Rattle.std.proofs.Common.{arith}
use Rattle.std.proofs.Common.{take-append-drop}
use Rattle.uecp_encoder.specs.Target.{Step}
use Rattle.uecp_encoder.specs.State.{EncoderState, fed}
use Rattle.uecp_encoder.specs.Answering.{responses_to}
use Rattle.uecp_encoder.specs.declared.answering.Stop.{Stop}
use Rattle.uecp_encoder.specs.declared.answering.Stop.TheVariants as stop
use Rattle.uecp_encoder.specs.declared.listener.Event.{Event}
use Rattle.uecp_encoder.specs.Keeping.{Kept, Settled}
use Rattle.uecp_encoder.specs.ServingWith.{Ended, HasSaved, ServesOrStops, ServesKept, KeptReadsMade, StaysSettled}
use Rattle.uecp_encoder.specs.ServingWith.{fresh_among}
use Rattle.uecp_encoder.specs.Telling.{HasHeard}
use Rattle.uecp_encoder.specs.Batches.{Takes, StopsAt, HearsUntil, stopped_after, fault_after}
use Rattle.uecp_encoder.proofs.Unchanged.{fresh_on}
use Rattle.uecp_encoder.proofs.Beginnings.{outlives_all, outlives_writing}

-- what is fresh in the first bytes is fresh in all
fresh_in_all : {V : Type 0} (step : Step V) (e : EncoderState V) (s : List ℕ) (n : ℕ)
    → fresh_among (responses_to step e (take n s)) ≤ fresh_among (responses_to step e s)
fresh_in_all step e s n =
    let parts : fresh_among (responses_to step e s) ≡ fresh_among (responses_to step e (take n s))
    + fresh_among (responses_to step (fed step e (take n s)) (drop n s)) =
    ap (λ x. fresh_among (responses_to step e x)) (sym (take-append-drop n s)) ∙ fresh_on step e (take n s) (drop n s)
    in
    omega (arith, parts)

module _ {V K : Type 0} (most room : ℕ) (step : Step V) (leaves : K → Kept V → Type 0) (is_clean : K → Type 0)
    (saves fails : K → Kept V → K → Type 0) where
  -- all was taken
  pub ends_whole : (e e' : EncoderState V) (k k' : K) (s sent : List ℕ) (n replies bytes : ℕ)
      (unread : Option (List ℕ)) (turns reads : ℕ) (ended : Ended)
      → Takes most step leaves is_clean saves e e' k k' s sent n replies bytes
      → ServesOrStops most room step e e' s sent unread turns ended
      → HasSaved most saves fails step e e' k k' s sent reads ended
      → ServesKept most room step leaves is_clean saves fails e e' k k' s sent unread turns reads ended
  ends_whole e e' k k' s sent n replies bytes unread turns reads ended taken serves saved = record {
    serves = serves;
    saved = saved;
    kept = λ start clean left is. outlives_all step e e' s sent left taken.sends.all
        (taken.keeps.settled start clean left is);
    same = taken.keeps.same;
  }

  -- a write failed, or a save did
  pub ends_stopped : (e e' : EncoderState V) (k k' : K) (s sent : List ℕ) (reads start place bytes : ℕ) (why : Stop)
      (unread : Option (List ℕ)) (turns : ℕ) →
      StopsAt most step leaves is_clean saves fails e e' k k' s sent reads start place (stopped_after bytes why)
      → length s < place + 1 + room
      → ServesKept most room step leaves is_clean saves fails e e' k k' s sent unread turns reads
      (Err (fault_after bytes why))
  ends_stopped e e' k k' s sent reads start place bytes (stop.Write w) unread turns (stops, kept, saved) near = record {
    serves = (start, place, stops, near);
    saved = (start, place, stops, saved);
    kept = λ settled clean left is. outlives_writing most step e e' s sent (bytes + w) start place left stops
        (kept.settled settled clean left is);
    same = kept.same;
  }
  ends_stopped e e' k k' s sent reads start place bytes stop.State unread turns (stops, breaks, saved) near = record {
    serves = (start, place, stops, near);
    saved = (start, place, stops, saved);
    kept = breaks.outlives;
    same = λ none. absurd (omega (arith, fresh_in_all step e s (place + 1), stops.fresh, none));
  }

  pub settled_stopped : (e e' : EncoderState V) (k k' : K) (s sent : List ℕ) (reads start place bytes : ℕ) (why : Stop)
      → StopsAt most step leaves is_clean saves fails e e' k k' s sent reads start place (stopped_after bytes why)
      → Settled (leaves k) e → is_clean k' → StaysSettled (leaves k') e' (Err (fault_after bytes why))
  settled_stopped e e' k k' s sent reads start place bytes (stop.Write w) (stops, keeps, saved) settled clean =
      keeps.settled settled clean
  settled_stopped e e' k k' s sent reads start place bytes stop.State (stops, breaks, saved) settled clean = tt

  pub heard_stopped : {L : Type 0} (hears : L → Event → Bool → L → Type 0) (e e' : EncoderState V) (k k' : K)
      (l l' : L) (s sent : List ℕ) (reads start place bytes : ℕ) (why : Stop) →
      StopsAt most step leaves is_clean saves fails e e' k k' s sent reads start place (stopped_after bytes why)
      → HearsUntil hears step e s start place l l' (stopped_after bytes why)
      → HasHeard most hears step e e' l l' s sent (Err (fault_after bytes why))
  heard_stopped hears e e' k k' l l' s sent reads start place bytes (stop.Write w) (stops, keeps, saved) heard =
      (start, place, stops, heard)
  heard_stopped hears e e' k k' l l' s sent reads start place bytes stop.State (stops, breaks, saved) heard =
      (start, place, stops, heard)

-- ---- what is counted
pub reads_stopped : (bytes : ℕ) (why : Stop) (turns n : ℕ) → 1 ≤ n → n ≤ turns
    → KeptReadsMade (Err (fault_after bytes why)) turns n
reads_stopped bytes (stop.Write w) turns n some few = (some, few)
reads_stopped bytes stop.State turns n some few = (some, few)
