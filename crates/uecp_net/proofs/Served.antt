-- What one call of `serve_with` over unused ends is.
use Rattle.std.proofs.Common.{◌≡◌, ℕ, ◌+◌, ◌*◌, ◌^◌, ◌<◌, ◌≤◌, Bool, List, length, Option, Some, Ok, Err, refl, ◌∙◌, ap}
use Rattle.std.proofs.Common.{sym, subst}
use Rattle.std.proofs.Common.{arith}
use Rattle.std.specs.Io.KnownBytes.{Appends, Consumes}
use Rattle.uecp_frame.specs.Findings.{Closed}
use Rattle.uecp_encoder.specs.Metered.{Metered}
use Rattle.uecp_encoder.specs.Target.{Step}
use Rattle.uecp_encoder.specs.State.{EncoderState}
use Rattle.uecp_encoder.specs.Serving.{Serves, ReadsMade, read_failures, empty_reads, write_failures}
use Rattle.uecp_encoder.specs.declared.serving.ServeFault.TheVariants.{ReadFailed, WriteFailed, TurnsSpent}
use Rattle.uecp_encoder.specs.declared.serving.KeptFault.TheVariants.{Serve, StateFailed}
use Rattle.uecp_encoder.specs.declared.listener.Event.{Event}
use Rattle.uecp_encoder.specs.Keeping.{Kept, kept_of, Settled}
use Rattle.uecp_encoder.specs.ServingWith.{Ended, ServesOrStops, ServesKept, KeptReadsMade, kept_read_failures}
use Rattle.uecp_encoder.specs.ServingWith.{kept_empty_reads}
use Rattle.uecp_encoder.specs.ServingWith.{kept_write_failures}
use Rattle.uecp_encoder.specs.Telling.{HasHeard}
use Rattle.uecp_encoder.proofs.Public.{serves_fault}
use Rattle.uecp_net.specs.Sessions.{Outcome, Session, Serving, SessionKept, SessionTold, ServingTold}

kept_reads : (ended : Ended) (turns n : ℕ) → KeptReadsMade ended turns n → n ≤ turns
kept_reads (Ok served) turns n (some, few) = few
kept_reads (Err (Serve ReadFailed)) turns n (some, few) = few
kept_reads (Err (Serve (WriteFailed w))) turns n (some, few) = few
kept_reads (Err (Serve TurnsSpent)) turns n all = omega (arith, all)
kept_reads (Err StateFailed) turns n (some, few) = few

pub session_told : {V K L I O : Type 0} (most room : ℕ) (step : Step V) (leaves : K → Kept V → Type 0) (is_clean : K →
    Type 0) (saves fails : K → Kept V → K → Type 0) (begins : L → L → Type 0)
    (hears : L → Event → Bool → L → Type 0) (remaining : I → Option (List ℕ))
    (contents : O → Option (List ℕ)) (turns : ℕ) (old start new : EncoderState V)
    (k k' : K) (l0 l l' : L) (input : I) (reader reader' : Metered I) (output : O) (writer writer' : Metered O)
    (ended : Ended) →
    turns < 2 ^ 32 → reader.device ≡ input → reader.calls ≡ 0 → reader.failures ≡ 0 → reader.empty ≡ 0
    → writer.device ≡ output → writer.failures ≡ 0 → start ≡ record old { part = Closed } →
    ((s : List ℕ) × (written : List ℕ) × (n : ℕ) × Consumes (remaining reader.device) (remaining reader'.device) s
    × Appends (contents writer.device) (contents writer'.device) written
    × ServesKept most room step leaves is_clean saves fails start new k k' s written (remaining reader'.device) turns n
    ended
    × HasHeard most hears step start new l l' s written ended × KeptReadsMade ended turns n
    × (reader.calls + n < 2 ^ 128 → reader'.calls ≡ reader.calls + n) × (length s ≤ room * turns)) → begins l0 l
    → reader'.failures ≡ kept_read_failures ended reader.failures
    → reader'.empty ≡ kept_empty_reads ended reader.empty
    → writer'.failures ≡ kept_write_failures ended writer.failures →
    SessionTold most room step leaves is_clean saves fails begins hears remaining contents turns old new k k' l0 l'
    input reader' output
    writer' ended
session_told most room step leaves is_clean saves fails begins hears remaining contents turns old start new k k' l0 l l'
    input reader
    reader' output writer writer' ended fits input_is none no_read_failed none_empty output_is no_write_failed lost
    (s, written, n, consumed, appended, serves, heard, made, calls, few) begun read_failed were_empty write_failed =
    let made_few = kept_reads ended turns n made in
    let calls_are : n ≡ reader'.calls =
    let is : reader'.calls ≡ reader.calls + n = calls (omega (arith, none, made_few, fits)) in
    omega (arith, is, none) in
    record {
      session = record {
        read = s;
        sent = written;
        consumed = subst (λ d. Consumes (remaining d) (remaining reader'.device) s) input_is consumed;
        appended = subst (λ d. Appends (contents d) (contents writer'.device) written) output_is appended;
        serves = subst (λ e. ServesKept most room step leaves is_clean saves fails e new k k' s written
            (remaining reader'.device) turns reader'.calls ended) lost
            (subst (λ r. ServesKept most room step leaves is_clean saves fails start new k k' s written
            (remaining reader'.device) turns r ended) calls_are serves);
        few_bytes = few;
        reads = subst (KeptReadsMade ended turns) calls_are made;
        read_failures_are = read_failed ∙ ap (kept_read_failures ended) no_read_failed;
        empty_reads_are = were_empty ∙ ap (kept_empty_reads ended) none_empty;
        write_failures_are = write_failed ∙ ap (kept_write_failures ended) no_write_failed;
      };
      begun = l;
      begins_so = begun;
      heard = subst (λ e. HasHeard most hears step e new l l' s written ended) lost heard;
    }

-- what was open is no matter of what is kept
pub settled_lost : {V : Type 0} (leaves : Kept V → Type 0) (e start : EncoderState V)
    → start ≡ record e { part = Closed }
    → Settled leaves e → Settled leaves start
settled_lost leaves e start lost settled left is = settled left is ∙ ap kept_of (sym lost)

-- ---- with no state and nobody who listens
abbrev pub kept_as : Outcome → Ended
kept_as (Ok served) = Ok served
kept_as (Err fault) = Err (Serve fault)

serves_as : {V : Type 0} (step : Step V) (e e' : EncoderState V) (s sent : List ℕ) (unread : Option (List ℕ))
    (turns : ℕ) (outcome : Outcome) → ServesOrStops 1 512 step e e' s sent unread turns (kept_as outcome)
    → Serves step e e' s sent unread turns outcome
serves_as step e e' s sent unread turns (Ok served) serves = serves
serves_as step e e' s sent unread turns (Err fault) serves =
    serves_fault step e e' s sent unread turns fault serves

reads_as : (outcome : Outcome) (turns n : ℕ) → KeptReadsMade (kept_as outcome) turns n → ReadsMade outcome turns n
reads_as (Ok served) turns n made = made
reads_as (Err fault) turns n made = made

failures_as : (outcome : Outcome) (n : ℕ) → kept_read_failures (kept_as outcome) n ≡ read_failures outcome n
failures_as (Ok served) n = refl
failures_as (Err fault) n = refl

empty_as : (outcome : Outcome) (n : ℕ) → kept_empty_reads (kept_as outcome) n ≡ empty_reads outcome n
empty_as (Ok served) n = refl
empty_as (Err fault) n = refl

writes_as : (outcome : Outcome) (n : ℕ) → kept_write_failures (kept_as outcome) n ≡ write_failures outcome n
writes_as (Ok served) n = refl
writes_as (Err fault) n = refl

pub serving_plain : {V K L C I O : Type 0} (step : Step V) (leaves : K → Kept V → Type 0) (is_clean : K → Type 0)
    (saves fails : K → Kept V → K → Type 0) (begins : L → L → Type 0) (hears : L → Event → Bool → L → Type 0)
    (opens : C → Option (I × O) → C → Type 0) (closes : C → I → O → C → Type 0) (remaining : I → Option (List ℕ))
    (contents : O → Option (List ℕ)) (turns : ℕ) (e e' : EncoderState V) (k k' : K) (l l' : L) (c c' : C)
    (ended : Ended) (outcome : Outcome) → ended ≡ kept_as outcome →
    ServingTold 1 512 step leaves is_clean saves fails begins hears opens closes remaining contents turns e k l c ended
    e' k' l' c'
    → Serving step opens closes remaining contents turns e c outcome e' c'
serving_plain step leaves is_clean saves fails begins hears opens closes remaining contents turns e e' k k' l l' c c'
    ended outcome is (input, input', output, output', between, opened, told, closed) =
    let session = subst (λ it. SessionKept 1 512 step leaves is_clean saves fails remaining contents turns e e' k k'
    input input' output output' it) is told.session in (
      input,
      input',
      output,
      output',
      between,
      opened,
      record {
        read = session.read;
        sent = session.sent;
        consumed = session.consumed;
        appended = session.appended;
        serves = serves_as step (record e { part = Closed }) e' session.read session.sent (remaining input'.device)
            turns outcome session.serves.serves;
        few_bytes = session.few_bytes;
        reads = reads_as outcome turns input'.calls session.reads;
        read_failures_are = session.read_failures_are ∙ failures_as outcome 0;
        empty_reads_are = session.empty_reads_are ∙ empty_as outcome 0;
        write_failures_are = session.write_failures_are ∙ writes_as outcome 0;
      },
      closed,
    )
