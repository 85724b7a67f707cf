-- Faults change the count of dropped segments alone, and bring no reply.
use Rattle.std.proofs.Common.{◌≡◌, ◌+◌, ◌-◌, ◌^◌, ◌<◌, false, List, [], ◌∷◌, length, min, Ok, Err, refl, arith}
use Rattle.std.specs.Prelude.{flat_map}
use Rattle.uecp_frame.specs.Findings.{Finding, has_frame}
use Rattle.uecp_frame.specs.Beyond.{found_beyond, open_beyond}
use Rattle.uecp_encoder.specs.Target.{Step}
use Rattle.uecp_encoder.specs.State.{EncoderState, after_finding, after_findings}
use Rattle.uecp_encoder.specs.Answering.{responses, bytes_sent}
use Rattle.uecp_encoder.specs.Laws.{DamageChangesNothing}

faults_leave : {V : Type 0} (step : Step V) (e : EncoderState V) (fs : List Finding) → has_frame fs ≡ false →
    after_findings step e fs ≡ record e {
      counts = record e.counts {
        dropped =
            (after_findings step e fs).counts.dropped;
      };
    }
faults_leave step e [] h = refl
faults_leave step e (Err fault ∷ fs) h = faults_leave step (after_finding step e (Err fault)) fs h
faults_leave step e (Ok f ∷ fs) h = absurd (cc)

faults_count : {V : Type 0} (step : Step V) (e : EncoderState V) (fs : List Finding) → has_frame fs ≡ false
    → e.counts.dropped < 2 ^ 64 →
    (after_findings step e fs).counts.dropped ≡ min (e.counts.dropped + length fs) (2 ^ 64 - 1)
faults_count step e [] h small = omega (arith, small)
faults_count step e (Err fault ∷ fs) h small =
    let later = faults_count step (after_finding step e (Err fault)) fs h (omega arith) in
    omega (arith, later, small)
faults_count step e (Ok f ∷ fs) h small = absurd (cc)

faults_silent : {V : Type 0} (step : Step V) (e : EncoderState V) (fs : List Finding) → has_frame fs ≡ false
    → flat_map bytes_sent (responses step e fs) ≡ []
faults_silent step e [] h = refl
faults_silent step e (Err fault ∷ fs) h = faults_silent step (after_finding step e (Err fault)) fs h
faults_silent step e (Ok f ∷ fs) h = absurd (cc)

pub damage_changes_nothing_lem : {V : Type 0} (step : Step V) → DamageChangesNothing step
damage_changes_nothing_lem step e bytes quiet =
    let fs : List Finding = found_beyond e.part bytes in
    let opened : EncoderState _ = record e { part = open_beyond e.part bytes } in
    record {
      state = faults_leave step opened fs quiet;
      dropped = λ small. faults_count step opened fs quiet small;
      silent = faults_silent step e fs quiet;
    }
