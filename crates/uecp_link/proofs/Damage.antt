-- Faults change the count of dropped segments alone.
use Rattle.std.proofs.Common.{◌≡◌, ◌+◌, ◌-◌, ◌^◌, ◌<◌, false, List, [], ◌∷◌, length, min, Ok, Err, refl, arith}
use Rattle.uecp_frame.specs.Findings.{Finding, has_frame}
use Rattle.uecp_frame.specs.Beyond.{found_beyond, open_beyond}
use Rattle.uecp_link.specs.Server.{ServerState, heard_finding, heard_findings}
use Rattle.uecp_link.specs.Damage.{DamageChangesNothing}

faults_leave : (s : ServerState) (fs : List Finding) → has_frame fs ≡ false
    → heard_findings s fs ≡ record s { counts = record s.counts { dropped = (heard_findings s fs).counts.dropped } }
faults_leave s [] h = refl
faults_leave s (Err fault ∷ fs) h = faults_leave (heard_finding s (Err fault)) fs h
faults_leave s (Ok f ∷ fs) h = absurd (cc)

faults_count : (s : ServerState) (fs : List Finding) → has_frame fs ≡ false → s.counts.dropped < 2 ^ 64
    → (heard_findings s fs).counts.dropped ≡ min (s.counts.dropped + length fs) (2 ^ 64 - 1)
faults_count s [] h small = omega (arith, small)
faults_count s (Err fault ∷ fs) h small =
    let later = faults_count (heard_finding s (Err fault)) fs h (omega arith) in
    omega (arith, later, small)
faults_count s (Ok f ∷ fs) h small = absurd (cc)

pub damage_changes_nothing_lem : DamageChangesNothing
damage_changes_nothing_lem s bytes quiet =
    let fs : List Finding = found_beyond s.part bytes in
    let opened : ServerState = record s { part = open_beyond s.part bytes } in
    record { state = faults_leave opened fs quiet; dropped = λ small. faults_count opened fs quiet small }
