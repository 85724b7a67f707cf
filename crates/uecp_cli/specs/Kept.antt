-- What a run of the program does whose end has its state in a file, and what it tells of such a file (profile).
use Rattle.std.specs.Prelude.{◌≡◌, ◌⊎◌, ℕ, Bool, true, false, List, length, Option, Some, None, MatchOption}
use Rattle.std.specs.String.{string_bytes}
use Rattle.std.specs.Io.KnownBytes.{Appends}
use Rattle.rds_store.specs.Value.{Store}
use Rattle.uecp_encoder.specs.State.{EncoderState}
use Rattle.uecp_link.specs.Server.{ServerState}
use Rattle.uecp_text.specs.declared.run_fault.RunFault.{RunFault}
use Rattle.uecp_text.specs.Faults.{Fails, error_lines}
use Rattle.uecp_text.specs.Written.{Begins}
use Rattle.uecp_encoder.specs.Keeping as serving
use Rattle.uecp_net.specs.declared.saved.keep.Progress.{Progress}
use Rattle.uecp_net.specs.Keeping as sending
use Rattle.kept_jobs.specs.ServerKept.{IsReadWith}
use Rattle.state_files.specs.declared.fault.StateFault.{StateFault}
use Rattle.state_files.specs.declared.reading.Found.{Found}
use Rattle.state_jobs.specs.Texts.{fault_line}
use Rattle.state_jobs.specs.StateLines.{found_lines}
use Rattle.state_jobs.specs.Kept.{HasSentKept, SaysWhy}
use Rattle.device_serving.specs.ConnectionLines.{endings_lines}
use Rattle.device_jobs.specs.Kept.{HasServedKept}
use Rattle.output_forms.specs.declared.form.Form.TheVariants.{Lines}
use Rattle.uecp_encoder.specs.ServingWith.{Ended}
use Rattle.uecp_jobs.specs.ServerRun.{AreAcknowledged, AreAcknowledgedBefore, AreNotAcknowledged}
use Rattle.uecp_net.specs.declared.tcp.DialFault.{DialFault}
use Rattle.commands.specs.declared.encoder_options.EncoderOptions.{EncoderOptions}
use Rattle.commands.specs.declared.server_options.ServerOptions.{ServerOptions}
use Rattle.commands.specs.declared.job.Job.TheVariants.{ServerWith}
use Rattle.conformance_command.specs.Dialling.{SaysUnreached}
use Rattle.notices.specs.Told.{Told, Says}

-- ---- an encoder
-- Its connections were served, and each has its line.
abbrev pub HasServedLines : EncoderOptions → (held held' : Option (List ℕ)) → Type 0
HasServedLines o held held' =
    (endings : List Ended) × (length endings ≡ o.connections) × Appends held held' (endings_lines Lines 1 endings)

-- Why its run stopped was said, with what became of the file of its state, if it has one.
abbrev pub SaysWhyOf : EncoderOptions → (told told' : Told) → Type 0
SaysWhyOf o told told' = MatchOption o.state ⊥ (λ path. SaysWhy (string_bytes path) told told')

-- What is kept of it in the file of its state: what the last connection left.
abbrev pub ServesKeptAs : {E : Type 0} → (gives : (path : List ℕ) → EncoderState Store → E → Type 0)
    → (leaves : E → serving.Kept Store → Type 0) → (is_clean : E → Type 0) → EncoderOptions
    → (held held' : Option (List ℕ)) → Type 0
ServesKeptAs gives leaves is_clean o held held' = MatchOption o.state (Unit {0})
    (λ path. HasServedKept gives leaves is_clean (string_bytes path) o held held')

-- ---- a server
-- A line was refused, and its number and fault were said.
abbrev pub IsKeptRefused : (unread unread' : Option (List ℕ)) → (told told' : Told) → Type 0
IsKeptRefused unread unread' told told' =
    (fault : RunFault) × IsReadWith (Some fault) unread unread' × Says told told' (error_lines fault)

-- Its messages were acknowledged; or, with its state in a file, its input was read to its end, and no line is refused.
abbrev pub SendsDone : ServerOptions → (unread unread' held held' : Option (List ℕ)) → Type 0
SendsDone o unread unread' held held' = MatchOption o.state
    (AreAcknowledged (ServerWith o) unread unread' held held') (λ path. IsReadWith None unread unread')

-- A line of its input was refused.
abbrev pub SendsRefused : ServerOptions → (unread unread' held held' : Option (List ℕ)) → (told told' : Told) → Type 0
SendsRefused o unread unread' held held' told told' = MatchOption o.state
    (AreAcknowledgedBefore (ServerWith o) unread unread' held held' (Says told told'))
    (λ path. IsKeptRefused unread unread' told told')

-- It came to no end, and why was said.
abbrev pub SendsNotAll : ServerOptions → (unread unread' held held' : Option (List ℕ)) → (told told' : Told) → Type 0
SendsNotAll o unread unread' held held' told told' = MatchOption o.state
    (AreNotAcknowledged (ServerWith o) unread unread' held held' (Says told told'))
    (λ path. SaysWhy (string_bytes path) told told')

-- Where it is asked for, it is said why a connection could not be made, if one could not; else nothing is said.
abbrev pub SaysWhereUnreached : (verbose : Bool) → (host : List ℕ) (port : ℕ) → Option DialFault → (told told' : Told)
    → Type 0
SaysWhereUnreached true host port failed told told' = SaysUnreached host port failed told told'
SaysWhereUnreached false host port failed told told' = told' ≡ told

-- So it did, and then, where a connection could not be made and that is asked for, why that could not be was said.
abbrev pub SendsStopped : ServerOptions → (unread unread' held held' : Option (List ℕ)) → (told told' : Told) → Type 0
SendsStopped o unread unread' held held' told told' = (between : Told) × (failed : Option DialFault)
    × SendsNotAll o unread unread' held held' told between
    × SaysWhereUnreached o.verbose (string_bytes o.host) o.port failed between told'

-- What is kept of it in the file of its state: that the messages of its input were taken and that none waits.
abbrev pub SendsKeptAs : {S : Type 0} → (gives : (path : List ℕ) → ServerState → Progress → S → Type 0)
    → (leaves : S → sending.KeptServer → Type 0) → (is_clean : S → Type 0) → ServerOptions
    → (unread unread' : Option (List ℕ)) → Type 0
SendsKeptAs gives leaves is_clean o unread unread' = MatchOption o.state (Unit {0})
    (λ path. HasSentKept gives leaves is_clean (string_bytes path) o unread unread')

-- ---- a state file
-- What is in the file at the path was told, and no input was read.
abbrev pub HasTold : (finds : (path : List ℕ) → Found → Type 0) → (path : List ℕ)
    → (unread unread' held held' : Option (List ℕ)) → Type 0
HasTold finds path unread unread' held held' =
    ((found : Found) × finds path found × Appends held held' (found_lines found)) × (unread' ≡ unread)

-- It could not be told, and that was said: the state could not be read, and nothing was written;
-- or memory or writing failed, and a beginning of it was.
abbrev pub HasNotTold : (finds : (path : List ℕ) → Found → Type 0) → (path : List ℕ)
    → (unread unread' held held' : Option (List ℕ)) → (told told' : Told) → Type 0
HasNotTold finds path unread unread' held held' told told' =
    (((fault : StateFault) × (held' ≡ held) × Says told told' (fault_line path fault))
    ⊎ ((found : Found) × (fault : RunFault) × finds path found × Fails fault
    × Begins held held' (found_lines found) × Says told told' (error_lines fault))) × (unread' ≡ unread)
