-- What a log is, and what is written of it; a reader has to believe it (profile).
use Rattle.std.specs.Prelude.{◌≡◌, ◌⊎◌, ℕ, Bool, true, false, List, [], Option, Some, None}
use Rattle.std.specs.Io.KnownBytes.{Appends}
use Rattle.uecp_encoder.specs.State.{raised}
use Rattle.uecp_text.specs.Written.{Begins}
use Rattle.json_lines.specs.Stamps.{IsStamp}
use Rattle.uecp_encoder.specs.declared.listener.Event.{Event}
use Rattle.output_forms.specs.declared.form.Form.{Form}
use Rattle.device_serving.specs.declared.log_lines.LogFault.{LogFault}
use Rattle.device_serving.specs.declared.log_lines.LogFault.TheVariants.{OutOfMemory, Writing}
use Rattle.device_serving.specs.EventLines.{event_lines}
use Rattle.device_serving.specs.ConnectionLines.{opened_lines}

-- A log: its form, whether it has a clock, whether it tells each event, how many connections were opened, the name of
-- the loan under which it has its writer, what that holds, as far as it tells, and why the log ended, if it did.
pub record Log : Type 0 where
  pub form : Form
  pub timed : Bool
  pub told : Bool
  pub number : ℕ
  pub loan : ℕ
  pub held : Option (List ℕ)
  pub fault : Option LogFault

-- A time is a stamp where there is a clock, and else empty.
abbrev pub IsTimeOf : (timed : Bool) → List ℕ → Type 0
IsTimeOf true stamp = IsStamp stamp
IsTimeOf false stamp = stamp ≡ []

-- What a writer got of lines that could not be written: nothing where memory was wanting, else a beginning.
abbrev pub Breaks : LogFault → (held held' : Option (List ℕ)) → List ℕ → Type 0
Breaks OutOfMemory held held' lines = held' ≡ held
Breaks Writing held held' lines = Begins held held' lines

-- Lines were to be written to a log that had not ended: they were, and nothing else changed; or the log ended at them.
abbrev pub WritesOrEnds : List ℕ → (l l' : Log) → Type 0
WritesOrEnds lines l l' =
    (Appends l.held l'.held lines × (l' ≡ record l { held = l'.held }))
    ⊎ ((fault : LogFault) × Breaks fault l.held l'.held lines
    × (l' ≡ record l { held = l'.held; fault = Some fault }))

-- Once a log has ended nothing more is written.
abbrev pub WritesOn : Option LogFault → List ℕ → (l l' : Log) → Type 0
WritesOn None lines l l' = WritesOrEnds lines l l'
WritesOn (Some fault) lines l l' = l' ≡ l

-- Lines were written to a log, unless it had ended, or ended at them.
abbrev pub WritesLog : List ℕ → (l l' : Log) → Type 0
WritesLog lines l l' = WritesOn l.fault lines l l'

-- The lines of some time were.
abbrev pub Logs : (lines_of : List ℕ → List ℕ) → (l l' : Log) → Type 0
Logs lines_of l l' = (stamp : List ℕ) × IsTimeOf l.timed stamp × WritesLog (lines_of stamp) l l'

-- They are written where each event is told, and else nothing is.
abbrev pub LogsWhere : (told : Bool) → (lines_of : List ℕ → List ℕ) → (l l' : Log) → Type 0
LogsWhere true lines_of l l' = Logs lines_of l l'
LogsWhere false lines_of l l' = l' ≡ l

-- A log is told of an event.
abbrev pub LogsEvent : Log → Event → (sent : Bool) → Log → Type 0
LogsEvent l event sent l' = LogsWhere l.told (λ stamp. event_lines l.form stamp event sent) l l'

-- One more connection was opened.
abbrev pub one_more : Log → Log
one_more l = record l { number = raised l.number }

-- A log is told that a connection was opened, which has the next number.
abbrev pub LogsOpening : (l l' : Log) → Type 0
LogsOpening l l' = LogsWhere l.told (λ stamp. opened_lines l.form stamp (raised l.number)) (one_more l) l'
