-- What a log holds is what was told, in order; a law (profile).
use Rattle.std.specs.Prelude.{◌≡◌, ℕ, Bool, true, List, [], ◌∷◌, ◌++◌, None}
use Rattle.std.specs.Io.KnownBytes.{Appends}
use Rattle.uecp_frame.specs.Findings.{Finding}
use Rattle.uecp_encoder.specs.Target.{Step}
use Rattle.uecp_encoder.specs.State.{EncoderState, after_finding}
use Rattle.uecp_encoder.specs.declared.listener.Event.{Event}
use Rattle.uecp_encoder.specs.Telling.{Tells, HearsEach}
use Rattle.output_forms.specs.declared.form.Form.{Form}
use Rattle.device_serving.specs.EventLines.{event_lines}
use Rattle.device_serving.specs.Logging.{Log, IsTimeOf, LogsEvent}

-- These are the lines of findings one after another, each from the state that the one before left: of each the lines of
-- one event that tells of it, behind some time.
abbrev pub AreEventLines : {V : Type 0} → Step V → Form → (timed : Bool) → EncoderState V → List Finding → List ℕ
    → Type 0
AreEventLines step form timed e [] lines = lines ≡ []
AreEventLines step form timed e (x ∷ xs) lines =
    (event : Event) × (stamp : List ℕ) × (later : List ℕ) × Tells step e x event × IsTimeOf timed stamp
    × (lines ≡ event_lines form stamp event true ++ later)
    × AreEventLines step form timed (after_finding step e x) xs later

-- Law: a log that was told of findings, tells each event, and has not ended, got the lines of each, once and in order,
-- and nothing between two.
abbrev pub TellsInOrder : {V : Type 0} → Step V → Type 0
TellsInOrder {V} step =
    (e : EncoderState V) (xs : List Finding) (l l' : Log) → l.told ≡ true → l'.fault ≡ None
    → HearsEach LogsEvent step e xs l l' →
    (lines : List ℕ) × AreEventLines step l.form l.timed e xs lines × Appends l.held l'.held lines
