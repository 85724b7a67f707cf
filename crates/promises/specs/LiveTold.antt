-- What a whole run told of the messages of its lines (profile).
use Rattle.std.specs.Prelude.{◌≡◌, ◌⊎◌, ℕ, zero, suc, ◌+◌, ◌-◌, Bool, true, false, List, [], ◌∷◌, ◌++◌}
use Rattle.std.specs.Prelude.{length, Option, Some, None}
use Rattle.std.specs.List.{list_all}
use Rattle.uecp_elements.specs.declared.code.Code.{Code}
use Rattle.uecp_link.specs.Server.{ServerState, waiting}
use Rattle.uecp_net.specs.declared.sender.Settled.{Settled}
use Rattle.uecp_net.specs.declared.saved.keep.Progress.{Progress}
use Rattle.kept_jobs.specs.ServerRun.{is_due}
use Rattle.output_forms.specs.declared.form.Form.{Form}
use Rattle.output_forms.specs.declared.form.Form.TheVariants.{Lines, Words, Json}
use Rattle.json_lines.specs.Stamps.{IsStamp}
use Rattle.line_batches.specs.declared.intake.Given.{Given}
use Rattle.line_batches.specs.Intake.{has_refused}
use Rattle.sending.specs.Objects as objects
use Rattle.sending.specs.declared.options.LiveOptions.{LiveOptions}
use Rattle.sending.specs.Lines as lines
use Rattle.sending.specs.Forms.{AreHeld, unknown_in, station_in, taken_in, given_up_in}
use Rattle.sending.specs.Run.{marks_in}

-- The line of this message, which has this number, and which was answered with this code. In JSON it tells the message
-- besides, and some time, some counter, and some number of tries and of milliseconds: which, is not said here.
abbrev pub IsReply : Form → (number : ℕ) → (message : List ℕ) → Code → (line : List ℕ) → Type 0
IsReply Lines number message code line = line ≡ lines.reply_line number code
IsReply (Words region) number message code line = line ≡ lines.reply_line number code
IsReply Json number message code line = (stamp : List ℕ) × (counter : ℕ) × (tries : ℕ) × (milliseconds : ℕ)
    × IsStamp stamp × (line ≡ objects.answer_line stamp tries milliseconds number (counter, message) code)

-- the line of a message of this number that is unknown
abbrev pub unknown_line_in : Form → (number : ℕ) → List ℕ
unknown_line_in Lines number = lines.unknown_line number
unknown_line_in (Words region) number = lines.unknown_line number
unknown_line_in Json number = objects.unknown_line number

-- What was told of this message, which has this number: that it was answered with this code; or that it is unknown.
abbrev pub IsAnswer : Form → (number : ℕ) → (message : List ℕ) → Option Code → (line : List ℕ) → Type 0
IsAnswer form number message (Some code) line = IsReply form number message code line
IsAnswer form number message None line = line ≡ unknown_line_in form number

-- So of these messages one after another, the first of which has this number: of each one line, and nothing else.
abbrev pub AreAnswers : Form → (first : ℕ) → (messages : List (List ℕ)) → (answers : List (Option Code))
    → (text : List ℕ) → Type 0
AreAnswers form first [] [] text = text ≡ []
AreAnswers form first [] (answer ∷ answers) text = ⊥
AreAnswers form first (message ∷ messages) [] text = ⊥
AreAnswers form first (message ∷ messages) (answer ∷ answers) text =
    (line : List ℕ) × (more : List ℕ) × IsAnswer form first message answer line
    × AreAnswers form (first + 1) messages answers more × (text ≡ line ++ more)

-- whether a message was told to be applied
abbrev pub was_applied : Option Code → Bool
was_applied (Some code) = lines.is_applied code
was_applied None = false

-- What a status says of a run that came to its end with these lines and answers: 1 that a line was refused; 0 that none
-- was, and each message was told to be applied; 4 that none was.
abbrev pub IsStatusOf : List (List ℕ × Given) → (answers : List (Option Code)) → (status : ℕ) → Type 0
IsStatusOf lines answers status =
    ((status ≡ 1) × (has_refused lines ≡ true))
    ⊎ ((has_refused lines ≡ false) × (((status ≡ 0) × (list_all was_applied answers ≡ true)) ⊎ (status ≡ 4)))

-- how many messages are given up by a server that begins anew, where it does
abbrev pub anew_lines : Form → (due : Bool) → ServerState → List ℕ
anew_lines form false s = []
anew_lines form true s = given_up_in form (length (waiting s))

module _ (options : LiveOptions) (before : Progress) (s : ServerState) where
  -- What was told before a first line was taken: of a server that goes on, of the messages that waited, where there
  -- were some; and of one that begins anew, of the encoder that was joined and of the station.
  abbrev pub IsToldFirst : (due : Bool) → (text : List ℕ) → Type 0
  IsToldFirst false text =
      (text ≡ []) ⊎ ((settled : Settled)
      × AreHeld options.form (before.taken + 1 - length (marks_in s)) (marks_in s) (waiting s) settled text)
  IsToldFirst true text = (told : List Code) × (text ≡ station_in options.form options.station.now told)

  -- What was told in between, of no message of the lines, where the encoder was taken for a new one: that the messages
  -- are unknown which waited at the start, where it was these that were outstanding; and then of the encoder that was
  -- joined and of the station.
  abbrev pub IsToldBetween : (text : List ℕ) → Type 0
  IsToldBetween text =
      (waited : List ℕ) × (told : List Code)
      × ((waited ≡ []) ⊎ (waited ≡ unknown_in options.form (before.taken + 1 - length (marks_in s)) (length (marks_in
      s))))
      × (text ≡ waited ++ station_in options.form options.station.now told)

  -- What was told by a run behind its first line: first that; and then of each of these messages one line, in order and
  -- under its number, with so many times in between what is told where the encoder is taken for a new one.
  abbrev pub TellsFor : (again : ℕ) → (messages : List (List ℕ)) → (answers : List (Option Code)) → (text : List ℕ)
      → Type 0
  TellsFor zero messages answers text =
      (begin : List ℕ) × (rest : List ℕ) × IsToldFirst (is_due options.join before) begin
      × AreAnswers options.form (before.taken + 1) messages answers rest × (text ≡ begin ++ rest)
  TellsFor (suc n) messages answers text =
      (first : List (List ℕ)) × (later : List (List ℕ)) × (earlier : List (Option Code)) × (more : List (Option Code))
      × (told : List ℕ) × (between : List ℕ) × (rest : List ℕ) × TellsFor n first earlier told
      × IsToldBetween between × (messages ≡ first ++ later) × (answers ≡ earlier ++ more)
      × AreAnswers options.form (before.taken + 1 + length earlier) later more rest
      × (text ≡ told ++ (between ++ rest))

  -- What was told by a whole run: how far the server had come, how many messages are given up, and then that.
  abbrev pub TellsAll : (again : ℕ) → (messages : List (List ℕ)) → (answers : List (Option Code)) → (text : List ℕ)
      → Type 0
  TellsAll again messages answers text =
      (told : List ℕ) × TellsFor again messages answers told
      × (text ≡ (taken_in options.form before.taken (length (waiting s))
      ++ anew_lines options.form (is_due options.join before) s) ++ told)
