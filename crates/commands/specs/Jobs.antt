-- A job with all options of its command (profile).
use Rattle.std.specs.Prelude.{ℕ, ◌==◌, Bool, false, true, not, ◌||◌, is_some, Option, Some, None}
use Rattle.rds_text.specs.declared.programme_type.Region.{Region}
use Rattle.output_forms.specs.declared.form.Form.{Form}
use Rattle.output_forms.specs.declared.form.Form.TheVariants.{Lines, Words, Json}
use Rattle.commands.specs.declared.answer_options.AnswerOptions.{AnswerOptions}
use Rattle.commands.specs.declared.encoder_options.EncoderOptions.{EncoderOptions}
use Rattle.commands.specs.declared.line_options.LadderForm.{LadderForm}
use Rattle.commands.specs.declared.line_options.LineOptions.{LineOptions}
use Rattle.commands.specs.declared.script_options.MakeOptions.{MakeOptions}
use Rattle.commands.specs.declared.script_options.ShowOptions.{ShowOptions}
use Rattle.commands.specs.declared.server_options.ServerOptions.{ServerOptions}
use Rattle.commands.specs.declared.job.Job.{Job}
use Rattle.commands.specs.declared.job.Job.TheVariants.{Answer, AnswerWith, Show, ShowWith, Make, MakeWith, Line}
use Rattle.commands.specs.declared.job.Job.TheVariants.{LineWith, Encoder, EncoderWith, Server, ServerWith}

-- The job with each later option of its command as where it is not given. What is said of a job that has them all is
-- said of each.
abbrev pub in_full : Job → Job
in_full (Answer site encoder sets services store) = AnswerWith (record {
  site = site;
  encoder = encoder;
  sets = sets;
  services = services;
  store = store;
  form = Lines;
  air = None;
})
in_full Show = ShowWith (record { form = Lines })
in_full Make = MakeWith (record { words = None })
in_full (Line site encoder sets services store) = LineWith (record {
  site = site;
  encoder = encoder;
  sets = sets;
  services = services;
  store = store;
  form = Lines;
  ladder = None;
})
in_full (Encoder site encoder sets services port connections turns) = EncoderWith (record {
  site = site;
  encoder = encoder;
  sets = sets;
  services = services;
  listen = None;
  port = Some port;
  air = None;
  air_bits = false;
  connections = connections;
  turns = turns;
  forever = false;
  idle = 0;
  yield_after = None;
  allow = None;
  log = false;
  log_wait = None;
  form = Lines;
  time = true;
  store = false;
  faults = None;
  seed = 0;
  state = None;
})
in_full (Server site encoder host port tries timeout turns reconnects window) = ServerWith (record {
  site = site;
  encoder = encoder;
  host = host;
  port = port;
  tries = tries;
  timeout = timeout;
  turns = turns;
  reconnects = reconnects;
  window = window;
  join = false;
  reconnect_silent = false;
  verbose = false;
  state = None;
})
in_full job = job

-- ---- in few words
-- Whether the form is lines.
abbrev pub is_lines : Form → Bool
is_lines Lines = true
is_lines (Words region) = false
is_lines Json = false

-- An encoder is asked for something that only a device does.
abbrev pub is_device : EncoderOptions → Bool
is_device o = (is_some o.listen || (is_some o.faults || is_some o.air))
    || ((o.air_bits || (o.forever || (o.log || o.store)))
    || (not (o.idle == 0) || (not (o.seed == 0) || (not o.time
    || ((is_some o.yield_after || (is_some o.allow || is_some o.log_wait)) || not (is_lines o.form))))))

-- `answer` with the options that it had first, where no later one is given.
abbrev pub short_answer : Form → (air : Option ℕ) → AnswerOptions → Job
short_answer Lines None o = Answer o.site o.encoder o.sets o.services o.store
short_answer form air o = AnswerWith o

-- So `show`.
abbrev pub short_show : Form → ShowOptions → Job
short_show Lines o = Show
short_show form o = ShowWith o

-- So `make`.
abbrev pub short_make : (words : Option Region) → MakeOptions → Job
short_make None o = Make
short_make words o = MakeWith o

-- So `line`.
abbrev pub short_line : Form → (ladder : Option LadderForm) → LineOptions → Job
short_line Lines None o = Line o.site o.encoder o.sets o.services o.store
short_line form ladder o = LineWith o

-- So `encoder`, which then has a port.
abbrev pub short_encoder : (later : Bool) → (port : Option ℕ) → EncoderOptions → Job
short_encoder false (Some port) o = Encoder o.site o.encoder o.sets o.services port o.connections o.turns
short_encoder later port o = EncoderWith o

-- So `server`.
abbrev pub short_server : (later : Bool) → ServerOptions → Job
short_server false o =
    Server o.site o.encoder o.host o.port o.tries o.timeout o.turns o.reconnects o.window
short_server true o = ServerWith o

-- The job with the options that its command had first, where no later one is given.
abbrev pub in_short : Job → Job
in_short (AnswerWith o) = short_answer o.form o.air o
in_short (ShowWith o) = short_show o.form o
in_short (MakeWith o) = short_make o.words o
in_short (LineWith o) = short_line o.form o.ladder o
in_short (EncoderWith o) = short_encoder (is_device o || is_some o.state) o.port o
in_short (ServerWith o) = short_server (o.join || (o.reconnect_silent || (o.verbose || is_some o.state))) o
in_short job = job
