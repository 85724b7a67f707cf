-- What the job `server` does, and how it ends (profile).
use Rattle.std.specs.Prelude.{◌≡◌, ◌⊎◌, ◌<◌, ◌*◌, ◌++◌, ℕ, Bool, true, List, codes, length, Option, Some, None, Result}
use Rattle.std.specs.Prelude.{Ok, Err}
use Rattle.std.specs.Io.KnownBytes.{Appends}
use Rattle.uecp_elements.specs.declared.code.Code.{Code}
use Rattle.uecp_link.specs.Server.{idle_at}
use Rattle.uecp_text.specs.declared.run_fault.RunFault.{RunFault}
use Rattle.uecp_text.specs.declared.run_fault.RunFault.TheVariants as run
use Rattle.uecp_text.specs.Faults.{error_lines}
use Rattle.uecp_text.specs.Input.{texts_of}
use Rattle.uecp_text.specs.Run.{IsInput, IsUnread}
use Rattle.uecp_text.specs.Written.{Begins}
use Rattle.uecp_net.specs.declared.sender.Limits.{Limits}
use Rattle.uecp_net.specs.Sending.{SenderState, SenderOver, HangsUp}
use Rattle.commands.specs.declared.job.Job.{Job}
use Rattle.commands.specs.declared.job.Job.TheVariants.{ServerWith}
use Rattle.commands.specs.declared.server_options.ServerOptions.{ServerOptions}
use Rattle.commands.specs.Jobs.{in_full}
use Rattle.uecp_jobs.specs.declared.server_setup.ServerSetup.{ServerSetup}
use Rattle.uecp_jobs.specs.Setups.{IsOneEncoder, address_of}
use Rattle.uecp_jobs.specs.Messages.{messages_first, refusal_in}
use Rattle.uecp_jobs.specs.Batches.{batch_size, SendsOut, AreBatches, lines_of_batches}
use Rattle.uecp_jobs.specs.JoiningFirst.{joined_line, JoinsFirst, StopsJoining}

-- What a server is made of, by the options of its command.
abbrev pub server_setup : ServerOptions → ServerSetup
server_setup o = record {
  site = o.site;
  encoder = o.encoder;
  limits = record {
    tries = o.tries;
    turns = o.turns;
    reconnects = o.reconnects;
    reconnect_silent = o.reconnect_silent;
  };
  window = o.window;
  join = o.join;
}

-- This is so of the job's server, if it is that of `server`.
abbrev pub OnServer : Job → (ServerSetup → Type 0) → Type 0
OnServer (ServerWith o) P = P (server_setup o)
OnServer job P = ⊥

-- The job is that of `server`.
abbrev pub IsServer : Job → Type 0
IsServer job = OnServer (in_full job) (λ s. Unit {0})

-- a server of this address at first, with so many tries and turns on each connection, and so many reconnects in all,
-- also over silence or not
abbrev pub sender_at_first : (address : ℕ) → Limits → SenderState
sender_at_first address limits = record {
  server = idle_at address;
  tries = limits.tries;
  turns = limits.turns;
  left = limits.reconnects;
  reconnect_silent = limits.reconnect_silent;
}

-- a sender that has no connection yet
abbrev pub unconnected : {C I O : Type 0} → C → (loan : ℕ) → SenderState → SenderOver C I O
unconnected c loan s = record { sender = s; connect = c; loan = loan; ends = None }

-- The sender hangs up, and this is left of where connections come from.
abbrev pub Finishes : {C I O : Type 0} → (closes : C → I → O → C → Type 0) → C → SenderOver C I O → Type 0
Finishes {C} {I} {O} closes c' s = (end : SenderOver C I O) × HangsUp closes s end × (c' ≡ end.connect)

-- A sender began as it was asked to, and sent these messages batch by batch; or it could not begin, and sent none.
abbrev pub RunsSender : {C I O : Type 0} → (opens : C → Option (I × O) → C → Type 0) → (closes : C → I → O → C → Type 0)
    → (remaining : I → Option (List ℕ)) → (contents : O → Option (List ℕ)) → (join : Bool) → (size : ℕ)
    → (s : SenderOver C I O) → (messages : List (List ℕ)) → (held held' : Option (List ℕ)) → Result (Unit {0}) RunFault
    → (s' : SenderOver C I O) → Type 0
RunsSender {C} {I} {O} opens closes remaining contents join size s messages held held' result s' =
    ((begun : SenderOver C I O) × (between : Option (List ℕ)) × (batches : ℕ)
    × JoinsFirst opens closes remaining contents join s held between (Ok tt) begun
    × SendsOut opens closes remaining contents size batches begun messages between held' result s')
    ⊎ ((fault : RunFault) × JoinsFirst opens closes remaining contents join s held held' (Err fault) s'
    × (result ≡ Err fault))

-- These messages were sent by one sender, new, to a server's encoder at this address, over connections that came from
-- there, and this is left of that: no connection was opened but to join the encoder, where that was asked for, and for
-- these batches, and nothing else was done on one.
abbrev pub SendsMessages : {C I O : Type 0} → (opens : C → Option (I × O) → C → Type 0)
    → (closes : C → I → O → C → Type 0) → (remaining : I → Option (List ℕ)) → (contents : O → Option (List ℕ))
    → (address : ℕ) → Limits → (join : Bool) → (size : ℕ) → (messages : List (List ℕ)) → C → C
    → (held held' : Option (List ℕ)) → Result (Unit {0}) RunFault → Type 0
SendsMessages {C} {I} {O} opens closes remaining contents address limits join size messages c c' held held' result =
    (loan : ℕ) × (s' : SenderOver C I O)
    × RunsSender opens closes remaining contents join size (unconnected c loan (sender_at_first address limits))
    messages held held' result s' × Finishes closes c' s'

-- A server is made for one encoder. The input was read to its end; the messages of its lines, or of those before the
-- first that is refused, were sent to that encoder, as far as the result says.
abbrev pub SendsAs : {C I O : Type 0} → (opens : C → Option (I × O) → C → Type 0)
    → (closes : C → I → O → C → Type 0) → (remaining : I → Option (List ℕ)) → (contents : O → Option (List ℕ))
    → ServerSetup → (input : List ℕ) → C → C → (unread unread' held held' : Option (List ℕ))
    → Result (Unit {0}) RunFault → Type 0
SendsAs opens closes remaining contents s input c c' unread unread' held held' result =
    IsOneEncoder s.site s.encoder × IsInput unread unread' input
    × SendsMessages opens closes remaining contents (address_of s.site s.encoder) s.limits s.join (batch_size s.window)
    (messages_first (texts_of input)) c c' held held' result

-- So by the job's options.
abbrev pub Sends : {C I O : Type 0} → (opens : C → Option (I × O) → C → Type 0) → (closes : C → I → O → C → Type 0)
    → (remaining : I → Option (List ℕ)) → (contents : O → Option (List ℕ)) → Job → (input : List ℕ) → C → C
    → (unread unread' held held' : Option (List ℕ)) → Result (Unit {0}) RunFault → Type 0
Sends opens closes remaining contents job input c c' unread unread' held held' result = OnServer (in_full job)
    (λ s. SendsAs opens closes remaining contents s input c c' unread unread' held held' result)

-- Nothing was sent or written: the input was not read to its end, or there was no memory for its messages.
abbrev pub SendsNone : (unread unread' held held' : Option (List ℕ)) → RunFault → Type 0
SendsNone unread unread' held held' fault = (IsUnread unread unread' fault
    ⊎ ((input : List ℕ) × IsInput unread unread' input × (fault ≡ run.OutOfMemory))) × (held' ≡ held)

-- The messages were sent up to this fault: that of the first line that is refused, before which all are acknowledged;
-- or that of a batch (private).
abbrev pub SendsUpToAs : {C I O : Type 0} → (opens : C → Option (I × O) → C → Type 0)
    → (closes : C → I → O → C → Type 0) → (remaining : I → Option (List ℕ)) → (contents : O → Option (List ℕ))
    → ServerSetup → C → C → (unread unread' held held' : Option (List ℕ)) → RunFault → Type 0
SendsUpToAs opens closes remaining contents s c c' unread unread' held held' fault =
    (input : List ℕ)
    × ((SendsAs opens closes remaining contents s input c c' unread unread' held held' (Ok tt)
    × (refusal_in (texts_of input) ≡ Some fault)) ⊎ SendsAs opens closes remaining contents s input c c' unread
    unread' held held' (Err fault))

-- So by the job's options (private).
abbrev pub SendsUpTo : {C I O : Type 0} → (opens : C → Option (I × O) → C → Type 0) → (closes : C → I → O → C → Type 0)
    → (remaining : I → Option (List ℕ)) → (contents : O → Option (List ℕ)) → Job → C → C
    → (unread unread' held held' : Option (List ℕ)) → RunFault → Type 0
SendsUpTo opens closes remaining contents job c c' unread unread' held held' fault =
    (input : List ℕ)
    × ((Sends opens closes remaining contents job input c c' unread unread' held held' (Ok tt)
    × (refusal_in (texts_of input) ≡ Some fault)) ⊎ Sends opens closes remaining contents job input c c' unread
    unread' held held' (Err fault))

-- ---- how it ends
-- All messages of the input were sent and acknowledged.
pub record HasSentAll {C I O : Type 0} (opens : C → Option (I × O) → C → Type 0) (closes : C → I → O → C → Type 0)
    (remaining : I → Option (List ℕ)) (contents : O → Option (List ℕ)) (job : Job) (c c' : C)
    (unread unread' held held' : Option (List ℕ)) : Type 0 where
  pub input : List ℕ
  -- its messages were sent, each once, and acknowledged, and the writer got the lines of that
  pub sends : Sends opens closes remaining contents job input c c' unread unread' held held' (Ok tt)
  -- no line of it is refused
  pub none_refused : refusal_in (texts_of input) ≡ None

-- The messages before the first line that is refused were sent and acknowledged.
pub record HasSentBefore {C I O : Type 0} (opens : C → Option (I × O) → C → Type 0) (closes : C → I → O → C → Type 0)
    (remaining : I → Option (List ℕ)) (contents : O → Option (List ℕ)) (job : Job) (c c' : C)
    (unread unread' held held' : Option (List ℕ)) (says : List ℕ → Type 0) : Type 0 where
  pub input : List ℕ
  -- those messages were sent, each once, and acknowledged, and the writer got the lines of that
  pub sends : Sends opens closes remaining contents job input c c' unread unread' held held' (Ok tt)
  -- what is wrong with the line behind them
  pub fault : RunFault
  pub refused : refusal_in (texts_of input) ≡ Some fault
  -- its number and fault were said
  pub said : says (error_lines fault)

-- Not all was sent, or not all could be told.
pub record HasNotSentAll {C I O : Type 0} (opens : C → Option (I × O) → C → Type 0) (closes : C → I → O → C → Type 0)
    (remaining : I → Option (List ℕ)) (contents : O → Option (List ℕ)) (job : Job) (c c' : C)
    (unread unread' held held' : Option (List ℕ)) (says : List ℕ → Type 0) : Type 0 where
  -- why
  pub fault : RunFault
  -- so nothing was sent, and no connection opened; or a batch is outstanding, or its lines could not be written whole,
  -- or the encoder could not be joined
  pub sends : (SendsNone unread unread' held held' fault × (c' ≡ c))
      ⊎ ((input : List ℕ) × Sends opens closes remaining contents job input c c' unread unread' held held' (Err fault))
  -- and the fault was said; where the tries are spent nothing is said
  pub said : says (error_lines fault)

-- ---- how it ends, where nothing is known of connections
-- All messages of the input were acknowledged, and the writer got the lines of that, one for each message, in order,
-- after the line of the encoder that was joined where that was asked for.
abbrev pub AreAcknowledged : Job → (unread unread' held held' : Option (List ℕ)) → Type 0
AreAcknowledged job unread unread' held held' = OnServer (in_full job) (λ s.
    IsOneEncoder s.site s.encoder
    × ((input : List ℕ) × (batches : List (List Code × ℕ)) × IsInput unread unread' input
    × (refusal_in (texts_of input) ≡ None)
    × AreBatches (batch_size s.window) s.limits.tries (length (texts_of input)) batches
    × Appends held held' (joined_line s.join ++ lines_of_batches batches)))

-- The messages before the first line that is refused were acknowledged, the writer got the lines of that and no other
-- line, and what is wrong with that line was said.
abbrev pub AreAcknowledgedBefore : Job → (unread unread' held held' : Option (List ℕ)) → (says : List ℕ → Type 0)
    → Type 0
AreAcknowledgedBefore job unread unread' held held' says = OnServer (in_full job) (λ s.
    IsOneEncoder s.site s.encoder
    × ((input : List ℕ) × (batches : List (List Code × ℕ)) × (fault : RunFault) × IsInput unread unread' input
    × (refusal_in (texts_of input) ≡ Some fault)
    × AreBatches (batch_size s.window) s.limits.tries (length (messages_first (texts_of input))) batches
    × Appends held held' (joined_line s.join ++ lines_of_batches batches) × says (error_lines fault)))

-- Some first of so many messages were acknowledged, in whole batches, and there are more.
abbrev pub AreFirstBatches : (size tries messages : ℕ) → List (List Code × ℕ) → Type 0
AreFirstBatches size tries messages batches = AreBatches size tries (size * length batches) batches
    × (size * length batches < messages)

-- A batch is outstanding: the writer got the lines of the batches before it, and the line `outstanding`.
abbrev pub IsOutstanding : (size tries messages : ℕ) → (held held' : Option (List ℕ)) → Type 0
IsOutstanding size tries messages held held' = (batches : List (List Code × ℕ))
    × AreFirstBatches size tries messages batches × Appends held held'
    (lines_of_batches batches ++ codes "outstanding\n")

-- Writing or memory failed: the writer got a beginning of the lines of all batches, or of some first ones and the line
-- `outstanding`.
abbrev pub IsBegun : (size tries messages : ℕ) → (held held' : Option (List ℕ)) → Type 0
IsBegun size tries messages held held' =
    (batches : List (List Code × ℕ))
    × ((AreBatches size tries messages batches × Begins held held' (lines_of_batches batches))
    ⊎ (AreFirstBatches size tries messages batches × Begins held held'
    (lines_of_batches batches ++ codes "outstanding\n")))

-- What the writer got of so many messages where sending them ended for this.
abbrev pub BreaksOff : (size tries messages : ℕ) → (held held' : Option (List ℕ)) → RunFault → Type 0
BreaksOff size tries messages held held' run.Outstanding = IsOutstanding size tries messages held held'
BreaksOff size tries messages held held' run.Connection = IsOutstanding size tries messages held held'
BreaksOff size tries messages held held' run.Writing = IsBegun size tries messages held held'
BreaksOff size tries messages held held' run.OutOfMemory = IsBegun size tries messages held held'
BreaksOff size tries messages held held' fault = ⊥

-- What the writer got of so many messages where a run that began so ended for this: the line of the encoder that was
-- joined, where that was asked for, and then what it got where sending them ended; or what it got where the encoder
-- could not be joined, and then no message was sent.
abbrev pub BreaksRun : (join : Bool) (size tries messages : ℕ) → (held held' : Option (List ℕ)) → RunFault → Type 0
BreaksRun join size tries messages held held' fault =
    ((between : Option (List ℕ)) × Appends held between (joined_line join)
    × BreaksOff size tries messages between held' fault) ⊎ ((join ≡ true) × StopsJoining held held' fault)

-- Not all was sent or told, and that was said.
abbrev pub AreNotAcknowledged : Job → (unread unread' held held' : Option (List ℕ)) → (says : List ℕ → Type 0) → Type 0
AreNotAcknowledged job unread unread' held held' says = OnServer (in_full job) (λ s.
    (fault : RunFault) × says (error_lines fault)
    × (SendsNone unread unread' held held' fault ⊎ ((input : List ℕ) × IsInput unread unread' input
    × BreaksRun s.join (batch_size s.window) s.limits.tries (length (messages_first (texts_of input))) held held'
    fault)))
