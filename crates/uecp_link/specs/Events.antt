-- Events, answers and refusals of a line as those of the once-machine; a reader has to believe it. Source: profile.
use Rattle.std.specs.Prelude.{◌≡◌, Some, None}
use Rattle.uecp_link.specs.declared.event.Side.{Side}
use Rattle.uecp_link.specs.declared.event.LineEvent.{LineEvent}
use Rattle.uecp_link.specs.declared.stepped.Stepped.{Stepped}
use Rattle.uecp_link.specs.declared.refusal.LineRefusal.{LineRefusal}
use Rattle.uecp_link.specs.declared.event.Side.TheVariants as side
use Rattle.uecp_link.specs.declared.event.LineEvent.TheVariants as event
use Rattle.uecp_link.specs.declared.stepped.Stepped.TheVariants as stepped
use Rattle.uecp_link.specs.declared.refusal.LineRefusal.TheVariants as line
use Rattle.uecp_link.specs.Once.{Event, Submit, FrameComes, ReplyComes, NoiseToEncoder, NoiseToServer, EncoderLost}
use Rattle.uecp_link.specs.Once.{ServerLost, EncoderRestart, ServerRestart, Take, Answer, Numbered, Delivered, NotNext}
use Rattle.uecp_link.specs.Once.{Acknowledged, Stray, Noise, Lost, Restarted, Took, Busy, NotSent, TooLate}
use Rattle.uecp_link.specs.Once.{HoldsAFrame, Once, refusal_of}

-- The loss of the line at one end.
abbrev pub lost_of : Side → Event
lost_of side.Encoder = EncoderLost
lost_of side.Server = ServerLost

-- An event without its cuts: where the pieces are cut makes no difference.
abbrev pub event_of : LineEvent → Event
event_of (event.Submit m) = Submit m.now
event_of (event.Frame k cut) = FrameComes k
event_of (event.Reply k cut) = ReplyComes k
event_of (event.NoiseToEncoder x) = NoiseToEncoder x.now
event_of (event.NoiseToServer x) = NoiseToServer x.now
event_of (event.LineLost s) = lost_of s
event_of event.EncoderRestart = EncoderRestart
event_of event.ServerRestart = ServerRestart
event_of event.Take = Take

-- What a line answers, as the once-machine says it.
abbrev pub answer_seen : Stepped → Answer
answer_seen (stepped.Numbered n) = Numbered n
answer_seen (stepped.Delivered fresh code) = Delivered fresh code
answer_seen stepped.NotNext = NotNext
answer_seen (stepped.Acknowledged code) = Acknowledged code
answer_seen stepped.Stray = Stray
answer_seen (stepped.Noise dropped) = Noise dropped
answer_seen stepped.Lost = Lost
answer_seen stepped.Restarted = Restarted
answer_seen (stepped.Taken group) = Took group

-- The event is a submission.
abbrev pub IsSubmit : Event → Type 0
IsSubmit (Submit m) = Unit {0}
IsSubmit _ = ⊥

-- The once-machine refuses the event for this reason; or for want of memory the event is a submission that it does not
-- refuse.
abbrev pub Refuses : {V : Type 0} → Once V → Event → LineRefusal → Type 0
Refuses o e line.Busy = refusal_of o e ≡ Some Busy
Refuses o e line.NotSent = refusal_of o e ≡ Some NotSent
Refuses o e line.TooLate = refusal_of o e ≡ Some TooLate
Refuses o e line.HoldsAFrame = refusal_of o e ≡ Some HoldsAFrame
Refuses o e line.OutOfMemory = (refusal_of o e ≡ None) × IsSubmit e
