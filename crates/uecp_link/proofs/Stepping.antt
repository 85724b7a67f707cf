-- What `step` promises, from what its calls do.
use Rattle.std.proofs.Common.{◌≡◌, Result, Ok, Err, refl, ap, sym, subst, ◌∙◌, IfOk}
use Rattle.std.specs.Prelude.{IfErr}
use Rattle.uecp_encoder.specs.Target.{Step, Taken}
use Rattle.uecp_link.specs.declared.event.LineEvent.{LineEvent}
use Rattle.uecp_link.specs.declared.stepped.Stepped.{Stepped}
use Rattle.uecp_link.specs.declared.refusal.LineRefusal.{LineRefusal}
use Rattle.uecp_link.specs.Once.{Event, Submit, FrameComes, ReplyComes, NoiseToEncoder, NoiseToServer, EncoderLost}
use Rattle.uecp_link.specs.Once.{ServerLost, EncoderRestart, ServerRestart, Take, Once}
use Rattle.uecp_link.specs.Law.{Fits}
use Rattle.uecp_link.specs.Events.{event_of, lost_of, Refuses}
use Rattle.uecp_link.specs.declared.event.Side.{Side}
use Rattle.uecp_link.specs.declared.event.Side.TheVariants as at
use Rattle.uecp_link.specs.Holds.{LineState, Holds, StepsAs}
use Rattle.uecp_link.specs.Next.{line_next, Goes, Stops}
use Rattle.uecp_link.proofs.Promises.{goes_promise, stops_promise}
use Rattle.uecp_link.proofs.Delivering.{fed_address, frame_address}

module _ {V : Type 0} (step : Step V) (taken : Taken V) (old new : LineState V) (seen : LineEvent) (event : Event)
    (is : event_of seen ≡ event) (fit : Fits event) where
  pub steps_from : (result : Result Stepped LineRefusal) → IfOk result (λ answer. Goes step taken old event answer new)
      → IfOk result (λ answer. (o : Once V) → Holds old o → StepsAs step taken old o (event_of seen) answer new)
  steps_from (Ok answer) goes = λ o h. subst (λ (e : Event). StepsAs step taken old o e answer new) (sym is)
      (goes_promise step taken old new event answer fit goes o h)
  steps_from (Err refusal) goes = tt

  pub steps_one : (answer : Stepped) → Goes step taken old event answer new → (o : Once V) → Holds old o
      → StepsAs step taken old o (event_of seen) answer new
  steps_one answer goes o h = subst (λ (e : Event). StepsAs step taken old o e answer new) (sym is)
      (goes_promise step taken old new event answer fit goes o h)

  pub refused_from : (result : Result Stepped LineRefusal) → IfErr result (λ refusal. Stops old event refusal new)
      → IfErr result (λ refusal. (o : Once V) → Holds old o → Refuses o (event_of seen) refusal)
  refused_from (Ok answer) stops = tt
  refused_from (Err refusal) stops = λ o h. subst (λ (e : Event). Refuses o e refusal) (sym is)
      (stops_promise old event refusal stops.refuses o h)

next_address : {V : Type 0} (step : Step V) (taken : Taken V) (line : LineState V) (event : Event)
    → (line_next step taken line event).encoder.address ≡ line.encoder.address
next_address step taken line (Submit m) = refl
next_address step taken line (FrameComes k) = frame_address step taken line k
next_address step taken line (ReplyComes k) = refl
next_address step taken line (NoiseToEncoder x) = fed_address step line.encoder x
next_address step taken line (NoiseToServer x) = refl
next_address step taken line EncoderLost = refl
next_address step taken line ServerLost = refl
next_address step taken line EncoderRestart = refl
next_address step taken line ServerRestart = refl
next_address step taken line Take = refl

-- no event changes the encoder's address
pub address_from : {V : Type 0} (step : Step V) (taken : Taken V) (old new : LineState V) (event : Event)
    (result : Result Stepped LineRefusal) → IfOk result (λ answer. Goes step taken old event answer new)
    → IfErr result (λ refusal. Stops old event refusal new)
    → new.encoder.address ≡ old.encoder.address
address_from step taken old new event (Ok answer) goes stops =
    ap (λ (l : LineState _). l.encoder.address) goes.next ∙ next_address step taken old event
address_from step taken old new event (Err refusal) goes stops =
    ap (λ (l : LineState _). l.encoder.address) stops.unchanged

pub loss_fits : (side : Side) → Fits (lost_of side)
loss_fits at.Encoder = tt
loss_fits at.Server = tt
