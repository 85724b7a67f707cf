-- A device on the air over TCP (profile).
use Rattle.std.specs.Prelude.{◌≡◌, ◌⊎◌, ◌≤◌, ◌&&◌, ℕ, Bool, true, false, List, codes, Option, Some, None, Result}
use Rattle.std.specs.Prelude.{is_some}
use Rattle.std.specs.Net.Socket.{socket_ip, socket_port}
use Rattle.rds_groups.specs.declared.group.Group.{Group}
use Rattle.rds_store.specs.Value.{Store}
use Rattle.uecp_encoder.specs.State.{EncoderState}
use Rattle.uecp_encoder.specs.Keeping.{Kept}
use Rattle.uecp_jobs.specs.Setups.{IsSetup}
use Rattle.kept_jobs.specs.Stops.{state_line}
use Rattle.state_files.specs.declared.fault.StateFault.{StateFault}
use Rattle.device_edges.specs.Screen.{Screen, Screening, Notice, OpensScreened, ClosesScreened}
use Rattle.device_jobs.specs.OverTcp.{IsPlaceOf, IsNoPlaceOf}
use Rattle.device_edges.specs.declared.address.AddressFault.{AddressFault}
use Rattle.device_serving.specs.Logging.{Log}
use Rattle.device_jobs.specs.Limits.{options_of, limit_of}
use Rattle.device_jobs.specs.Serving.{IsNoEncoder}
use Rattle.device_serving.specs.declared.air.moments.Moment.{Moment}
use Rattle.air_edges.specs.declared.form.AirForm.{AirForm}
use Rattle.air_edges.specs.declared.form.AirForm.TheVariants.{Lines, Bits}
use Rattle.air_edges.specs.declared.tcp.Addresses.{Addresses}
use Rattle.air_edges.specs.Places.{Listening, OpensOne}
use Rattle.air_edges.specs.Edge.{Edge, edge_at_first, Waits, ClosesEnds, SendsGroup}
use Rattle.commands.specs.declared.encoder_options.EncoderOptions.{EncoderOptions}
use Rattle.device_jobs.specs.AirServing.{HasBeenOnAir}
use Rattle.notices.specs.Told.{Told, Says}

-- The studio connects at the address and the port of the job; those who listen to the air, at the same address and the
-- port of the air.
pub record IsFoundAt (job : EncoderOptions) (places : Addresses) : Type 0 where
  pub studio : IsPlaceOf job places.studio
  pub same_address : socket_ip places.air ≡ socket_ip places.studio
  pub air_port : job.air ≡ Some (socket_port places.air)

-- Groups go out as bits where that is asked for, and else as lines.
abbrev pub form_of : (air_bits : Bool) → AirForm
form_of true = Bits
form_of false = Lines

-- The edge of the job: it listens at its places, sends groups in its form and gives a silent connection up at its
-- limit; nobody listens yet, no group went out, and this had been said before, of those who listen and of foreign
-- connections.
abbrev pub IsEdgeOf : {H : Type 0} → EncoderOptions → (told : Option (List ℕ)) → Notice
    → Edge (Screening Listening) H → Type 0
IsEdgeOf job told notice edge = (places : Addresses) × IsFoundAt job places
    × (edge ≡ edge_at_first (record { connect = record { places = places; is_open = false }; notice = notice })
    (form_of job.air_bits) (limit_of job.idle) told)

-- The log of the job, in which nothing stands yet: its form, with the time if that is asked for too, and whether it
-- tells each event.
pub record IsLogOf (job : EncoderOptions) (held : Option (List ℕ)) (log : Log) : Type 0 where
  pub form : log.form ≡ job.form
  pub timed : log.timed ≡ (job.log && job.time)
  pub told : log.told ≡ job.log
  pub number : log.number ≡ 0
  pub is_held : log.held ≡ held
  pub fault : log.fault ≡ None

-- The job could not be begun: it has no port of the air, or a bad line too, or its address is none, or its options
-- describe no encoder; or nobody can listen there, or memory was wanting. Nothing was waited for or sent.
abbrev pub HasNotAired : EncoderOptions → (said said' : Told) → (status : ℕ) → Type 0
HasNotAired job said said' status =
    ((job.air ≡ None) × (status ≡ 2) × Says said said' (state_line (codes "air-bits: without --air")))
    ⊎ ((is_some job.faults ≡ true) × (status ≡ 2) × Says said said' (state_line (codes "air: not with --faults")))
    ⊎ ((fault : AddressFault) × IsNoPlaceOf job fault
    × (2 ≤ status) × (status ≤ 3))
    ⊎ IsNoEncoder (options_of job) said said' status
    ⊎ (IsSetup (options_of job) × (2 ≤ status) × (status ≤ 3))

module _ {H I O K : Type 0} (waits : Edge (Screening Listening) H → Bool → Moment I O → Edge (Screening Listening) H
    → Type 0)
    (closes : Edge (Screening Listening) H → I → O → Edge (Screening Listening) H → Type 0)
    (sends : Edge (Screening Listening) H → Group → Edge (Screening Listening) H → Type 0)
    (remaining : I → Option (List ℕ))
    (contents : O → Option (List ℕ)) (gives : List ℕ → EncoderState Store → K → Type 0)
    (refuses : List ℕ → StateFault → Type 0) (ends : K → Result (Unit {0}) StateFault → Type 0) (most room : ℕ)
    (leaves : K → Kept Store → Type 0) (is_clean : K → Type 0) (saves fails : K → Kept Store → K → Type 0) where
  -- A device was on the air, as `run_on_air_from` says, over the job's edge and from its log; or it could not be begun.
  abbrev pub HasAired : EncoderOptions → (told : Option (List ℕ)) → Notice → (held : Option (List ℕ))
      → (said said' : Told)
      → (status : ℕ) → Type 0
  HasAired job told notice held said said' status =
      ((edge : Edge (Screening Listening) H) × (edge' : Edge (Screening Listening) H) × (log : Log) × (log' : Log)
      × IsEdgeOf job told notice edge
      × IsLogOf job held log
      × HasBeenOnAir waits closes sends remaining contents gives refuses ends most room leaves is_clean saves fails job
      edge edge' log log' said said' status)
      ⊎ HasNotAired job said said' status

-- ---- Over the sockets of the machine, of which nothing more is known.

-- They stay, and nothing is said of foreign connections.
abbrev pub Stays : (s s' : Screening Listening) → Type 0
Stays s s' = (s'.connect ≡ s.connect) × (s'.notice ≡ s.notice)

abbrev pub WaitsTcp : {H J O : Type 0} → Edge (Screening Listening) H → Bool → Moment (Screen J) O
    → Edge (Screening Listening) H → Type 0
WaitsTcp {H} {J} {O} e is_open moment e' =
    Waits {S = Screening Listening} {H = H} {I = Screen J} {O = O} (λ s now s'. Stays s s')
    (λ s is_open limit came s'. Stays s s') (λ s ends s'. OpensScreened OpensOne s ends s')
    (λ s hearer s'. Stays s s') e is_open moment e'

abbrev pub ClosesTcp : {H J O : Type 0} → Edge (Screening Listening) H → Screen J → O → Edge (Screening Listening) H
    → Type 0
ClosesTcp {H} {J} {O} e input output e' =
    ClosesEnds {S = Screening Listening} {H = H} {I = Screen J} {O = O} (λ s input output s'. ClosesScreened
    (λ l _ _ l'. l' ≡ record l { is_open = false }) s input output s') e input output e'

abbrev pub SendsTcp : {H : Type 0} → (contents : H → Option (List ℕ)) → Edge (Screening Listening) H → Group
    → Edge (Screening Listening) H → Type 0
SendsTcp contents e group e' = SendsGroup (λ _ _ _ _. Unit {0}) contents e group e'

module _ {J O K : Type 0} (screened : Screen J → Option (List ℕ)) (contents : O → Option (List ℕ))
    (gives : List ℕ → EncoderState Store → K → Type 0) (refuses : List ℕ → StateFault → Type 0)
    (ends : K → Result (Unit {0}) StateFault → Type 0) (most room : ℕ) (leaves : K → Kept Store → Type 0)
    (is_clean : K → Type 0) (saves fails : K → Kept Store → K → Type 0) where
  -- A device was on the air so over them, or could not be begun.
  abbrev pub HasAiredTcp : EncoderOptions → (told : Option (List ℕ)) → Notice → (held : Option (List ℕ))
      → (said said' : Told)
      → (status : ℕ) → Type 0
  HasAiredTcp =
      HasAired {H = O} {I = Screen J} {O = O} (λ e is_open moment e'. WaitsTcp e is_open moment e')
      (λ e input output e'. ClosesTcp e input output e') (λ e group e'. SendsTcp contents e group e') screened contents
      gives refuses ends most room leaves is_clean saves fails
