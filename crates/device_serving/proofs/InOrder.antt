-- What a log holds is what was told, in order.
use Rattle.std.proofs.Common.{◌≡◌, ℕ, Bool, true, false, List, [], ◌∷◌, ◌++◌, Option, Some, None, refl, ◌∙◌, ap, sym}
use Rattle.std.proofs.Common.{subst, inl, inr}
use Rattle.std.specs.Io.KnownBytes.{Appends}
use Rattle.std.proofs.KnownBytes.{Appends-nil, Appends-trans}
use Rattle.uecp_frame.specs.Findings.{Finding}
use Rattle.uecp_encoder.specs.Target.{Step}
use Rattle.uecp_encoder.specs.State.{EncoderState, after_finding}
use Rattle.uecp_encoder.specs.Telling.{HearsEach}
use Rattle.device_serving.specs.declared.log_lines.LogFault.{LogFault}
use Rattle.device_serving.specs.EventLines.{event_lines}
use Rattle.device_serving.specs.Logging.{Log, WritesOn, LogsWhere, LogsEvent}
use Rattle.device_serving.specs.Laws.{AreEventLines, TellsInOrder}

-- once a log has ended it stays so
ended_on : (lines : List ℕ) (l l' : Log) (fault : LogFault) → l.fault ≡ Some fault → WritesOn l.fault lines l l'
    → l'.fault ≡ Some fault
ended_on lines l l' fault is writes =
    let same : l' ≡ l = subst (λ f. WritesOn f lines l l') is writes in
    ap (λ (k : Log). k.fault) same ∙ is

ended_where : (told : Bool) (lines_of : List ℕ → List ℕ) (l l' : Log) (fault : LogFault) → l.fault ≡ Some fault
    → LogsWhere told lines_of l l' → l'.fault ≡ Some fault
ended_where true lines_of l l' fault is (stamp, is_time, writes) = ended_on (lines_of stamp) l l' fault is writes
ended_where false lines_of l l' fault is same = ap (λ (k : Log). k.fault) same ∙ is

stays_ended : {V : Type 0} (step : Step V) (e : EncoderState V) (xs : List Finding) (l l' : Log) (fault : LogFault)
    → l.fault ≡ Some fault → HearsEach LogsEvent step e xs l l' → l'.fault ≡ Some fault
stays_ended step e [] l l' fault is same = ap (λ (k : Log). k.fault) same ∙ is
stays_ended step e (x ∷ xs) l l' fault is (between, (event, tells, heard), rest) =
    stays_ended step (after_finding step e x) xs between l' fault
    (ended_where l.told (λ stamp. event_lines l.form stamp event true) l between fault is heard) rest

-- what one event wrote where the log goes on
pub record Wrote (lines : List ℕ) (l l' : Log) : Type 0 where
  pub held : Appends l.held l'.held lines
  pub same : l' ≡ record l { held = l'.held }

pub wrote_on : (old : Option LogFault) (lines : List ℕ) (l l' : Log) → l.fault ≡ old
    → ((fault : LogFault) → l'.fault ≡ Some fault → ⊥) → WritesOn old lines l l' → Wrote lines l l'
wrote_on None lines l l' is goes_on (inl (held, same)) = record { held = held; same = same }
wrote_on None lines l l' is goes_on (inr (fault, broken, same)) =
    absurd (goes_on fault (ap (λ (k : Log). k.fault) same))
wrote_on (Some fault) lines l l' is goes_on same = absurd (goes_on fault (ap (λ (k : Log). k.fault) same ∙ is))

pub tells_in_order_lem : {V : Type 0} (step : Step V) → TellsInOrder step
tells_in_order_lem step e [] l l' told on same =
    ([], refl, subst (λ (k : Log). Appends l.held k.held []) (sym same) (Appends-nil l.held))
tells_in_order_lem step e (x ∷ xs) l l' told on (between, (event, tells, heard), rest) =
    let (stamp, is_time, writes) = subst (λ t. LogsWhere t (λ stamp. event_lines l.form stamp event true) l between)
    told
    heard in
    let goes_on : (fault : LogFault) → between.fault ≡ Some fault → ⊥ =
    λ fault is. absurd (let no : None ≡ Some fault =
    sym on ∙ stays_ended step (after_finding step e x) xs between l' fault is rest in cc) in
    let now = event_lines l.form stamp event true in
    let wrote = wrote_on l.fault now l between refl goes_on writes in
    let (later, lines, held) = tells_in_order_lem step (after_finding step e x) xs between l'
    (ap (λ (k : Log). k.told) wrote.same ∙ told) on rest in (
      now ++ later,
      (
        event,
        stamp,
        later,
        tells,
        is_time,
        refl,
        subst (λ (k : Log). AreEventLines step k.form k.timed (after_finding step e x) xs later) wrote.same lines,
      ),
      Appends-trans _ _ _ _ _ wrote.held held,
    )
