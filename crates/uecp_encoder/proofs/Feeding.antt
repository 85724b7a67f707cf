-- What a piece does to an encoder, by what its deframer found in it.
use Rattle.std.proofs.Common.{◌≡◌, ℕ, List, [], ◌∷◌, take, Option, Some, None, IfNone, IfSome, Ok, Err, refl, ◌∙◌, ap}
use Rattle.std.proofs.Common.{sym}
use Rattle.uecp_frame.specs.declared.fed.Found.{Found}
use Rattle.uecp_frame.specs.declared.fed.Found.TheVariants.{Nothing, Frame, Refused}
use Rattle.uecp_frame.specs.declared.fed.Fed.{Fed}
use Rattle.uecp_frame.specs.Findings.{OpenPart}
use Rattle.uecp_frame.specs.Beyond.{found_beyond}
use Rattle.uecp_frame.specs.Feeding.{Feeds, findings_of}
use Rattle.uecp_encoder.specs.declared.answer.What.{What}
use Rattle.uecp_encoder.specs.declared.answer.What.TheVariants as what
use Rattle.uecp_encoder.specs.declared.outcome.Outcome.{Outcome}
use Rattle.uecp_encoder.specs.declared.outcome.Outcome.TheVariants as outcome
use Rattle.uecp_encoder.specs.Target.{Step}
use Rattle.uecp_encoder.specs.State.{EncoderState, after_findings, fed}
use Rattle.uecp_encoder.specs.Answering.{Response, responses, responses_of}
use Rattle.uecp_encoder.specs.Outcomes.{said_of, ComesTo}
use Rattle.uecp_encoder.specs.declared.listener.Event.{Event}
use Rattle.uecp_encoder.specs.Batches.{TellsOf, IsEventOf}

one_said : (r r' : Response) → r ∷ [] ≡ r' ∷ [] → r ≡ r'
one_said r r' is = cc

pub fed_is : {V : Type 0} (step : Step V) (e : EncoderState V) (piece : List ℕ) (f : Fed) (left : OpenPart)
    → Feeds e.part piece f left →
    fed step e (take f.used piece) ≡ after_findings step (record e { part = left }) (findings_of f.found)
fed_is step e piece f left feeds =
    ap (λ o. after_findings step (record e { part = o }) (found_beyond e.part (take f.used piece))) feeds.left
    ∙ ap (after_findings step (record e { part = left })) feeds.answer

-- an outcome that is nothing comes of nothing
pub found_nothing : (here : Found) (o : Outcome) → ComesTo here o → o ≡ outcome.Nothing → here ≡ Nothing
found_nothing here outcome.Nothing comes is = comes
found_nothing here (outcome.Dropped fault) comes is = absurd (cc)
found_nothing here outcome.NotForMe comes is = absurd (cc)
found_nothing here outcome.Unnumbered comes is = absurd (cc)
found_nothing here outcome.NotNext comes is = absurd (cc)
found_nothing here (outcome.Reply code counter fresh) comes is = absurd (cc)

-- what says nothing is nothing
pub is_nothing : (address : ℕ) (o : Outcome) (w : What) → responses_of w ≡ said_of address o → w ≡ what.Nothing
    → o ≡ outcome.Nothing
is_nothing address outcome.Nothing w says is = refl
is_nothing address (outcome.Dropped fault) w says is = absurd (let q = sym (ap responses_of is) ∙ says in cc)
is_nothing address outcome.NotForMe w says is = absurd (let q = sym (ap responses_of is) ∙ says in cc)
is_nothing address outcome.Unnumbered w says is = absurd (let q = sym (ap responses_of is) ∙ says in cc)
is_nothing address outcome.NotNext w says is = absurd (let q = sym (ap responses_of is) ∙ says in cc)
is_nothing address (outcome.Reply code counter fresh) w says is = absurd (let q = sym (ap responses_of is) ∙ says in cc)

-- what is found and answered is what is told
pub tells_of : {V : Type 0} (step : Step V) (e : EncoderState V) (here : Found) (o : Outcome) (event : Option Event)
    → said_of e.address o ≡ responses step e (findings_of here) → IfNone event (findings_of here ≡ [])
    → IfSome event (λ told. IsEventOf e.address here o told) → TellsOf step e (findings_of here) event
tells_of step e Nothing o None says none some = tt
tells_of step e Nothing o (Some told) says none some = absurd (let q = sym says ∙ some.answer in cc)
tells_of step e (Frame f) o None says none some = absurd (cc)
tells_of step e (Frame f) o (Some told) says none some = (
  record {
    found = some.found;
    answer = one_said _ _ (sym says ∙ some.answer);
    code = some.code (Ok f) refl;
  },
  refl,
)
tells_of step e (Refused fault) o None says none some = absurd (cc)
tells_of step e (Refused fault) o (Some told) says none some = (
  record {
    found = some.found;
    answer = one_said _ _ (sym says ∙ some.answer);
    code = some.code (Err fault) refl;
  },
  refl,
)
