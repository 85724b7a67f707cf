-- A piece that is fed in parts.
use Rattle.std.proofs.Common.{◌≡◌, ℕ, List, [], ◌++◌, take, drop, ◌∙◌, ap, sym, take-append-drop}
use Rattle.uecp_frame.specs.declared.fed.Fed.{Fed}
use Rattle.uecp_frame.specs.Findings.{OpenPart}
use Rattle.uecp_frame.specs.Beyond.{found_beyond, open_beyond}
use Rattle.uecp_frame.specs.Feeding.{Feeds, findings_of}
use Rattle.uecp_frame.proofs.Public.{in_pieces_lem, new_start_lem}
use Rattle.rds_store.specs.Value.{Store}
use Rattle.rds_store.specs.Step.{step}
use Rattle.uecp_encoder.specs.State.{EncoderState, after_findings, fed}
use Rattle.uecp_encoder.specs.Answering.{responses, responses_to}
use Rattle.uecp_encoder.proofs.Public.{in_pieces_of_encoder}

pub found_on : (o o' : OpenPart) (f : Fed) (rest rest' : List ℕ) → Feeds o rest f o' → rest' ≡ drop f.used rest
    → found_beyond o rest ≡ findings_of f.found ++ found_beyond o' rest'
found_on o o' f rest rest' feeds rest_is =
    ap (found_beyond o) (sym (take-append-drop f.used rest))
    ∙ (in_pieces_lem o (take f.used rest) (drop f.used rest)).found
    ∙ ap (λ fs. fs ++ found_beyond (open_beyond o (take f.used rest)) (drop f.used rest)) feeds.answer
    ∙ ap (λ p. findings_of f.found ++ found_beyond p (drop f.used rest)) feeds.left
    ∙ ap (λ r. findings_of f.found ++ found_beyond o' r) (sym rest_is)

pub open_on : (o o' : OpenPart) (f : Fed) (rest rest' : List ℕ) → Feeds o rest f o' → rest' ≡ drop f.used rest
    → open_beyond o' rest' ≡ open_beyond o rest
open_on o o' f rest rest' feeds rest_is =
    ap (open_beyond o') rest_is ∙ ap (λ p. open_beyond p (drop f.used rest)) (sym feeds.left)
    ∙ sym (in_pieces_lem o (take f.used rest) (drop f.used rest)).left
    ∙ ap (open_beyond o) (take-append-drop f.used rest)

-- ---- fed to an encoder
pub fed_nothing : (e : EncoderState Store) → fed step e [] ≡ e
fed_nothing e =
    ap (after_findings step (record e { part = open_beyond e.part [] })) (new_start_lem e.part []).nothing
    ∙ ap (λ part. record e { part = part }) (new_start_lem e.part []).stays

pub responses_to_nothing : (e : EncoderState Store) → responses_to step e [] ≡ []
responses_to_nothing e = ap (responses step e) (new_start_lem e.part []).nothing

pub fed_on : (e e' : EncoderState Store) (used : ℕ) (rest rest' : List ℕ) → e' ≡ fed step e (take used rest)
    → rest' ≡ drop used rest → fed step e' rest' ≡ fed step e rest
fed_on e e' used rest rest' e'_is rest_is =
    ap (fed step e') rest_is ∙ ap (λ d. fed step d (drop used rest)) e'_is
    ∙ sym (in_pieces_of_encoder step e (take used rest) (drop used rest)).state
    ∙ ap (fed step e) (take-append-drop used rest)

pub responses_on : (e e' : EncoderState Store) (used : ℕ) (rest rest' : List ℕ) → e' ≡ fed step e (take used rest)
    → rest' ≡ drop used rest →
    responses_to step e rest ≡ responses_to step e (take used rest) ++ responses_to step e' rest'
responses_on e e' used rest rest' e'_is rest_is =
    ap (responses_to step e) (sym (take-append-drop used rest))
    ∙ (in_pieces_of_encoder step e (take used rest) (drop used rest)).responses
    ∙ ap (λ d. responses_to step e (take used rest) ++ responses_to step d (drop used rest)) (sym e'_is)
    ∙ ap (λ r. responses_to step e (take used rest) ++ responses_to step e' r) (sym rest_is)
