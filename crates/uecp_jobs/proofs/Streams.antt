-- Pieces on several lines as one stream.
use Rattle.std.proofs.Common.{◌≡◌, ℕ, List, [], ◌∷◌, ◌++◌, flat_map, None, Some, refl, ◌∙◌, ap, sym, inl, inr}
use Rattle.std.proofs.lemmas.Grind.{flat_map-append}
use Rattle.rds_store.specs.Step.{step}
use Rattle.uecp_frame.specs.Findings.{OpenPart, Closed, Finding}
use Rattle.uecp_frame.specs.Beyond.{found_beyond, open_beyond}
use Rattle.uecp_frame.proofs.Public.{in_pieces_lem, new_start_lem}
use Rattle.uecp_encoder.specs.State.{fed}
use Rattle.uecp_encoder.specs.Answering.{responses_to}
use Rattle.uecp_encoder.proofs.Public.{in_pieces_of_encoder}
use Rattle.uecp_text.specs.declared.run_fault.RunFault.TheVariants.{Text}
use Rattle.uecp_text.specs.Run.{Runs}
use Rattle.uecp_jobs.specs.Commands.{ShowsIn}
use Rattle.uecp_jobs.specs.Streams.{Spell, ShowsOneStream, AnswersOneStream}
use Rattle.uecp_jobs.proofs.Pieces.{fed_nothing, responses_to_nothing}

shown_beyond : (lines_of : Finding → List ℕ) (o o' : OpenPart) (texts : List (ℕ × List ℕ)) (lines : List ℕ)
    → Runs (ShowsIn lines_of) o texts lines None o' →
    (bytes : List ℕ) × Spell texts bytes × (lines ≡ flat_map lines_of (found_beyond o bytes))
shown_beyond lines_of o o' [] lines (lines_are, none, same) =
    ([], refl, lines_are ∙ sym (ap (flat_map lines_of) (new_start_lem o []).nothing))
shown_beyond lines_of o o' ((number, text) ∷ texts) lines ran = elim ran [
  | inl (first, rest, next, (piece, spelled, first_is, next_is), lines_are, more) ↦
      let behind = shown_beyond lines_of next o' texts rest more in (
        piece ++ behind.0,
        (piece, behind.0, spelled, refl, behind.1),
        lines_are ∙ ap (λ l. l ++ rest) first_is ∙ ap (λ l. flat_map lines_of (found_beyond o piece) ++ l)
            (behind.2 ∙ ap (λ p. flat_map lines_of (found_beyond p behind.0)) next_is)
            ∙ sym (ap (flat_map lines_of) (in_pieces_lem o piece behind.0).found
            ∙ flat_map-append lines_of (found_beyond o piece) (found_beyond (open_beyond o piece) behind.0)),
      )
  | inr (inl refused) ↦ absurd (let none : None ≡ Some (Text number refused.0) = refused.3 in cc)
  | inr (inr ended) ↦ absurd ended.0
]

pub shows_one_stream_lem : ShowsOneStream
shows_one_stream_lem lines_of texts lines left ran =
    let shown = shown_beyond lines_of Closed left texts lines ran in
    (shown.0, shown.1, shown.2 ∙ ap (flat_map lines_of) (new_start_lem Closed shown.0).found)

pub answers_one_stream_lem : AnswersOneStream
answers_one_stream_lem line_of e e' [] lines (lines_are, none, same) =
    ([], refl, lines_are ∙ sym (ap (flat_map line_of) (responses_to_nothing e)), same ∙ sym (fed_nothing e))
answers_one_stream_lem line_of e e' ((number, text) ∷ texts) lines ran = elim ran [
  | inl (first, rest, next, (piece, spelled, first_is, next_is), lines_are, more) ↦
      let behind = answers_one_stream_lem line_of next e' texts rest more in
      let pieces = in_pieces_of_encoder step e piece behind.0 in (
        piece ++ behind.0,
        (piece, behind.0, spelled, refl, behind.1),
        lines_are ∙ ap (λ l. l ++ rest) first_is
            ∙ ap (λ l. flat_map line_of (responses_to step e piece) ++ l)
            (behind.2 ∙ ap (λ d. flat_map line_of (responses_to step d behind.0)) next_is)
            ∙ sym (ap (flat_map line_of) pieces.responses
            ∙ flat_map-append line_of (responses_to step e piece)
            (responses_to step (fed step e piece) behind.0)),
        behind.3 ∙ ap (λ d. fed step d behind.0) next_is ∙ sym pieces.state,
      )
  | inr (inl refused) ↦ absurd (let none : None ≡ Some (Text number refused.0) = refused.3 in cc)
  | inr (inr ended) ↦ absurd ended.0
]
