-- A stream that is answered in parts.
use Rattle.std.proofs.Common.{◌≡◌, ℕ, ◌+◌, ◌-◌, ◌<◌, ◌≤◌, List, [], ◌∷◌, ◌++◌, length, take, drop, flat_map, refl, ◌∙◌}
use Rattle.std.proofs.Common.{ap, sym, arith, length-append, take-append-drop}
use Rattle.std.proofs.Math.Seq.{take-append-add}
use Rattle.std.proofs.lemmas.List.{take-append-le}
use Rattle.uecp_frame.specs.Beyond.{found_beyond, open_beyond}
use Rattle.uecp_frame.proofs.Public.{new_start_lem}
use Rattle.uecp_encoder.specs.declared.answer.Answer.{Answer}
use Rattle.uecp_encoder.specs.Target.{Step}
use Rattle.uecp_encoder.specs.State.{EncoderState, after_findings, fed}
use Rattle.uecp_encoder.specs.Answering.{Response, responses, responses_to, responses_of, bytes_sent, answers}
use Rattle.uecp_encoder.specs.Answering.{AnswersPiece}
use Rattle.uecp_encoder.specs.Serving.{replies_among, AnswersAll, Sends, StopsWriting}
use Rattle.uecp_encoder.proofs.InPieces.{in_pieces_of_encoder}

pub replies_among-append : (xs ys : List Response) → replies_among (xs ++ ys) ≡ replies_among xs + replies_among ys
replies_among-append [] ys = omega arith
replies_among-append (x ∷ xs) ys = let later = replies_among-append xs ys in omega (arith, later)

-- ---- nothing, and then the rest, for every target
pub fed_none : {V : Type 0} (step : Step V) (e : EncoderState V) → fed step e [] ≡ e
fed_none step e =
    ap (after_findings step (record e { part = open_beyond e.part [] })) (new_start_lem e.part []).nothing
    ∙ ap (λ part. record e { part = part }) (new_start_lem e.part []).stays

pub responses_none : {V : Type 0} (step : Step V) (e : EncoderState V) → responses_to step e [] ≡ []
responses_none step e = ap (responses step e) (new_start_lem e.part []).nothing

pub fed_on : {V : Type 0} (step : Step V) (e e' : EncoderState V) (used : ℕ) (rest rest' : List ℕ)
    → e' ≡ fed step e (take used rest) → rest' ≡ drop used rest → fed step e' rest' ≡ fed step e rest
fed_on step e e' used rest rest' e'_is rest_is =
    ap (fed step e') rest_is ∙ ap (λ d. fed step d (drop used rest)) e'_is
    ∙ sym (in_pieces_of_encoder step e (take used rest) (drop used rest)).state
    ∙ ap (fed step e) (take-append-drop used rest)

pub responses_on : {V : Type 0} (step : Step V) (e e' : EncoderState V) (used : ℕ) (rest rest' : List ℕ)
    → e' ≡ fed step e (take used rest) → rest' ≡ drop used rest →
    responses_to step e rest ≡ responses_to step e (take used rest) ++ responses_to step e' rest'
responses_on step e e' used rest rest' e'_is rest_is =
    ap (responses_to step e) (sym (take-append-drop used rest))
    ∙ (in_pieces_of_encoder step e (take used rest) (drop used rest)).responses
    ∙ ap (λ d. responses_to step e (take used rest) ++ responses_to step d (drop used rest)) (sym e'_is)
    ∙ ap (λ r. responses_to step e (take used rest) ++ responses_to step e' r) (sym rest_is)

-- ---- what follows from what a part finds
no_answers : {V : Type 0} (step : Step V) (e : EncoderState V) (s : List ℕ) → found_beyond e.part s ≡ []
    → answers step e s ≡ []
no_answers step e s none = ap (λ found. flat_map bytes_sent (responses step e found)) none

pub sends_nothing : {V : Type 0} (step : Step V) (e : EncoderState V) → Sends step e e [] [] 0 0
sends_nothing step e =
    let new = new_start_lem e.part [] in
    record {
      all = record {
        state = sym (fed_none step e);
        written = sym (no_answers step e [] new.nothing);
      };
      replies_are = sym (ap (λ found. replies_among (responses step e found)) new.nothing);
      bytes_are = refl;
      few_replies = omega arith;
      few_bytes = omega arith;
    }

-- ---- one part after another
answers_all_on : {V : Type 0} (step : Step V) (e e1 e2 : EncoderState V) (s sent more now : List ℕ) →
    AnswersAll step e e1 s sent → AnswersAll step e1 e2 more now → AnswersAll step e e2 (s ++ more) (sent ++ now)
answers_all_on step e e1 e2 s sent more now first second =
    let pieces = in_pieces_of_encoder step e s more in
    record {
      state = second.state ∙ ap (λ d. fed step d more) first.state ∙ sym pieces.state;
      written = ap (λ x. x ++ now) first.written ∙ ap (λ x. answers step e s ++ x)
          (second.written ∙ ap (λ d. answers step d more) first.state) ∙ sym pieces.answers;
    }

pub sends_on : {V : Type 0} (step : Step V) (e e1 e2 : EncoderState V) (s sent more now : List ℕ) (r b r' b' : ℕ) →
    Sends step e e1 s sent r b → Sends step e1 e2 more now r' b'
    → Sends step e e2 (s ++ more) (sent ++ now) (r + r') (b + b')
sends_on step e e1 e2 s sent more now r b r' b' first second =
    let pieces = in_pieces_of_encoder step e s more in
    let long = length-append s more in
    let counted : replies_among (responses_to step e (s ++ more)) ≡ replies_among (responses_to step e s)
    + replies_among (responses_to step e1 more) =
    ap replies_among pieces.responses ∙ replies_among-append (responses_to step e s)
    (responses_to step (fed step e s) more)
    ∙ ap (λ d. replies_among (responses_to step e s) + replies_among (responses_to step d more))
    (sym first.all.state) in
    record {
      all = answers_all_on step e e1 e2 s sent more now first.all second.all;
      replies_are = omega (arith, counted, first.replies_are, second.replies_are);
      bytes_are = omega (arith, length-append sent now, first.bytes_are, second.bytes_are);
      few_replies = omega (arith, long, first.few_replies, second.few_replies);
      few_bytes = omega (arith, long, first.few_bytes, second.few_bytes);
    }
