-- What begins what: lists, and what a crash may leave.
use Rattle.std.proofs.Common.{◌≡◌, ℕ, ◌+◌, List, ◌++◌, length, take, drop, refl, ◌∙◌, ap, sym, subst, arith}
use Rattle.std.proofs.Common.{length-append, take-append-drop}
use Rattle.std.proofs.Math.Seq.{take-length, take-append-add}
use Rattle.std.proofs.lemmas.List.{take-append-le, take_min, length-take}
use Rattle.std.specs.Io.{StartsWith}
use Rattle.uecp_encoder.specs.Target.{Step}
use Rattle.uecp_encoder.specs.State.{EncoderState, fed}
use Rattle.uecp_encoder.specs.Answering.{answers}
use Rattle.uecp_encoder.specs.Serving.{AnswersAll}
use Rattle.uecp_encoder.proofs.InPieces.{in_pieces_of_encoder}
use Rattle.uecp_encoder.specs.Keeping.{Kept, kept_of, Outlives}
use Rattle.uecp_encoder.specs.ServingWith.{StopsAnswering}

pub starts_same : (s t : List ℕ) → t ≡ s → StartsWith s t
starts_same s t h = subst (λ (x : List ℕ). StartsWith x t) h (take-length t)

pub starts_taken : (s : List ℕ) (n : ℕ) → StartsWith s (take n s)
starts_taken s n = ap (λ m. take m s) (length-take n s) ∙ take_min n s

pub starts_on : (a b c : List ℕ) → StartsWith b c → StartsWith (a ++ b) (a ++ c)
starts_on a b c h = ap (λ m. take m (a ++ b)) (length-append a c) ∙ take-append-add a b (length c) ∙ ap (λ x. a ++ x) h

pub answers_on : {V : Type 0} (step : Step V) (e e1 : EncoderState V) (s sent more : List ℕ)
    → AnswersAll step e e1 s sent → answers step e (s ++ more) ≡ sent ++ answers step e1 more
answers_on step e e1 s sent more first =
    (in_pieces_of_encoder step e s more).answers
    ∙ ap (λ x. x ++ answers step (fed step e s) more) (sym first.written)
    ∙ ap (λ d. sent ++ answers step d more) (sym first.state)

pub fed_on_is : {V : Type 0} (step : Step V) (e e1 : EncoderState V) (s more : List ℕ) → e1 ≡ fed step e s
    → fed step e1 more ≡ fed step e (s ++ more)
fed_on_is step e e1 s more h = ap (λ d. fed step d more) h ∙ sym (in_pieces_of_encoder step e s more).state

-- a part that was taken whole before changes nothing
pub outlives_on : {V : Type 0} (step : Step V) (e e1 : EncoderState V) (s sent more now : List ℕ) (left : Kept V)
    → AnswersAll step e e1 s sent → Outlives step e1 more now left → Outlives step e (s ++ more) (sent ++ now) left
outlives_on step e e1 s sent more now left first survives = record {
  taken = s ++ survives.taken;
  beginning = starts_on s more survives.taken survives.beginning;
  state = survives.state ∙ ap kept_of (fed_on_is step e e1 s survives.taken first.state);
  replied = subst (λ (x : List ℕ). StartsWith x (sent ++ now)) (sym (answers_on step e e1 s sent survives.taken first))
      (starts_on sent (answers step e1 survives.taken) now survives.replied);
}

-- all was taken, and all replies were written
pub outlives_all : {V : Type 0} (step : Step V) (e e' : EncoderState V) (s sent : List ℕ) (left : Kept V)
    → AnswersAll step e e' s sent → left ≡ kept_of e' → Outlives step e s sent left
outlives_all step e e' s sent left all is = record {
  taken = s;
  beginning = starts_same s s refl;
  state = is ∙ ap kept_of all.state;
  replied = starts_same (answers step e s) sent all.written;
}

-- a write failed
pub outlives_writing : {V : Type 0} (most : ℕ) (step : Step V) (e e' : EncoderState V) (s sent : List ℕ)
    (w start place : ℕ) (left : Kept V) → StopsAnswering most step e e' s sent w start place → left ≡ kept_of e' →
    Outlives step e s sent left
outlives_writing most step e e' s sent w start place left stops is =
    let fed_part : List ℕ = take (place + 1) s in
    let later : List ℕ = answers step (fed step e fed_part) (drop (place + 1) s) in
    let whole : answers step e s ≡ answers step e fed_part ++ later =
    ap (answers step e) (sym (take-append-drop (place + 1) s))
    ∙ (in_pieces_of_encoder step e fed_part (drop (place + 1) s)).answers in
    let sent_is : sent ≡ take w (answers step e fed_part) =
    stops.written ∙ ap (take w) whole ∙ take-append-le w (answers step e fed_part) later (omega (arith, stops.due)) in
    record {
      taken = fed_part;
      beginning = starts_taken s (place + 1);
      state = is ∙ ap kept_of stops.state;
      replied = subst (λ (x : List ℕ). StartsWith (answers step e fed_part) x) (sym sent_is)
          (starts_taken (answers step e fed_part) w);
    }
