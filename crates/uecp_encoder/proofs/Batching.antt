-- What a batch brings.
use Rattle.std.proofs.Common.{◌≡◌, ℕ, ◌+◌, ◌-◌, ◌*◌, ◌<◌, ◌≤◌, ◌==◌, ◌⊎◌, inl, inr, Bool, true, false, not, List, []}
use Rattle.std.proofs.Common.{◌++◌}
use Rattle.std.proofs.Common.{length, take, drop, flat_map, Option, refl, ◌∙◌, ap, sym, subst, arith, take-append-drop}
use Rattle.std.specs.Io.KnownBytes.{Appends}
use Rattle.std.proofs.lemmas.Bool.{cases_lt}
use Rattle.std.proofs.lemmas.Bool.Decides.{nat_tests}
use Rattle.std.proofs.lemmas.List.{take-append-le}
use Rattle.uecp_frame.specs.Beyond.{found_beyond}
use Rattle.uecp_encoder.specs.Target.{Step}
use Rattle.uecp_encoder.specs.State.{EncoderState, fed}
use Rattle.uecp_encoder.specs.Answering.{responses_to, bytes_sent, answers}
use Rattle.uecp_encoder.specs.declared.batch.Batch.{Batch}
use Rattle.uecp_encoder.specs.declared.answering.Stop.{Stop}
use Rattle.uecp_encoder.specs.declared.answering.Stop.TheVariants as stop
use Rattle.uecp_encoder.specs.declared.listener.Event.{Event}
use Rattle.uecp_encoder.specs.Keeping.{Kept, kept_of, Settled, Outlives}
use Rattle.uecp_encoder.specs.ServingWith.{fresh_among, IsTogether, SavesFor}
use Rattle.uecp_encoder.specs.Telling.{HearsFor}
use Rattle.uecp_encoder.specs.Batches.{IsBatch, Keeps, Breaks, Takes, StopsAt, HearsUntil, IsKeptIf, IsNotKept}
use Rattle.uecp_encoder.specs.Batches.{IsUnanswered}
use Rattle.uecp_encoder.proofs.InPieces.{in_pieces_of_encoder}
use Rattle.uecp_encoder.proofs.InParts.{fed_none, responses_none}
use Rattle.uecp_encoder.proofs.Unchanged.{unchanged, fresh_on}
use Rattle.uecp_encoder.proofs.Beginnings.{starts_taken}
use Rattle.uecp_encoder.proofs.Saving.{saves_nothing, saves_more, saves_part}
use Rattle.uecp_encoder.proofs.Hearing.{hears_nothing, batch_unsent}

no_fresh : (n : ℕ) → n == 0 ≡ true → n ≡ 0
no_fresh n is = grind (arith, nat_tests)

some_fresh : (n : ℕ) → n == 0 ≡ false → 0 < n
some_fresh n is = grind (arith, nat_tests)

-- what is full counts for no read, and the rest of a piece for one
pub as_one_read : (most used rest found : ℕ) → (used < rest → most ≤ found)
    → (reads : ℕ) × (reads ≤ 1) × (used < rest → reads ≡ 0) × (most ≤ most * reads + found)
as_one_read most used rest found full = elim (cases_lt used rest) [
  | inl before ↦ (0, omega arith, λ _. refl, omega (arith, full before))
  | inr behind ↦ (1, omega arith, λ before. absurd (omega (arith, before, behind)), omega arith)
]

module _ {V K : Type 0} (most : ℕ) (step : Step V) (leaves : K → Kept V → Type 0) (is_clean : K → Type 0)
    (saves fails : K → Kept V → K → Type 0) where
  -- what was saved for it is enough
  keeps_by : (e e' : EncoderState V) (k k' : K) (x : List ℕ) (none : Bool)
      → fresh_among (responses_to step e x) == 0 ≡ none → e' ≡ fed step e x
      → IsKeptIf leaves is_clean saves e' (not none) k k' → (is_clean k' → is_clean k)
      → Keeps step leaves is_clean e e' k k' x
  keeps_by e e' k k' x true fresh state kept clean = record {
    settled = λ start here left is.
        start left (subst (λ (j : K). leaves j left) kept is)
        ∙ sym (ap kept_of state ∙ unchanged step e x (no_fresh (fresh_among (responses_to step e x)) fresh));
    clean = clean;
    same = λ none. kept;
  }
  keeps_by e e' k k' x false fresh state kept clean = record {
    settled = λ start here. kept.0 here;
    clean = clean;
    same = λ none. absurd (omega (arith, some_fresh (fresh_among (responses_to step e x)) fresh, none));
  }

  batch_keeps : (listens : Bool) (e e' : EncoderState V) (k k' : K) (x : List ℕ) (batch : Batch) → e' ≡ fed step e x
      → IsBatch listens step e x batch → IsKeptIf leaves is_clean saves e' batch.fresh k k' → (is_clean k' → is_clean k)
      → Keeps step leaves is_clean e e' k k' x
  batch_keeps listens e e' k k' x batch state is kept clean =
      keeps_by e e' k k' x (fresh_among (responses_to step e x) == 0) refl state
      (subst (λ d. IsKeptIf leaves is_clean saves e' d k k') is.fresh kept) clean

  pub batch_takes : (listens : Bool) (e e' : EncoderState V) (k k' : K) (piece : List ℕ) (used reads : ℕ) (batch :
      Batch) → used ≤ length piece → e' ≡ fed step e (take used piece) → IsBatch listens step e (take used piece) batch
      → IsKeptIf leaves is_clean saves e' batch.fresh k k' → (is_clean k' → is_clean k)
      → most ≤ most * reads + length (found_beyond e.part (take used piece))
      → Takes most step leaves is_clean saves e e' k k' (take used piece) batch.replies.items reads batch.count
      (length batch.replies.items)
  batch_takes listens e e' k k' piece used reads batch fits state is kept clean few =
      record {
        sends = record {
          all = record { state = state; written = is.replies };
          replies_are = is.count;
          bytes_are = refl;
          few_replies = omega (arith, is.few, is.slow);
          few_bytes = omega (arith, is.short, is.slow);
        };
        keeps = batch_keeps listens e e' k k' (take used piece) batch state is kept clean;
        saved = saves_part most saves step e e' (take used piece) batch.fresh reads leaves is_clean k k' state is.fresh
            kept few;
      }

  -- ---- the rest of the piece was not fed
  batch_together : (e : EncoderState V) (piece : List ℕ) (used : ℕ) → 0 < used → used ≤ length piece
      → ((n : ℕ) → n < used → length (found_beyond e.part (take n piece)) < most)
      → IsTogether most e.part piece 0 (used - 1)
  batch_together e piece used some fits fewer =
      let before = fewer (used - 1) (omega (arith, some)) in
      record {
        in_order = omega arith;
        within = omega (arith, some, fits);
        few = omega (arith, before);
      }

  -- a crash leaves what it might have left before, or what was to be saved
  breaks_first : (e e' : EncoderState V) (piece : List ℕ) (used : ℕ) (left : Kept V)
      → e' ≡ fed step e (take used piece) → (left ≡ kept_of e) ⊎ (left ≡ kept_of e') → Outlives step e piece [] left
  breaks_first e e' piece used left state (inl before) = record {
    taken = [];
    beginning = refl;
    state = before ∙ sym (ap kept_of (fed_none step e));
    replied = refl;
  }
  breaks_first e e' piece used left state (inr now) = record {
    taken = take used piece;
    beginning = starts_taken piece used;
    state = now ∙ ap kept_of state;
    replied = refl;
  }

  or_settled : (e e' : EncoderState V) (k : K) (left : Kept V) → Settled (leaves k) e
      → leaves k left ⊎ (left ≡ kept_of e') → (left ≡ kept_of e) ⊎ (left ≡ kept_of e')
  or_settled e e' k left start (inl was) = inl (start left was)
  or_settled e e' k left start (inr is) = inr is

  fails_by : (e e' : EncoderState V) (k k' : K) (x : List ℕ) (none : Bool)
      → fresh_among (responses_to step e x) == 0 ≡ none → IsNotKept leaves is_clean fails e' (not none) k k'
      → (0 < fresh_among (responses_to step e x))
      × (is_clean k' → (left : Kept V) → leaves k' left → leaves k left ⊎ (left ≡ kept_of e'))
      × fails k (kept_of e') k'
  fails_by e e' k k' x true fresh failed = absurd failed
  fails_by e e' k k' x false fresh (either, failed) =
      (some_fresh (fresh_among (responses_to step e x)) fresh, either, failed)

  -- what is written and told of it, and where it stops
  pub batch_stops : {L : Type 0} (listens : Bool) (hears : L → Event → Bool → L → Type 0)
      (e e' : EncoderState V) (k k' : K) (l l' : L)
      (held held' : Option (List ℕ)) (piece : List ℕ) (used : ℕ) (batch : Batch) (why : Stop) → 0 < used
      → used ≤ length piece → e' ≡ fed step e (take used piece) → IsBatch listens step e (take used piece) batch
      → (listens ≡ false → (event : Event) (sent : Bool) → hears l event sent l)
      → ((n : ℕ) → n < used → length (found_beyond e.part (take n piece)) < most) → (is_clean k' → is_clean k)
      → IsUnanswered leaves is_clean saves fails hears e' batch held held' k k' l l' why
      → (sent : List ℕ) × Appends held held' sent
      × StopsAt most step leaves is_clean saves fails e e' k k' piece sent 1 0 (used - 1) why
      × HearsUntil hears step e piece 0 (used - 1) l l' why
  batch_stops listens hears e e' k k' l l' held held' piece used batch (stop.Write w) some fits state is deaf
      fewer clean (part, appended, kept, heard) =
      let place_is : used - 1 + 1 ≡ used = omega (arith, some) in
      let bytes : List ℕ = take used piece in
      let later : List ℕ = answers step (fed step e bytes) (drop used piece) in
      let cut : piece ≡ bytes ++ drop used piece = sym (take-append-drop used piece) in
      let whole : answers step e piece ≡ batch.replies.items ++ later =
      ap (answers step e) cut ∙ (in_pieces_of_encoder step e bytes (drop used piece)).answers
      ∙ ap (λ x. x ++ later) (sym is.replies) in
      let parts : fresh_among (responses_to step e piece) ≡ fresh_among (responses_to step e bytes)
      + fresh_among (responses_to step (fed step e bytes) (drop used piece)) =
      ap (λ x. fresh_among (responses_to step e x)) cut ∙ fresh_on step e bytes (drop used piece) in
      let keeps = batch_keeps listens e e' k k' bytes batch state is kept clean in (
        take w batch.replies.items,
        appended,
        (
          record {
            together = batch_together e piece used some fits fewer;
            state = state ∙ ap (λ n. fed step e (take n piece)) (sym place_is);
            written = sym (ap (take w) whole ∙ take-append-le w batch.replies.items later (omega (arith, part)));
            before = omega (arith, ap (λ rs. length (flat_map bytes_sent rs)) (responses_none step e));
            due = omega (arith, part, ap (λ n. length (answers step e (take n piece))) place_is, ap length is.replies);
          },
          record {
            settled = keeps.settled;
            clean = keeps.clean;
            same = λ none. keeps.same (omega (arith, parts, none));
          },
          subst (λ n. SavesFor most saves step e (take n piece) 1 k k') (sym place_is)
              (saves_part most saves step e e' bytes batch.fresh 1 leaves is_clean k k' state is.fresh kept
              (omega arith)),
        ),
        batch_unsent hears step listens e piece used batch.events.items w l l' some deaf is.events is.silent heard,
      )
  batch_stops listens hears e e' k k' l l' held held' piece used batch stop.State some fits state is deaf fewer
      clean (appended, unkept, same) =
      let place_is : used - 1 + 1 ≡ used = omega (arith, some) in
      let bytes : List ℕ = take used piece in
      let (fresh, either, failed) = fails_by e e' k k' bytes (fresh_among (responses_to step e bytes) == 0) refl
      (subst (λ d. IsNotKept leaves is_clean fails e' d k k') is.fresh unkept) in (
        [],
        appended,
        (
          record {
            together = batch_together e piece used some fits fewer;
            state = state ∙ ap (λ n. fed step e (take n piece)) (sym place_is);
            written = sym (ap (flat_map bytes_sent) (responses_none step e));
            fresh = omega (
              arith,
              fresh,
              ap (λ n. fresh_among (responses_to step e (take n piece))) place_is,
              ap fresh_among (responses_none step e),
            );
          },
          record {
            outlives = λ start here left was. breaks_first e e' piece used left state
                (or_settled e e' k left start (either here left was));
            clean = clean;
          },
          (k, saves_more most saves step e [] 0 k k (saves_nothing most saves step e k), failed),
        ),
        subst (λ j. HearsFor hears step e [] l j) (sym same) (hears_nothing hears step e l),
      )
