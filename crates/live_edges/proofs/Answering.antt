-- Which replies count.
use Rattle.std.proofs.Common.{◌≡◌, ℕ, true, false, List, [], ◌∷◌, ◌++◌, Option, Some, None, refl, ◌∙◌, ap, cond}
use Rattle.std.specs.Prelude.{slice_set}
use Rattle.uecp_frame.specs.Findings.{Finding, OpenPart}
use Rattle.uecp_frame.specs.Beyond.{found_beyond, open_beyond}
use Rattle.uecp_frame.proofs.Public.{in_pieces_lem as frames_in_pieces}
use Rattle.uecp_link.specs.Joining.{reply_counter}
use Rattle.live_edges.specs.Awaited.{Replies, reply_to, heard_all, heard_of, NoneAnswers, IsAnswer, waits_for}
use Rattle.live_edges.proofs.Pieces.{heard-append}

-- a reply to none that waits changes nothing
nothing_replied : (r : Replies) (o : Option ℕ) → ((counter : ℕ) → o ≡ Some counter → waits_for r.waits counter ≡ false)
    → reply_to r o ≡ r
nothing_replied r None none = refl
nothing_replied r (Some counter) none = rw (none counter refl) refl

none_replies : (address : ℕ) (r : Replies) (fs : List Finding) → NoneAnswers address r.waits fs
    → heard_all address r fs ≡ r
none_replies address r [] none = refl
none_replies address r (f ∷ fs) none =
    ap (λ s. heard_all address s fs) (nothing_replied r (reply_counter address f) none.0)
    ∙ none_replies address r fs none.1

pub none_answers_lem : (address : ℕ) (o : OpenPart) (r : Replies) (bytes : List ℕ)
    → NoneAnswers address r.waits (found_beyond o bytes) → heard_of address o r bytes ≡ r
none_answers_lem address o r bytes none = none_replies address r (found_beyond o bytes) none

-- what has come has come
reply_stays : (r : Replies) (o : Option ℕ) → r.came ≡ true → (reply_to r o).came ≡ true
reply_stays r None came = came
reply_stays r (Some counter) came =
    elim (waits_for r.waits counter) as (λ b. (cond b (record {
      waits = slice_set r.waits counter false;
      came = true;
    }) r).came ≡ true) [ true ↦ refl | false ↦ came ]

stays : (address : ℕ) (r : Replies) (fs : List Finding) → r.came ≡ true → (heard_all address r fs).came ≡ true
stays address r [] came = came
stays address r (f ∷ fs) came =
    stays address (reply_to r (reply_counter address f)) fs (reply_stays r (reply_counter address f) came)

answered : (r : Replies) (counter : ℕ) → waits_for r.waits counter ≡ true → (reply_to r (Some counter)).came ≡ true
answered r counter waited = rw waited refl

pub an_answer_lem : (address : ℕ) (r : Replies) (before : List Finding) (f : Finding) (after : List Finding)
    → NoneAnswers address r.waits before → IsAnswer address r.waits f
    → (heard_all address r (before ++ f ∷ after)).came ≡ true
an_answer_lem address r before f after none answer =
    ap (λ (s : Replies). s.came) (heard-append address r before (f ∷ after)
    ∙ ap (λ s. heard_all address s (f ∷ after)) (none_replies address r before none))
    ∙ stays address (reply_to r (reply_counter address f)) after
    (ap (λ o. (reply_to r o).came) answer.replies ∙ answered r answer.counter answer.waited)

pub in_pieces_lem : (address : ℕ) (o : OpenPart) (r : Replies) (x y : List ℕ)
    → heard_of address o r (x ++ y) ≡ heard_of address (open_beyond o x) (heard_of address o r x) y
in_pieces_lem address o r x y =
    ap (heard_all address r) (frames_in_pieces o x y).found
    ∙ heard-append address r (found_beyond o x) (found_beyond (open_beyond o x) y)
