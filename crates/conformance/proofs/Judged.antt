-- What came so far, held against the replies that are wanted.
use Rattle.std.proofs.Common.{◌≡◌, ◌+◌, ◌≤◌, ◌↔◌, ℕ, List, [], ◌∷◌, ◌++◌, refl, ◌∙◌, ap, sym, subst, arith}
use Rattle.std.proofs.Common.{length, length-append, append_assoc, append-nil, take, drop, take-append-drop, Ok}
use Rattle.std.proofs.lemmas.List.{map-append, length-take-le}
use Rattle.std.proofs.Math.Seq.{take-add}
use Rattle.uecp_frame.specs.declared.frame.Frame.{Frame}
use Rattle.uecp_frame.specs.declared.fed.Fed.{Fed}
use Rattle.uecp_frame.specs.declared.fed.Found.TheVariants as fed
use Rattle.uecp_frame.specs.Findings.{Finding, OpenPart, Closed, found, open_part, open_from}
use Rattle.uecp_frame.specs.Beyond.{found_beyond}
use Rattle.uecp_frame.specs.Feeding.{FeedsAfter, findings_of}
use Rattle.uecp_frame.proofs.Public.{open_bytes-nil, found-nil, comes_after_lem}
use Rattle.conformance.specs.declared.verdict.Reply.{Reply}
use Rattle.conformance.specs.declared.verdict.Expected.{Expected}
use Rattle.conformance.specs.declared.verdict.Verdict.{Verdict}
use Rattle.conformance.specs.declared.verdict.Verdict.TheVariants.{Kept, Missing, Another, TooMany, NoReply, Dropped}
use Rattle.conformance.specs.Judging.{reply_frame, replies_found, Serves, ServeAll, AreWanted, Stands, IsJudged}

-- ---- Replies that are those that are wanted.

serve_more : (wanted : List Expected) (came : List Reply) (first : Expected) (reply : Reply) → ServeAll wanted came
    → Serves first reply → ServeAll (wanted ++ first ∷ []) (came ++ reply ∷ [])
serve_more [] [] first reply all one = (one, tt)
serve_more [] (c ∷ came) first reply all one = absurd all
serve_more (w ∷ wanted) [] first reply all one = absurd all
serve_more (w ∷ wanted) (c ∷ came) first reply (head, all) one = (head, serve_more wanted came first reply all one)

serve_both : (met next : List Expected) (came : List Reply) → ServeAll met came → next ≡ []
    → ServeAll (met ++ next) came
serve_both met next came all none = subst (λ l. ServeAll (met ++ l) came) (sym none) (subst (λ l. ServeAll l came)
    (sym (append-nil met)) all)

-- ---- What was heard so far.

-- of what came so much was heard, and it is replies that are the first so many that are wanted
pub record Agrees (own : ℕ) (wanted : List Expected) (came : List ℕ) (part : OpenPart) (rest : List ℕ) (agreed : ℕ)
    : Type 0 where
  pub heard : List ℕ
  pub replies : List Reply
  pub joined : heard ++ rest ≡ came
  pub left : open_part heard ≡ part
  pub few : agreed ≤ length wanted
  pub served : ServeAll (take agreed wanted) replies
  pub found_are : found heard ≡ replies_found own replies

pub agrees_first : (own : ℕ) (wanted : List Expected) (came : List ℕ) → Agrees own wanted came Closed came 0
agrees_first own wanted came = record {
  heard = [];
  replies = [];
  joined = refl;
  left = ap open_from open_bytes-nil;
  few = omega arith;
  served = tt;
  found_are = found-nil;
}

-- a piece more was heard, which ended this
record HeardMore (came : List ℕ) (part : OpenPart) (rest : List ℕ) (findings : List Finding) : Type 0 where
  heard : List ℕ
  joined : heard ++ rest ≡ came
  left : open_part heard ≡ part
  found_are : found heard ≡ findings

heard_more : (own : ℕ) (wanted : List Expected) (came : List ℕ) (part part' : OpenPart) (rest rest' : List ℕ)
    (agreed : ℕ) (f : Fed) → (a : Agrees own wanted came part rest agreed) → FeedsAfter a.heard rest f part'
    → rest' ≡ drop f.used rest
    → HeardMore came part' rest' (replies_found own a.replies ++ findings_of f.found)
heard_more own wanted came part part' rest rest' agreed f a feeds rest_is = record {
  heard = a.heard ++ take f.used rest;
  joined = ap (λ r. (a.heard ++ take f.used rest) ++ r) rest_is
      ∙ append_assoc a.heard (take f.used rest) (drop f.used rest)
      ∙ ap (λ r. a.heard ++ r) (take-append-drop f.used rest) ∙ a.joined;
  left = feeds.left;
  found_are = feeds.answer ∙ ap (λ fs. fs ++ findings_of f.found) a.found_are;
}

pub agrees_on : (own : ℕ) (wanted : List Expected) (came : List ℕ) (part part' : OpenPart) (rest rest' : List ℕ)
    (agreed : ℕ) (f : Fed) → (a : Agrees own wanted came part rest agreed) → FeedsAfter a.heard rest f part'
    → rest' ≡ drop f.used rest → f.found ≡ fed.Nothing → Agrees own wanted came part' rest' agreed
agrees_on own wanted came part part' rest rest' agreed f a feeds rest_is nothing =
    let h = heard_more own wanted came part part' rest rest' agreed f a feeds rest_is in
    record {
      heard = h.heard;
      replies = a.replies;
      joined = h.joined;
      left = h.left;
      few = a.few;
      served = a.served;
      found_are = h.found_are ∙ ap (λ x. replies_found own a.replies ++ findings_of x) nothing
          ∙ append-nil (replies_found own a.replies);
    }

-- the first so many of a list, and one more
take_more : (n : ℕ) (xs later : List Expected) (x : Expected) → n ≤ length xs → drop n xs ≡ x ∷ later
    → take (n + 1) xs ≡ take n xs ++ x ∷ []
take_more n xs later x few next = take-add n 1 xs ∙ ap (λ l. take n xs ++ take 1 l) next

few_more : (n : ℕ) (xs later : List Expected) (x : Expected) → n ≤ length xs → drop n xs ≡ x ∷ later → n + 1 ≤ length xs
few_more n xs later x few next =
    let whole = ap length (sym (take-append-drop n xs) ∙ ap (λ l. take n xs ++ l) next) in
    let long = length-append (take n xs) (x ∷ later) in
    let front = length-take-le n xs few in
    omega (arith, whole, long, front)

pub agrees_more : (own : ℕ) (wanted : List Expected) (came : List ℕ) (part part' : OpenPart) (rest rest' : List ℕ)
    (agreed : ℕ) (f : Fed) (frame : Frame) (first : Expected) (later : List Expected) (reply : Reply)
    → (a : Agrees own wanted came part rest agreed) → FeedsAfter a.heard rest f part'
    → rest' ≡ drop f.used rest → f.found ≡ fed.Frame frame → drop agreed wanted ≡ first ∷ later → Serves first reply
    → frame ≡ reply_frame own reply → Agrees own wanted came part' rest' (agreed + 1)
agrees_more own wanted came part part' rest rest' agreed f frame first later reply a feeds rest_is found_is next serves
    is =
    let h = heard_more own wanted came part part' rest rest' agreed f a feeds rest_is in
    record {
      heard = h.heard;
      replies = a.replies ++ reply ∷ [];
      joined = h.joined;
      left = h.left;
      few = few_more agreed wanted later first a.few next;
      served = subst (λ l. ServeAll l (a.replies ++ reply ∷ [])) (sym (take_more agreed wanted later first a.few next))
          (serve_more (take agreed wanted) a.replies first reply a.served serves);
      found_are = h.found_are ∙ ap (λ x. replies_found own a.replies ++ findings_of x) found_is
          ∙ ap (λ x. replies_found own a.replies ++ Ok x ∷ []) is
          ∙ sym (map-append (λ r. Ok (reply_frame own r)) a.replies (reply ∷ []));
    }

-- ---- The verdict.

pub judged_end : (own : ℕ) (wanted : List Expected) (came : List ℕ) (part : OpenPart) (rest : List ℕ) (agreed : ℕ)
    (verdict : Verdict) → Agrees own wanted came part rest agreed → rest ≡ []
    → Stands own (drop agreed wanted) [] verdict → IsJudged own wanted (found came) verdict
judged_end own wanted came part rest agreed verdict a none stands = record {
  met = take agreed wanted;
  next = drop agreed wanted;
  agreed = a.replies;
  more = [];
  wanted_are = sym (take-append-drop agreed wanted);
  served = a.served;
  found_are = ap found (sym a.joined ∙ ap (λ r. a.heard ++ r) none ∙ append-nil a.heard) ∙ a.found_are
      ∙ sym (append-nil (replies_found own a.replies));
  stands = stands;
}

pub judged_at : (own : ℕ) (wanted : List Expected) (came : List ℕ) (part part' : OpenPart) (rest rest' : List ℕ)
    (agreed : ℕ) (f : Fed) (finding : Finding) (verdict : Verdict)
    → (a : Agrees own wanted came part rest agreed) → FeedsAfter a.heard rest f part'
    → rest' ≡ drop f.used rest → findings_of f.found ≡ finding ∷ []
    → ((after : List Finding) → Stands own (drop agreed wanted) (finding ∷ after) verdict)
    → IsJudged own wanted (found came) verdict
judged_at own wanted came part part' rest rest' agreed f finding verdict a feeds rest_is found_is stands =
    let h = heard_more own wanted came part part' rest rest' agreed f a feeds rest_is in
    let after = found_beyond (open_part h.heard) rest' in
    record {
      met = take agreed wanted;
      next = drop agreed wanted;
      agreed = a.replies;
      more = finding ∷ after;
      wanted_are = sym (take-append-drop agreed wanted);
      served = a.served;
      found_are = ap found (sym h.joined) ∙ (comes_after_lem h.heard rest').found
          ∙ ap (λ fs. fs ++ after) (h.found_are
          ∙ ap (λ fs. replies_found own a.replies ++ fs) found_is)
          ∙ append_assoc (replies_found own a.replies) (finding ∷ []) after;
      stands = stands after;
    }

-- ---- Kept, and nothing else, where what was found is the replies that are wanted.

-- behind replies that agree what is wanted was found too
behind : (own : ℕ) (met next : List Expected) (agreed replies : List Reply) (more : List Finding) → ServeAll met agreed
    → ServeAll (met ++ next) replies → replies_found own agreed ++ more ≡ replies_found own replies
    → AreWanted own next more
behind own [] next [] replies more all these same = (replies, these, same)
behind own [] next (a ∷ agreed) replies more all these same = absurd all
behind own (m ∷ met) next [] replies more all these same = absurd all
behind own (m ∷ met) next (a ∷ agreed) [] more all these same = absurd these
behind own (m ∷ met) next (a ∷ agreed) (r ∷ replies) more (head, all) (first, these) same =
    behind own met next agreed replies more all these (ap (drop 1) same)

-- a reply is told by its frame
reply_by_frame : (own : ℕ) (a b : Reply) → reply_frame own a ≡ reply_frame own b → a ≡ b
reply_by_frame own a b same = grind (arith, same)

first_of : (xs ys : List Finding) (x y : Finding) → x ∷ xs ≡ y ∷ ys → x ≡ y
first_of xs ys x y same = grind (arith, same)

frame_of : (a b : Frame) → (let x : Finding = Ok a in x) ≡ Ok b → a ≡ b
frame_of a b same = grind (arith, same)

stands_kept : (own : ℕ) (next : List Expected) (more : List Finding) (v : Verdict) → Stands own next more v
    → AreWanted own next more → v ≡ Kept
stands_kept own next more Kept stands are = refl
stands_kept own [] more (Missing reply) (none, (later, is)) are = absurd (grind (arith, is))
stands_kept own (w ∷ next) more (Missing reply) (none, (later, is)) ([], all, same) = absurd all
stands_kept own (w ∷ next) more (Missing reply) (none, (later, is)) (r ∷ replies, all, same) =
    absurd (grind (arith, none, same))
stands_kept own [] more (Another reply came) (other, (later, is), (after, first)) are = absurd (grind (arith, is))
stands_kept own (w ∷ next) more (Another reply came) (other, (later, is), (after, first)) ([], all, same) = absurd all
stands_kept own (w ∷ next) more (Another reply came) (other, (later, is), (after, first))
    (r ∷ replies, (head, all), same) =
    let wanted : w ≡ reply = grind (arith, is) in
    let finding = first_of after (replies_found own replies) (Ok (reply_frame own came)) (Ok (reply_frame own r))
    (sym first ∙ same) in
    let is_came = reply_by_frame own came r (frame_of (reply_frame own came) (reply_frame own r) finding) in
    absurd (other (subst (λ c. Serves reply c) (sym is_came) (subst (λ e. Serves e r) wanted head)))
stands_kept own (w ∷ next) more (TooMany came) (none, (after, first)) are = absurd (grind (arith, none))
stands_kept own [] more (TooMany came) (none, (after, first)) (r ∷ replies, all, same) = absurd all
stands_kept own [] more (TooMany came) (none, (after, first)) ([], all, same) = absurd (grind (arith, first, same))
stands_kept own next more NoReply (frame, other, (after, first)) ([], all, same) = absurd (grind (arith, first, same))
stands_kept own next more NoReply (frame, other, (after, first)) (r ∷ replies, all, same) =
    absurd (other r (frame_of frame (reply_frame own r)
    (first_of after (replies_found own replies) (Ok frame) (Ok (reply_frame own r)) (sym first ∙ same))))
stands_kept own next more (Dropped fault) (after, first) ([], all, same) = absurd (grind (arith, first, same))
stands_kept own next more (Dropped fault) (after, first) (r ∷ replies, all, same) =
    absurd (grind (arith, first, same))

pub kept_exactly : (own : ℕ) (wanted : List Expected) (findings : List Finding) (v : Verdict)
    → IsJudged own wanted findings v → (v ≡ Kept) ↔ AreWanted own wanted findings
kept_exactly own wanted findings v j = (
  λ is. whole j (subst (Stands own j.next j.more) is j.stands),
  λ are. stands_kept own j.next j.more v j.stands (rest j are),
)
  where
    whole : (j : IsJudged own wanted findings v) → Stands own j.next j.more Kept → AreWanted own wanted findings
    whole j (no_next, no_more) = (
      j.agreed,
      subst (λ l. ServeAll l j.agreed) (sym j.wanted_are) (serve_both j.met j.next j.agreed j.served no_next),
      j.found_are ∙ ap (λ fs. replies_found own j.agreed ++ fs) no_more ∙ append-nil (replies_found own j.agreed),
    )

    rest : (j : IsJudged own wanted findings v) → AreWanted own wanted findings → AreWanted own j.next j.more
    rest j (replies, all, same) =
        behind own j.met j.next j.agreed replies j.more j.served
        (subst (λ l. ServeAll l replies) j.wanted_are all) (sym j.found_are ∙ same)
