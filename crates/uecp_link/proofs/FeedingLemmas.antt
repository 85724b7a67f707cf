-- The ends are fed piece after piece.
use Rattle.std.proofs.Common.{◌≡◌, ℕ, ◌==◌, true, List, [], ◌∷◌, ◌++◌, length, take, drop, Option, Some, None, Ok, Err}
use Rattle.std.proofs.Common.{refl, ◌∙◌, ap, sym, take-append-drop, suc, arith}
use Rattle.std.specs.List.{last_or, cons_option}
use Rattle.std.specs.Option.{option_or}
use Rattle.std.specs.Prelude.{option_to_list, filter_map}
use Rattle.std.proofs.lemmas.Bool.{eqb-true}
use Rattle.std.proofs.lemmas.List.Elements.{filter_map-append}
use Rattle.uecp_elements.specs.declared.code.Code.{Code}
use Rattle.uecp_frame.specs.Findings.{Finding, OpenPart}
use Rattle.uecp_frame.specs.Beyond.{found_beyond, open_beyond}
use Rattle.uecp_frame.specs.declared.fed.Fed.{Fed}
use Rattle.uecp_frame.specs.Feeding.{Feeds, findings_of}
use Rattle.uecp_frame.proofs.Public.{in_pieces_lem, new_start_lem}
use Rattle.uecp_encoder.specs.Target.{Step}
use Rattle.uecp_encoder.specs.State.{EncoderState, after_finding, after_findings, fed}
use Rattle.uecp_encoder.proofs.Public.{in_pieces_of_encoder, findings_open, fed-part}
use Rattle.uecp_link.specs.declared.heard.HeardWhat.{HeardWhat}
use Rattle.uecp_link.specs.Server.{ServerState, acknowledges, freed, heard_finding, heard_findings, heard, heard_as}
use Rattle.uecp_link.specs.Server.{all_heard_as}
use Rattle.uecp_encoder.specs.ReplyCodes.{reply_to, replies_to, replies}
use Rattle.uecp_link.specs.Replying.{code_heard, acknowledgements, IsInPieces}

last_or-append : {A : Type 0} (before : Option A) (xs ys : List A)
    → last_or before (xs ++ ys) ≡ last_or (last_or before xs) ys
last_or-append before [] ys = refl
last_or-append before (a ∷ xs) ys = last_or-append (Some a) xs ys

-- the last of what one call says
pub last_said : {A : Type 0} (before said : Option A) → option_or said before ≡ last_or before (option_to_list said)
last_said before None = refl
last_said before (Some a) = refl

-- ---- any end
module _ {E S : Type 0} (after : E → List ℕ → E) (says : E → List ℕ → List S)
    (pieces : (e : E) (x y : List ℕ) → IsInPieces after says e x y) where
  -- one piece more of what is left to give
  pub after_on : (e e' : E) (n : ℕ) (rest rest' : List ℕ) → e' ≡ after e (take n rest) → rest' ≡ drop n rest
      → after e' rest' ≡ after e rest
  after_on e e' n rest rest' e_is rest_is =
      ap (λ d. after d rest') e_is ∙ ap (after (after e (take n rest))) rest_is
      ∙ sym (pieces e (take n rest) (drop n rest)).state ∙ ap (after e) (take-append-drop n rest)

  pub said_on : (e e' : E) (n : ℕ) (rest rest' : List ℕ) (last last' : Option S) → e' ≡ after e (take n rest)
      → rest' ≡ drop n rest → last' ≡ last_or last (says e (take n rest)) →
      last_or last' (says e' rest') ≡ last_or last (says e rest)
  said_on e e' n rest rest' last last' e_is rest_is last_is =
      let front : List S = says e (take n rest) in
      ap (λ l. last_or l (says e' rest')) last_is ∙ ap (λ d. last_or (last_or last front) (says d rest')) e_is
      ∙ ap (λ r. last_or (last_or last front) (says (after e (take n rest)) r)) rest_is
      ∙ sym (last_or-append last front (says (after e (take n rest)) (drop n rest)))
      ∙ ap (last_or last) (sym (pieces e (take n rest) (drop n rest)).said ∙ ap (says e) (take-append-drop n rest))

-- ---- the encoder
cons_option-append : {A : Type 0} (o : Option A) (xs ys : List A) → cons_option o (xs ++ ys) ≡ cons_option o xs ++ ys
cons_option-append None xs ys = refl
cons_option-append (Some a) xs ys = refl

replies_to-append : {V : Type 0} (step : Step V) (e : EncoderState V) (xs ys : List Finding)
    → replies_to step e (xs ++ ys) ≡ replies_to step e xs ++ replies_to step (after_findings step e xs) ys
replies_to-append step e [] ys = refl
replies_to-append step e (x ∷ xs) ys =
    ap (cons_option (reply_to step e x)) (replies_to-append step (after_finding step e x) xs ys)
    ∙ cons_option-append (reply_to step e x) (replies_to step (after_finding step e x) xs)
    (replies_to step (after_findings step (after_finding step e x) xs) ys)

-- the open part is no matter of replies
replies_open : {V : Type 0} (step : Step V) (e : EncoderState V) (o : OpenPart) (xs : List Finding)
    → replies_to step (record e { part = o }) xs ≡ replies_to step e xs
replies_open step e o [] = refl
replies_open step e o (x ∷ xs) =
    ap (cons_option (reply_to step (record e { part = o }) x))
    (ap (λ d. replies_to step d xs) (findings_open step e o (x ∷ []))
    ∙ replies_open step (after_finding step e x) o xs)
    ∙ ap (λ r. cons_option r (replies_to step (after_finding step e x) xs)) (reply_open x)
  where
    reply_open : (x : Finding) → reply_to step (record e { part = o }) x ≡ reply_to step e x
    reply_open (Err fault) = refl
    reply_open (Ok f) = refl

replies-append : {V : Type 0} (step : Step V) (e : EncoderState V) (x y : List ℕ)
    → replies step e (x ++ y) ≡ replies step e x ++ replies step (fed step e x) y
replies-append step e x y =
    let pieces = in_pieces_lem e.part x y in
    let xs : List Finding = found_beyond e.part x in
    let ys : List Finding = found_beyond (open_beyond e.part x) y in
    ap (replies_to step e) pieces.found ∙ replies_to-append step e xs ys
    ∙ ap (λ rs. replies step e x ++ rs)
    (sym (replies_open step (after_findings step e xs) (open_beyond e.part x) ys)
    ∙ ap (λ d. replies_to step d ys) (sym (findings_open step e (open_beyond e.part x) xs))
    ∙ ap (λ p. replies_to step (fed step e x) (found_beyond p y)) (sym (fed-part step e x)))

pub encoder_in_pieces : {V : Type 0} (step : Step V) (e : EncoderState V) (x y : List ℕ)
    → IsInPieces (fed step) (replies step) e x y
encoder_in_pieces step e x y = record {
  state = (in_pieces_of_encoder step e x y).state;
  said = replies-append step e x y;
}

pub empty_is : (xs : List ℕ) → true ≡ (length xs == 0) → xs ≡ []
empty_is [] h = refl
empty_is (x ∷ xs) h = absurd (let k : suc (length xs) ≡ 0 = eqb-true (suc (length xs)) 0 (sym h) in omega arith)

pub fed_none : {V : Type 0} (step : Step V) (e : EncoderState V) → fed step e [] ≡ e
fed_none step e =
    ap (λ fs. after_findings step (record e { part = open_beyond e.part [] }) fs) (new_start_lem e.part []).nothing
    ∙ ap (λ o. record e { part = o }) (new_start_lem e.part []).stays

pub replies_none : {V : Type 0} (step : Step V) (e : EncoderState V) → replies step e [] ≡ []
replies_none step e = ap (replies_to step e) (new_start_lem e.part []).nothing

-- ---- the server
pub heard_none : (s : ServerState) → heard s [] ≡ s
heard_none s =
    ap (λ fs. heard_findings (record s { part = open_beyond s.part [] }) fs) (new_start_lem s.part []).nothing
    ∙ ap (λ o. record s { part = o }) (new_start_lem s.part []).stays

pub acknowledgements_none : (s : ServerState) → acknowledgements s [] ≡ []
acknowledgements_none s = ap (λ fs. filter_map code_heard (all_heard_as s fs)) (new_start_lem s.part []).nothing

heard_findings-append : (s : ServerState) (xs ys : List Finding)
    → heard_findings s (xs ++ ys) ≡ heard_findings (heard_findings s xs) ys
heard_findings-append s [] ys = refl
heard_findings-append s (x ∷ xs) ys = heard_findings-append (heard_finding s x) xs ys

all_heard_as-append : (s : ServerState) (xs ys : List Finding)
    → all_heard_as s (xs ++ ys) ≡ all_heard_as s xs ++ all_heard_as (heard_findings s xs) ys
all_heard_as-append s [] ys = refl
all_heard_as-append s (x ∷ xs) ys = ap (λ ws. heard_as s x ∷ ws) (all_heard_as-append (heard_finding s x) xs ys)

abbrev pub with_open : ServerState → OpenPart → ServerState
with_open s o = record s { part = o }

finding_open : (s : ServerState) (o : OpenPart) (x : Finding)
    → heard_finding (with_open s o) x ≡ with_open (heard_finding s x) o
finding_open s o (Err fault) = refl
finding_open s o (Ok f) = go (acknowledges s f)
  where
    go : (k : Option (ℕ × Code)) → freed (with_open s o) k ≡ with_open (freed s k) o
    go None = refl
    go (Some reply) = refl

pub heard_open : (s : ServerState) (o : OpenPart) (xs : List Finding)
    → heard_findings (with_open s o) xs ≡ with_open (heard_findings s xs) o
heard_open s o [] = refl
heard_open s o (x ∷ xs) = ap (λ t. heard_findings t xs) (finding_open s o x) ∙ heard_open (heard_finding s x) o xs

all_open : (s : ServerState) (o : OpenPart) (xs : List Finding) → all_heard_as (with_open s o) xs ≡ all_heard_as s xs
all_open s o [] = refl
all_open s o (x ∷ xs) =
    ap (λ ws. heard_as (with_open s o) x ∷ ws) (ap (λ t. all_heard_as t xs) (finding_open s o x)
    ∙ all_open (heard_finding s x) o xs)
    ∙ ap (λ w. w ∷ all_heard_as (heard_finding s x) xs) (same x)
  where
    same : (x : Finding) → heard_as (with_open s o) x ≡ heard_as s x
    same (Err fault) = refl
    same (Ok f) = refl

heard-part : (s : ServerState) (x : List ℕ) → (heard s x).part ≡ open_beyond s.part x
heard-part s x = ap (λ t. t.part) (heard_open s (open_beyond s.part x) (found_beyond s.part x))

heard-append : (s : ServerState) (x y : List ℕ) → heard s (x ++ y) ≡ heard (heard s x) y
heard-append s x y =
    let pieces = in_pieces_lem s.part x y in
    let o : OpenPart = open_beyond (open_beyond s.part x) y in
    let ys : List Finding = found_beyond (open_beyond s.part x) y in
    ap (λ p. heard_findings (with_open s p) (found_beyond s.part (x ++ y))) pieces.left
    ∙ ap (heard_findings (with_open s o)) pieces.found
    ∙ heard_findings-append (with_open s o) (found_beyond s.part x) ys
    ∙ ap (λ t. heard_findings t ys) (heard_open s o (found_beyond s.part x)
    ∙ sym (ap (λ t. with_open t o) (heard_open s (open_beyond s.part x) (found_beyond s.part x))))
    ∙ ap (λ p. heard_findings (with_open (heard s x) (open_beyond p y)) (found_beyond p y)) (sym (heard-part s x))

-- what the server says of two pieces, as far as it is of one kind
pub said-append : {A : Type 0} (kind : HeardWhat → Option A) (s : ServerState) (x y : List ℕ)
    → filter_map kind (all_heard_as s (found_beyond s.part (x ++ y)))
    ≡ filter_map kind (all_heard_as s (found_beyond s.part x))
    ++ filter_map kind (all_heard_as (heard s x) (found_beyond (heard s x).part y))
said-append kind s x y =
    let pieces = in_pieces_lem s.part x y in
    let xs : List Finding = found_beyond s.part x in
    let ys : List Finding = found_beyond (open_beyond s.part x) y in
    ap (λ fs. filter_map kind (all_heard_as s fs)) pieces.found
    ∙ ap (filter_map kind) (all_heard_as-append s xs ys)
    ∙ filter_map-append kind (all_heard_as s xs) (all_heard_as (heard_findings s xs) ys)
    ∙ ap (λ ws. filter_map kind (all_heard_as s xs) ++ filter_map kind ws)
    (sym (all_open (heard_findings s xs) (open_beyond s.part x) ys)
    ∙ ap (λ t. all_heard_as t ys) (sym (heard_open s (open_beyond s.part x) xs))
    ∙ ap (λ p. all_heard_as (heard s x) (found_beyond p y)) (sym (heard-part s x)))

acknowledgements-append : (s : ServerState) (x y : List ℕ)
    → acknowledgements s (x ++ y) ≡ acknowledgements s x ++ acknowledgements (heard s x) y
acknowledgements-append s x y = said-append code_heard s x y

pub server_in_pieces : (s : ServerState) (x y : List ℕ) → IsInPieces heard acknowledgements s x y
server_in_pieces s x y = record { state = heard-append s x y; said = acknowledgements-append s x y }

-- more is heard after what was heard before
pub heard_on : (s0 s1 s2 : ServerState) (x y : List ℕ) → s1 ≡ heard s0 x → s2 ≡ heard s1 y → s2 ≡ heard s0 (x ++ y)
heard_on s0 s1 s2 x y before after = after ∙ ap (λ d. heard d y) before ∙ sym (server_in_pieces s0 x y).state

-- ---- noise
pub found_split : (o : OpenPart) (n : ℕ) (bytes : List ℕ)
    → found_beyond o bytes ≡ found_beyond o (take n bytes) ++ found_beyond (open_beyond o (take n bytes)) (drop n bytes)
found_split o n bytes = ap (found_beyond o) (sym (take-append-drop n bytes))
    ∙ (in_pieces_lem o (take n bytes) (drop n bytes)).found

pub found_none : (o : OpenPart) → found_beyond o [] ≡ []
found_none o = (new_start_lem o []).nothing

pub noise_on : (o o' : OpenPart) (f : Fed) (rest rest' : List ℕ) → Feeds o rest f o' → rest' ≡ drop f.used rest
    → found_beyond o rest ≡ findings_of f.found ++ found_beyond o' rest'
noise_on o o' f rest rest' feeds rest_is =
    found_split o f.used rest ∙ ap (λ fs. fs ++ found_beyond (open_beyond o (take f.used rest)) (drop f.used rest))
    feeds.answer
    ∙ ap (λ p. findings_of f.found ++ found_beyond p (drop f.used rest)) feeds.left
    ∙ ap (λ r. findings_of f.found ++ found_beyond o' r) (sym rest_is)
