-- What an end has counted is no matter of what it does.
use Rattle.std.proofs.Common.{◌≡◌, ℕ, ◌==◌, Bool, true, false, cond, List, [], ◌∷◌, ◌++◌, Option, Some, None, Ok, Err}
use Rattle.std.proofs.Common.{refl, ap, sym, ◌∙◌, append_assoc}
use Rattle.std.specs.Prelude.{flat_map}
use Rattle.uecp_frame.proofs.Public.{in_pieces_lem}
use Rattle.uecp_elements.specs.declared.code.Code.{Code}
use Rattle.uecp_frame.specs.declared.frame.Frame.{Frame}
use Rattle.uecp_frame.specs.Address.{reaches}
use Rattle.uecp_frame.specs.Findings.{Finding, OpenPart, has_frame}
use Rattle.uecp_frame.specs.Beyond.{found_beyond, open_beyond}
use Rattle.reply_ring.specs.Ring.{kept_code}
use Rattle.uecp_encoder.specs.Target.{Step}
use Rattle.uecp_encoder.specs.State.{EncoderState, no_counts, raised, is_next, applied, numbered, after_finding}
use Rattle.uecp_encoder.specs.State.{after_findings, fed}
use Rattle.uecp_encoder.specs.Answering.{Response, response_to, responses, bytes_sent, answers}
use Rattle.uecp_encoder.proofs.Public.{fed-part, findings_open}
use Rattle.uecp_link.specs.Server.{ServerState, nothing_counted, acknowledges, freed, heard_finding, heard_findings}
use Rattle.uecp_link.specs.Server.{heard}
use Rattle.uecp_link.proofs.Public.{heard_open}
use Rattle.promises.specs.DeviceLives.{Deed, deeds_in, deeds_among, deeds_of}

-- ---- an encoder
abbrev pub uncounted : {V : Type 0} → EncoderState V → EncoderState V
uncounted e = record e { counts = no_counts }

module _ {V : Type 0} (step : Step V) where
  finding_uncounted : (e : EncoderState V) (x : Finding)
      → uncounted (after_finding step (uncounted e) x) ≡ uncounted (after_finding step e x)
  finding_uncounted e (Err fault) = refl
  finding_uncounted e (Ok f) = go (reaches f.address e.address) (f.counter == 0) (kept_code e.ring f.counter)
    where
      next : (b : Bool)
          → uncounted (cond b (applied step (uncounted e) f) (uncounted e)) ≡ uncounted (cond b (applied step e f) e)
      next true = refl
      next false = refl

      go : (r z : Bool) (k : Option Code) →
          uncounted (cond r (cond z (record (uncounted e) { counts = record no_counts { unnumbered = raised 0 } })
          (numbered step (uncounted e) f k)) (record (uncounted e) {
            counts = record no_counts {
              not_for_me = raised
                  0;
            };
          }))
          ≡ uncounted (cond r
          (cond z (record e { counts = record e.counts { unnumbered = raised e.counts.unnumbered } })
          (numbered step e f k)) (record e { counts = record e.counts { not_for_me = raised e.counts.not_for_me } }))
      go true true k = refl
      go true false (Some c) = refl
      go true false None = next (is_next e.ring f.counter)
      go false z k = refl

  pub findings_uncounted : (e : EncoderState V) (xs : List Finding)
      → uncounted (after_findings step (uncounted e) xs) ≡ uncounted (after_findings step e xs)
  findings_uncounted e [] = refl
  findings_uncounted e (x ∷ xs) =
      sym (findings_uncounted (after_finding step (uncounted e) x) xs)
      ∙ ap (λ (d : EncoderState V). uncounted (after_findings step d xs)) (finding_uncounted e x)
      ∙ findings_uncounted (after_finding step e x) xs

  response_uncounted : (e : EncoderState V) (x : Finding) → response_to step (uncounted e) x ≡ response_to step e x
  response_uncounted e (Err fault) = refl
  response_uncounted e (Ok f) = refl

  responses_uncounted : (e : EncoderState V) (xs : List Finding)
      → responses step (uncounted e) xs ≡ responses step e xs
  responses_uncounted e [] = refl
  responses_uncounted e (x ∷ xs) =
      ap (λ (r : Response). r ∷ responses step (after_finding step (uncounted e) x) xs) (response_uncounted e x)
      ∙ ap (λ (rs : List Response). response_to step e x ∷ rs)
      (sym (responses_uncounted (after_finding step (uncounted e) x) xs)
      ∙ ap (λ (d : EncoderState V). responses step d xs) (finding_uncounted e x)
      ∙ responses_uncounted (after_finding step e x) xs)

  deed_uncounted : (e : EncoderState V) (x : Finding) → deeds_in step (uncounted e) x ≡ deeds_in step e x
  deed_uncounted e (Err fault) = refl
  deed_uncounted e (Ok f) = refl

  deeds_uncounted : (e : EncoderState V) (xs : List Finding)
      → deeds_among step (uncounted e) xs ≡ deeds_among step e xs
  deeds_uncounted e [] = refl
  deeds_uncounted e (x ∷ xs) =
      ap (λ (ds : List Deed). ds ++ deeds_among step (after_finding step (uncounted e) x) xs) (deed_uncounted e x)
      ∙ ap (λ (ds : List Deed). deeds_in step e x ++ ds)
      (sym (deeds_uncounted (after_finding step (uncounted e) x) xs)
      ∙ ap (λ (d : EncoderState V). deeds_among step d xs) (finding_uncounted e x)
      ∙ deeds_uncounted (after_finding step e x) xs)

  -- two encoders that differ in counts alone do the same
  pub fed_alike : (e d : EncoderState V) (x : List ℕ) → uncounted e ≡ uncounted d
      → uncounted (fed step e x) ≡ uncounted (fed step d x)
  fed_alike e d x same =
      sym (findings_uncounted (record e { part = open_beyond e.part x }) (found_beyond e.part x))
      ∙ ap (λ (u : EncoderState V). uncounted (fed step u x)) same
      ∙ findings_uncounted (record d { part = open_beyond d.part x }) (found_beyond d.part x)

  pub answers_alike : (e d : EncoderState V) (x : List ℕ) → uncounted e ≡ uncounted d
      → answers step e x ≡ answers step d x
  answers_alike e d x same =
      ap (flat_map bytes_sent) (sym (responses_uncounted e (found_beyond e.part x)))
      ∙ ap (λ (u : EncoderState V). answers step u x) same
      ∙ ap (flat_map bytes_sent) (responses_uncounted d (found_beyond d.part x))

  pub deeds_alike : (e d : EncoderState V) (x : List ℕ) → uncounted e ≡ uncounted d
      → deeds_of step e x ≡ deeds_of step d x
  deeds_alike e d x same =
      sym (deeds_uncounted e (found_beyond e.part x))
      ∙ ap (λ (u : EncoderState V). deeds_of step u x) same
      ∙ deeds_uncounted d (found_beyond d.part x)

  -- ---- where no frame is found

  pub faults_leave : (e : EncoderState V) (xs : List Finding) → has_frame xs ≡ false
      → uncounted (after_findings step e xs) ≡ uncounted e
  faults_leave e [] none = refl
  faults_leave e (Err fault ∷ xs) none = faults_leave (after_finding step e (Err fault)) xs none
  faults_leave e (Ok f ∷ xs) none = absurd (cc)

  faults_answer : (e : EncoderState V) (xs : List Finding) → has_frame xs ≡ false
      → flat_map bytes_sent (responses step e xs) ≡ []
  faults_answer e [] none = refl
  faults_answer e (Err fault ∷ xs) none = faults_answer (after_finding step e (Err fault)) xs none
  faults_answer e (Ok f ∷ xs) none = absurd (cc)

  faults_do : (e : EncoderState V) (xs : List Finding) → has_frame xs ≡ false → deeds_among step e xs ≡ []
  faults_do e [] none = refl
  faults_do e (Err fault ∷ xs) none = faults_do (after_finding step e (Err fault)) xs none
  faults_do e (Ok f ∷ xs) none = absurd (cc)

  pub quiet_fed : (e : EncoderState V) (x : List ℕ) → has_frame (found_beyond e.part x) ≡ false
      → uncounted (fed step e x) ≡ uncounted (record e { part = open_beyond e.part x })
  quiet_fed e x none = faults_leave (record e { part = open_beyond e.part x }) (found_beyond e.part x) none

  pub quiet_answers : (e : EncoderState V) (x : List ℕ) → has_frame (found_beyond e.part x) ≡ false
      → answers step e x ≡ []
  quiet_answers e x none = faults_answer e (found_beyond e.part x) none

  pub quiet_deeds : (e : EncoderState V) (x : List ℕ) → has_frame (found_beyond e.part x) ≡ false
      → deeds_of step e x ≡ []
  quiet_deeds e x none = faults_do e (found_beyond e.part x) none

  -- ---- the deeds of bytes in two pieces

  abbrev with_open : EncoderState V → OpenPart → EncoderState V
  with_open e o = record e { part = o }

  next_open : (e : EncoderState V) (o : OpenPart) (f : Frame) (b : Bool)
      → cond b (applied step (with_open e o) f) (with_open e o) ≡ with_open (cond b (applied step e f) e) o
  next_open e o f true = refl
  next_open e o f false = refl

  finding_open : (e : EncoderState V) (o : OpenPart) (x : Finding)
      → after_finding step (with_open e o) x ≡ with_open (after_finding step e x) o
  finding_open e o (Err fault) = refl
  finding_open e o (Ok f) = go (reaches f.address e.address) (f.counter == 0) (kept_code e.ring f.counter)
    where
      go : (r z : Bool) (k : Option Code) →
          cond r
          (cond z (record (with_open e o) { counts = record e.counts { unnumbered = raised e.counts.unnumbered } })
          (numbered step (with_open e o) f k))
          (record (with_open e o) { counts = record e.counts { not_for_me = raised e.counts.not_for_me } })
          ≡ with_open (cond r
          (cond z (record e { counts = record e.counts { unnumbered = raised e.counts.unnumbered } })
          (numbered step e f k))
          (record e { counts = record e.counts { not_for_me = raised e.counts.not_for_me } })) o
      go true true k = refl
      go true false (Some c) = refl
      go true false None = next_open e o f (is_next e.ring f.counter)
      go false z k = refl

  deed_open : (e : EncoderState V) (o : OpenPart) (x : Finding) → deeds_in step (with_open e o) x ≡ deeds_in step e x
  deed_open e o (Err fault) = refl
  deed_open e o (Ok f) = refl

  deeds_open : (e : EncoderState V) (o : OpenPart) (xs : List Finding)
      → deeds_among step (with_open e o) xs ≡ deeds_among step e xs
  deeds_open e o [] = refl
  deeds_open e o (x ∷ xs) =
      ap (λ (ds : List Deed). ds ++ deeds_among step (after_finding step (with_open e o) x) xs) (deed_open e o x)
      ∙ ap (λ (ds : List Deed). deeds_in step e x ++ ds)
      (ap (λ (d : EncoderState V). deeds_among step d xs) (finding_open e o x)
      ∙ deeds_open (after_finding step e x) o xs)

  deeds-append : (e : EncoderState V) (xs ys : List Finding)
      → deeds_among step e (xs ++ ys) ≡ deeds_among step e xs ++ deeds_among step (after_findings step e xs) ys
  deeds-append e [] ys = refl
  deeds-append e (x ∷ xs) ys =
      ap (λ (ds : List Deed). deeds_in step e x ++ ds) (deeds-append (after_finding step e x) xs ys)
      ∙ sym (append_assoc (deeds_in step e x) (deeds_among step (after_finding step e x) xs)
      (deeds_among step (after_findings step (after_finding step e x) xs) ys))

  pub deeds_in_pieces : (e : EncoderState V) (x y : List ℕ)
      → deeds_of step e (x ++ y) ≡ deeds_of step e x ++ deeds_of step (fed step e x) y
  deeds_in_pieces e x y =
      let pieces = in_pieces_lem e.part x y in
      let xs : List Finding = found_beyond e.part x in
      let ys : List Finding = found_beyond (open_beyond e.part x) y in
      ap (deeds_among step e) pieces.found
      ∙ deeds-append e xs ys
      ∙ ap (λ (ds : List Deed). deeds_of step e x ++ ds)
      (sym (deeds_open (after_findings step e xs) (open_beyond e.part x) ys)
      ∙ ap (λ (d : EncoderState V). deeds_among step d ys) (sym (findings_open step e (open_beyond e.part x) xs))
      ∙ ap (λ (p : OpenPart). deeds_among step (fed step e x) (found_beyond p y)) (sym (fed-part step e x)))

-- ---- a server
abbrev pub unheard : ServerState → ServerState
unheard s = record s { counts = nothing_counted }

freed_unheard : (s : ServerState) (reply : Option (ℕ × Code))
    → unheard (freed (unheard s) reply) ≡ unheard (freed s reply)
freed_unheard s None = refl
freed_unheard s (Some reply) = refl

finding_unheard : (s : ServerState) (x : Finding) → unheard (heard_finding (unheard s) x) ≡ unheard (heard_finding s x)
finding_unheard s (Err fault) = refl
finding_unheard s (Ok f) = freed_unheard s (acknowledges s f)

findings_unheard : (s : ServerState) (xs : List Finding)
    → unheard (heard_findings (unheard s) xs) ≡ unheard (heard_findings s xs)
findings_unheard s [] = refl
findings_unheard s (x ∷ xs) =
    sym (findings_unheard (heard_finding (unheard s) x) xs)
    ∙ ap (λ (t : ServerState). unheard (heard_findings t xs)) (finding_unheard s x)
    ∙ findings_unheard (heard_finding s x) xs

pub heard_alike : (s t : ServerState) (x : List ℕ) → unheard s ≡ unheard t → unheard (heard s x) ≡ unheard (heard t x)
heard_alike s t x same =
    sym (findings_unheard (record s { part = open_beyond s.part x }) (found_beyond s.part x))
    ∙ ap (λ (u : ServerState). unheard (heard u x)) same
    ∙ findings_unheard (record t { part = open_beyond t.part x }) (found_beyond t.part x)

faults_unheard : (s : ServerState) (xs : List Finding) → has_frame xs ≡ false
    → unheard (heard_findings s xs) ≡ unheard s
faults_unheard s [] none = refl
faults_unheard s (Err fault ∷ xs) none = faults_unheard (heard_finding s (Err fault)) xs none
faults_unheard s (Ok f ∷ xs) none = absurd (cc)

pub quiet_heard : (s : ServerState) (x : List ℕ) → has_frame (found_beyond s.part x) ≡ false
    → unheard (heard s x) ≡ unheard (record s { part = open_beyond s.part x })
quiet_heard s x none = faults_unheard (record s { part = open_beyond s.part x }) (found_beyond s.part x) none

-- ---- What a server hears in two pieces.

findings_on : (s : ServerState) (xs ys : List Finding)
    → heard_findings s (xs ++ ys) ≡ heard_findings (heard_findings s xs) ys
findings_on s [] ys = refl
findings_on s (x ∷ xs) ys = findings_on (heard_finding s x) xs ys

abbrev server_with : ServerState → OpenPart → ServerState
server_with s o = record s { part = o }

part_of : (s : ServerState) (x : List ℕ) → (heard s x).part ≡ open_beyond s.part x
part_of s x = ap (λ (t : ServerState). t.part) (heard_open s (open_beyond s.part x) (found_beyond s.part x))

pub heard_in_two : (s : ServerState) (x y : List ℕ) → heard s (x ++ y) ≡ heard (heard s x) y
heard_in_two s x y =
    let pieces = in_pieces_lem s.part x y in
    let o : OpenPart = open_beyond (open_beyond s.part x) y in
    let ys : List Finding = found_beyond (open_beyond s.part x) y in
    ap (λ (p : OpenPart). heard_findings (server_with s p) (found_beyond s.part (x ++ y))) pieces.left
    ∙ ap (heard_findings (server_with s o)) pieces.found
    ∙ findings_on (server_with s o) (found_beyond s.part x) ys
    ∙ ap (λ (t : ServerState). heard_findings t ys) (heard_open s o (found_beyond s.part x)
    ∙ sym (ap (λ (t : ServerState). server_with t o) (heard_open s (open_beyond s.part x) (found_beyond s.part x))))
    ∙ ap (λ (p : OpenPart). heard_findings (server_with (heard s x) (open_beyond p y)) (found_beyond p y))
    (sym (part_of s x))
