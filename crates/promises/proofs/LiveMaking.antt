-- What a crash leaves of a server by which the encoder is joined and the station made.
use Rattle.std.proofs.Common.{zero, suc, [], ◌≡◌, ◌⊎◌, ℕ, Bool, true, false, List, Option, Ok, Err, refl, sym, ap}
use Rattle.std.proofs.Common.{subst, ◌∙◌, inl}
use Rattle.std.proofs.Common.{inr}
use Rattle.uecp_elements.specs.declared.code.Code.{Code}
use Rattle.uecp_link.specs.Server.{ServerState}
use Rattle.uecp_net.specs.declared.sender.Outstanding.{Outstanding}
use Rattle.uecp_net.specs.Sending.{SenderOver}
use Rattle.uecp_jobs.specs.Batches.{fault_of}
use Rattle.uecp_net.specs.declared.saved.keep.Progress.{Progress}
use Rattle.uecp_net.specs.declared.saved.batch.KeptOutstanding.TheVariants as kept
use Rattle.uecp_net.specs.Keeping.{KeptServer, kept_of, IsKept}
use Rattle.uecp_net.specs.SavedJoining.{Joined, Joins, OutlivesPass, StaysKeptJoining, HasJoined}
use Rattle.uecp_net.proofs.Public.{begins_anew_lem}
use Rattle.kept_jobs.specs.declared.stop.KeptStop.{KeptStop}
use Rattle.kept_jobs.specs.declared.stop.KeptStop.TheVariants.{Run, StateFailed}
use Rattle.kept_jobs.specs.Stops.{Went, stop_status}
use Rattle.kept_jobs.specs.ServerRun.{Standing}
use Rattle.kept_jobs.proofs.Public.{goes, stopped, goes_not_stopped, told_stops}
use Rattle.output_forms.specs.declared.form.Form.{Form}
use Rattle.sending.specs.Forms.{not_joined_in, station_in}
use Rattle.sending.specs.Station.{SentFor, MakesStation, MakesOne, MakesIf, JoinedTold}
use Rattle.promises.proofs.Statuses.{not_so, joined_status}

module _ {C I O K : Type 0} (opens : C → Option (I × O) → C → Type 0) (closes : C → I → O → C → Type 0)
    (remaining : I → Option (List ℕ)) (contents : O → Option (List ℕ)) (leaves : K → KeptServer → Type 0)
    (is_clean : K → Type 0) (saves fails : K → KeptServer → K → Type 0) (form : Form) (size : ℕ)
    (station : List (List ℕ)) where
  abbrev At : Type 0
  At = Standing (SenderOver C I O) K

  abbrev IsKeptAt : At → Type 0
  IsKeptAt x = IsKept (leaves x.keeper) x.progress x.runs.sender.server

  abbrev kept_at : At → KeptServer
  kept_at x = kept_of x.progress x.runs.sender.server

  abbrev One : (told : List Code) → Joined → (x x' : At) → Type 0
  One = MakesOne opens closes remaining contents leaves is_clean saves fails form size station

  -- what is kept where a first message may be sent
  abbrev pub First : (due : Bool) → At → KeptServer → Type 0
  First false x kept = kept ≡ kept_at x
  First true x kept = (made : SenderOver C I O) × (told : List Code)
      × MakesStation opens closes remaining contents size station told x.runs made (Ok tt)
      × (kept ≡ kept_of (record x.progress { joined = true }) made.sender.server)

  pub record Making (due : Bool) (x x' : At) (went : Went) : Type 0 where
    pub clean : is_clean x'.keeper → is_clean x.keeper
    pub settled : goes ≡ went → IsKeptAt x → is_clean x'.keeper → IsKeptAt x'
    pub first : goes ≡ went → First due x (kept_at x')
    pub outlives : IsKeptAt x → is_clean x'.keeper → (left : KeptServer) → leaves x'.keeper left
        → (left ≡ kept_at x) ⊎ First due x left
    pub counted : x'.progress.taken ≡ x.progress.taken
    pub joined : goes ≡ went → (due ≡ false → x.progress.joined ≡ true) → x'.progress.joined ≡ true
    pub status : (stop : KeptStop) → went ≡ stopped stop → stop_status stop ≡ 3

  joined_stays : (lines : List ℕ) (joined : Joined) (x' : At) (held held' : Option (List ℕ)) (went : Went)
      → JoinedTold form lines joined held held' went → goes ≡ went
      → StaysKeptJoining (leaves x'.keeper) x'.progress x'.runs.sender.server joined → IsKeptAt x'
  joined_stays lines (Ok done) x' held held' went tells is stays = stays
  joined_stays lines (Err (kept.Outstanding reason)) x' held held' went tells is stays =
      absurd (told_stops (not_joined_in form) (Run (fault_of reason)) held held' went tells is)
  joined_stays lines (Err kept.StateFailed) x' held held' went (same, failed) is stays =
      absurd (goes_not_stopped StateFailed (is ∙ failed))

  made_first : (told : List Code) (joined : Joined) (x x' : At) → One told joined x x' → HasJoined joined
      → First true x (kept_at x')
  made_first told (Ok done) x x' one has =
      (x'.runs, told, one.makes.0, ap (λ p. kept_of p x'.runs.sender.server) one.progress)
  made_first told (Err (kept.Outstanding reason)) x x' one has = absurd has
  made_first told (Err kept.StateFailed) x x' one has =
      (x'.runs, told, one.makes.0, ap (λ p. kept_of p x'.runs.sender.server) one.progress)

  told_joined : (lines : List ℕ) (joined : Joined) (held held' : Option (List ℕ)) (went : Went)
      → JoinedTold form lines joined held held' went → goes ≡ went → HasJoined joined
  told_joined lines (Ok done) held held' went tells is = tt
  told_joined lines (Err (kept.Outstanding reason)) held held' went tells is =
      absurd (told_stops (not_joined_in form) (Run (fault_of reason)) held held' went tells is)
  told_joined lines (Err kept.StateFailed) held held' went tells is = tt

  made_counted : (told : List Code) (joined : Joined) (x x' : At) → One told joined x x'
      → x'.progress.taken ≡ x.progress.taken
  made_counted told (Ok done) x x' one = ap (λ (p : Progress). p.taken) one.progress
  made_counted told (Err (kept.Outstanding reason)) x x' one = ap (λ (p : Progress). p.taken) one.progress
  made_counted told (Err kept.StateFailed) x x' one = ap (λ (p : Progress). p.taken) one.progress

  made_joined : (told : List Code) (joined : Joined) (x x' : At) → One told joined x x' → HasJoined joined
      → x'.progress.joined ≡ true
  made_joined told (Ok done) x x' one has = ap (λ (p : Progress). p.joined) one.progress
  made_joined told (Err (kept.Outstanding reason)) x x' one has = absurd has
  made_joined told (Err kept.StateFailed) x x' one has = ap (λ (p : Progress). p.joined) one.progress

  joined_stops : (lines : List ℕ) (joined : Joined) (held held' : Option (List ℕ)) (went : Went)
      → JoinedTold form lines joined held held' went → (stop : KeptStop) → went ≡ stopped stop → stop_status stop ≡ 3
  joined_stops lines joined held held' went tells stop is =
      joined_status form lines joined held held' stop (subst (JoinedTold form lines joined held held') is tells)

  making : (lines : List ℕ) (told : List Code) (joined : Joined) (x x' : At) (went : Went) → One told joined x x'
      → JoinedTold form lines joined x.held x'.held went → Making true x x' went
  making lines told joined x x' went one tells = record {
    clean = one.clean;
    settled = λ is settled clean. joined_stays lines joined x' x.held x'.held went tells is (one.settled clean);
    first = λ is. made_first told joined x x' one (told_joined lines joined x.held x'.held went tells is);
    outlives = λ settled clean left leaves_it. by left (one.outlives settled clean left leaves_it);
    counted = made_counted told joined x x' one;
    joined = λ is before. made_joined told joined x x' one
        (told_joined lines joined x.held x'.held went tells is);
    status = joined_stops lines joined x.held x'.held went tells;
  }
    where
      by : (left : KeptServer)
          → OutlivesPass x.progress x'.progress x.runs.sender.server x'.runs.sender.server joined left
          → (left ≡ kept_at x) ⊎ First true x left
      by left (inl is) = inl is
      by left (inr (is, has)) = inr (subst (λ l. First true x l) (sym is) (made_first told joined x x' one has))

  pub making_if : (due : Bool) (x x' : At) (applied applied' : Bool) (went : Went)
      → MakesIf opens closes remaining contents leaves is_clean saves fails form size station due x x' applied applied'
      went
      → Making due x x' went
  making_if false x x' applied applied' went (same, apply, is) =
      let all : kept_at x' ≡ kept_at x = ap (λ (s : At). kept_of s.progress s.runs.sender.server) same in
      let keeper = ap (λ (s : At). s.keeper) same in
      record {
        clean = λ clean. subst is_clean keeper clean;
        settled = λ is settled clean left leaves_it.
            settled left (subst (λ k. leaves k left) keeper leaves_it) ∙ sym all;
        first = λ is. all;
        outlives = λ settled clean left leaves_it. inl (settled left (subst (λ k. leaves k left) keeper leaves_it));
        counted = ap (λ (s : At). s.progress.taken) same;
        joined = λ is before. ap (λ (s : At). s.progress.joined) same ∙ before refl;
        status = λ stop stops. not_so stop (sym stops ∙ is);
      }
  making_if true x x' applied applied' went (told, joined, one, tells, apply) =
      making _ told joined x x' went one tells

  -- ---- None waits behind it.

  joins_idle : (s s' : SenderOver C I O) → Joins opens closes remaining contents s s' (Ok tt)
      → s.sender.server.held ≡ [] → s'.sender.server.held ≡ []
  joins_idle s s' joins idle =
      let p : Progress = record { taken = 0; joined = false } in
      let done : Joined = Ok tt in
      elim (begins_anew_lem opens closes remaining contents p p s s' done (kept_of p s'.sender.server) refl idle
      (λ has. joins) (inr (refl, tt))) [
        | inl was ↦ was.1
        | inr new ↦ new.1
      ]

  sent_for_idle : (n : ℕ) (messages : List (List ℕ)) (told : List Code) (left : List (List ℕ))
      (s s' : SenderOver C I O) → SentFor opens closes remaining contents size messages n told left s s'
      → s.sender.server.held ≡ [] → s'.sender.server.held ≡ []
  sent_for_idle zero messages told left s s' (none, all, same) idle =
      ap (λ (d : SenderOver C I O). d.sender.server.held) same ∙ idle
  sent_for_idle (suc n) messages told left s s'
      (before, rest, y, more, tries, sent, some, acknowledges, is_told, is_left) idle =
      ap (λ (d : ServerState). d.held) acknowledges.freed

  station_idle : (told : List Code) (s s' : SenderOver C I O)
      → MakesStation opens closes remaining contents size station told s s' (Ok tt)
      → s.sender.server.held ≡ [] → s'.sender.server.held ≡ []
  station_idle told s s' (inl (y, joins, (batches, sent))) idle =
      sent_for_idle batches station told [] y s' sent (joins_idle s y joins idle)
  station_idle told s s' (inr (reason, joins, none, is)) idle = absurd (no_error reason is)
    where
      no_error : (reason : Outstanding) → Ok (tt {0}) ≡ Err reason → ⊥
      no_error reason is = cc

  pub makes_idle : (due : Bool) (x x' : At) (applied applied' : Bool)
      → MakesIf opens closes remaining contents leaves is_clean saves fails form size station due x x' applied applied'
      goes
      → x.runs.sender.server.held ≡ [] → x'.runs.sender.server.held ≡ []
  makes_idle false x x' applied applied' (same, apply, is) idle =
      ap (λ (s : At). s.runs.sender.server.held) same ∙ idle
  makes_idle true x x' applied applied' (told, joined, one, tells, apply) idle = by joined one tells
    where
      by : (joined : Joined) → One told joined x x'
          → JoinedTold form (station_in form station told) joined x.held x'.held goes
          → x'.runs.sender.server.held ≡ []
      by (Ok done) one tells = station_idle told x.runs x'.runs one.makes.0 idle
      by (Err (kept.Outstanding reason)) one tells =
          absurd (told_stops (not_joined_in form) (Run (fault_of reason)) x.held x'.held goes tells refl)
      by (Err kept.StateFailed) one (same, is) = absurd (goes_not_stopped StateFailed is)
