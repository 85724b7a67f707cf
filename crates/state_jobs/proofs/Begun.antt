-- What a crash leaves of how a server's run begins, and of the joining of its encoder.
use Rattle.std.proofs.Common.{◌≡◌, ◌⊎◌, ℕ, Bool, true, false, List, Option, Ok, Err, refl, sym, ap, subst, ◌∙◌, inl}
use Rattle.std.proofs.Common.{inr}
use Rattle.uecp_link.specs.Server.{ServerState}
use Rattle.uecp_net.specs.Sending.{SenderOver}
use Rattle.uecp_jobs.specs.Batches.{fault_of}
use Rattle.uecp_jobs.specs.JoiningFirst.{not_joined_line}
use Rattle.uecp_net.specs.declared.saved.batch.KeptOutstanding.TheVariants as kept
use Rattle.uecp_net.specs.Keeping.{KeptServer, kept_of, IsKept}
use Rattle.uecp_net.specs.SavedJoining.{Joined, Joins, OutlivesPass, StaysKeptJoining, HasJoined}
use Rattle.kept_jobs.specs.declared.stop.KeptStop.TheVariants.{Run, StateFailed}
use Rattle.kept_jobs.specs.Stops.{Went, Then}
use Rattle.kept_jobs.specs.ServerRun.{Standing, anew}
use Rattle.state_jobs.proofs.Steps.{TellsTaken, BeginsAnew, BeginsAnewIf, JoinsOne, JoinsIf}
use Rattle.kept_jobs.specs.ServerRun.{not_joined}
use Rattle.state_jobs.proofs.Steps.{JoiningTold}
use Rattle.kept_jobs.proofs.Public.{goes, stopped, goes_not_stopped, told_stops}
use Rattle.kept_jobs.proofs.Public as known

-- ---- Before a connection is opened.

module _ {K : Type 0} (leaves : K → KeptServer → Type 0) (is_clean : K → Type 0)
    (saves fails : K → KeptServer → K → Type 0) where
  abbrev pub Was : Type 0
  Was = Standing ServerState K

  abbrev pub IsKeptOf : Was → Type 0
  IsKeptOf x = IsKept (leaves x.keeper) x.progress x.runs

  abbrev LeftBegun : (due : Bool) → Was → KeptServer → Type 0
  LeftBegun = known.LeftBegun leaves is_clean saves fails

  abbrev HasBegun : (due : Bool) → (x y : Was) → Type 0
  HasBegun = known.HasBegun leaves is_clean saves fails

  pub record Begun (due : Bool) (x y : Was) (went : Went) : Type 0 where
    pub clean : is_clean y.keeper → is_clean x.keeper
    pub settled : goes ≡ went → IsKeptOf x → is_clean y.keeper → IsKeptOf y
    pub outlives : IsKeptOf x → is_clean y.keeper → (left : KeptServer) → leaves y.keeper left → LeftBegun due x left

  same_kept : (x y : Was) → y.progress ≡ x.progress → y.runs ≡ x.runs
      → kept_of y.progress y.runs ≡ kept_of x.progress x.runs
  same_kept x y progress runs =
      ap (λ p. kept_of p y.runs) progress ∙ ap (λ r. kept_of x.progress r) runs

  stays : (due : Bool) (x y : Was) (went : Went) → y.keeper ≡ x.keeper → y.progress ≡ x.progress → y.runs ≡ x.runs
      → Begun due x y went
  stays due x y went keeper progress runs = record {
    clean = λ clean. subst is_clean keeper clean;
    settled = λ is settled clean left leaves_it.
        settled left (subst (λ k. leaves k left) keeper leaves_it) ∙ sym (same_kept x y progress runs);
    outlives = λ settled clean left leaves_it. inl (settled left (subst (λ k. leaves k left) keeper leaves_it));
  }

  is_kept_still : (y : Was) (went : Went) → goes ≡ went → IsKeptOf y ⊎ (went ≡ stopped StateFailed) → IsKeptOf y
  is_kept_still y went is (inl kept) = kept
  is_kept_still y went is (inr failed) = absurd (goes_not_stopped StateFailed (is ∙ failed))

  begins_anew : (x w y : Was) (went : Went) → w.keeper ≡ x.keeper → w.progress ≡ x.progress → w.runs ≡ x.runs
      → BeginsAnew leaves is_clean saves fails w y went → Begun true x y went
  begins_anew x w y went keeper progress runs anew_so = record {
    clean = λ clean. subst is_clean keeper (anew_so.clean clean);
    settled = λ is settled clean. is_kept_still y went is (anew_so.settled clean);
    outlives = λ settled clean left leaves_it. by settled left (anew_so.outlives clean left leaves_it);
  }
    where
      by : IsKeptOf x → (left : KeptServer) → leaves w.keeper left ⊎ (left ≡ kept_of y.progress y.runs)
          → LeftBegun true x left
      by settled left (inl before) = inl (settled left (subst (λ k. leaves k left) keeper before))
      by settled left (inr new) =
          inr (
            refl,
            new ∙ ap (λ p. kept_of p y.runs) (anew_so.progress ∙ ap (λ p. not_joined p) progress)
                ∙ ap (λ r. kept_of (not_joined x.progress) r) (anew_so.new ∙ ap (λ r. anew r) runs),
          )

  pub begun_so : (due : Bool) (x y : Was) (went : Went)
      → Then TellsTaken (BeginsAnewIf leaves is_clean saves fails due) x y went → Begun due x y went
  begun_so false x y went (inl (w, (same, tells), (is_w, is))) =
      let all = is_w ∙ same in
      stays false x y went (ap (λ (s : Was). s.keeper) all) (ap (λ (s : Was). s.progress) all)
      (ap (λ (s : Was). s.runs) all)
  begun_so true x y went (inl (w, (same, tells), anew_so)) =
      begins_anew x w y went (ap (λ (s : Was). s.keeper) same) (ap (λ (s : Was). s.progress) same)
      (ap (λ (s : Was). s.runs) same) anew_so
  begun_so due x y went (inr (stop, (same, tells), is)) =
      stays due x y went (ap (λ (s : Was). s.keeper) same) (ap (λ (s : Was). s.progress) same)
      (ap (λ (s : Was). s.runs) same)

  pub has_begun : (due : Bool) (x y : Was)
      → Then TellsTaken (BeginsAnewIf leaves is_clean saves fails due) x y goes → HasBegun due x y
  has_begun false x y (inl (w, (same, tells), (is_w, is))) =
      (ap (λ (s : Was). s.runs) (is_w ∙ same), ap (λ (s : Was). s.progress) (is_w ∙ same))
  has_begun true x y (inl (w, (same, tells), anew_so)) = (
    anew_so.new ∙ ap (λ r. anew r) (ap (λ (s : Was). s.runs) same),
    anew_so.progress ∙ ap (λ p. not_joined p) (ap (λ (s : Was). s.progress) same),
  )
  has_begun due x y (inr (stop, told, is)) = absurd (goes_not_stopped stop is)

-- ---- The joining of the encoder.

module _ {C I O K : Type 0} (opens : C → Option (I × O) → C → Type 0) (closes : C → I → O → C → Type 0)
    (remaining : I → Option (List ℕ)) (contents : O → Option (List ℕ)) (leaves : K → KeptServer → Type 0)
    (is_clean : K → Type 0) (saves fails : K → KeptServer → K → Type 0) where
  abbrev pub At : Type 0
  At = Standing (SenderOver C I O) K

  abbrev pub IsKeptAt : At → Type 0
  IsKeptAt x = IsKept (leaves x.keeper) x.progress x.runs.sender.server

  abbrev pub kept_at : At → KeptServer
  kept_at x = kept_of x.progress x.runs.sender.server

  -- what is kept where a first message may be sent
  abbrev pub First : (due : Bool) → At → KeptServer → Type 0
  First false x kept = kept ≡ kept_at x
  First true x kept = (joined : SenderOver C I O) × Joins opens closes remaining contents x.runs joined (Ok tt)
      × (kept ≡ kept_of (record x.progress { joined = true }) joined.sender.server)

  pub record Joining (due : Bool) (x x' : At) (went : Went) : Type 0 where
    pub clean : is_clean x'.keeper → is_clean x.keeper
    pub settled : goes ≡ went → IsKeptAt x → is_clean x'.keeper → IsKeptAt x'
    pub first : goes ≡ went → First due x (kept_at x')
    pub outlives : IsKeptAt x → is_clean x'.keeper → (left : KeptServer) → leaves x'.keeper left
        → (left ≡ kept_at x) ⊎ First due x left

  joined_stays : (joined : Joined) (x' : At) (held held' : Option (List ℕ)) (went : Went)
      → JoiningTold joined held held' went → goes ≡ went
      → StaysKeptJoining (leaves x'.keeper) x'.progress x'.runs.sender.server joined → IsKeptAt x'
  joined_stays (Ok done) x' held held' went tells is stays = stays
  joined_stays (Err (kept.Outstanding reason)) x' held held' went tells is stays =
      absurd (told_stops not_joined_line (Run (fault_of reason)) held held' went tells is)
  joined_stays (Err kept.StateFailed) x' held held' went (same, failed) is stays =
      absurd (goes_not_stopped StateFailed (is ∙ failed))

  joined_first : (joined : Joined) (x x' : At)
      → JoinsOne opens closes remaining contents leaves is_clean saves fails joined x x' → HasJoined joined
      → First true x (kept_at x')
  joined_first (Ok done) x x' one has =
      (x'.runs, one.joins.0, ap (λ p. kept_of p x'.runs.sender.server) one.progress)
  joined_first (Err (kept.Outstanding reason)) x x' one has = absurd has
  joined_first (Err kept.StateFailed) x x' one has =
      (x'.runs, one.joins.0, ap (λ p. kept_of p x'.runs.sender.server) one.progress)

  told_joined : (joined : Joined) (held held' : Option (List ℕ)) (went : Went) → JoiningTold joined held held' went
      → goes ≡ went → HasJoined joined
  told_joined (Ok done) held held' went tells is = tt
  told_joined (Err (kept.Outstanding reason)) held held' went tells is =
      absurd (told_stops not_joined_line (Run (fault_of reason)) held held' went tells is)
  told_joined (Err kept.StateFailed) held held' went tells is = tt

  joining : (x x' : At) (went : Went) (joined : Joined)
      → JoinsOne opens closes remaining contents leaves is_clean saves fails joined x x'
      → JoiningTold joined x.held x'.held went → Joining true x x' went
  joining x x' went joined one tells = record {
    clean = one.clean;
    settled = λ is settled clean. joined_stays joined x' x.held x'.held went tells is (one.settled clean);
    first = λ is. joined_first joined x x' one (told_joined joined x.held x'.held went tells is);
    outlives = λ settled clean left leaves_it. by left (one.outlives settled clean left leaves_it);
  }
    where
      by : (left : KeptServer)
          → OutlivesPass x.progress x'.progress x.runs.sender.server x'.runs.sender.server joined left
          → (left ≡ kept_at x) ⊎ First true x left
      by left (inl is) = inl is
      by left (inr (is, has)) = inr (subst (λ l. First true x l) (sym is) (joined_first joined x x' one has))

  pub joining_if : (due : Bool) (x x' : At) (went : Went)
      → JoinsIf opens closes remaining contents leaves is_clean saves fails due x x' went → Joining due x x' went
  joining_if false x x' went (same, is) =
      let all : kept_at x' ≡ kept_at x = ap (λ (s : At). kept_of s.progress s.runs.sender.server) same in
      let keeper = ap (λ (s : At). s.keeper) same in
      record {
        clean = λ clean. subst is_clean keeper clean;
        settled = λ is settled clean left leaves_it.
            settled left (subst (λ k. leaves k left) keeper leaves_it) ∙ sym all;
        first = λ is. all;
        outlives = λ settled clean left leaves_it. inl (settled left (subst (λ k. leaves k left) keeper leaves_it));
      }
  joining_if true x x' went (joined, one, tells) = joining x x' went joined one tells
