-- What may be left of a server is its file.
use Rattle.std.proofs.Common.{◌≡◌, ℕ, suc, ◌+◌, ◌≤◌, ◌<◌, Bool, true, false, cond, List, [], ◌∷◌, ◌++◌, length}
use Rattle.std.proofs.Common.{refl, ap, sym, ◌∙◌, arith, inl, inr, length-append, Some, None}
use Rattle.std.specs.Prelude.{is_none}
use Rattle.std.specs.List.{AllByRecursion}
use Rattle.std.proofs.lemmas.Bool.{lt-ltb}
use Rattle.uecp_frame.specs.Findings.{Closed}
use Rattle.uecp_encoder.specs.Target.{Step, Taken}
use Rattle.uecp_encoder.specs.State.{EncoderState}
use Rattle.uecp_link.specs.Counters.{next_counter}
use Rattle.uecp_link.specs.Server.{ServerState, Held, submitted}
use Rattle.uecp_link.specs.Once.{Submit, Busy, least_missing, has_room, refusal_of}
use Rattle.uecp_link.specs.History.{Act}
use Rattle.uecp_link.specs.Law.{World}
use Rattle.uecp_link.specs.Kept.{IsReady}
use Rattle.uecp_link.proofs.Public.{least_acknowledged, let_go_is, sent_le}
use Rattle.uecp_net.specs.Sending.{SenderOver, submitted_to, submitted_all}
use Rattle.uecp_net.specs.declared.saved.keep.Progress.{Progress}
use Rattle.uecp_net.specs.Keeping.{KeptServer, kept_of, taking}
use Rattle.promises.specs.Station.{Station, Happens, progress_in, station_after, server_saves}
use Rattle.promises.specs.Station.{after_disk_event, run_on_disks, station_from, FitsOnDisks}
use Rattle.promises.specs.Acts.{history_on_disks}
use Rattle.promises.specs.CrashLaws.{submissions, WhatIsLeftIsAFile}
use Rattle.promises.proofs.Reaching.{lawful_of}
use Rattle.promises.proofs.Backing.{Backed, backed_submit, backed}

-- the file that is kept, with so many more taken
more_taken : (progress : Progress) (s : ServerState) (n m : ℕ) (file : KeptServer) → m ≡ suc n
    → file ≡ kept_of (taking (taking progress 1) n) s → file ≡ kept_of (taking progress m) s
more_taken progress s n m file is h =
    h ∙ ap (λ (t : ℕ). kept_of (record progress { taken = t }) s)
    (let e : progress.taken + 1 + n ≡ progress.taken + m = omega (arith, is) in e)

none_taken : (progress : Progress) (s : ServerState) → kept_of progress s ≡ kept_of (taking progress 0) s
none_taken progress s = ap (λ (t : ℕ). kept_of (record progress { taken = t }) s)
    (let e : progress.taken ≡ progress.taken + 0 = omega arith in e)

-- a server that holds fewer than eight takes a message
pub room : {V : Type 0} (step : Step V) (taken : Taken V) (e : EncoderState V) (before : ℕ) (ready : IsReady e.ring)
    (shut : e.part ≡ Closed)
    (s : Station V) (acts : List Act) (m : List ℕ) → Backed step taken e before ready shut s acts
    → length s.world.server.held < 8 → is_none (refusal_of s.world.once (Submit m)) ≡ true
room {V} step taken e before ready shut s acts m h few =
    let law = lawful_of step taken e ready shut s.world acts h.now in
    let w : World V = s.world in
    let n : ℕ = length w.once.sent in
    let least = least_acknowledged e.address w.encoder w.server w.once law.p law.q law.kept in
    let gone = let_go_is e.address w.encoder w.server w.once law.p law.q law.kept in
    let more = sent_le e.address w.encoder w.server w.once law.p law.q law.kept in
    let fits : has_room w.once.acknowledged n ≡ true =
    lt-ltb n (least_missing w.once.acknowledged n + 8) (omega (arith, least, gone, more.0, few)) in
    ap (λ (b : Bool). is_none (cond b None (Some Busy))) fits

module _ {V C I O : Type 0} (step : Step V) (taken : Taken V) (e : EncoderState V) (before : ℕ) (ready : IsReady e.ring)
    (shut : e.part ≡ Closed) where
  -- a batch that finds room
  submitted_file : (s : Station V) (acts : List Act) (progress : Progress) (old : SenderOver C I O)
      (batch : List (List ℕ)) → Backed step taken e before ready shut s acts
      → AllByRecursion FitsOnDisks (submissions batch)
      → length s.world.server.held + length batch ≤ 8 → old.sender.server ≡ s.world.server
      → s.server_file ≡ kept_of progress s.world.server
      → (run_on_disks step taken e.address s (submissions batch)).server_file
      ≡ kept_of (taking progress (length batch)) (submitted_all old batch).sender.server
  submitted_file s acts progress old [] h fits few same file =
      file ∙ ap (kept_of progress) (sym same) ∙ none_taken progress old.sender.server
  submitted_file s acts progress old (m ∷ batch) h fits few same file =
      let open_ = room step taken e before ready shut s acts m h (omega (arith, few)) in
      let s1 : Station V = station_after step taken e.address s (Submit m) in
      let held : Held = record { counter = next_counter s.world.server.last; message = m; marked = false } in
      let one : length s1.world.server.held ≡ length s.world.server.held + 1 =
      length-append s.world.server.held (held ∷ []) in
      let file1 : s1.server_file ≡ kept_of (taking progress 1) s1.world.server =
      ap (λ (k : KeptServer). kept_of (taking (progress_in k) 1) (submitted s.world.server m)) file in
      let later = submitted_file s1 (acts ++ []) (taking progress 1) (submitted_to old m) batch
      (backed_submit step taken e before ready shut s acts m fits.0 open_ h) fits.1 (omega (arith, few, one))
      (ap (λ (d : ServerState). submitted d m) same) file1 in
      let first : after_disk_event step taken e.address s (Happens (Submit m)) ≡ s1 = rw open_ refl in
      ap (λ (x : Station V). (run_on_disks step taken e.address x (submissions batch)).server_file) first
      ∙ more_taken progress (submitted_all old (m ∷ batch)).sender.server (length batch) (length (m ∷ batch))
      (run_on_disks step taken e.address s1 (submissions batch)).server_file (omega arith) later

-- one more save
saved_once_more : {V : Type 0} (between after : Station V) (progress : Progress) (server server' : ServerState)
    → between.server_file ≡ kept_of progress server → after.server_file ≡ between.server_file
    → after.world.server ≡ server' → (server_saves after).server_file ≡ kept_of progress server'
saved_once_more between after progress server server' file stays becomes =
    ap (λ (k : KeptServer). kept_of (progress_in k) after.world.server) (stays ∙ file)
    ∙ ap (kept_of progress) becomes

pub what_is_left_of_server_lem : {V : Type 0} (C I O : Type 0) (step : Step V) (taken : Taken V)
    → WhatIsLeftIsAFile C I O step taken
what_is_left_of_server_lem {V} C I O step taken e before ready shut events fit progress old new batch hearing same file
    fits
    few =
    let s : Station V = run_on_disks step taken e.address (station_from e before) events in
    let acts : List Act = history_on_disks step taken e.address (station_from e before) events in
    let h = backed step taken e before ready shut events fit in
    let between : Station V = run_on_disks step taken e.address s (submissions batch) in
    let was = file ∙ ap (kept_of progress) (sym same) in
    let submitted_is = submitted_file step taken e before ready shut s acts progress old batch h fits few same file in
    record {
      sends = λ left stays becomes outlives. elim outlives [
        | inl before ↦ inl (before.0 ∙ sym was)
        | inr rest ↦ elim rest [
          | inl sent ↦ inr (inl (sent ∙ sym submitted_is))
          | inr now ↦ inr (inr (now ∙ sym (saved_once_more between
              (run_on_disks step taken e.address between hearing) (taking progress (length batch))
              (submitted_all old batch).sender.server new.sender.server submitted_is stays becomes)))
        ]
      ];
      settles = λ left stays becomes outlives. elim outlives [
        | inl before ↦ inl (before ∙ sym was)
        | inr now ↦ inr (now ∙ sym (saved_once_more s (run_on_disks step taken e.address s hearing) progress
            s.world.server new.sender.server file stays becomes))
      ];
    }
