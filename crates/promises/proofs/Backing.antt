-- Every list of events and crashes leads to what a line comes to, and so does each file of the server.
use mathlib.Core.Path.{fun_ext}
use Rattle.std.proofs.Common.{◌≡◌, ℕ, ◌+◌, ◌==◌, Bool, true, false, cond, List, [], ◌∷◌, ◌++◌, length}
use Rattle.std.proofs.Common.{append-nil, append_assoc, Option, Some, None, take, nat_lt, refl, ap, sym, subst, ◌∙◌}
use Rattle.std.proofs.Common.{arith, inl, inr, length-append}
use Rattle.std.specs.Prelude.{◌&&◌, not, is_none, is_some}
use Rattle.std.specs.List.{AllByRecursion}
use Rattle.std.proofs.lemmas.Bool.{cases_Bool, ltb-true, eqb-true}
use Rattle.uecp_elements.specs.declared.code.Code.{Code}
use Rattle.uecp_frame.specs.Frame.{spelling}
use Rattle.uecp_frame.specs.Findings.{Closed, is_quiet, has_frame}
use Rattle.uecp_frame.specs.Beyond.{found_beyond}
use Rattle.uecp_encoder.specs.Target.{Step, Taken}
use Rattle.uecp_encoder.specs.State.{EncoderState, restarted}
use Rattle.uecp_link.specs.Server.{ServerState, Held, idle_at, nothing_counted, restarted_server, submitted}
use Rattle.uecp_link.specs.Once.{Event, Submit, FrameComes, ReplyComes, NoiseToEncoder, NoiseToServer, EncoderLost}
use Rattle.uecp_link.specs.Once.{ServerLost, EncoderRestart, ServerRestart, Take, Once, refusal_of, answer_of, after}
use Rattle.uecp_link.specs.Once.{applied_once, delivered, is_next}
use Rattle.uecp_link.specs.History.{Act, act_of}
use Rattle.uecp_link.specs.Law.{World, frame_of, start_from, Fits}
use Rattle.uecp_link.specs.Kept.{IsReady}
use Rattle.uecp_link.proofs.Public.{acknowledged_are, quiet_rest}
use Rattle.uecp_encoder.specs.Keeping.{Kept}
use Rattle.uecp_encoder.specs.Keeping.{kept_of as encoder_kept, going_on as encoder_going_on}
use Rattle.uecp_net.specs.Keeping.{going_on as server_going_on}
use Rattle.promises.specs.Station.{Station, DiskEvent, Happens, CutOff, ServerSaves, ServerCut}
use Rattle.promises.specs.Station.{encoder_file_after, heard_after, told_after, server_saved}
use Rattle.promises.specs.Station.{acknowledged_by, world_after, station_after, encoder_crashes, server_crashes}
use Rattle.promises.specs.Station.{server_saves, encoder_took, cut_off, happens_on_disks, after_disk_event}
use Rattle.promises.specs.Station.{run_on_disks, station_from, FitsOnDisks}
use Rattle.promises.specs.Acts.{brought_by_cut, brought_by, history_on_disks}
use Rattle.promises.proofs.Fronts.{noise_front, frame_front, saved_none, saved_is}
use Rattle.promises.proofs.Reaching.{Reached, reached_on, lawful_of, with_server, OfEncoder, OfServer, world_beside}
use Rattle.promises.proofs.Reaching.{reached_as, refused_beside, brought_beside, encoder_leaves, server_leaves}
use Rattle.promises.proofs.Reaching.{stays_acknowledged, server_brings}

-- an encoder's file that is what is to be kept stays so
encoder_file_is : {V : Type 0} (step : Step V) (taken : Taken V) (address : ℕ) (w : World V) (file : Kept V)
    (event : Event) → file ≡ encoder_kept w.encoder
    → encoder_file_after step taken address w file event
    ≡ encoder_kept (world_after step taken address w event).encoder
encoder_file_is step taken address w file (Submit m) h = h
encoder_file_is step taken address w file (FrameComes k) h =
    saved_is step w.encoder file (spelling (frame_of address w.once k)) h
encoder_file_is step taken address w file (ReplyComes k) h = h
encoder_file_is step taken address w file (NoiseToEncoder x) h = saved_is step w.encoder file x h
encoder_file_is step taken address w file (NoiseToServer x) h = h
encoder_file_is step taken address w file EncoderLost h = h
encoder_file_is step taken address w file ServerLost h = h
encoder_file_is step taken address w file EncoderRestart h = h
encoder_file_is step taken address w file ServerRestart h = h
encoder_file_is step taken address w file Take h = refl

test_of_one : {A : Type 0} (b : Bool) (x : A) → is_none (cond b None (Some x)) ≡ true → b ≡ true
test_of_one true x h = refl
test_of_one false x h = absurd (cc)

-- of what is told at a save each is acknowledged, or was told before
told_before : (told : Option (Option Code)) (acknowledged : Bool) (heard : Option Code)
    → is_some (told_after told acknowledged heard) ≡ true → (acknowledged ≡ false) → is_some told ≡ true
told_before (Some told) acknowledged heard is not_now = refl
told_before None true heard is not_now = absurd (cc)
told_before None false heard is not_now = is

-- and a code that is told was told before, or is the one that was heard
told_code : (told : Option (Option Code)) (acknowledged : Bool) (heard : Option Code) (codes : Option Code)
    (code : Code) → (told ≡ Some (Some code) → codes ≡ Some code) → (heard ≡ Some code → codes ≡ Some code)
    → told_after told acknowledged heard ≡ Some (Some code) → codes ≡ Some code
told_code (Some told) acknowledged heard codes code before now is = before is
told_code None true heard codes code before now is = now (some_is heard (Some code) is)
  where
    some_is : (x y : Option Code) → Some x ≡ Some y → x ≡ y
    some_is x y same = cc
told_code None false heard codes code before now is = absurd (cc)

front : (b c : Bool) → (b && c) ≡ true → b ≡ true
front true c both = refl
front false c both = absurd (cc)

-- ---- the codes that were given stay

module _ {V : Type 0} (step : Step V) (taken : Taken V) where
  applied_stays : (o : Once V) (j k : ℕ) (code : Code) → o.codes k ≡ Some code → o.codes j ≡ None
      → (applied_once step o j).codes k ≡ Some code
  applied_stays o j k code is new =
      elim (cases_Bool (k == j)) [
        | inl same ↦ absurd (clash (o.codes k) (o.codes j) is new (ap o.codes (eqb-true k j same)))
        | inr other ↦ rw other is
      ]
    where
      clash : (x y : Option Code) → x ≡ Some code → y ≡ None → x ≡ y → ⊥
      clash x y some none same = absurd (cc)

  delivered_stays : (o : Once V) (j k : ℕ) (code : Code) → o.codes k ≡ Some code → (c : Option Code)
      → o.codes j ≡ c → (delivered step o j c).codes k ≡ Some code
  delivered_stays o j k code is (Some c) now = is
  delivered_stays o j k code is None now = go (is_next o.codes (length o.sent) j)
    where
      go : (next : Bool)
          → (cond next (applied_once step o j) (record o { to_encoder = [] })).codes k ≡ Some code
      go true = applied_stays o j k code is now
      go false = is

  pub codes_stay : (o : Once V) (event : Event) (k : ℕ) (code : Code) → o.codes k ≡ Some code
      → (after step taken o event).codes k ≡ Some code
  codes_stay o (Submit m) k code is = is
  codes_stay o (FrameComes j) k code is = delivered_stays o j k code is (o.codes j) refl
  codes_stay o (ReplyComes j) k code is = is
  codes_stay o (NoiseToEncoder x) k code is = is
  codes_stay o (NoiseToServer x) k code is = is
  codes_stay o EncoderLost k code is = is
  codes_stay o ServerLost k code is = is
  codes_stay o EncoderRestart k code is = is
  codes_stay o ServerRestart k code is = is
  codes_stay o Take k code is = is

  -- what was heard is the code of its message
  heard_stays : (o : Once V) (heard : ℕ → Option Code) (event : Event)
      → ((k : ℕ) (code : Code) → heard k ≡ Some code → o.codes k ≡ Some code)
      → (k : ℕ) (code : Code) → heard_after o heard event k ≡ Some code
      → (after step taken o event).codes k ≡ Some code
  heard_stays o heard (Submit m) own k code is = own k code is
  heard_stays o heard (FrameComes j) own k code is = codes_stay o (FrameComes j) k code (own k code is)
  heard_stays o heard (ReplyComes j) own k code is = go ((k == j) && not (o.acknowledged j)) refl is
    where
      -- by the reply that comes, where it is that of this number and acknowledges it
      go : (b : Bool) → ((k == j) && not (o.acknowledged j)) ≡ b → cond b (o.codes j) (heard k) ≡ Some code
          → o.codes k ≡ Some code
      go true one heard_now = ap o.codes (eqb-true k j (front (k == j) (not (o.acknowledged j)) one)) ∙ heard_now
      go false one heard_now = own k code heard_now
  heard_stays o heard (NoiseToEncoder x) own k code is = own k code is
  heard_stays o heard (NoiseToServer x) own k code is = own k code is
  heard_stays o heard EncoderLost own k code is = own k code is
  heard_stays o heard ServerLost own k code is = own k code is
  heard_stays o heard EncoderRestart own k code is = own k code is
  heard_stays o heard ServerRestart own k code is = own k code is
  heard_stays o heard Take own k code is = own k code is

module _ {V : Type 0} (step : Step V) (taken : Taken V) (e : EncoderState V) (before : ℕ) (ready : IsReady e.ring)
    (shut : e.part ≡ Closed) where
  -- What the line has come to, and what it comes to where the server goes on from its file, each by some events of a
  -- line with this history: the second has the same encoder, messages and codes.
  pub record Backed (s : Station V) (acts : List Act) : Type 0 where
    pub now : Reached step taken e s.world acts
    pub server : ServerState
    pub acknowledged : ℕ → Bool
    pub noise : List ℕ
    pub saved : Reached step taken e (with_server s.world server acknowledged noise) acts
    pub last_is : s.server_file.last ≡ server.last
    pub held_is : s.server_file.held ≡ server.held
    pub encoder_file_is_kept : s.encoder_file ≡ encoder_kept s.world.encoder
    pub input : s.server_file.taken ≡ before + length s.world.once.sent
    pub told_now : (k : ℕ) → is_some (s.told k) ≡ true → s.world.once.acknowledged k ≡ true
    pub told_saved : (k : ℕ) → is_some (s.told k) ≡ true → acknowledged k ≡ true
    pub heard_own : (k : ℕ) (code : Code) → s.heard k ≡ Some code → s.world.once.codes k ≡ Some code
    pub told_own : (k : ℕ) (code : Code) → s.told k ≡ Some (Some code) → s.world.once.codes k ≡ Some code

  -- what the event brings
  abbrev brings : Station V → Event → List Act
  brings s event = act_of event (answer_of step taken s.world.once event)

  -- nothing was brought
  with_nothing : (s : Station V) (acts : List Act) → Backed s acts → Backed s (acts ++ [])
  with_nothing s acts h = subst (λ (x : List Act). Backed s x) (sym (append-nil acts)) h

  without_nothing : (s : Station V) (acts : List Act) → Backed s (acts ++ []) → Backed s acts
  without_nothing s acts h = subst (λ (x : List Act). Backed s x) (append-nil acts) h

  -- ---- at the encoder's end

  backed_encoder : (s : Station V) (acts : List Act) (event : Event) (file : Kept V) → Fits event → OfEncoder event
      → is_none (refusal_of s.world.once event) ≡ true → Backed s acts
      → file ≡ encoder_kept (world_after step taken e.address s.world event).encoder
      → Backed (record {
        world = world_after step taken e.address s.world event;
        encoder_file = file;
        server_file = s.server_file;
        heard = s.heard;
        told = s.told;
      }) (acts ++ brings s event)
  backed_encoder s acts event file fit at open_ h is =
      let leaves = encoder_leaves step taken s.world.once event at in
      let w : World V = with_server s.world h.server h.acknowledged h.noise in
      let open_beside : is_none (refusal_of w.once event) ≡ true =
      ap is_none (refused_beside step taken e.address h.acknowledged h.noise s.world.once event at) ∙ open_ in
      record {
        now = reached_on step taken e s.world acts event fit open_ h.now;
        server = h.server;
        acknowledged = h.acknowledged;
        noise = h.noise;
        saved = reached_as step taken e (world_after step taken e.address w event)
            (with_server (world_after step taken e.address s.world event) h.server h.acknowledged h.noise)
            (acts ++ act_of event (answer_of step taken w.once event)) (acts ++ brings s event)
            (world_beside step taken e.address h.acknowledged h.noise s.world h.server event at)
            (ap (λ (x : List Act). acts ++ x)
            (brought_beside step taken e.address h.acknowledged h.noise s.world.once event at))
            (reached_on step taken e w acts event fit open_beside h.saved);
        last_is = h.last_is;
        held_is = h.held_is;
        encoder_file_is_kept = is;
        input = h.input ∙ ap (λ (ms : List (List ℕ)). before + length ms) (sym leaves.sent);
        told_now = λ k t. ap (λ (f : ℕ → Bool). f k) leaves.acknowledged ∙ h.told_now k t;
        told_saved = h.told_saved;
        heard_own = λ k code is. codes_stay step taken s.world.once event k code (h.heard_own k code is);
        told_own = λ k code is. codes_stay step taken s.world.once event k code (h.told_own k code is);
      }

  backed_encoder_crash : (s : Station V) (acts : List Act) → Backed s acts → Backed (encoder_crashes e.address s) acts
  backed_encoder_crash s acts h =
      let law = lawful_of step taken e ready shut s.world acts h.now in
      let goes_on : encoder_going_on e.address s.encoder_file ≡ restarted s.world.encoder =
      ap (encoder_going_on e.address) h.encoder_file_is_kept
      ∙ ap (λ (a : ℕ). encoder_going_on a (encoder_kept s.world.encoder)) (sym law.kept.encoder.address) in
      without_nothing (encoder_crashes e.address s) acts
      (subst (λ (d : EncoderState V). Backed (record s {
        world = record s.world {
          encoder = d;
          once =
              record s.world.once { to_encoder = [] };
        };
      }) (acts ++ [])) (sym goes_on)
      (backed_encoder s acts EncoderRestart s.encoder_file tt tt refl h h.encoder_file_is_kept))

  -- ---- at the server's end

  backed_server : (s : Station V) (acts : List Act) (event : Event) → Fits event → OfServer event
      → is_none (refusal_of s.world.once event) ≡ true
      → (world_after step taken e.address s.world event).encoder ≡ s.world.encoder
      → (world_after step taken e.address s.world event).once.sent ≡ s.world.once.sent → Backed s acts
      → Backed (record s {
        world = world_after step taken e.address s.world event;
        heard = heard_after s.world.once s.heard event;
      }) (acts ++ brings s event)
  backed_server s acts event fit at open_ encoder_is sent_is h = record {
    now = reached_on step taken e s.world acts event fit open_ h.now;
    server = h.server;
    acknowledged = h.acknowledged;
    noise = h.noise;
    saved = reached_as step taken e (with_server s.world h.server h.acknowledged h.noise)
        (with_server (world_after step taken e.address s.world event) h.server h.acknowledged h.noise) acts
        (acts ++ brings s event)
        (sym (server_leaves step taken e.address s.world h.server h.acknowledged h.noise event at))
        (sym (append-nil acts)
        ∙ ap (λ (x : List Act). acts ++ x) (sym (server_brings step taken s.world.once event at)))
        h.saved;
    last_is = h.last_is;
    held_is = h.held_is;
    encoder_file_is_kept = h.encoder_file_is_kept ∙ ap encoder_kept (sym encoder_is);
    input = h.input ∙ ap (λ (ms : List (List ℕ)). before + length ms) (sym sent_is);
    told_now = λ k t. stays_acknowledged step taken s.world.once event at k (h.told_now k t);
    told_saved = h.told_saved;
    heard_own = heard_stays step taken s.world.once s.heard event h.heard_own;
    told_own = λ k code is. codes_stay step taken s.world.once event k code (h.told_own k code is);
  }

  -- a message that is submitted is in the file, with what the server was by then
  pub backed_submit : (s : Station V) (acts : List Act) (m : List ℕ) → Fits (Submit m)
      → is_none (refusal_of s.world.once (Submit m)) ≡ true → Backed s acts
      → Backed (station_after step taken e.address s (Submit m)) (acts ++ [])
  backed_submit s acts m fit open_ h =
      let now = reached_on step taken e s.world acts (Submit m) fit open_ h.now in
      record {
        now = now;
        server = submitted s.world.server m;
        acknowledged = s.world.once.acknowledged;
        noise = s.world.once.to_server;
        saved = now;
        last_is = refl;
        held_is = refl;
        encoder_file_is_kept = h.encoder_file_is_kept;
        input = omega (arith, h.input, length-append s.world.once.sent (m ∷ []));
        told_now = h.told_now;
        told_saved = h.told_now;
        heard_own = h.heard_own;
        told_own = h.told_own;
      }

  -- the server is saved as it is
  pub backed_saved : (s : Station V) (acts : List Act) → Backed s acts → Backed (server_saved s) acts
  backed_saved s acts h = record {
    now = h.now;
    server = s.world.server;
    acknowledged = s.world.once.acknowledged;
    noise = s.world.once.to_server;
    saved = h.now;
    last_is = refl;
    held_is = refl;
    encoder_file_is_kept = h.encoder_file_is_kept;
    input = h.input;
    told_now = h.told_now;
    told_saved = h.told_now;
    heard_own = h.heard_own;
    told_own = h.told_own;
  }

  -- and then what is acknowledged is told
  pub backed_saves : (s : Station V) (acts : List Act) → Backed s acts → Backed (server_saves s) acts
  backed_saves s acts h =
      let law = lawful_of step taken e ready shut s.world acts h.now in
      let shows : ℕ → Bool = acknowledged_by s.world.server.held (length s.world.once.sent) in
      let told : (k : ℕ) → is_some (told_after (s.told k) (shows k) (s.heard k)) ≡ true
      → s.world.once.acknowledged k ≡ true = λ k t.
      elim (cases_Bool (shows k)) [
        | inl now ↦
            sym (acknowledged_are e.address s.world.encoder s.world.server s.world.once law.p law.q law.kept k) ∙ now
        | inr not_now ↦ h.told_now k (told_before (s.told k) (shows k) (s.heard k) t not_now)
      ] in
      record {
        now = h.now;
        server = s.world.server;
        acknowledged = s.world.once.acknowledged;
        noise = s.world.once.to_server;
        saved = h.now;
        last_is = refl;
        held_is = refl;
        encoder_file_is_kept = h.encoder_file_is_kept;
        input = h.input;
        told_now = told;
        told_saved = told;
        heard_own = h.heard_own;
        told_own = λ k code is. told_code (s.told k) (shows k) (s.heard k) (s.world.once.codes k) code
            (h.told_own k code) (h.heard_own k code) is;
      }

  -- what the file shows to be acknowledged is so where the server goes on from it
  pub shown : (s : Station V) (acts : List Act) (h : Backed s acts)
      → acknowledged_by s.server_file.held (length s.world.once.sent) ≡ h.acknowledged
  shown s acts h =
      let w : World V = with_server s.world h.server h.acknowledged h.noise in
      let law = lawful_of step taken e ready shut w acts h.saved in
      ap (λ (hs : List Held). acknowledged_by hs (length s.world.once.sent)) h.held_is
      ∙ fun_ext (acknowledged_are e.address w.encoder w.server w.once law.p law.q law.kept)

  pub backed_server_crash : (s : Station V) (acts : List Act) → Backed s acts → Backed (server_crashes e.address s) acts
  backed_server_crash s acts h =
      let w : World V = with_server s.world h.server h.acknowledged h.noise in
      let law = lawful_of step taken e ready shut w acts h.saved in
      let goes_on : server_going_on e.address s.server_file ≡ restarted_server h.server =
      ap (λ (l : ℕ). going e.address l s.server_file.held) h.last_is
      ∙ (ap (λ (hs : List Held). going e.address h.server.last hs) h.held_is
      ∙ ap (λ (a : ℕ). going a h.server.last h.server.held) (sym law.kept.server.address)) in
      let there : with_server s.world (restarted_server h.server) h.acknowledged []
      ≡ (server_crashes e.address s).world =
      ap (λ (d : ServerState). with_server s.world d h.acknowledged []) (sym goes_on)
      ∙ ap (λ (f : ℕ → Bool). with_server s.world (server_going_on e.address s.server_file) f [])
      (sym (shown s acts h)) in
      record {
        now = reached_as step taken e (with_server s.world (restarted_server h.server) h.acknowledged [])
            (server_crashes e.address s).world (acts ++ []) acts there (append-nil acts)
            (reached_on step taken e w acts ServerRestart tt refl h.saved);
        server = h.server;
        acknowledged = h.acknowledged;
        noise = h.noise;
        saved = h.saved;
        last_is = h.last_is;
        held_is = h.held_is;
        encoder_file_is_kept = h.encoder_file_is_kept;
        input = h.input;
        told_now = λ k t. ap (λ (f : ℕ → Bool). f k) (shown s acts h) ∙ h.told_saved k t;
        told_saved = h.told_saved;
        heard_own = λ k code is. absurd (none_heard code is);
        told_own = h.told_own;
      }
    where
      none_heard : (code : Code) → None ≡ Some code → ⊥
      none_heard code is = absurd (cc)

      going : ℕ → ℕ → List Held → ServerState
      going a l hs = record { address = a; last = l; held = hs; counts = nothing_counted; part = Closed }

  -- ---- an event

  pub backed_after : (s : Station V) (acts : List Act) (event : Event) → Fits event
      → is_none (refusal_of s.world.once event) ≡ true
      → Backed s acts → Backed (station_after step taken e.address s event) (acts ++ brings s event)
  backed_after s acts (Submit m) fit open_ h = backed_submit s acts m fit open_ h
  backed_after s acts (FrameComes k) fit open_ h =
      backed_encoder s acts (FrameComes k)
      (encoder_file_after step taken e.address s.world s.encoder_file (FrameComes k)) fit tt open_ h
      (encoder_file_is step taken e.address s.world s.encoder_file (FrameComes k) h.encoder_file_is_kept)
  backed_after s acts (ReplyComes k) fit open_ h = backed_server s acts (ReplyComes k) fit tt open_ refl refl h
  backed_after s acts (NoiseToEncoder x) fit open_ h =
      backed_encoder s acts (NoiseToEncoder x)
      (encoder_file_after step taken e.address s.world s.encoder_file (NoiseToEncoder x)) fit tt open_ h
      (encoder_file_is step taken e.address s.world s.encoder_file (NoiseToEncoder x) h.encoder_file_is_kept)
  backed_after s acts (NoiseToServer x) fit open_ h = backed_server s acts (NoiseToServer x) fit tt open_ refl refl h
  backed_after s acts EncoderLost fit open_ h =
      backed_encoder s acts EncoderLost s.encoder_file fit tt open_ h h.encoder_file_is_kept
  backed_after s acts ServerLost fit open_ h = backed_server s acts ServerLost fit tt open_ refl refl h
  backed_after s acts EncoderRestart fit open_ h =
      backed_encoder s acts EncoderRestart s.encoder_file fit tt open_ h h.encoder_file_is_kept
  backed_after s acts ServerRestart fit open_ h = backed_server s acts ServerRestart fit tt open_ refl refl h
  backed_after s acts Take fit open_ h =
      backed_encoder s acts Take (encoder_file_after step taken e.address s.world s.encoder_file Take) fit tt open_ h
      refl

  -- ---- a crash within one

  -- what was taken brought no frame, so the file is as it was
  backed_took : (s : Station V) (acts : List Act) (bytes : List ℕ)
      → has_frame (found_beyond s.world.encoder.part bytes) ≡ false → Backed s acts
      → Backed (encoder_took step s bytes) acts
  backed_took s acts bytes none h =
      subst (λ (file : Kept V). Backed (record s { encoder_file = file }) acts)
      (sym (saved_none step s.world.encoder s.encoder_file bytes none)) h

  backed_frame_cut : (s : Station V) (acts : List Act) (k came : ℕ)
      → is_none (refusal_of s.world.once (FrameComes k)) ≡ true → Backed s acts
      → (b : Bool) → nat_lt came (length (spelling (frame_of e.address s.world.once k))) ≡ b
      → Backed (encoder_crashes e.address
      (cond b (encoder_took step s (take came (spelling (frame_of e.address s.world.once k))))
      (station_after step taken e.address s (FrameComes k))))
      (acts ++ cond b [] (brings s (FrameComes k)))
  backed_frame_cut s acts k came open_ h true part =
      let law = lawful_of step taken e ready shut s.world acts h.now in
      let f = frame_of e.address s.world.once k in
      let none = frame_front s.world.encoder.part f came (law.kept.fits k)
      (ltb-true came (length (spelling f)) part) in
      let took : Station V = encoder_took step s (take came (spelling f)) in
      with_nothing (encoder_crashes e.address took) acts
      (backed_encoder_crash took acts (backed_took s acts (take came (spelling f)) none h))
  backed_frame_cut s acts k came open_ h false whole =
      backed_encoder_crash (station_after step taken e.address s (FrameComes k)) (acts ++ brings s (FrameComes k))
      (backed_after s acts (FrameComes k) tt open_ h)

  -- with nothing brought
  encoder_cut : (s : Station V) (acts : List Act) → Backed s acts → Backed (encoder_crashes e.address s) (acts ++ [])
  encoder_cut s acts h = with_nothing (encoder_crashes e.address s) acts (backed_encoder_crash s acts h)

  server_cut : (s : Station V) (acts : List Act) → Backed s acts → Backed (server_crashes e.address s) (acts ++ [])
  server_cut s acts h = with_nothing (server_crashes e.address s) acts (backed_server_crash s acts h)

  backed_cut : (s : Station V) (acts : List Act) (event : Event) (came : ℕ) (saved : Bool) → Fits event
      → is_none (refusal_of s.world.once event) ≡ true → Backed s acts
      → Backed (cut_off step taken e.address s event came saved)
      (acts ++ brought_by_cut step taken e.address s.world.once event came saved)
  backed_cut s acts (Submit m) came true fit open_ h =
      backed_server_crash (station_after step taken e.address s (Submit m)) (acts ++ [])
      (backed_submit s acts m fit open_ h)
  backed_cut s acts (Submit m) came false fit open_ h = server_cut s acts h
  backed_cut s acts (FrameComes k) came true fit open_ h =
      backed_frame_cut s acts k came open_ h (nat_lt came (length (spelling (frame_of e.address s.world.once k)))) refl
  backed_cut s acts (FrameComes k) came false fit open_ h = encoder_cut s acts h
  backed_cut s acts (ReplyComes k) came saved fit open_ h = server_cut s acts h
  backed_cut s acts (NoiseToEncoder x) came true fit open_ h =
      let law = lawful_of step taken e ready shut s.world acts h.now in
      let quiet = quiet_rest s.world.encoder.part s.world.once.to_encoder x law.hears.encoder
      (test_of_one (is_quiet (s.world.once.to_encoder ++ x)) _ open_) in
      encoder_cut (encoder_took step s (take came x)) acts
      (backed_took s acts (take came x) (noise_front s.world.encoder.part x came quiet) h)
  backed_cut s acts (NoiseToEncoder x) came false fit open_ h = encoder_cut s acts h
  backed_cut s acts (NoiseToServer x) came saved fit open_ h = server_cut s acts h
  backed_cut s acts EncoderLost came saved fit open_ h = encoder_cut s acts h
  backed_cut s acts ServerLost came saved fit open_ h = server_cut s acts h
  backed_cut s acts EncoderRestart came saved fit open_ h = encoder_cut s acts h
  backed_cut s acts ServerRestart came saved fit open_ h = server_cut s acts h
  backed_cut s acts Take came true fit open_ h =
      backed_encoder_crash (station_after step taken e.address s Take) (acts ++ brings s Take)
      (backed_after s acts Take fit open_ h)
  backed_cut s acts Take came false fit open_ h = encoder_cut s acts h

  -- ---- over every list

  -- what is refused changes nothing, and brings nothing
  unless_refused : (s s' : Station V) (acts brought : List Act) (event : Event) → Backed s acts
      → (is_none (refusal_of s.world.once event) ≡ true → Backed s' (acts ++ brought))
      → Backed (cond (is_none (refusal_of s.world.once event)) s' s)
      (acts ++ cond (is_none (refusal_of s.world.once event)) brought [])
  unless_refused s s' acts brought event h then_ =
      elim (cases_Bool (is_none (refusal_of s.world.once event))) [
        | inl open_ ↦ rw open_ (then_ open_)
        | inr refused ↦ rw refused (with_nothing s acts h)
      ]

  -- an event that is no restart
  backed_unless : (s : Station V) (acts : List Act) (event : Event) → Fits event → Backed s acts
      → Backed (cond (is_none (refusal_of s.world.once event)) (station_after step taken e.address s event) s)
      (acts ++ cond (is_none (refusal_of s.world.once event)) (brings s event) [])
  backed_unless s acts event fit h =
      unless_refused s (station_after step taken e.address s event) acts (brings s event) event h
      (λ open_. backed_after s acts event fit open_ h)

  backed_event : (s : Station V) (acts : List Act) (event : Event) → Fits event → Backed s acts
      → Backed (happens_on_disks step taken e.address s event)
      (acts ++ brought_by step taken e.address s (Happens event))
  backed_event s acts (Submit m) fit h = backed_unless s acts (Submit m) fit h
  backed_event s acts (FrameComes k) fit h = backed_unless s acts (FrameComes k) fit h
  backed_event s acts (ReplyComes k) fit h = backed_unless s acts (ReplyComes k) fit h
  backed_event s acts (NoiseToEncoder x) fit h = backed_unless s acts (NoiseToEncoder x) fit h
  backed_event s acts (NoiseToServer x) fit h = backed_unless s acts (NoiseToServer x) fit h
  backed_event s acts EncoderLost fit h = backed_unless s acts EncoderLost fit h
  backed_event s acts ServerLost fit h = backed_unless s acts ServerLost fit h
  backed_event s acts EncoderRestart fit h = encoder_cut s acts h
  backed_event s acts ServerRestart fit h = server_cut s acts h
  backed_event s acts Take fit h = backed_unless s acts Take fit h

  backed_disk_event : (s : Station V) (acts : List Act) (event : DiskEvent) → FitsOnDisks event → Backed s acts
      → Backed (after_disk_event step taken e.address s event) (acts ++ brought_by step taken e.address s event)
  backed_disk_event s acts (Happens event) fit h = backed_event s acts event fit h
  backed_disk_event s acts (CutOff event came saved) fit h =
      unless_refused s (cut_off step taken e.address s event came saved) acts
      (brought_by_cut step taken e.address s.world.once event came saved) event h
      (λ open_. backed_cut s acts event came saved fit open_ h)
  backed_disk_event s acts ServerSaves fit h = with_nothing (server_saves s) acts (backed_saves s acts h)
  backed_disk_event s acts ServerCut fit h = server_cut (server_saved s) acts (backed_saved s acts h)

  backed_run : (s : Station V) (acts : List Act) (events : List DiskEvent) → AllByRecursion FitsOnDisks events
      → Backed s acts
      → Backed (run_on_disks step taken e.address s events)
      (acts ++ history_on_disks step taken e.address s events)
  backed_run s acts [] fit h = with_nothing s acts h
  backed_run s acts (event ∷ events) fit h =
      let next : Station V = after_disk_event step taken e.address s event in
      let brought : List Act = brought_by step taken e.address s event in
      subst (λ (x : List Act). Backed (run_on_disks step taken e.address next events) x)
      (append_assoc acts brought (history_on_disks step taken e.address next events))
      (backed_run next (acts ++ brought) events fit.1 (backed_disk_event s acts event fit.0 h))

  pub backed_from : Backed (station_from e before) []
  backed_from =
      let at_first : Reached step taken e (start_from e) [] = record {
        events = [];
        fits = tt;
        same = refl;
        acts_are = refl;
      } in
      record {
        now = at_first;
        server = idle_at e.address;
        acknowledged = λ k. false;
        noise = [];
        saved = at_first;
        last_is = refl;
        held_is = refl;
        encoder_file_is_kept = refl;
        input = (let e0 : before ≡ before + 0 = omega arith in e0);
        told_now = λ k t. t;
        told_saved = λ k t. t;
        heard_own = λ k code is. absurd (nothing code is);
        told_own = λ k code is. absurd (nothing (Some code) is);
      }
    where
      nothing : {A : Type 0} (x : A) → None ≡ Some x → ⊥
      nothing x is = absurd (cc)

  -- and its file shows nothing to be acknowledged
  pub none_shown : (k : ℕ) → acknowledged_by (station_from e before).server_file.held 0 k ≡ false
  unfolding backed_from
  none_shown k = ap (λ (f : ℕ → Bool). f k) (shown (station_from e before) [] backed_from)

  pub backed : (events : List DiskEvent) → AllByRecursion FitsOnDisks events
      → Backed (run_on_disks step taken e.address (station_from e before) events)
      (history_on_disks step taken e.address (station_from e before) events)
  backed events fit = backed_run (station_from e before) [] events fit backed_from
