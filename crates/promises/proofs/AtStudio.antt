-- What happens at the studio is events of a line and crashes, but for what it hears.
use Rattle.std.proofs.Common.{◌≡◌, ℕ, zero, suc, ◌+◌, ◌<◌, ◌≤◌, Bool, true, false, cond, List, [], ◌∷◌, ◌++◌}
use Rattle.std.proofs.Common.{length, map, Option, Some, None, refl, ap, sym, subst, ◌∙◌, arith}
use Rattle.std.proofs.Common.{inl, inr}
use Rattle.std.proofs.Common.{append_assoc, append-nil, length-append}
use Rattle.std.specs.Prelude.{is_some}
use Rattle.std.specs.List.{AllByRecursion, concat}
use Rattle.std.specs.Option.{option_or}
use Rattle.std.proofs.lemmas.Bool.{cases_lt, false≢true}
use Rattle.uecp_elements.specs.declared.code.Code.{Code}
use Rattle.uecp_frame.specs.Frame.{spelling}
use Rattle.uecp_frame.specs.Findings.{Closed}
use Rattle.uecp_encoder.specs.Target.{Step, Taken}
use Rattle.uecp_encoder.specs.State.{EncoderState}
use Rattle.uecp_encoder.specs.Keeping.{kept_of as encoder_kept}
use Rattle.uecp_link.specs.Counters.{counter_of, next_counter}
use Rattle.uecp_link.specs.Frames.{frame_under}
use Rattle.uecp_link.specs.Server.{ServerState, Held, waiting, submitted, waiting_among}
use Rattle.uecp_link.specs.Window.{window_sent}
use Rattle.uecp_link.specs.Once.{Once, Submit, message_at, missing}
use Rattle.uecp_link.specs.History.{Act, Message, Taking, messages_in, numbers_below}
use Rattle.uecp_link.specs.Law.{World}
use Rattle.uecp_link.specs.Kept.{IsReady}
use Rattle.uecp_link.proofs.Public.{sent_le, acknowledged_are, let_go_is}
use Rattle.uecp_net.specs.declared.saved.keep.Progress.{Progress}
use Rattle.uecp_net.specs.Keeping.{taking}
use Rattle.promises.specs.Station.{Station, acknowledged_by, station_after, server_saved, server_saves, server_crashes}
use Rattle.promises.specs.Station.{progress_in}
use Rattle.promises.specs.DeviceLives.{Deed, Applies, TakesOne}
use Rattle.promises.specs.Ends.{Ends, Studio, SaysStation, AreTaken, TakesLines, Dials, Writes, Tells, StudioCrashes}
use Rattle.promises.specs.Ends.{ends_after, written_on}
use Rattle.promises.specs.Ends.{MayHappen, studio_after, submitted_each}
use Rattle.promises.proofs.Reaching.{lawful_of}
use Rattle.promises.proofs.Backing.{Backed, backed_saves, backed_saved, backed_server_crash}
use Rattle.promises.proofs.Backing.{backed_submit}
use Rattle.promises.proofs.Submitting.{room}
use Rattle.promises.proofs.Cutting.{spelled, spelled-append}
use Rattle.promises.proofs.EndLists.{Sub, sub_all, sub_both, sub_behind, all_append, all_front, all_back, all_so}
use Rattle.promises.proofs.EndLists.{AreOnTheWay, some_on_the_way, more_on_the_way, missing_have}
use Rattle.promises.proofs.EndFrames.{deed_at, frame_in, law_at, server_address_at}
use Rattle.promises.proofs.EndReplies.{reply_in}
use Rattle.promises.proofs.EndsMatch.{all_of, Comes, Matches, nothing_there, nothing_open}
use Rattle.promises.proofs.EndsMatch.{some_in_time}

comes_on : (address : ℕ) (sent : List (List ℕ)) (part : List ℕ) (coming frames : List (List ℕ))
    → Comes address sent part coming frames
    → Comes address sent part (coming ++ [] ∷ []) (frames ++ [] ∷ [])
comes_on address sent part [] [] none = (append-nil part ∙ none, refl)
comes_on address sent part [] (ks ∷ kss) h = absurd h
comes_on address sent part (c ∷ cs) [] h = absurd h
comes_on address sent part (c ∷ cs) (ks ∷ kss) h = (h.0, comes_on address sent [] cs kss h.1)

all_of_new : (kss : List (List ℕ)) → all_of (kss ++ [] ∷ []) ≡ all_of kss
all_of_new [] = refl
all_of_new (ks ∷ kss) = ap (λ (l : List ℕ). ks ++ l) (all_of_new kss)

-- more is written on the last
abbrev put_last : List (List ℕ) → List ℕ → List (List ℕ)
put_last [] ws = []
put_last (ks ∷ []) ws = (ks ++ ws) ∷ []
put_last (ks ∷ js ∷ kss) ws = ks ∷ put_last (js ∷ kss) ws

comes_written : (address : ℕ) (sent : List (List ℕ)) (part : List ℕ) (coming frames : List (List ℕ)) (ws : List ℕ)
    → Comes address sent part coming frames
    → Comes address sent part (written_on coming (spelled (frame_in address sent) ws)) (put_last frames ws)
comes_written address sent part [] [] ws h = h
comes_written address sent part [] (ks ∷ kss) ws h = absurd h
comes_written address sent part (c ∷ cs) [] ws h = absurd h
comes_written address sent part (c ∷ []) (ks ∷ []) ws h = (
  sym (append_assoc part c (spelled (frame_in address sent) ws))
      ∙ ap (λ (z : List ℕ). z ++ spelled (frame_in address sent) ws) h.0
      ∙ sym (spelled-append (frame_in address sent) ks ws),
  refl,
)
comes_written address sent part (c ∷ []) (ks ∷ js ∷ kss) ws h = absurd h.1
comes_written address sent part (c ∷ d ∷ cs) (ks ∷ []) ws h = absurd h.1
comes_written address sent part (c ∷ d ∷ cs) (ks ∷ js ∷ kss) ws h =
    (h.0, comes_written address sent [] (d ∷ cs) (js ∷ kss) ws h.1)

-- that is behind all, or nothing
put_behind : (kss : List (List ℕ)) (ws : List ℕ) → Sub (all_of (put_last kss ws)) (all_of kss ++ ws)
put_behind [] ws = tt
put_behind (ks ∷ []) ws =
    subst (λ (l : List ℕ). Sub ((ks ++ ws) ++ []) (l ++ ws)) (sym (append-nil ks))
    (subst (λ (l : List ℕ). Sub l (ks ++ ws)) (sym (append-nil (ks ++ ws))) (sub_all (ks ++ ws)))
put_behind (ks ∷ js ∷ kss) ws =
    subst (λ (l : List ℕ). Sub (ks ++ all_of (put_last (js ∷ kss) ws)) l)
    (sym (append_assoc ks (all_of (js ∷ kss)) ws))
    (sub_both ks ks (all_of (put_last (js ∷ kss) ws)) (all_of (js ∷ kss) ++ ws) (sub_all ks)
    (put_behind (js ∷ kss) ws))

-- more was sent
message_front : (sent more : List (List ℕ)) (k : ℕ) → k < length sent → message_at (sent ++ more) k ≡ message_at sent k
message_front [] more k l = absurd (omega (arith, l))
message_front (m ∷ sent) more zero l = refl
message_front (m ∷ sent) more (suc k) l = message_front sent more k (omega (arith, l))

spelled_front : (address : ℕ) (sent more : List (List ℕ)) (ks : List ℕ) → AllByRecursion (λ k. k < length sent) ks
    → spelled (frame_in address (sent ++ more)) ks ≡ spelled (frame_in address sent) ks
spelled_front address sent more [] all = refl
spelled_front address sent more (k ∷ ks) all =
    ap (λ (m : List ℕ). spelling (frame_under address (counter_of k, m))
    ++ spelled (frame_in address (sent ++ more)) ks) (message_front sent more k all.0)
    ∙ ap (λ (z : List ℕ). spelling (frame_in address sent k) ++ z) (spelled_front address sent more ks all.1)

comes_more : (address : ℕ) (sent more : List (List ℕ)) (part : List ℕ) (coming frames : List (List ℕ))
    → AllByRecursion (λ k. k < length sent) (all_of frames)
    → Comes address sent part coming frames → Comes address (sent ++ more) part coming frames
comes_more address sent more part [] [] all h = h
comes_more address sent more part [] (ks ∷ kss) all h = absurd h
comes_more address sent more part (c ∷ cs) [] all h = absurd h
comes_more address sent more part (c ∷ cs) (ks ∷ kss) all h = (
  h.0 ∙ sym (spelled_front address sent more ks (all_front (λ k. k < length sent) ks (all_of kss) all)),
  comes_more address sent more [] cs kss (all_back (λ k. k < length sent) ks (all_of kss) all) h.1,
)

-- a server that takes messages has its address still
pub submitted_address : (y : ServerState) (ms : List (List ℕ)) → (submitted_each y ms).address ≡ y.address
submitted_address y [] = refl
submitted_address y (m ∷ ms) = submitted_address (submitted y m) ms

-- the frames that wait
window_is : (address : ℕ) (sent : List (List ℕ)) (ks : List ℕ)
    → concat (map (λ w. spelling (frame_under address w)) (map (λ k. (counter_of k, message_at sent k)) ks))
    ≡ spelled (frame_in address sent) ks
window_is address sent [] = refl
window_is address sent (k ∷ ks) =
    ap (λ (z : List ℕ). spelling (frame_in address sent k) ++ z) (window_is address sent ks)

module _ {V : Type 0} (step : Step V) (taken : Taken V) (e : EncoderState V) (before : ℕ) (ready : IsReady e.ring)
    (shut : e.part ≡ Closed) where
  abbrev M : Ends V → Type 0
  M x = Matches step taken e before ready shut x

  -- ---- The studio dials, and writes.

  pub dials_match : (x : Ends V) → M x → M (ends_after step taken x Dials)
  dials_match x m = record {
    s = m.s;
    acts = m.acts;
    backed = m.backed;
    none = m.none;
    none_back = m.none_back;
    kept = m.kept;
    lived = m.lived;
    deeds = m.deeds;
    studio = record {
      last = m.studio.last;
      held = m.studio.held;
      address = m.studio.address;
      file_last = m.studio.file_last;
      file_held = m.studio.file_held;
      counted = m.studio.counted;
      said = m.studio.said;
      sent = m.studio.sent;
      heard = m.studio.heard;
      told = m.studio.told;
    };
    part = m.part;
    part_is = m.part_is;
    quiet = m.quiet;
    frames = m.frames ++ [] ∷ [];
    coming = comes_on e.address m.s.world.once.sent m.part x.between.coming m.frames m.coming;
    heard_part = [];
    heard_part_is = nothing_open step taken e before ready shut;
    heard_quiet = nothing_there step taken e before ready shut;
    replies = [];
    going = refl;
    coded = tt;
    in_time = some_in_time step taken e before ready shut m.s (all_of (m.frames ++ [] ∷ [])) (m.replies
        ++ all_of m.frames) m.in_time
        (subst (λ (l : List ℕ). Sub l (m.replies ++ all_of m.frames)) (sym (all_of_new m.frames))
        (sub_behind (all_of m.frames) (all_of m.frames) m.replies (sub_all (all_of m.frames))));
  }

  -- what waits are the last ones
  pub last_ones : (s : Station V) (acts : List Act) → Backed step taken e before ready shut s acts
      → AllByRecursion (λ k. length s.world.once.sent ≤ k + 8)
      (missing s.world.once.acknowledged (length s.world.once.sent))
  last_ones s acts h =
      let o : Once V = s.world.once in
      let lawful = lawful_of step taken e ready shut s.world acts h.now in
      let few = sent_le e.address s.world.encoder s.world.server o lawful.p lawful.q lawful.kept in
      missing_have (λ k. length o.sent ≤ k + 8) o.acknowledged (length o.sent)
      (λ k l is. elim (cases_lt k lawful.q) [
        | inl gone ↦ absurd (false≢true (sym is ∙ lawful.kept.below k gone))
        | inr held ↦ omega (arith, few.1, held)
      ])

  -- and their frames are what is written
  pub window_so : (x : Ends V) (m : M x)
      → window_sent x.studio.server ≡ spelled (frame_in e.address m.s.world.once.sent)
      (missing m.s.world.once.acknowledged (length m.s.world.once.sent))
  window_so x m =
      let s : Station V = m.s in
      let o : Once V = s.world.once in
      let law = law_at step taken e before ready shut s m.acts m.backed in
      ap (λ (hs : List Held). concat (map (λ w. spelling (frame_under x.studio.server.address w)) (waiting_among hs)))
      m.studio.held
      ∙ ap (λ (a : ℕ). concat (map (λ w. spelling (frame_under a w)) (waiting s.world.server))) m.studio.address
      ∙ ap (λ ms. concat (map (λ w. spelling (frame_under e.address w)) ms)) law.1.outstanding
      ∙ window_is e.address o.sent (missing o.acknowledged (length o.sent))

  -- other bytes are on their way to the encoder
  writes_so : (x : Ends V) (m : M x) (b : Bool)
      → M (record x {
        between = cond b (record x.between { coming = written_on x.between.coming (window_sent x.studio.server) })
            x.between;
      })
  writes_so x m false = m
  writes_so x m true =
      let s : Station V = m.s in
      let o : Once V = s.world.once in
      let ws : List ℕ = missing o.acknowledged (length o.sent) in
      let below : AllByRecursion (λ k. k < length o.sent) ws =
      missing_have (λ k. k < length o.sent) o.acknowledged (length o.sent) (λ k l is. l) in
      let window = window_so x m in
      let last = last_ones s m.acts m.backed in
      let t = m.in_time in
      record {
        s = s;
        acts = m.acts;
        backed = m.backed;
        none = m.none;
        none_back = m.none_back;
        kept = m.kept;
        lived = m.lived;
        deeds = m.deeds;
        studio = m.studio;
        part = m.part;
        part_is = m.part_is;
        quiet = m.quiet;
        frames = put_last m.frames ws;
        coming = subst (λ (z : List ℕ). Comes e.address o.sent m.part (written_on x.between.coming z)
            (put_last m.frames ws)) (sym window)
            (comes_written e.address o.sent m.part x.between.coming m.frames ws m.coming);
        heard_part = m.heard_part;
        heard_part_is = m.heard_part_is;
        heard_quiet = m.heard_quiet;
        replies = m.replies;
        going = m.going;
        coded = m.coded;
        in_time = some_in_time step taken e before ready shut s (m.replies
            ++ all_of (put_last m.frames ws)) ((m.replies ++ all_of m.frames) ++ ws)
            (record {
              top = t.top;
              few = t.few;
              most = t.most;
              way = more_on_the_way (length o.sent) t.top (m.replies ++ all_of m.frames) ws t.most t.way below last;
              acked = t.acked;
              acked_file = t.acked_file;
            })
            (subst (λ (l : List ℕ). Sub (m.replies ++ all_of (put_last m.frames ws)) l)
            (sym (append_assoc m.replies (all_of m.frames) ws))
            (sub_both m.replies m.replies (all_of (put_last m.frames ws)) (all_of m.frames ++ ws)
            (sub_all m.replies) (put_behind m.frames ws)));
      }

  pub writes_match : (x : Ends V) → M x → M (ends_after step taken x Writes)
  writes_match x m = writes_so x m x.between.is_there

  -- ---- The studio saves, tells, and crashes.

  -- what the file shows to be acknowledged once the server is saved as it is
  saved_shows : (s : Station V) (acts : List Act) → Backed step taken e before ready shut s acts → (k : ℕ)
      → acknowledged_by s.world.server.held (length s.world.once.sent) k ≡ s.world.once.acknowledged k
  saved_shows s acts h k =
      let law = lawful_of step taken e ready shut s.world acts h.now in
      acknowledged_are e.address s.world.encoder s.world.server s.world.once law.p law.q law.kept k

  pub tells_match : (x : Ends V) → M x → M (ends_after step taken x Tells)
  tells_match x m =
      let s : Station V = m.s in
      let s1 : Station V = server_saves s in
      let h1 = backed_saves step taken e before ready shut s m.acts m.backed in
      record {
        s = s1;
        acts = m.acts;
        backed = h1;
        none = m.none;
        none_back = m.none_back;
        kept = m.kept;
        lived = m.lived;
        deeds = m.deeds;
        studio = record {
          last = m.studio.last;
          held = m.studio.held;
          address = m.studio.address;
          file_last = λ saved. m.studio.last;
          file_held = λ saved. m.studio.held;
          counted = m.studio.counted;
          said = m.studio.said;
          sent = m.studio.sent;
          heard = m.studio.heard;
          told = λ k code is. told_own k (x.studio.told k) refl code is;
        };
        part = m.part;
        part_is = m.part_is;
        quiet = m.quiet;
        frames = m.frames;
        coming = m.coming;
        heard_part = m.heard_part;
        heard_part_is = m.heard_part_is;
        heard_quiet = m.heard_quiet;
        replies = m.replies;
        going = m.going;
        coded = m.coded;
        in_time = record {
          top = m.in_time.top;
          few = m.in_time.few;
          most = m.in_time.most;
          way = m.in_time.way;
          acked = m.in_time.acked;
          acked_file = λ k is. m.in_time.acked k (sym (saved_shows s m.acts m.backed k) ∙ is);
        };
      }
    where
      told_own : (k : ℕ) (c : Option Code) → x.studio.told k ≡ c → (code : Code)
          → option_or c (x.studio.heard k) ≡ Some code → m.s.world.once.codes k ≡ Some code
      told_own k None is code then_ = m.studio.heard k code then_
      told_own k (Some c) is code then_ = m.studio.told k code (is ∙ then_)

  -- it goes on from a file that is that of the line
  record IsRestarted (x : Studio) (saved : Bool) (s : Station V) : Type 0 where
    last : (studio_after x (StudioCrashes saved)).server.last ≡ s.server_file.last
    held : (studio_after x (StudioCrashes saved)).server.held ≡ s.server_file.held
    address : (studio_after x (StudioCrashes saved)).server.address ≡ x.server.address
    part : (studio_after x (StudioCrashes saved)).server.part ≡ Closed
    file_last : (studio_after x (StudioCrashes saved)).file.last ≡ s.server_file.last
    file_held : (studio_after x (StudioCrashes saved)).file.held ≡ s.server_file.held
    counted : (studio_after x (StudioCrashes saved)).file.taken + (studio_after x (StudioCrashes saved)).station
        ≡ s.server_file.taken
    station : (studio_after x (StudioCrashes saved)).station ≡ x.station
    sent : (studio_after x (StudioCrashes saved)).sent ≡ x.sent
    heard_none : (k : ℕ) → (studio_after x (StudioCrashes saved)).heard k ≡ None
    told : (k : ℕ) → (studio_after x (StudioCrashes saved)).told k ≡ x.told k

  restarts_so : (x : Ends V) (m : M x) (saved : Bool) (s : Station V) → Backed step taken e before ready shut s m.acts
      → s.world ≡ m.s.world → IsRestarted x.studio saved s
      → ((k : ℕ) → acknowledged_by s.server_file.held (length s.world.once.sent) k ≡ true → k < m.in_time.top)
      → M (ends_after step taken x (StudioCrashes saved))
  restarts_so x m saved s h world r shows =
      let s1 : Station V = server_crashes e.address s in
      record {
        s = s1;
        acts = m.acts;
        backed = backed_server_crash step taken e before ready shut s m.acts h;
        none = ap (λ (w : World V). w.once.to_encoder) world ∙ m.none;
        none_back = refl;
        kept = m.kept ∙ ap (λ (w : World V). encoder_kept w.encoder) (sym world);
        lived = m.lived;
        deeds = m.deeds ∙ ap (λ (w : World V). map (deed_at w.once.sent) m.acts) (sym world);
        studio = record {
          last = r.last;
          held = r.held;
          address = r.address ∙ m.studio.address;
          file_last = λ is. r.file_last;
          file_held = λ is. r.file_held;
          counted = r.counted;
          said = subst (λ (w : World V). (studio_after x.studio (StudioCrashes saved)).station ≤ length w.once.sent)
              (sym world) (subst (λ (n : ℕ). n ≤ length m.s.world.once.sent) (sym r.station) m.studio.said);
          sent = r.sent ∙ m.studio.sent ∙ ap (λ (w : World V). w.once.sent) (sym world);
          heard = λ k code is. absurd (nothing code (sym (r.heard_none k) ∙ is));
          told = λ k code is. ap (λ (w : World V). w.once.codes k) world
              ∙ m.studio.told k code (sym (r.told k) ∙ is);
        };
        part = m.part;
        part_is = m.part_is;
        quiet = m.quiet;
        frames = m.frames;
        coming = subst (λ (w : World V). Comes e.address w.once.sent m.part x.between.coming m.frames) (sym world)
            m.coming;
        heard_part = [];
        heard_part_is = r.part ∙ nothing_open step taken e before ready shut;
        heard_quiet = nothing_there step taken e before ready shut;
        replies = [];
        going = refl;
        coded = tt;
        in_time = record {
          top = m.in_time.top;
          few = subst (λ (w : World V). length w.once.sent ≤ m.in_time.top + 8) (sym world) m.in_time.few;
          most = subst (λ (w : World V). m.in_time.top ≤ length w.once.sent) (sym world) m.in_time.most;
          way = subst (λ (w : World V). AreOnTheWay (length w.once.sent) m.in_time.top (all_of m.frames)) (sym world)
              (some_on_the_way (length m.s.world.once.sent) m.in_time.top (all_of m.frames)
              (m.replies ++ all_of m.frames) m.in_time.way
              (sub_behind (all_of m.frames) (all_of m.frames) m.replies (sub_all (all_of m.frames))));
          acked = shows;
          acked_file = shows;
        };
      }
    where
      nothing : (code : Code) → None ≡ Some code → ⊥
      nothing code is = absurd (cc)

  pub studio_crash_matches : (x : Ends V) (saved : Bool) → MayHappen x (StudioCrashes saved) → M x
      → M (ends_after step taken x (StudioCrashes saved))
  studio_crash_matches x false (inr never) m = absurd (false≢true never)
  studio_crash_matches x false (inl is_saved) m =
      restarts_so x m false m.s m.backed refl (record {
        last = m.studio.file_last is_saved;
        held = m.studio.file_held is_saved;
        address = refl;
        part = refl;
        file_last = m.studio.file_last is_saved;
        file_held = m.studio.file_held is_saved;
        counted = m.studio.counted;
        station = refl;
        sent = refl;
        heard_none = λ k. refl;
        told = λ k. refl;
      }) m.in_time.acked_file
  studio_crash_matches x true may m =
      restarts_so x m true (server_saved m.s) (backed_saved step taken e before ready shut m.s m.acts m.backed) refl
      (record {
        last = m.studio.last;
        held = m.studio.held;
        address = refl;
        part = refl;
        file_last = m.studio.last;
        file_held = m.studio.held;
        counted = m.studio.counted;
        station = refl;
        sent = refl;
        heard_none = λ k. refl;
        told = λ k. refl;
      })
      (λ k is. m.in_time.acked k (sym (saved_shows m.s m.acts m.backed k) ∙ is))

  -- ---- The studio takes lines.

  -- what so many messages come to, submitted one after another
  record Submitted (s : Station V) (acts : List Act) (ms : List (List ℕ)) : Type 0 where
    s1 : Station V
    backed : Backed step taken e before ready shut s1 acts
    encoder : s1.world.encoder ≡ s.world.encoder
    server : s1.world.server ≡ submitted_each s.world.server ms
    progress : progress_in s1.server_file ≡ taking (progress_in s.server_file) (length ms)
    sent : s1.world.once.sent ≡ s.world.once.sent ++ ms
    codes : s1.world.once.codes ≡ s.world.once.codes
    acknowledged : s1.world.once.acknowledged ≡ s.world.once.acknowledged
    to_encoder : s1.world.once.to_encoder ≡ s.world.once.to_encoder
    to_server : s1.world.once.to_server ≡ s.world.once.to_server

  submitted_so : (s : Station V) (acts : List Act) (ms : List (List ℕ)) → Backed step taken e before ready shut s acts
      → length s.world.server.held + length ms ≤ 8 → AllByRecursion (λ m. length m ≤ 255) ms → Submitted s acts ms
  submitted_so s acts [] h few fits = record {
    s1 = s;
    backed = h;
    encoder = refl;
    server = refl;
    progress = ap (λ (t : ℕ). record (progress_in s.server_file) { taken = t })
        (let e0 : s.server_file.taken ≡ s.server_file.taken + 0 = omega arith in e0);
    sent = sym (append-nil s.world.once.sent);
    codes = refl;
    acknowledged = refl;
    to_encoder = refl;
    to_server = refl;
  }
  submitted_so s acts (m ∷ ms) h few fits =
      let open_ = room step taken e before ready shut s acts m h (omega (arith, few)) in
      let s1 : Station V = station_after step taken e.address s (Submit m) in
      let held : Held = record { counter = next_counter s.world.server.last; message = m; marked = false } in
      let one : length s1.world.server.held ≡ length s.world.server.held + 1 =
      length-append s.world.server.held (held ∷ []) in
      let more = submitted_so s1 acts ms
      (subst (λ (a : List Act). Backed step taken e before ready shut s1 a) (append-nil acts)
      (backed_submit step taken e before ready shut s acts m fits.0 open_ h)) (omega (arith, few, one)) fits.1 in
      record {
        s1 = more.s1;
        backed = more.backed;
        encoder = more.encoder;
        server = more.server;
        progress = more.progress
            ∙ ap (λ (t : ℕ). record (progress_in s.server_file) { taken = t })
            (let e1 : s.server_file.taken + 1 + length ms ≡ s.server_file.taken + length (m ∷ ms) = omega arith in e1);
        sent = more.sent ∙ append_assoc s.world.once.sent (m ∷ []) ms;
        codes = more.codes;
        acknowledged = more.acknowledged;
        to_encoder = more.to_encoder;
        to_server = more.to_server;
      }

  -- the same of a server that is the same but for its counts and its open part
  record SubmittedAlike (a b : ServerState) : Type 0 where
    last : a.last ≡ b.last
    held : a.held ≡ b.held
    address : a.address ≡ b.address

  submitted_alike : (a b : ServerState) (ms : List (List ℕ)) → SubmittedAlike a b
      → SubmittedAlike (submitted_each a ms) (submitted_each b ms)
  submitted_alike a b [] h = h
  submitted_alike a b (m ∷ ms) h =
      submitted_alike (submitted a m) (submitted b m) ms (record {
        last = ap next_counter h.last;
        held = ap (λ (hs : List Held). hs ++ record { counter = next_counter a.last; message = m; marked = false } ∷ [])
            h.held
            ∙ ap (λ (l : ℕ). b.held ++ record { counter = next_counter l; message = m; marked = false } ∷ []) h.last;
        address = h.address;
      })

  submitted_still : (a : ServerState) (ms : List (List ℕ)) → (submitted_each a ms).part ≡ a.part
  submitted_still a [] = refl
  submitted_still a (m ∷ ms) = submitted_still (submitted a m) ms

  -- the acts are of messages that were sent before
  acts_below : (n : ℕ) (acts : List Act) → AllByRecursion (λ k. k < n) (messages_in acts) → (sent more : List (List ℕ))
      → length sent ≡ n → map (deed_at sent) acts ≡ map (deed_at (sent ++ more)) acts
  acts_below n [] all sent more is = refl
  acts_below n (Message k ∷ acts) all sent more is =
      ap (λ (m : List ℕ). Applies (counter_of k) m ∷ map (deed_at sent) acts)
      (sym (message_front sent more k (let l = all.0 in omega (arith, l, is))))
      ∙ ap (λ (ds : List Deed). deed_at (sent ++ more) (Message k) ∷ ds) (acts_below n acts all.1 sent more is)
  acts_below n (Taking ∷ acts) all sent more is =
      ap (λ (ds : List Deed). TakesOne ∷ ds) (acts_below n acts all sent more is)

  below_all : (p n : ℕ) → p ≤ n → AllByRecursion (λ k. k < n) (numbers_below p)
  below_all zero n l = tt
  below_all (suc p) n l =
      all_append (λ k. k < n) (numbers_below p) (p ∷ []) (below_all p n (omega (arith, l))) (omega (arith, l), tt)

  -- messages were taken: lines, or what tells the station
  record HasTaken (x u : Studio) (ms : List (List ℕ)) : Type 0 where
    server : u.server ≡ submitted_each x.server ms
    file_last : u.is_saved ≡ true → u.file.last ≡ (submitted_each x.server ms).last
    file_held : u.is_saved ≡ true → u.file.held ≡ (submitted_each x.server ms).held
    counted : u.file.taken + u.station ≡ x.file.taken + x.station + length ms
    said : u.station ≤ x.station + length ms
    sent : u.sent ≡ x.sent ++ ms
    heard : (k : ℕ) → u.heard k ≡ x.heard k
    told : (k : ℕ) → u.told k ≡ x.told k

  taken_match : (x : Ends V) (u : Studio) (ms : List (List ℕ)) → AreTaken x.studio ms → HasTaken x.studio u ms → M x
      → M (record x { studio = u })
  taken_match x u ms may has m =
      takes_so (submitted_so m.s m.acts ms m.backed
      (let same = ap length m.studio.held in let few = may.0 in omega (arith, same, few)) may.1)
    where
      takes_so : Submitted m.s m.acts ms → M (record x { studio = u })
      takes_so t =
          let s : Station V = m.s in
          let s1 : Station V = server_saved t.s1 in
          let h1 = backed_saved step taken e before ready shut t.s1 m.acts t.backed in
          let law = law_at step taken e before ready shut s m.acts m.backed in
          let lawful = lawful_of step taken e ready shut s.world m.acts m.backed.now in
          let alike = submitted_alike x.studio.server s.world.server ms (record {
            last = m.studio.last;
            held = m.studio.held;
            address = m.studio.address
                ∙ sym (server_address_at step taken e before ready shut s m.acts m.backed);
          }) in
          let server : SubmittedAlike (submitted_each x.studio.server ms) t.s1.world.server =
          subst (λ (y : ServerState). SubmittedAlike (submitted_each x.studio.server ms) y) (sym t.server) alike in
          let n_is : length s1.world.once.sent ≡ length s.world.once.sent + length ms =
          ap length t.sent ∙ length-append s.world.once.sent ms in
          let below : AllByRecursion (λ k. k < length s.world.once.sent) (messages_in m.acts) =
          subst (λ (l : List ℕ). AllByRecursion (λ k. k < length s.world.once.sent) l) (sym law.2.order)
          (below_all law.0 (length s.world.once.sent) law.1.all_but_eight.0) in
          let pipe = m.in_time.way in
          let gone = let_go_is e.address s.world.encoder s.world.server s.world.once lawful.p lawful.q lawful.kept in
          let q_le : lawful.q ≤ m.in_time.top =
          all_gone lawful.q (λ k l. m.in_time.acked k (lawful.kept.below k l)) in
          record {
            s = s1;
            acts = m.acts;
            backed = h1;
            none = t.to_encoder ∙ m.none;
            none_back = t.to_server ∙ m.none_back;
            kept = m.kept ∙ ap (λ (y : EncoderState V). encoder_kept y) (sym t.encoder);
            lived = m.lived;
            deeds = m.deeds ∙ acts_below (length s.world.once.sent) m.acts below s.world.once.sent ms refl
                ∙ ap (λ (l : List (List ℕ)). map (deed_at l) m.acts) (sym t.sent);
            studio = record {
              last = ap (λ (y : ServerState). y.last) has.server ∙ server.last;
              held = ap (λ (y : ServerState). y.held) has.server ∙ server.held;
              address = ap (λ (y : ServerState). y.address) has.server ∙ submitted_address x.studio.server ms
                  ∙ m.studio.address;
              file_last = λ saved. has.file_last saved ∙ server.last;
              file_held = λ saved. has.file_held saved ∙ server.held;
              counted = (let now = has.counted in let was = m.studio.counted in
                  let more = ap (λ (p : Progress). p.taken) t.progress in omega (arith, now, was, more));
              said = (let more = has.said in let was = m.studio.said in
                  let all = ap length t.sent in let two = length-append s.world.once.sent ms in
                  omega (arith, more, was, all, two));
              sent = has.sent ∙ ap (λ (l : List (List ℕ)). l ++ ms) m.studio.sent ∙ sym t.sent;
              heard = λ k code is. ap (λ (c : ℕ → Option Code). c k) t.codes
                  ∙ m.studio.heard k code (sym (has.heard k) ∙ is);
              told = λ k code is. ap (λ (c : ℕ → Option Code). c k) t.codes
                  ∙ m.studio.told k code (sym (has.told k) ∙ is);
            };
            part = m.part;
            part_is = m.part_is;
            quiet = m.quiet;
            frames = m.frames;
            coming = subst (λ (l : List (List ℕ)). Comes e.address l m.part x.between.coming m.frames) (sym t.sent)
                (comes_more e.address s.world.once.sent ms m.part x.between.coming m.frames
                (all_back (λ k. k < length s.world.once.sent) m.replies (all_of m.frames) pipe.sent) m.coming);
            heard_part = m.heard_part;
            heard_part_is = ap (λ (y : ServerState). y.part) has.server ∙ submitted_still x.studio.server ms
                ∙ m.heard_part_is;
            heard_quiet = m.heard_quiet;
            replies = m.replies;
            going = m.going
                ∙ ap (λ (c : ℕ → Option Code). spelled (reply_in e.address c) m.replies) (sym t.codes);
            coded = subst (λ (c : ℕ → Option Code). AllByRecursion (λ k. is_some (c k) ≡ true) m.replies) (sym t.codes)
                m.coded;
            in_time = record {
              top = m.in_time.top;
              few = (let few = may.0 in let same = ap length m.studio.held in
                  omega (arith, n_is, few, same, gone, q_le));
              most = (let most = m.in_time.most in omega (arith, n_is, most));
              way = record {
                sent = all_so (λ k. k < length s.world.once.sent) (λ k. k < length s1.world.once.sent)
                    (m.replies ++ all_of m.frames) (λ k l. omega (arith, l, n_is)) pipe.sent;
                near = pipe.near;
                falls = pipe.falls;
              };
              acked = λ k is. m.in_time.acked k (ap (λ (f : ℕ → Bool). f k) (sym t.acknowledged) ∙ is);
              acked_file = λ k is. m.in_time.acked k (ap (λ (f : ℕ → Bool). f k) (sym t.acknowledged)
                  ∙ sym (saved_shows t.s1 m.acts t.backed k) ∙ is);
            };
          }
        where
          all_gone : (q : ℕ) → ((k : ℕ) → k < q → k < m.in_time.top) → q ≤ m.in_time.top
          all_gone zero each = omega arith
          all_gone (suc q) each = let l = each q (omega arith) in omega (arith, l)

  pub takes_match : (x : Ends V) (ms : List (List ℕ)) → MayHappen x (TakesLines ms) → M x
      → M (ends_after step taken x (TakesLines ms))
  takes_match x ms may m =
      taken_match x (studio_after x.studio (TakesLines ms)) ms may (record {
        server = refl;
        file_last = λ saved. refl;
        file_held = λ saved. refl;
        counted = omega arith;
        said = omega arith;
        sent = refl;
        heard = λ k. refl;
        told = λ k. refl;
      }) m

  pub says_match : (x : Ends V) (ms : List (List ℕ)) → MayHappen x (SaysStation ms) → M x
      → M (ends_after step taken x (SaysStation ms))
  says_match x ms may m =
      taken_match x (studio_after x.studio (SaysStation ms)) ms may.1 (record {
        server = refl;
        file_last = λ saved. absurd (false≢true saved);
        file_held = λ saved. absurd (false≢true saved);
        counted = omega arith;
        said = omega arith;
        sent = refl;
        heard = λ k. refl;
        told = λ k. refl;
      }) m
