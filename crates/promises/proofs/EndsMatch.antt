-- What both ends and the bytes between them have come to is what events of a line and crashes come to.
use Rattle.std.proofs.Common.{◌≡◌, ℕ, ◌+◌, ◌<◌, ◌≤◌, Bool, true, false, cond, List, [], ◌∷◌, ◌++◌}
use Rattle.std.proofs.Common.{length, map, take, drop, Option, Some, None, refl, ap, sym, subst, ◌∙◌, arith}
use Rattle.std.proofs.Common.{append_assoc, append-nil}
use Rattle.std.proofs.Math.Seq.{take-append-add, drop-append-add}
use Rattle.std.specs.Prelude.{is_some, unwrap_or}
use Rattle.std.specs.List.{AllByRecursion}
use Rattle.std.specs.Io.{StartsWith}
use Rattle.std.proofs.lemmas.Bool.{false≢true}
use Rattle.std.proofs.lemmas.List.{map-append}
use Rattle.uecp_elements.specs.declared.code.Code.{Code}
use Rattle.uecp_elements.specs.declared.code.Code.TheVariants.{Applied}
use Rattle.uecp_frame.specs.Frame.{spelling}
use Rattle.uecp_frame.specs.Findings.{OpenPart, Closed, has_frame}
use Rattle.uecp_frame.specs.Beyond.{found_beyond, open_beyond}
use Rattle.uecp_frame.proofs.Public.{new_start_lem}
use Rattle.uecp_encoder.specs.Target.{Step, Taken}
use Rattle.uecp_encoder.specs.State.{EncoderState, no_counts, fed}
use Rattle.uecp_encoder.specs.Answering.{answers}
use Rattle.uecp_encoder.specs.Keeping.{Kept}
use Rattle.uecp_encoder.specs.Keeping.{kept_of as encoder_kept}
use Rattle.uecp_encoder.proofs.Public.{in_pieces_of_encoder}
use Rattle.uecp_link.specs.Server.{ServerState, Held}
use Rattle.uecp_link.specs.History.{Act}
use Rattle.uecp_link.specs.Kept.{IsReady}
use Rattle.uecp_net.specs.Keeping.{KeptServer}
use Rattle.promises.specs.Station.{Station, acknowledged_by, station_from}
use Rattle.promises.proofs.EndFrames.{replies_of}
use Rattle.promises.specs.DeviceLives.{Deed, deeds_of}
use Rattle.promises.specs.Ends.{Ends, Studio, Reads, IsNewServer, ends_from, ends_after, read_of, is_studios}
use Rattle.promises.proofs.Backing.{Backed, backed_from, none_shown}
use Rattle.promises.proofs.Days.{Lived, lived_on, fed_lived}
use Rattle.promises.proofs.Cutting.{spelled, spelled-append, cut, Cut}
use Rattle.promises.proofs.Uncounted.{uncounted, fed_alike, answers_alike, deeds_alike, quiet_fed, quiet_answers}
use Rattle.promises.proofs.Uncounted.{quiet_deeds, deeds_in_pieces}
use Rattle.promises.proofs.EndLists.{Sub, sub_all, sub_both, sub_behind, all_append, all_front, all_back, AreOnTheWay}
use Rattle.promises.proofs.EndLists.{some_on_the_way}
use Rattle.promises.proofs.EndFrames.{deed_at, frame_in, IsNear, closed_at, address_at, fits_at, FramesDo, frames_do}
use Rattle.promises.proofs.EndReplies.{reply_in, replies_spelled}

-- all of them, one connection behind another
abbrev pub all_of : List (List ℕ) → List ℕ
all_of [] = []
all_of (ks ∷ kss) = ks ++ all_of kss

-- Behind what came of the first, this is left of the frames of these numbers, connection by connection.
abbrev pub Comes : (address : ℕ) → (sent : List (List ℕ)) → (part : List ℕ) → (coming frames : List (List ℕ)) → Type 0
Comes address sent part [] [] = part ≡ []
Comes address sent part [] (ks ∷ kss) = ⊥
Comes address sent part (c ∷ cs) [] = ⊥
Comes address sent part (c ∷ cs) (ks ∷ kss) =
    (part ++ c ≡ spelled (frame_in address sent) ks) × Comes address sent [] cs kss

-- codes that are there stay
pub respelled : (address : ℕ) (codes codes' : ℕ → Option Code)
    → ((k : ℕ) (code : Code) → codes k ≡ Some code → codes' k ≡ Some code) → (ks : List ℕ)
    → AllByRecursion (λ k. is_some (codes k) ≡ true) ks
    → spelled (reply_in address codes) ks ≡ spelled (reply_in address codes') ks
respelled address codes codes' grow [] all = refl
respelled address codes codes' grow (k ∷ ks) all =
    ap (λ (c : Code). spelling (Rattle.uecp_encoder.specs.Answering.reply_of address
    (Rattle.uecp_link.specs.Counters.counter_of k) c) ++ spelled (reply_in address codes) ks)
    (same (codes k) refl all.0)
    ∙ ap (λ (z : List ℕ). spelling (reply_in address codes' k) ++ z) (respelled address codes codes' grow ks all.1)
  where
    same : (c : Option Code) → codes k ≡ c → is_some c ≡ true
        → unwrap_or (codes k) Applied ≡ unwrap_or (codes' k) Applied
    same (Some c) is some =
        ap (λ (d : Option Code). unwrap_or d Applied) is
        ∙ sym (ap (λ (d : Option Code). unwrap_or d Applied) (grow k c is))
    same None is some = absurd (cc)

pub still_coded : (codes codes' : ℕ → Option Code)
    → ((k : ℕ) (code : Code) → codes k ≡ Some code → codes' k ≡ Some code) → (ks : List ℕ)
    → AllByRecursion (λ k. is_some (codes k) ≡ true) ks → AllByRecursion (λ k. is_some (codes' k) ≡ true) ks
still_coded codes codes' grow [] all = tt
still_coded codes codes' grow (k ∷ ks) all = (one (codes k) refl all.0, still_coded codes codes' grow ks all.1)
  where
    one : (c : Option Code) → codes k ≡ c → is_some c ≡ true → is_some (codes' k) ≡ true
    one (Some c) is some = ap is_some (grow k c is)
    one None is some = absurd (cc)

-- an encoder by what is kept of it, and what is open
abbrev pub encoder_of : {V : Type 0} → ℕ → Kept V → OpenPart → EncoderState V
encoder_of a k p = record { address = a; value = k.value; ring = k.ring; counts = no_counts; part = p }

module _ {V : Type 0} (step : Step V) (taken : Taken V) (e : EncoderState V) (before : ℕ) (ready : IsReady e.ring)
    (shut : e.part ≡ Closed) where
  -- What is known at the studio is what a line with its files has come to; of a code that was heard or told it is the
  -- message's own.
  pub record StudioMatches (x : Studio) (s : Station V) : Type 0 where
    pub last : x.server.last ≡ s.world.server.last
    pub held : x.server.held ≡ s.world.server.held
    pub address : x.server.address ≡ e.address
    pub file_last : x.is_saved ≡ true → x.file.last ≡ s.server_file.last
    pub file_held : x.is_saved ≡ true → x.file.held ≡ s.server_file.held
    pub counted : x.file.taken + x.station ≡ s.server_file.taken
    pub said : x.station ≤ length s.world.once.sent
    pub sent : x.sent ≡ s.world.once.sent
    pub heard : (k : ℕ) (code : Code) → x.heard k ≡ Some code → s.world.once.codes k ≡ Some code
    pub told : (k : ℕ) (code : Code) → x.told k ≡ Some code → s.world.once.codes k ≡ Some code

  -- Nothing comes too late: so far reaches what was heard.
  pub record IsInTime (s : Station V) (ks : List ℕ) : Type 0 where
    pub top : ℕ
    pub few : length s.world.once.sent ≤ top + 8
    pub most : top ≤ length s.world.once.sent
    pub way : AreOnTheWay (length s.world.once.sent) top ks
    pub acked : (k : ℕ) → s.world.once.acknowledged k ≡ true → k < top
    pub acked_file : (k : ℕ) → acknowledged_by s.server_file.held (length s.world.once.sent) k ≡ true → k < top

  pub record Matches (x : Ends V) : Type 0 where
    pub s : Station V
    pub acts : List Act
    pub backed : Backed step taken e before ready shut s acts
    pub none : s.world.once.to_encoder ≡ []
    pub none_back : s.world.once.to_server ≡ []
    -- the encoder, and what was done to its store
    pub kept : encoder_kept x.transmitter.encoder ≡ encoder_kept s.world.encoder
    pub lived : Lived step taken e x.transmitter.encoder x.transmitter.deeds
    pub deeds : x.transmitter.deeds ≡ map (deed_at s.world.once.sent) acts
    -- the studio
    pub studio : StudioMatches x.studio s
    -- what comes to the encoder
    pub part : List ℕ
    pub part_is : x.transmitter.encoder.part ≡ open_beyond Closed part
    pub quiet : has_frame (found_beyond Closed part) ≡ false
    pub frames : List (List ℕ)
    pub coming : Comes e.address s.world.once.sent part x.between.coming frames
    -- what comes to the studio
    pub heard_part : List ℕ
    pub heard_part_is : x.studio.server.part ≡ open_beyond Closed heard_part
    pub heard_quiet : has_frame (found_beyond Closed heard_part) ≡ false
    pub replies : List ℕ
    pub going : heard_part ++ x.between.going ≡ spelled (reply_in e.address s.world.once.codes) replies
    pub coded : AllByRecursion (λ k. is_some (s.world.once.codes k) ≡ true) replies
    pub in_time : IsInTime s (replies ++ all_of frames)

  pub nothing_there : has_frame (found_beyond Closed []) ≡ false
  nothing_there = ap has_frame (new_start_lem Closed []).nothing

  pub nothing_open : Closed ≡ open_beyond Closed []
  nothing_open = sym (new_start_lem Closed []).stays

  pub studio_stays : (x : Studio) (s s1 : Station V) → s1.world.server ≡ s.world.server
      → s1.server_file ≡ s.server_file → s1.world.once.sent ≡ s.world.once.sent
      → ((k : ℕ) (code : Code) → s.world.once.codes k ≡ Some code → s1.world.once.codes k ≡ Some code)
      → StudioMatches x s → StudioMatches x s1
  studio_stays x s s1 server file sent grow m = record {
    last = m.last ∙ ap (λ (d : ServerState). d.last) (sym server);
    held = m.held ∙ ap (λ (d : ServerState). d.held) (sym server);
    address = m.address;
    file_last = λ saved. m.file_last saved ∙ ap (λ (f : KeptServer). f.last) (sym file);
    file_held = λ saved. m.file_held saved ∙ ap (λ (f : KeptServer). f.held) (sym file);
    counted = m.counted ∙ ap (λ (f : KeptServer). f.taken) (sym file);
    said = subst (λ (ms : List (List ℕ)). x.station ≤ length ms) (sym sent) m.said;
    sent = m.sent ∙ sym sent;
    heard = λ k code is. grow k code (m.heard k code is);
    told = λ k code is. grow k code (m.told k code is);
  }

  -- some are still on their way
  pub some_in_time : (s : Station V) (xs ys : List ℕ) → IsInTime s ys → Sub xs ys → IsInTime s xs
  some_in_time s xs ys t h = record {
    top = t.top;
    few = t.few;
    most = t.most;
    way = some_on_the_way (length s.world.once.sent) t.top xs ys t.way h;
    acked = t.acked;
    acked_file = t.acked_file;
  }

  -- ---- At first.

  pub first_match : (server : ServerState) → IsNewServer e.address server → Matches (ends_from e server before)
  first_match server new =
      let s : Station V = station_from e before in
      let h = backed_from step taken e before ready shut in
      record {
        s = s;
        acts = [];
        backed = h;
        none = refl;
        none_back = refl;
        kept = refl;
        lived = record { store = refl; leads = refl; address = refl };
        deeds = refl;
        studio = record {
          last = new.last;
          held = new.held;
          address = new.at;
          file_last = λ saved. new.last;
          file_held = λ saved. new.held;
          counted = (let none : before + 0 ≡ before = omega arith in none);
          said = omega arith;
          sent = refl;
          heard = λ k code is. absurd (nothing code is);
          told = λ k code is. absurd (nothing code is);
        };
        part = [];
        part_is = shut ∙ nothing_open;
        quiet = nothing_there;
        frames = [];
        coming = refl;
        heard_part = [];
        heard_part_is = new.part ∙ nothing_open;
        heard_quiet = nothing_there;
        replies = [];
        going = refl;
        coded = tt;
        in_time = record {
          top = 0;
          few = omega arith;
          most = omega arith;
          way = record { sent = tt; near = tt; falls = tt };
          acked = λ k is. absurd (false≢true is);
          acked_file = λ k is. absurd (false≢true (sym (none_shown step taken e before ready shut k) ∙ is));
        };
      }
    where
      nothing : (code : Code) → None ≡ Some code → ⊥
      nothing code is = absurd (cc)

  -- ---- The encoder reads.

  -- it is, but for its counts, what it is of the line once the part came that is open
  pub encoder_is : (x : Ends V) (m : Matches x)
      → uncounted x.transmitter.encoder ≡ uncounted (fed step m.s.world.encoder m.part)
  encoder_is x m =
      let enc : EncoderState V = m.s.world.encoder in
      let closed = closed_at step taken e before ready shut m.s m.acts m.backed m.none in
      ap (λ (a : ℕ). encoder_of a (encoder_kept x.transmitter.encoder) x.transmitter.encoder.part)
      (m.lived.address ∙ sym (address_at step taken e before ready shut m.s m.acts m.backed))
      ∙ ap (λ (k : Kept V). encoder_of enc.address k x.transmitter.encoder.part) m.kept
      ∙ ap (encoder_of enc.address (encoder_kept enc))
      (m.part_is ∙ ap (λ (p : OpenPart). open_beyond p m.part) (sym closed))
      ∙ sym (quiet_fed step enc m.part (ap (λ (p : OpenPart). has_frame (found_beyond p m.part)) closed ∙ m.quiet))

  pub reads_so : (x : Ends V) (m : Matches x) (bytes c ks : List ℕ) (cs kss : List (List ℕ)) → x.between.coming ≡ c ∷ cs
      → m.part ++ c ≡ spelled (frame_in e.address m.s.world.once.sent) ks
      → Comes e.address m.s.world.once.sent [] cs kss → StartsWith c bytes
      → IsInTime m.s (m.replies ++ (ks ++ all_of kss))
      → Matches (ends_after step taken x (Reads bytes))
  reads_so x m bytes c ks cs kss coming_is first later starts in_time =
      goes_on (cut (frame_in e.address m.s.world.once.sent)
      (fits_at step taken e before ready shut m.s m.acts m.backed) ks (length m.part + length bytes))
    where
      goes_on : Cut (frame_in e.address m.s.world.once.sent) ks (length m.part + length bytes)
          → Matches (ends_after step taken x (Reads bytes))
      goes_on d =
          let s : Station V = m.s in
          let in_time1 : IsInTime s (m.replies ++ ((d.came ++ d.rest) ++ all_of kss)) =
          subst (λ (l : List ℕ). IsInTime s (m.replies ++ (l ++ all_of kss))) d.split in_time in
          let all_near = all_front (λ k. k < length s.world.once.sent) d.came d.rest
          (all_front (λ k. k < length s.world.once.sent) (d.came ++ d.rest) (all_of kss)
          (all_back (λ k. k < length s.world.once.sent) m.replies ((d.came ++ d.rest) ++ all_of kss)
          in_time1.way.sent)) in
          does d in_time1 (frames_do step taken e before ready shut s m.acts d.came m.backed
          (nears (length s.world.once.sent) in_time1.top d.came all_near (all_front (λ k. in_time1.top ≤ k + 8)
          d.came d.rest
          (all_front (λ k. in_time1.top ≤ k + 8) (d.came ++ d.rest) (all_of kss)
          (all_back (λ k. in_time1.top ≤ k + 8) m.replies ((d.came ++ d.rest) ++ all_of kss)
          in_time1.way.near))) in_time1.few) m.none)
        where
          nears : (n top : ℕ) (js : List ℕ) → AllByRecursion (λ k. k < n) js → AllByRecursion (λ k. top ≤ k + 8) js
              → n ≤ top + 8 → AllByRecursion (IsNear n) js
          nears n top [] b l few = tt
          nears n top (j ∷ js) b l few = (
            (let lj = l.0 in record { below = b.0; recent = omega (arith, lj, few) }),
            nears n top js b.1 l.1 few,
          )

          with_replies : (d : Cut (frame_in e.address m.s.world.once.sent) ks (length m.part + length bytes))
              → (t : IsInTime m.s (m.replies ++ ((d.came ++ d.rest) ++ all_of kss)))
              → (f : FramesDo step taken e before ready shut m.s m.acts d.came)
              → (replies : List ℕ)
              → m.heard_part ++ (ends_after step taken x (Reads bytes)).between.going
              ≡ spelled (reply_in e.address f.after_them.world.once.codes) replies
              → AllByRecursion (λ k. is_some (f.after_them.world.once.codes k) ≡ true) replies
              → Sub (replies ++ (d.rest ++ all_of kss)) (m.replies ++ ((d.came ++ d.rest) ++ all_of kss))
              → uncounted (fed step x.transmitter.encoder bytes)
              ≡ uncounted (record f.after_them.world.encoder {
                part = open_beyond f.after_them.world.encoder.part d.part;
              })
              → deeds_of step x.transmitter.encoder bytes ≡ map (deed_at m.s.world.once.sent) f.brought
              → d.part ++ drop (length bytes) c ≡ spelled (frame_in e.address m.s.world.once.sent) d.rest
              → Matches (ends_after step taken x (Reads bytes))
          with_replies d t f replies going coded some now done left_is =
              let s1 : Station V = f.after_them in
              let closed1 = closed_at step taken e before ready shut s1 (m.acts ++ f.brought) f.backed f.none in
              record {
                s = s1;
                acts = m.acts ++ f.brought;
                backed = f.backed;
                none = f.none;
                none_back = f.to_server ∙ m.none_back;
                kept = ap (λ (y : EncoderState V). encoder_kept y) now;
                lived = lived_on step taken e x.transmitter.encoder (fed step x.transmitter.encoder bytes)
                    x.transmitter.deeds (deeds_of step x.transmitter.encoder bytes) m.lived
                    (fed_lived step taken x.transmitter.encoder bytes);
                deeds = ap (λ (ds : List Deed). ds ++ deeds_of step x.transmitter.encoder bytes) m.deeds
                    ∙ ap (λ (ds : List Deed). map (deed_at m.s.world.once.sent) m.acts ++ ds) done
                    ∙ sym (map-append (deed_at m.s.world.once.sent) m.acts f.brought)
                    ∙ ap (λ (ms : List (List ℕ)). map (deed_at ms) (m.acts ++ f.brought)) (sym f.sent);
                studio = studio_stays x.studio m.s s1 f.server f.file f.sent f.grow m.studio;
                part = d.part;
                part_is = ap (λ (y : EncoderState V). y.part) now
                    ∙ ap (λ (p : OpenPart). open_beyond p d.part) closed1;
                quiet = d.quiet;
                frames = d.rest ∷ kss;
                coming = subst (λ (ms : List (List ℕ)). Comes e.address ms d.part
                    (read_of x.between.coming (length bytes)) (d.rest ∷ kss)) (sym f.sent)
                    (subst (λ (l : List (List ℕ)). Comes e.address m.s.world.once.sent d.part
                    (read_of l (length bytes)) (d.rest ∷ kss)) (sym coming_is) (left_is, later));
                heard_part = m.heard_part;
                heard_part_is = m.heard_part_is;
                heard_quiet = m.heard_quiet;
                replies = replies;
                going = going;
                coded = coded;
                in_time = record {
                  top = t.top;
                  few = (let same = ap length f.sent in let few = t.few in omega (arith, same, few));
                  most = (let same = ap length f.sent in let most = t.most in omega (arith, same, most));
                  way = subst (λ (ms : List (List ℕ)). AreOnTheWay (length ms) t.top
                      (replies ++ (d.rest ++ all_of kss))) (sym f.sent)
                      (some_on_the_way (length m.s.world.once.sent) t.top (replies ++ (d.rest ++ all_of kss))
                      (m.replies ++ ((d.came ++ d.rest) ++ all_of kss)) t.way some);
                  acked = λ k is. t.acked k (ap (λ (g : ℕ → Bool). g k) (sym f.acknowledged) ∙ is);
                  acked_file = λ k is. t.acked_file k
                      (sym (ap (λ (ms : List (List ℕ)). acknowledged_by s1.server_file.held (length ms) k) f.sent
                      ∙ ap (λ (hs : List Held). acknowledged_by hs (length m.s.world.once.sent) k)
                      (ap (λ (file : KeptServer). file.held) f.file)) ∙ is);
                };
              }

          by_studio : (b : Bool) → is_studios x.between ≡ b
              → (d : Cut (frame_in e.address m.s.world.once.sent) ks (length m.part + length bytes))
              → IsInTime m.s (m.replies ++ ((d.came ++ d.rest) ++ all_of kss))
              → (f : FramesDo step taken e before ready shut m.s m.acts d.came)
              → uncounted (fed step x.transmitter.encoder bytes)
              ≡ uncounted (record f.after_them.world.encoder {
                part = open_beyond f.after_them.world.encoder.part d.part;
              })
              → answers step x.transmitter.encoder bytes ≡ replies_of e.address f.after_them.world.once f.replied_to
              → deeds_of step x.transmitter.encoder bytes ≡ map (deed_at m.s.world.once.sent) f.brought
              → d.part ++ drop (length bytes) c ≡ spelled (frame_in e.address m.s.world.once.sent) d.rest
              → Matches (ends_after step taken x (Reads bytes))
          by_studio true is d t f now answered done left_is =
              with_replies d t f (m.replies ++ f.replied_to)
              (ap (λ (b : Bool). m.heard_part ++ cond b (x.between.going ++ answers step x.transmitter.encoder bytes)
              x.between.going) is
              ∙ sym (append_assoc m.heard_part x.between.going (answers step x.transmitter.encoder bytes))
              ∙ ap (λ (z : List ℕ). z ++ answers step x.transmitter.encoder bytes)
              (m.going ∙ respelled e.address m.s.world.once.codes f.after_them.world.once.codes f.grow m.replies
              m.coded)
              ∙ ap (λ (z : List ℕ). spelled (reply_in e.address f.after_them.world.once.codes) m.replies ++ z)
              (answered ∙ replies_spelled e.address f.after_them.world.once f.replied_to f.coded)
              ∙ sym (spelled-append (reply_in e.address f.after_them.world.once.codes) m.replies f.replied_to))
              (all_append (λ k. is_some (f.after_them.world.once.codes k) ≡ true) m.replies f.replied_to
              (still_coded m.s.world.once.codes f.after_them.world.once.codes f.grow m.replies m.coded) f.coded)
              (subst (λ (l : List ℕ). Sub l (m.replies ++ ((d.came ++ d.rest) ++ all_of kss)))
              (sym (append_assoc m.replies f.replied_to (d.rest ++ all_of kss)))
              (subst (λ (l : List ℕ). Sub (m.replies ++ (f.replied_to ++ (d.rest ++ all_of kss))) (m.replies ++ l))
              (sym (append_assoc d.came d.rest (all_of kss)))
              (sub_both m.replies m.replies (f.replied_to ++ (d.rest ++ all_of kss))
              (d.came ++ (d.rest ++ all_of kss)) (sub_all m.replies)
              (sub_both f.replied_to d.came (d.rest ++ all_of kss) (d.rest ++ all_of kss) f.some
              (sub_all (d.rest ++ all_of kss))))))
              now done left_is
          by_studio false is d t f now answered done left_is =
              with_replies d t f m.replies
              (ap (λ (b : Bool). m.heard_part ++ cond b (x.between.going ++ answers step x.transmitter.encoder bytes)
              x.between.going) is
              ∙ m.going
              ∙ respelled e.address m.s.world.once.codes f.after_them.world.once.codes f.grow m.replies m.coded)
              (still_coded m.s.world.once.codes f.after_them.world.once.codes f.grow m.replies m.coded)
              (subst (λ (l : List ℕ). Sub (m.replies ++ (d.rest ++ all_of kss)) (m.replies ++ l))
              (sym (append_assoc d.came d.rest (all_of kss)))
              (sub_both m.replies m.replies (d.rest ++ all_of kss) (d.came ++ (d.rest ++ all_of kss))
              (sub_all m.replies) (sub_behind (d.rest ++ all_of kss) (d.rest ++ all_of kss) d.came
              (sub_all (d.rest ++ all_of kss)))))
              now done left_is

          does : (d : Cut (frame_in e.address m.s.world.once.sent) ks (length m.part + length bytes))
              → IsInTime m.s (m.replies ++ ((d.came ++ d.rest) ++ all_of kss))
              → FramesDo step taken e before ready shut m.s m.acts d.came
              → Matches (ends_after step taken x (Reads bytes))
          does d in_time1 f =
              let s : Station V = m.s in
              let s1 : Station V = f.after_them in
              let acts1 : List Act = m.acts ++ f.brought in
              let enc : EncoderState V = s.world.encoder in
              let sent : List (List ℕ) = s.world.once.sent in
              let whole : List ℕ = spelled (frame_in e.address sent) d.came in
              let closed = closed_at step taken e before ready shut s m.acts m.backed m.none in
              let closed1 = closed_at step taken e before ready shut s1 acts1 f.backed f.none in
              let bytes_are : m.part ++ bytes ≡ whole ++ d.part =
              ap (λ (z : List ℕ). m.part ++ z) (sym starts)
              ∙ sym (take-append-add m.part c (length bytes))
              ∙ ap (take (length m.part + length bytes)) first ∙ d.is in
              let left_is : d.part ++ drop (length bytes) c ≡ spelled (frame_in e.address sent) d.rest =
              ap (λ (z : List ℕ). d.part ++ z) (sym (drop-append-add m.part c (length bytes))
              ∙ ap (drop (length m.part + length bytes)) first) ∙ d.left in
              let part_quiet : has_frame (found_beyond enc.part m.part) ≡ false =
              ap (λ (p : OpenPart). has_frame (found_beyond p m.part)) closed ∙ m.quiet in
              let rest_quiet : has_frame (found_beyond s1.world.encoder.part d.part) ≡ false =
              ap (λ (p : OpenPart). has_frame (found_beyond p d.part)) closed1 ∙ d.quiet in
              let first_pieces = in_pieces_of_encoder step enc m.part bytes in
              let then_pieces = in_pieces_of_encoder step enc whole d.part in
              let now : uncounted (fed step x.transmitter.encoder bytes)
              ≡ uncounted (record s1.world.encoder { part = open_beyond s1.world.encoder.part d.part }) =
              fed_alike step x.transmitter.encoder (fed step enc m.part) bytes (encoder_is x m)
              ∙ ap uncounted (sym first_pieces.state ∙ ap (fed step enc) bytes_are ∙ then_pieces.state
              ∙ ap (λ (y : EncoderState V). fed step y d.part) f.encoder)
              ∙ quiet_fed step s1.world.encoder d.part rest_quiet in
              let answered : answers step x.transmitter.encoder bytes
              ≡ replies_of e.address s1.world.once f.replied_to =
              answers_alike step x.transmitter.encoder (fed step enc m.part) bytes (encoder_is x m)
              ∙ (ap (λ (z : List ℕ). z ++ answers step (fed step enc m.part) bytes)
              (sym (quiet_answers step enc m.part part_quiet)) ∙ sym first_pieces.answers
              ∙ ap (answers step enc) bytes_are ∙ then_pieces.answers
              ∙ ap (λ (z : List ℕ). answers step enc whole ++ z)
              (ap (λ (y : EncoderState V). answers step y d.part) f.encoder
              ∙ quiet_answers step s1.world.encoder d.part rest_quiet)
              ∙ append-nil (answers step enc whole) ∙ f.answered) in
              let done : deeds_of step x.transmitter.encoder bytes ≡ map (deed_at sent) f.brought =
              deeds_alike step x.transmitter.encoder (fed step enc m.part) bytes (encoder_is x m)
              ∙ (ap (λ (z : List Deed). z ++ deeds_of step (fed step enc m.part) bytes)
              (sym (quiet_deeds step enc m.part part_quiet)) ∙ sym (deeds_in_pieces step enc m.part bytes)
              ∙ ap (deeds_of step enc) bytes_are ∙ deeds_in_pieces step enc whole d.part
              ∙ ap (λ (z : List Deed). deeds_of step enc whole ++ z)
              (ap (λ (y : EncoderState V). deeds_of step y d.part) f.encoder
              ∙ quiet_deeds step s1.world.encoder d.part rest_quiet)
              ∙ append-nil (deeds_of step enc whole) ∙ f.done) in
              by_studio (is_studios x.between) refl d in_time1 f now answered done left_is
