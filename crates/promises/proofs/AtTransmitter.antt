-- What happens at the transmitter is events of a line and crashes.
use Rattle.std.proofs.Common.{◌≡◌, ℕ, Bool, true, false, cond, List, [], ◌∷◌, ◌++◌}
use Rattle.std.proofs.Common.{drop, refl, ap, sym, subst, ◌∙◌}
use Rattle.std.proofs.Common.{inl, inr}
use Rattle.std.proofs.Common.{Ok, Err, eq-eqb}
use Rattle.std.specs.List.{AllByRecursion}
use Rattle.std.proofs.lemmas.List.{map-append}
use Rattle.uecp_frame.specs.Address.{reaches}
use Rattle.uecp_frame.specs.Findings.{Finding, OpenPart, Closed, has_frame}
use Rattle.uecp_frame.specs.Beyond.{found_beyond, open_beyond}
use Rattle.uecp_encoder.specs.Target.{Step, Taken}
use Rattle.uecp_encoder.specs.State.{EncoderState, raised, after_finding, after_findings}
use Rattle.uecp_encoder.specs.Keeping.{Kept}
use Rattle.uecp_encoder.specs.Keeping.{kept_of as encoder_kept}
use Rattle.uecp_link.specs.Once.{Take}
use Rattle.uecp_link.specs.History.{Taking}
use Rattle.uecp_link.specs.Kept.{IsReady}
use Rattle.promises.specs.Station.{Station, station_after}
use Rattle.promises.specs.DeviceLives.{Deed, TakesOne}
use Rattle.promises.specs.Ends.{Ends, Studio}
use Rattle.promises.specs.Ends.{Reads, Leaves, EncoderCrashes, Gives, Stranger, ends_after, ComeFirst}
use Rattle.promises.specs.Ends.{MayHappen, IsNotFor}
use Rattle.promises.proofs.Backing.{backed_after}
use Rattle.promises.proofs.Days.{Lived, still_lived, taken_lived}
use Rattle.promises.proofs.Uncounted.{uncounted}
use Rattle.promises.proofs.EndLists.{Sub, sub_all, sub_both, sub_behind}
use Rattle.promises.proofs.EndFrames.{deed_at}
use Rattle.promises.proofs.EndsMatch.{all_of, Comes, Matches, StudioMatches, IsInTime, nothing_there, nothing_open}
use Rattle.promises.proofs.EndsMatch.{studio_stays, reads_so}
use Rattle.promises.proofs.EndsMatch.{some_in_time}

-- the first is left
comes_behind : (address : ℕ) (sent : List (List ℕ)) (part : List ℕ) (coming frames : List (List ℕ))
    → Comes address sent part coming frames → Comes address sent [] (drop 1 coming) (drop 1 frames)
comes_behind address sent part [] [] none = refl
comes_behind address sent part [] (ks ∷ kss) h = absurd h
comes_behind address sent part (c ∷ cs) [] h = absurd h
comes_behind address sent part (c ∷ cs) (ks ∷ kss) h = h.1

some_behind : (kss : List (List ℕ)) → Sub (all_of (drop 1 kss)) (all_of kss)
some_behind [] = tt
some_behind (ks ∷ kss) = sub_behind (all_of kss) (all_of kss) ks (sub_all (all_of kss))

-- what is not for the encoder leaves it, but for what it counted
strangers_leave : {V : Type 0} (step : Step V) (e : EncoderState V) (fs : List Finding)
    → AllByRecursion (IsNotFor e.address) fs → uncounted (after_findings step e fs) ≡ uncounted e
strangers_leave step e [] all = refl
strangers_leave {V} step e (f ∷ fs) all =
    let one : uncounted (after_finding step e f) ≡ uncounted e = leaves f all.0 in
    strangers_leave step (after_finding step e f) fs
    (subst (λ (a : ℕ). AllByRecursion (IsNotFor a) fs) (sym (ap (λ (d : EncoderState V). d.address) one)) all.1)
    ∙ one
  where
    leaves : (f : Finding) → IsNotFor e.address f → uncounted (after_finding step e f) ≡ uncounted e
    leaves (Err fault) is = refl
    leaves (Ok f) (inl other) = rw other refl
    leaves (Ok f) (inr zero_) = rw (eq-eqb f.counter 0 zero_) (by (reaches f.address e.address))
      where
        by : (b : Bool)
            → uncounted (cond b (record e { counts = record e.counts { unnumbered = raised e.counts.unnumbered } })
            (record e { counts = record e.counts { not_for_me = raised e.counts.not_for_me } })) ≡ uncounted e
        by true = refl
        by false = refl

module _ {V : Type 0} (step : Step V) (taken : Taken V) (e : EncoderState V) (before : ℕ) (ready : IsReady e.ring)
    (shut : e.part ≡ Closed) where
  abbrev M : Ends V → Type 0
  M x = Matches step taken e before ready shut x

  -- ---- The encoder's connections.

  -- the encoder is as it was, but for what it counted and what is open, and leaves its connection or not
  leaves_so : (x y : Ends V) (frames : List (List ℕ)) → y.studio ≡ x.studio
      → y.transmitter.deeds ≡ x.transmitter.deeds
      → encoder_kept y.transmitter.encoder ≡ encoder_kept x.transmitter.encoder
      → y.transmitter.encoder.address ≡ x.transmitter.encoder.address → y.between.going ≡ x.between.going
      → (m : M x) (part : List ℕ) → y.transmitter.encoder.part ≡ open_beyond Closed part
      → has_frame (found_beyond Closed part) ≡ false
      → Comes e.address m.s.world.once.sent part y.between.coming frames
      → Sub (all_of frames) (all_of m.frames) → M y
  leaves_so x y frames studio deeds kept address going m part part_is quiet comes some = record {
    s = m.s;
    acts = m.acts;
    backed = m.backed;
    none = m.none;
    none_back = m.none_back;
    kept = kept ∙ m.kept;
    lived = subst (λ (ds : List Deed). Lived step taken e y.transmitter.encoder ds) (sym deeds)
        (still_lived step taken e x.transmitter.encoder y.transmitter.encoder x.transmitter.deeds kept address m.lived);
    deeds = deeds ∙ m.deeds;
    studio = subst (λ (u : Studio). StudioMatches step taken e before ready shut u m.s) (sym studio) m.studio;
    part = part;
    part_is = part_is;
    quiet = quiet;
    frames = frames;
    coming = comes;
    heard_part = m.heard_part;
    heard_part_is = ap (λ (u : Studio). u.server.part) studio ∙ m.heard_part_is;
    heard_quiet = m.heard_quiet;
    replies = m.replies;
    going = ap (λ (g : List ℕ). m.heard_part ++ g) going ∙ m.going;
    coded = m.coded;
    in_time = some_in_time step taken e before ready shut m.s (m.replies ++ all_of frames) (m.replies
        ++ all_of m.frames) m.in_time
        (sub_both m.replies m.replies (all_of frames) (all_of m.frames) (sub_all m.replies) some);
  }

  pub leaves_match : (x : Ends V) → M x → M (ends_after step taken x Leaves)
  leaves_match x m =
      leaves_so x (ends_after step taken x Leaves) (drop 1 m.frames) refl refl refl refl refl m []
      (nothing_open step taken e before ready shut) (nothing_there step taken e before ready shut)
      (comes_behind e.address m.s.world.once.sent m.part x.between.coming m.frames m.coming) (some_behind m.frames)

  pub encoder_crash_matches : (x : Ends V) → M x → M (ends_after step taken x EncoderCrashes)
  encoder_crash_matches x m =
      leaves_so x (ends_after step taken x EncoderCrashes) (drop 1 m.frames) refl refl refl refl refl m []
      (nothing_open step taken e before ready shut) (nothing_there step taken e before ready shut)
      (comes_behind e.address m.s.world.once.sent m.part x.between.coming m.frames m.coming) (some_behind m.frames)

  -- ---- A stranger.

  pub stranger_matches : (x : Ends V) (bytes : List ℕ) → MayHappen x (Stranger bytes) → M x
      → M (ends_after step taken x (Stranger bytes))
  stranger_matches x bytes may m =
      let enc : EncoderState V = x.transmitter.encoder in
      let found : found_beyond enc.part bytes ≡ found_beyond Closed bytes =
      ap (λ (p : OpenPart). found_beyond p bytes) may.0 in
      let same : uncounted (after_findings step (record enc { part = open_beyond enc.part bytes })
      (found_beyond enc.part bytes)) ≡ uncounted (record enc { part = open_beyond enc.part bytes }) =
      strangers_leave step (record enc { part = open_beyond enc.part bytes }) (found_beyond enc.part bytes)
      (subst (λ (fs : List Finding). AllByRecursion (IsNotFor enc.address) fs) (sym found) may.1) in
      leaves_so x (ends_after step taken x (Stranger bytes)) m.frames refl refl
      (ap (λ (d : EncoderState V). encoder_kept d) same) (ap (λ (d : EncoderState V). d.address) same) refl m m.part
      (sym may.0 ∙ m.part_is) m.quiet m.coming (sub_all (all_of m.frames))

  -- ---- A group goes on the air.

  pub gives_match : (x : Ends V) → M x → M (ends_after step taken x Gives)
  gives_match x m =
      let s1 : Station V = station_after step taken e.address m.s Take in
      record {
        s = s1;
        acts = m.acts ++ Taking ∷ [];
        backed = backed_after step taken e before ready shut m.s m.acts Take tt refl m.backed;
        none = m.none;
        none_back = m.none_back;
        kept = ap (λ (k : Kept V). record k { value = (taken k.value).0 }) m.kept;
        lived = taken_lived step taken e x.transmitter.encoder x.transmitter.deeds m.lived;
        deeds = ap (λ (ds : List Deed). ds ++ TakesOne ∷ []) m.deeds
            ∙ sym (map-append (deed_at m.s.world.once.sent) m.acts (Taking ∷ []));
        studio = studio_stays step taken e before ready shut x.studio m.s s1 refl refl refl (λ k code is. is) m.studio;
        part = m.part;
        part_is = m.part_is;
        quiet = m.quiet;
        frames = m.frames;
        coming = m.coming;
        heard_part = m.heard_part;
        heard_part_is = m.heard_part_is;
        heard_quiet = m.heard_quiet;
        replies = m.replies;
        going = m.going;
        coded = m.coded;
        in_time = record {
          top = m.in_time.top;
          few = m.in_time.few;
          most = m.in_time.most;
          way = m.in_time.way;
          acked = m.in_time.acked;
          acked_file = m.in_time.acked_file;
        };
      }

  -- ---- The encoder reads.

  pub reads_match : (x : Ends V) (bytes : List ℕ) → ComeFirst x.between.coming bytes → M x
      → M (ends_after step taken x (Reads bytes))
  reads_match x bytes may m = by x.between.coming m.frames refl m.coming may m.in_time
    where
      by : (coming frames : List (List ℕ)) → x.between.coming ≡ coming
          → Comes e.address m.s.world.once.sent m.part coming frames → ComeFirst coming bytes
          → IsInTime step taken e before ready shut m.s (m.replies ++ all_of frames)
          → M (ends_after step taken x (Reads bytes))
      by [] frames is comes may t = absurd may
      by (c ∷ cs) [] is comes may t = absurd comes
      by (c ∷ cs) (ks ∷ kss) is comes may t =
          reads_so step taken e before ready shut x m bytes c ks cs kss is comes.0 comes.1 may t
