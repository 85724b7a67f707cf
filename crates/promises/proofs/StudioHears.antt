-- What the studio hears is events of a line.
use Rattle.std.proofs.Common.{◌≡◌, ℕ, ◌+◌, ◌<◌, ◌≤◌, ◌&&◌, Bool, true, false, cond, List, [], ◌∷◌, ◌++◌}
use Rattle.std.proofs.Common.{length, map, take, drop, nat_lt, Option, Some, None, refl, ap, sym, subst, ◌∙◌, arith}
use Rattle.std.proofs.Common.{append_assoc}
use Rattle.std.proofs.Math.Seq.{take-append-add, drop-append-add}
use Rattle.std.specs.Prelude.{is_some}
use Rattle.std.specs.List.{AllByRecursion}
use Rattle.std.specs.Io.{StartsWith}
use Rattle.std.specs.Option.{option_or}
use Rattle.std.proofs.lemmas.Bool.{ltb-true, leb-true}
use Rattle.uecp_elements.specs.declared.code.Code.{Code}
use Rattle.uecp_frame.specs.declared.frame.Frame.{Frame}
use Rattle.uecp_frame.specs.Findings.{Finding, OpenPart, Closed, has_frame}
use Rattle.uecp_frame.specs.Beyond.{found_beyond, open_beyond}
use Rattle.uecp_frame.proofs.Public.{in_pieces_lem}
use Rattle.uecp_encoder.specs.Target.{Step, Taken}
use Rattle.uecp_encoder.specs.State.{EncoderState}
use Rattle.uecp_encoder.specs.Keeping.{kept_of as encoder_kept}
use Rattle.uecp_link.specs.Counters.{counter_of}
use Rattle.uecp_link.specs.Server.{ServerState, Held, nothing_counted, heard}
use Rattle.uecp_link.specs.Window.{marks_in, code_under}
use Rattle.uecp_link.specs.Kept.{IsReady}
use Rattle.uecp_net.specs.Keeping.{KeptServer}
use Rattle.promises.specs.Station.{Station, acknowledged_by}
use Rattle.promises.specs.Ends.{Ends, Hears}
use Rattle.promises.specs.Ends.{ends_after}
use Rattle.promises.specs.Ends.{heard_with, is_of_last}
use Rattle.promises.proofs.Cutting.{spelled, cut, Cut, as_found, all_found}
use Rattle.promises.proofs.Uncounted.{heard_in_two}
use Rattle.promises.proofs.Uncounted.{unheard, heard_alike, quiet_heard}
use Rattle.promises.proofs.EndLists.{all_front, all_back}
use Rattle.promises.proofs.EndLists.{AreOnTheWay}
use Rattle.promises.proofs.EndFrames.{deed_at, server_closed_at, server_address_at}
use Rattle.promises.proofs.EndReplies.{reply_in, RepliesDo, replies_do, small_reply, replies_found, marks_are}
use Rattle.promises.proofs.EndReplies.{code_of_mark, same_counter, IsMarkOf, IsReplyOf}
use Rattle.promises.proofs.EndsMatch.{all_of, Comes, Matches}

back_findings : (P : Finding → Type 0) (xs ys : List Finding) → AllByRecursion P (xs ++ ys) → AllByRecursion P ys
back_findings P [] ys h = h
back_findings P (x ∷ xs) ys h = back_findings P xs ys h.1

and-fst : (b c : Bool) → (b && c) ≡ true → b ≡ true
and-fst true c both = refl
and-fst false c both = absurd (cc)

and-snd : (b c : Bool) → (b && c) ≡ true → c ≡ true
and-snd true c both = both
and-snd false c both = absurd (cc)

-- a server by what is kept of it, and what is open
abbrev pub server_of : ℕ → ℕ → List Held → OpenPart → ServerState
server_of a l hs p = record { address = a; last = l; held = hs; counts = nothing_counted; part = p }

module _ {V : Type 0} (step : Step V) (taken : Taken V) (e : EncoderState V) (before : ℕ) (ready : IsReady e.ring)
    (shut : e.part ≡ Closed) where
  abbrev M : Ends V → Type 0
  M x = Matches step taken e before ready shut x

  -- ---- The studio hears.

  -- the server is, but for its counts, what it is of the line once the part came that is open
  server_is : (x : Ends V) (m : M x) → unheard x.studio.server ≡ unheard (heard m.s.world.server m.heard_part)
  server_is x m =
      let srv : ServerState = m.s.world.server in
      let closed = server_closed_at step taken e before ready shut m.s m.acts m.backed m.none_back in
      ap (λ (a : ℕ). server_of a x.studio.server.last x.studio.server.held x.studio.server.part)
      (m.studio.address ∙ sym (server_address_at step taken e before ready shut m.s m.acts m.backed))
      ∙ ap (λ (l : ℕ). server_of srv.address l x.studio.server.held x.studio.server.part) m.studio.last
      ∙ ap (λ (hs : List Held). server_of srv.address srv.last hs x.studio.server.part) m.studio.held
      ∙ ap (server_of srv.address srv.last srv.held)
      (m.heard_part_is ∙ ap (λ (p : OpenPart). open_beyond p m.heard_part) (sym closed))
      ∙ sym (quiet_heard srv m.heard_part
      (ap (λ (p : OpenPart). has_frame (found_beyond p m.heard_part)) closed ∙ m.heard_quiet))

  -- what the bytes bring
  record Hearing (x : Ends V) (m : M x) (bytes : List ℕ) : Type 0 where
    d : Cut (reply_in e.address m.s.world.once.codes) m.replies (length m.heard_part + length bytes)
    bytes_are : m.heard_part ++ bytes ≡ spelled (reply_in e.address m.s.world.once.codes) d.came ++ d.part
    left_is : d.part ++ drop (length bytes) x.between.going
        ≡ spelled (reply_in e.address m.s.world.once.codes) d.rest
    way : AreOnTheWay (length m.s.world.once.sent) m.in_time.top (d.came ++ (d.rest ++ all_of m.frames))
    coded : AllByRecursion (λ k. is_some (m.s.world.once.codes k) ≡ true) (d.came ++ d.rest)

  hearing : (x : Ends V) (m : M x) (bytes : List ℕ) → StartsWith x.between.going bytes → Hearing x m bytes
  hearing x m bytes starts =
      let g : ℕ → Frame = reply_in e.address m.s.world.once.codes in
      let n : ℕ = length m.heard_part + length bytes in
      let d : Cut g m.replies n = cut g (small_reply e.address m.s.world.once.codes) m.replies n in
      record {
        d = d;
        bytes_are = ap (λ (z : List ℕ). m.heard_part ++ z) (sym starts)
            ∙ sym (take-append-add m.heard_part x.between.going (length bytes)) ∙ ap (take n) m.going ∙ d.is;
        left_is = ap (λ (z : List ℕ). d.part ++ z)
            (sym (drop-append-add m.heard_part x.between.going (length bytes)) ∙ ap (drop n) m.going) ∙ d.left;
        way = subst (λ (l : List ℕ). AreOnTheWay (length m.s.world.once.sent) m.in_time.top l)
            (ap (λ (l : List ℕ). l ++ all_of m.frames) d.split ∙ append_assoc d.came d.rest (all_of m.frames))
            m.in_time.way;
        coded = subst (λ (l : List ℕ). AllByRecursion (λ k. is_some (m.s.world.once.codes k) ≡ true) l) d.split m.coded;
      }

  -- so each mark is that of a number that was applied, and has its code
  hearing_marks : (x : Ends V) (m : M x) (bytes : List ℕ) → Hearing x m bytes
      → AllByRecursion (IsMarkOf m.s.world.once.codes (length m.s.world.once.sent) m.in_time.top)
      (marks_in x.studio.server bytes)
  hearing_marks x m bytes h =
      let codes : ℕ → Option Code = m.s.world.once.codes in
      let n : ℕ = length m.s.world.once.sent in
      let g : ℕ → Frame = reply_in e.address codes in
      let small = small_reply e.address codes in
      let d = h.d in
      let whole : AllByRecursion (IsReplyOf e.address codes n m.in_time.top)
      (as_found g small d.came ++ found_beyond Closed d.part) =
      replies_found e.address codes n m.in_time.top d.came (found_beyond Closed d.part)
      (all_front (λ k. is_some (codes k) ≡ true) d.came d.rest h.coded)
      (all_front (λ k. k < n) d.came (d.rest ++ all_of m.frames) h.way.sent)
      (all_front (λ k. m.in_time.top ≤ k + 8) d.came (d.rest ++ all_of m.frames) h.way.near) d.quiet in
      let split : as_found g small d.came ++ found_beyond Closed d.part
      ≡ found_beyond Closed m.heard_part ++ found_beyond x.studio.server.part bytes =
      sym (all_found g small d.came d.part) ∙ ap (found_beyond Closed) (sym h.bytes_are)
      ∙ (in_pieces_lem Closed m.heard_part bytes).found
      ∙ ap (λ (p : OpenPart). found_beyond Closed m.heard_part ++ found_beyond p bytes) (sym m.heard_part_is) in
      marks_are e.address codes n m.in_time.top x.studio.server (found_beyond x.studio.server.part bytes)
      m.studio.address
      (back_findings (IsReplyOf e.address codes n m.in_time.top) (found_beyond Closed m.heard_part)
      (found_beyond x.studio.server.part bytes)
      (subst (λ (fs : List Finding). AllByRecursion (IsReplyOf e.address codes n m.in_time.top) fs) split whole))

  heard_own : (x : Ends V) (m : M x) (bytes : List ℕ) → Hearing x m bytes → (k : ℕ) (code : Code)
      → heard_with (length x.studio.sent) x.studio.heard (marks_in x.studio.server bytes) k ≡ Some code
      → m.s.world.once.codes k ≡ Some code
  heard_own x m bytes h k code is =
      by_last (is_of_last (length x.studio.sent) k) refl is
    where
      n_is : length x.studio.sent ≡ length m.s.world.once.sent
      n_is = ap length m.studio.sent

      by_mark : is_of_last (length x.studio.sent) k ≡ true → (was c : Option Code) → x.studio.heard k ≡ was
          → code_under (counter_of k) (marks_in x.studio.server bytes) ≡ c → option_or was c ≡ Some code
          → m.s.world.once.codes k ≡ Some code
      by_mark of_last (Some d) c was is then_ = m.studio.heard k code (was ∙ then_)
      by_mark of_last None None was is then_ = absurd (cc)
      by_mark of_last None (Some c) was is then_ =
          let mark = code_of_mark m.s.world.once.codes (length m.s.world.once.sent) m.in_time.top (counter_of k)
          (marks_in x.studio.server bytes) c (hearing_marks x m bytes h) is in
          let below : k < length x.studio.sent =
          ltb-true k (length x.studio.sent) (and-fst (nat_lt k (length x.studio.sent)) _ of_last) in
          let last : length x.studio.sent ≤ k + 8 =
          leb-true (length x.studio.sent) (k + 8) (and-snd (nat_lt k (length x.studio.sent)) _ of_last) in
          let jn = mark.below in
          let near = mark.near in
          let few = m.in_time.few in
          let same : mark.number ≡ k = same_counter mark.number k (length m.s.world.once.sent) m.in_time.top
          (sym mark.counter) jn (omega (arith, below, n_is)) near few (omega (arith, last, n_is)) in
          ap m.s.world.once.codes (sym same) ∙ mark.code ∙ then_

      by_last : (b : Bool) → is_of_last (length x.studio.sent) k ≡ b
          → cond b (option_or (x.studio.heard k) (code_under (counter_of k) (marks_in x.studio.server bytes)))
          (x.studio.heard k) ≡ Some code
          → m.s.world.once.codes k ≡ Some code
      by_last true of_last then_ =
          by_mark of_last (x.studio.heard k) (code_under (counter_of k) (marks_in x.studio.server bytes)) refl refl
          then_
      by_last false of_last then_ = m.studio.heard k code then_

  hears_so : (x : Ends V) (bytes : List ℕ) (m : M x) (h : Hearing x m bytes)
      → RepliesDo step taken e before ready shut m.s m.acts h.d.came (h.d.rest ++ all_of m.frames) m.in_time.top
      → M (ends_after step taken x (Hears bytes))
  hears_so x bytes m h r =
      let s : Station V = m.s in
      let s1 : Station V = r.after_them in
      let d = h.d in
      let srv : ServerState = s.world.server in
      let whole : List ℕ = spelled (reply_in e.address s.world.once.codes) d.came in
      let closed1 = server_closed_at step taken e before ready shut s1 m.acts r.backed r.none in
      let now : unheard (heard x.studio.server bytes)
      ≡ unheard (record s1.world.server { part = open_beyond s1.world.server.part d.part }) =
      heard_alike x.studio.server (heard srv m.heard_part) bytes (server_is x m)
      ∙ ap unheard (sym (heard_in_two srv m.heard_part bytes) ∙ ap (heard srv) h.bytes_are
      ∙ heard_in_two srv whole d.part ∙ ap (λ (y : ServerState). heard y d.part) r.server)
      ∙ quiet_heard s1.world.server d.part
      (ap (λ (p : OpenPart). has_frame (found_beyond p d.part)) closed1 ∙ d.quiet) in
      let own : (k : ℕ) (code : Code) → s.world.once.codes k ≡ Some code → s1.world.once.codes k ≡ Some code =
      λ k code is. ap (λ (f : ℕ → Option Code). f k) r.codes ∙ is in
      let n_is = ap length r.sent in
      record {
        s = s1;
        acts = m.acts;
        backed = r.backed;
        none = r.to_encoder ∙ m.none;
        none_back = r.none;
        kept = m.kept ∙ ap (λ (y : EncoderState V). encoder_kept y) (sym r.encoder);
        lived = m.lived;
        deeds = m.deeds ∙ ap (λ (ms : List (List ℕ)). map (deed_at ms) m.acts) (sym r.sent);
        studio = record {
          last = ap (λ (y : ServerState). y.last) now;
          held = ap (λ (y : ServerState). y.held) now;
          address = ap (λ (y : ServerState). y.address) now
              ∙ server_address_at step taken e before ready shut s1 m.acts r.backed;
          file_last = λ saved. m.studio.file_last saved ∙ ap (λ (f : KeptServer). f.last) (sym r.file);
          file_held = λ saved. m.studio.file_held saved ∙ ap (λ (f : KeptServer). f.held) (sym r.file);
          counted = m.studio.counted ∙ ap (λ (f : KeptServer). f.taken) (sym r.file);
          said = subst (λ (ms : List (List ℕ)). x.studio.station ≤ length ms) (sym r.sent) m.studio.said;
          sent = m.studio.sent ∙ sym r.sent;
          heard = λ k code is. own k code (heard_own x m bytes h k code is);
          told = λ k code is. own k code (m.studio.told k code is);
        };
        part = m.part;
        part_is = m.part_is;
        quiet = m.quiet;
        frames = m.frames;
        coming = subst (λ (ms : List (List ℕ)). Comes e.address ms m.part x.between.coming m.frames) (sym r.sent)
            m.coming;
        heard_part = d.part;
        heard_part_is = ap (λ (y : ServerState). y.part) now
            ∙ ap (λ (p : OpenPart). open_beyond p d.part) closed1;
        heard_quiet = d.quiet;
        replies = d.rest;
        going = h.left_is
            ∙ ap (λ (c : ℕ → Option Code). spelled (reply_in e.address c) d.rest) (sym r.codes);
        coded = subst (λ (c : ℕ → Option Code). AllByRecursion (λ k. is_some (c k) ≡ true) d.rest) (sym r.codes)
            (all_back (λ k. is_some (s.world.once.codes k) ≡ true) d.came d.rest h.coded);
        in_time = record {
          top = r.top1;
          few = (let few = m.in_time.few in let up = r.up in omega (arith, n_is, few, up));
          most = (let most = r.most in omega (arith, n_is, most));
          way = subst (λ (ms : List (List ℕ)). AreOnTheWay (length ms) r.top1 (d.rest ++ all_of m.frames)) (sym r.sent)
              r.way;
          acked = r.acked;
          acked_file = λ k is.
              let l = m.in_time.acked_file k
              (sym (ap (λ (ms : List (List ℕ)). acknowledged_by s1.server_file.held (length ms) k) r.sent
              ∙ ap (λ (file : KeptServer). acknowledged_by file.held (length s.world.once.sent) k) r.file) ∙ is) in
              let up = r.up in omega (arith, l, up);
        };
      }

  pub hears_match : (x : Ends V) (bytes : List ℕ) → StartsWith x.between.going bytes → M x
      → M (ends_after step taken x (Hears bytes))
  hears_match x bytes starts m =
      let h = hearing x m bytes starts in
      hears_so x bytes m h
      (replies_do step taken e before ready shut m.s m.acts h.d.came (h.d.rest
      ++ all_of m.frames) m.in_time.top m.backed
      (all_front (λ k. is_some (m.s.world.once.codes k) ≡ true) h.d.came h.d.rest h.coded) h.way m.in_time.few
      m.in_time.most m.in_time.acked m.none_back)
