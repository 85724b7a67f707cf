-- A pass: its frames, and the reads that end with both replies.
use Rattle.std.proofs.Common.{◌≡◌, ◌≢◌, ℕ, zero, suc, ◌+◌, ◌-◌, ◌*◌, ◌/◌, ◌<◌, ◌≤◌, ◌==◌, true, false, List, [], ◌∷◌}
use Rattle.std.proofs.Common.{◌++◌, length, map, Bool}
use Rattle.std.proofs.Common.{take}
use Rattle.std.proofs.Common.{drop, Option, Some, None, Result, Ok, Err, refl, ◌∙◌, ap, sym, subst, arith}
use Rattle.std.proofs.Common.{length-append, append-nil, take-append-drop}
use Rattle.std.specs.Prelude.{slice_get, nat_lt}
use Rattle.std.proofs.lemmas.Bool.{eqb-true}
use Rattle.std.proofs.lemmas.List.{take-append-le, take_all}
use Rattle.std.specs.Io.KnownBytes.{Appends}
use Rattle.uecp_frame.specs.Frame.{spelling}
use Rattle.uecp_frame.specs.Findings.{Finding, OpenPart, Closed as NothingOpen}
use Rattle.uecp_frame.specs.Beyond.{found_beyond, open_beyond}
use Rattle.uecp_frame.proofs.Public.{length-spelling-le}
use Rattle.uecp_elements.specs.declared.code.Code.{Code}
use Rattle.uecp_encoder.specs.Joining.{rising}
use Rattle.uecp_encoder.specs.Metered.{Metered}
use Rattle.uecp_link.specs.declared.driving.DriveFault.{DriveFault}
use Rattle.uecp_link.specs.declared.driving.DriveFault.TheVariants.{WriteFailed, Closed, TriesSpent}
use Rattle.uecp_link.specs.declared.joining.Joining.{Joining}
use Rattle.uecp_link.specs.declared.joining.Joining.TheVariants.{Joined}
use Rattle.uecp_link.specs.declared.joining.Replies.{Replies}
use Rattle.uecp_link.specs.declared.joining.Seen.TheVariants.{Neither, Both}
use Rattle.uecp_link.specs.Frames.{frame_under}
use Rattle.uecp_link.specs.Server.{ServerState, waiting_among, freed, heard_finding, heard_findings, heard}
use Rattle.uecp_link.specs.Reading.{Reads, is_closed, write_failures}
use Rattle.uecp_link.specs.Joining.{twice, last_behind, counters_behind, frames_behind, reply_counters}
use Rattle.uecp_link.specs.Joining.{IsJoinedBy, BringsBoth}
use Rattle.uecp_link.specs.Joining.{goes_on_behind, highest_of, anew, IsStillNew, RepliesEnd, PassEnds, MakesPass}
use Rattle.uecp_link.specs.Joining.{replies_after, no_replies, ReadsReplies, ReadSoFar}
use Rattle.uecp_link.proofs.Answered.{idle_hears}
use Rattle.uecp_link.proofs.FeedingLemmas.{heard_none, heard_on}
use Rattle.uecp_link.proofs.Reading.{no_read, reads_on, reads_end}
use Rattle.uecp_link.proofs.SeenReplies.{neither_finds, joined_seen, counters_none, brought_later, seen_on}
use Rattle.uecp_link.proofs.SeenReplies.{replies-seen, replies-highest}
use Rattle.uecp_link.proofs.Waiting.{none_acknowledged}

-- ---- the frames of a pass

length-rising : (first many : ℕ) → length (rising first many) ≡ many
length-rising first zero = refl
length-rising first (suc many) = let rest = length-rising (first + 1) many in omega (arith, rest)

length-map_of : {A B : Type 0} (g : A → B) (xs : List A) → length (map g xs) ≡ length xs
length-map_of g [] = refl
length-map_of g (x ∷ xs) = ap (λ n. suc n) (length-map_of g xs)

-- what stands in a list of which each counter up to FE comes twice
twice_front : (first many place : ℕ) (ys : List ℕ) → place < 2 * many
    → slice_get (twice (rising first many) ++ ys) place ≡ Some (first + place / 2)
twice_front first zero place ys below = absurd (omega arith)
twice_front first (suc many) zero ys below = ap (λ n. Some n) (let e : first ≡ first + 0 / 2 = omega arith in e)
twice_front first (suc many) (suc zero) ys below = ap (λ n. Some n) (let e : first ≡ first + 1 / 2 = omega arith in e)
twice_front first (suc many) (suc (suc place)) ys below = twice_front (first + 1) many place ys (omega arith)
    ∙ ap (λ n. Some n) (let e : first + 1 + place / 2 ≡ first + suc (suc place) / 2 = omega arith in e)

twice_past : (first many j : ℕ) (ys : List ℕ) → slice_get (twice (rising first many) ++ ys) (2 * many + j)
    ≡ slice_get ys j
twice_past first zero j ys = ap (slice_get ys) (let e : 2 * 0 + j ≡ j = omega arith in e)
twice_past first (suc many) j ys =
    ap (slice_get (twice (rising first (suc many)) ++ ys))
    (let e : 2 * suc many + j ≡ suc (suc (2 * many + j)) = omega arith in e)
    ∙ twice_past (first + 1) many j ys

length-twice : (first many : ℕ) (ys : List ℕ) → length (twice (rising first many) ++ ys) ≡ 2 * many + length ys
length-twice first zero ys = omega arith
length-twice first (suc many) ys = let rest = length-twice (first + 1) many ys in omega (arith, rest)

rising_there : (first many place : ℕ) → place < many → slice_get (rising first many) place ≡ Some (first + place)
rising_there first zero place below = absurd (omega arith)
rising_there first (suc many) zero below = ap (λ n. Some n) (let e : first ≡ first + 0 = omega arith in e)
rising_there first (suc many) (suc place) below = rising_there (first + 1) many place (omega arith)
    ∙ ap (λ n. Some n) (let e : first + 1 + place ≡ first + suc place = omega arith in e)

pub length-whole : length (counters_behind 0) ≡ 255
length-whole = length-rising 1 255

pub whole_there : (place : ℕ) → place < 255 → slice_get (counters_behind 0) place ≡ Some (place + 1)
whole_there place below = rising_there 1 255 place below
    ∙ ap (λ n. Some n) (let e : 1 + place ≡ place + 1 = omega arith in e)

pub later_behind : (behind : ℕ) → (behind == 0) ≡ false
    → counters_behind behind ≡ twice (rising (behind + 1) (254 - behind)) ++ last_behind behind
later_behind behind later = rw later refl

pub last_early : (behind : ℕ) → nat_lt behind 0x81 ≡ true → last_behind behind ≡ 0xFF ∷ []
last_early behind early = rw early refl

pub last_late : (behind : ℕ) → nat_lt behind 0x81 ≡ false → last_behind behind ≡ 0x81 ∷ 0xFF ∷ []
last_late behind late = rw late refl

pub length-early : (behind : ℕ) → (behind == 0) ≡ false → nat_lt behind 0x81 ≡ true
    → length (counters_behind behind) ≡ 2 * (254 - behind) + 1
length-early behind later early = ap length (later_behind behind later)
    ∙ length-twice (behind + 1) (254 - behind) (last_behind behind)
    ∙ ap (λ ys. 2 * (254 - behind) + length ys) (last_early behind early)

pub length-late : (behind : ℕ) → (behind == 0) ≡ false → nat_lt behind 0x81 ≡ false
    → length (counters_behind behind) ≡ 2 * (254 - behind) + 2
length-late behind later late = ap length (later_behind behind later)
    ∙ length-twice (behind + 1) (254 - behind) (last_behind behind)
    ∙ ap (λ ys. 2 * (254 - behind) + length ys) (last_late behind late)

pub above_there : (behind place : ℕ) → (behind == 0) ≡ false → place < 2 * (254 - behind)
    → slice_get (counters_behind behind) place ≡ Some (behind + 1 + place / 2)
above_there behind place later below = ap (λ cs. slice_get cs place) (later_behind behind later)
    ∙ twice_front (behind + 1) (254 - behind) place (last_behind behind) below

pub last_there : (behind j place : ℕ) → (behind == 0) ≡ false → place ≡ 2 * (254 - behind) + j
    → slice_get (counters_behind behind) place ≡ slice_get (last_behind behind) j
last_there behind j place later at = ap (λ cs. slice_get cs place) (later_behind behind later)
    ∙ ap (slice_get (twice (rising (behind + 1) (254 - behind)) ++ last_behind behind)) at
    ∙ twice_past (behind + 1) (254 - behind) j (last_behind behind)

pub few_counters : (behind : ℕ) → length (counters_behind behind) ≤ 600
few_counters behind = go (behind == 0) (nat_lt behind 0x81) refl refl
  where
    go : (is_whole early : Bool) → (behind == 0) ≡ is_whole → nat_lt behind 0x81 ≡ early
        → length (counters_behind behind) ≤ 600
    go true early none is_early =
        let long = ap (λ n. length (counters_behind n)) (eqb-true behind 0 none) ∙ length-whole in omega (arith, long)
    go false true some early = let long = length-early behind some early in omega (arith, long)
    go false false some late = let long = length-late behind some late in omega (arith, long)

-- the last is FF
pub ff_there : (behind place : ℕ) → (behind == 0) ≡ false → place + 1 ≡ length (counters_behind behind)
    → slice_get (counters_behind behind) place ≡ Some 0xFF
ff_there behind place later last = go (nat_lt behind 0x81) refl
  where
    go : (early : Bool) → nat_lt behind 0x81 ≡ early → slice_get (counters_behind behind) place ≡ Some 0xFF
    go true early =
        let long = length-early behind later early in
        last_there behind 0 place later (omega (arith, long, last))
        ∙ ap (λ ys. slice_get ys 0) (last_early behind early)
    go false late =
        let long = length-late behind later late in
        last_there behind 1 place later (omega (arith, long, last))
        ∙ ap (λ ys. slice_get ys 1) (last_late behind late)

-- and before it 81, where those above are through
pub low_there : (behind place : ℕ) → (behind == 0) ≡ false → 2 * (254 - behind) ≤ place
    → place + 1 < length (counters_behind behind) → slice_get (counters_behind behind) place ≡ Some 0x81
low_there behind place later past more = go (nat_lt behind 0x81) refl
  where
    go : (early : Bool) → nat_lt behind 0x81 ≡ early → slice_get (counters_behind behind) place ≡ Some 0x81
    go true early = let long = length-early behind later early in absurd (omega (arith, long, more))
    go false late =
        let long = length-late behind later late in
        last_there behind 0 place later (omega (arith, long, more))
        ∙ ap (λ ys. slice_get ys 0) (last_late behind late)

got_map : {A : Type 0} (g : ℕ → A) (xs : List ℕ) (place x : ℕ) → slice_get xs place ≡ Some x
    → slice_get (map g xs) place ≡ Some (g x)
got_map g [] place x is = absurd (cc)
got_map g (y ∷ ys) zero x is = let same : y ≡ x = cc in ap (λ n. Some (g n)) same
got_map g (y ∷ ys) (suc place) x is = got_map g ys place x is

pub frame_there : (address behind place counter : ℕ) → slice_get (counters_behind behind) place ≡ Some counter
    → slice_get (frames_behind address behind) place ≡ Some (spelling (frame_under address (counter, [])))
unfolding frames_behind
frame_there address behind place counter at =
    got_map (λ counter. spelling (frame_under address (counter, []))) (counters_behind behind) place counter at

pub frames_all : (address behind : ℕ)
    → take (length (counters_behind behind)) (frames_behind address behind) ≡ frames_behind address behind
unfolding frames_behind
frames_all address behind =
    let g : ℕ → List ℕ = λ counter. spelling (frame_under address (counter, [])) in
    take_all (length (counters_behind behind)) (map g (counters_behind behind))
    (omega (arith, length-map_of g (counters_behind behind)))

pub frame_is_short : (address counter : ℕ) → length (spelling (frame_under address (counter, []))) ≤ 524
frame_is_short address counter = length-spelling-le (frame_under address (counter, [])) (omega arith)

-- ---- reads

pub read_none : {R : Type 0} (remaining : R → Option (List ℕ)) (s : ServerState) (reader : Metered R) → s.held ≡ []
    → (replies : Replies) → replies ≡ no_replies → ReadSoFar remaining s s reader reader replies 0
read_none remaining s reader idle replies none = record {
  read = [];
  reading = no_read remaining reader;
  state = sym (heard_none s);
  idle = idle;
  replies_are = none ∙ sym (ap (replies_after no_replies) (counters_none s.address s.part));
  waits = λ h. go replies none h;
}
  where
    go : (replies : Replies) → replies ≡ no_replies → replies.seen ≢ Both
    go replies none h = cc

module _ {R : Type 0} (remaining : R → Option (List ℕ)) (s0 s1 : ServerState) (r0 r1 : Metered R) (replies : Replies)
    (reads : ℕ) (so_far : ReadSoFar remaining s0 s1 r0 r1 replies reads) where
  more_replies : (piece : List ℕ) (replies' : Replies)
      → replies' ≡ replies_after replies (reply_counters s1.address s1.part piece)
      → replies' ≡ replies_after no_replies (reply_counters s0.address s0.part (so_far.read ++ piece))
  more_replies piece replies' is =
      is ∙ seen_on s0 s1 so_far.read piece no_replies replies so_far.state so_far.replies_are

  -- one read more, after which not both were read
  pub read_on : (s2 : ServerState) (r2 : Metered R) (replies' : Replies) (piece : List ℕ)
      → Reads remaining r1 r2 piece 1 0 false
      → s2 ≡ heard s1 piece → replies' ≡ replies_after replies (reply_counters s1.address s1.part piece)
      → replies'.seen ≢ Both
      → ReadSoFar remaining s0 s2 r0 r2 replies' (reads + 1)
  read_on s2 r2 replies' piece brought state is waits = record {
    read = so_far.read ++ piece;
    reading = reads_on remaining r0 r1 r2 so_far.read reads 0 so_far.reading piece 1 0 false brought;
    state = heard_on s0 s1 s2 so_far.read piece so_far.state state;
    idle = ap (λ (t : ServerState). t.held) state ∙ idle_hears s1 piece so_far.idle;
    replies_are = more_replies piece replies' is;
    waits = waits;
  }

  -- what was read before the last 64 bytes, or all where no more was read, does not bring both
  not_yet : (x y : List ℕ) → s0.part ≡ NothingOpen → x ++ y ≡ so_far.read → BringsBoth s0.address x → ⊥
  not_yet x y closed whole brought =
      let there : IsJoinedBy (reply_counters s0.address s0.part x) =
      subst (λ (o : OpenPart). IsJoinedBy (reply_counters s0.address o x)) (sym closed) brought in
      let all : IsJoinedBy (reply_counters s0.address s0.part so_far.read) =
      subst (λ bs. IsJoinedBy (reply_counters s0.address s0.part bs)) whole
      (brought_later s0.address s0.part x y there) in
      so_far.waits (ap (λ (r : Replies). r.seen) so_far.replies_are
      ∙ replies-seen no_replies (reply_counters s0.address s0.part so_far.read)
      ∙ joined_seen Neither (reply_counters s0.address s0.part so_far.read) all)

  pub not_brought : s0.part ≡ NothingOpen → BringsBoth s0.address so_far.read → ⊥
  not_brought closed = not_yet so_far.read [] closed (append-nil so_far.read)

  -- the reads end with one more, with which both were read
  pub replies_both : (s2 : ServerState) (r2 : Metered R) (replies' : Replies) (piece : List ℕ) (turns : ℕ)
      → s0.part ≡ NothingOpen
      → Reads remaining r1 r2 piece 1 0 false → s2 ≡ heard s1 piece
      → replies' ≡ replies_after replies (reply_counters s1.address s1.part piece) → replies'.seen ≡ Both
      → reads < turns
      → ReadsReplies remaining s0 s2 r0 r2 turns replies' (Ok Joined)
  replies_both s2 r2 replies' piece turns closed brought state is both below =
      let n : ℕ = length (so_far.read ++ piece) - 64 in
      let within : n ≤ length so_far.read = omega (arith, length-append so_far.read piece, brought.few_bytes) in
      let front : take n (so_far.read ++ piece) ≡ take n so_far.read = take-append-le n so_far.read piece within in
      let joined : IsJoinedBy (reply_counters s0.address s0.part (so_far.read ++ piece)) =
      neither_finds (reply_counters s0.address s0.part (so_far.read ++ piece))
      (sym (replies-seen no_replies (reply_counters s0.address s0.part (so_far.read ++ piece)))
      ∙ sym (ap (λ (r : Replies). r.seen) (more_replies piece replies' is)) ∙ both) in
      record {
        read = so_far.read ++ piece;
        reads = reads + 1;
        failed = 0;
        reading = reads_on remaining r0 r1 r2 so_far.read reads 0 so_far.reading piece 1 0 false brought;
        state = heard_on s0 s1 s2 so_far.read piece so_far.state state;
        ends = (
          subst (λ (o : OpenPart). IsJoinedBy (reply_counters s0.address o (so_far.read ++ piece))) closed joined,
          λ early. not_yet (take n so_far.read) (drop n so_far.read) closed (take-append-drop n so_far.read)
              (subst (BringsBoth s0.address) front early),
          refl,
          omega arith,
        );
        replies_are = more_replies piece replies' is;
        few_reads = omega (arith, below);
      }

  -- they end with no more, or with one more that brought none
  pub replies_quiet : (s2 : ServerState) (r2 : Metered R) (turns more failed : ℕ) (result : Result Joining DriveFault)
      → Reads remaining r1 r2 [] more failed (is_closed result) → s2 ≡ s1 → reads + more ≤ turns
      → RepliesEnd s0.address so_far.read (remaining r2.device) turns (reads + more) failed result
      → ReadsReplies remaining s0 s2 r0 r2 turns replies result
  replies_quiet s2 r2 turns more failed result quiet stays below ends = record {
    read = so_far.read;
    reads = reads + more;
    failed = failed;
    reading = reads_end remaining r0 r1 r2 so_far.read reads so_far.reading more failed (is_closed result) quiet;
    state = stays ∙ so_far.state;
    ends = ends;
    replies_are = so_far.replies_are;
    few_reads = below;
  }

-- ---- a whole pass

pub pass_made : {R W : Type 0} (remaining : R → Option (List ℕ)) (contents : W → Option (List ℕ)) (behind behind' : ℕ)
    (s0 s1 s2 : ServerState)
    (r0 r1 : Metered R) (w0 w1 : Metered W) (turns : ℕ) (replies : Replies) (sent : List ℕ)
    (ended told : Result Joining DriveFault)
    → s1 ≡ anew s0
    → Appends (contents w0.device) (contents w1.device) sent → PassEnds s0.address behind sent ended told
    → w1.failures ≡ write_failures told w0.failures
    → ReadsReplies remaining s1 s2 r0 r1 turns replies ended → behind' ≡ goes_on_behind behind replies.highest
    → MakesPass remaining contents behind behind' s0 s2 r0 r1 w0 w1 turns told
pass_made remaining contents behind behind' s0 s1 s2 r0 r1 w0 w1 turns replies sent ended told begins wrote ends
    failures reads on = record {
      read = reads.read;
      sent = sent;
      reads = reads.reads;
      failed = reads.failed;
      ended = ended;
      reading = reads.reading;
      appended = wrote;
      state = reads.state ∙ ap (λ (s : ServerState). heard s reads.read) begins;
      reads_end = subst (λ (s : ServerState). RepliesEnd s.address reads.read (remaining r1.device) turns reads.reads
          reads.failed ended) begins reads.ends;
      ends = ends;
      goes_on = on ∙ ap (goes_on_behind behind) (ap (λ (r : Replies). r.highest) reads.replies_are
          ∙ replies-highest no_replies (reply_counters s1.address s1.part reads.read)
          ∙ ap (λ (s : ServerState). highest_of 0 (reply_counters s.address s.part reads.read)) begins);
      few_reads = reads.few_reads;
      write_failures = failures;
    }

-- reads fail no write
pub no_write_failed : {R : Type 0} (remaining : R → Option (List ℕ)) (old new : ServerState) (r0 r1 : Metered R)
    (turns n : ℕ) (replies : Replies) (ended : Result Joining DriveFault)
    → ReadsReplies remaining old new r0 r1 turns replies ended → write_failures ended n ≡ n
no_write_failed remaining old new r0 r1 turns n replies (Ok joining) reads = refl
no_write_failed remaining old new r0 r1 turns n replies (Err Closed) reads = refl
no_write_failed remaining old new r0 r1 turns n replies (Err (WriteFailed w)) reads = absurd reads.ends
no_write_failed remaining old new r0 r1 turns n replies (Err TriesSpent) reads = refl

-- what a pass leaves of the server
pub still_new : (old new : ServerState) (x : List ℕ) → new ≡ heard (anew old) x → IsStillNew old new
still_new old new x state = subst (IsStillNew old) (sym state)
    (go (record (anew old) { part = open_beyond NothingOpen x }) (found_beyond NothingOpen x) refl)
  where
    go : (s : ServerState) (fs : List Finding) → s.held ≡ []
        → heard_findings s fs ≡ record s {
          counts = record (heard_findings s fs).counts {
            acknowledged =
                s.counts.acknowledged;
          };
          part = (heard_findings s fs).part;
        }
    go s [] idle = refl
    go s (Err fault ∷ fs) idle = go (heard_finding s (Err fault)) fs idle
    go s (Ok f ∷ fs) idle =
        subst (λ (k : Option (ℕ × Code)). heard_findings (freed s k) fs
        ≡ record s {
          counts = record (heard_findings (freed s k) fs).counts {
            acknowledged =
                s.counts.acknowledged;
          };
          part = (heard_findings (freed s k) fs).part;
        })
        (sym (none_acknowledged s f (ap waiting_among idle))) (go (freed s None) fs idle)
