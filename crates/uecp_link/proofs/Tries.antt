-- Reads and tries, one after another, that bring no acknowledgement, and how they end.
use Rattle.std.proofs.Common.{◌≡◌, ℕ, ◌+◌, ◌-◌, ◌*◌, ◌<◌, ◌≤◌, ◌⊎◌, zero, suc, true, false, List, [], ◌++◌, length}
use Rattle.std.proofs.Common.{take, Option, Some, None, Result, Ok, Err, refl, ◌∙◌, ap, sym, subst, arith, inl, inr}
use Rattle.std.proofs.Common.{add-zero, add-one, length-append, append_assoc, append-nil}
use Rattle.std.proofs.Math.Nat.{add-suc, add-mul, mul-le-mul_right}
use Rattle.std.proofs.Math.Seq.{take-append-add}
use Rattle.std.proofs.lemmas.List.{take-append-le}
use Rattle.std.specs.Io.KnownBytes.{Appends, IsAtEnd}
use Rattle.std.proofs.KnownBytes.{Appends-nil, Appends-trans}
use Rattle.uecp_elements.specs.declared.code.Code.{Code}
use Rattle.uecp_encoder.specs.Metered.{Metered, counted}
use Rattle.uecp_link.specs.Server.{ServerState, heard}
use Rattle.uecp_link.specs.declared.driving.DriveFault.{DriveFault}
use Rattle.uecp_link.specs.declared.driving.Driven.{Driven}
use Rattle.uecp_link.specs.declared.driving.Listened.{Listened}
use Rattle.uecp_link.specs.declared.driving.DriveFault.TheVariants.{WriteFailed, Closed, TriesSpent}
use Rattle.uecp_link.specs.Driving.{copies, frame_sent, acknowledged_in, IsAcknowledged, Ends, ReadsMade, Drives}
use Rattle.uecp_link.specs.Listening.{Waits, Listens, Tried, met_end}
use Rattle.uecp_link.specs.Reading.{Reads, is_closed, write_failures}
use Rattle.uecp_link.specs.declared.driving.Listened.TheVariants as listened
use Rattle.uecp_link.proofs.Answered.{nothing_acknowledged, acknowledged_last, acknowledged_after, acknowledged_on}
use Rattle.uecp_link.proofs.Answered.{same_frame}
use Rattle.uecp_link.proofs.FeedingLemmas.{heard_none, heard_on}
use Rattle.uecp_link.proofs.Reading.{no_read, reads_on, reads_end}

-- ---- reads

pub waits_none : {R : Type 0} (remaining : R → Option (List ℕ)) (s : ServerState) (reader : Metered R)
    → Waits remaining s s reader reader 0
waits_none remaining s reader = record {
  read = [];
  reading = no_read remaining reader;
  state = sym (heard_none s);
  silent = nothing_acknowledged s;
}

module _ {R : Type 0} (remaining : R → Option (List ℕ)) (s0 s1 : ServerState) (r0 r1 : Metered R) (reads : ℕ)
    (so_far : Waits remaining s0 s1 r0 r1 reads) where
  more_heard : (piece : List ℕ) → acknowledged_in s0 (so_far.read ++ piece) ≡ acknowledged_in s1 piece
  more_heard piece = acknowledged_on s0 s1 so_far.read piece so_far.state so_far.silent

  -- one read more, which brings no acknowledgement
  pub waits_on : (s2 : ServerState) (r2 : Metered R) (piece : List ℕ) → Reads remaining r1 r2 piece 1 0 false
      → s2 ≡ heard s1 piece → acknowledged_in s1 piece ≡ None → Waits remaining s0 s2 r0 r2 (reads + 1)
  waits_on s2 r2 piece brought state silent = record {
    read = so_far.read ++ piece;
    reading = reads_on remaining r0 r1 r2 so_far.read reads 0 so_far.reading piece 1 0 false brought;
    state = heard_on s0 s1 s2 so_far.read piece so_far.state state;
    silent = more_heard piece ∙ silent;
  }

  -- ---- how reads end a try

  -- all turns were made
  pub nothing_came : (turns : ℕ) → reads ≡ turns → Listens remaining s0 s1 r0 r1 turns listened.Nothing
  nothing_came turns all = record {
    read = so_far.read;
    reads = reads;
    failed = 0;
    reading = so_far.reading;
    state = so_far.state;
    hears = (so_far.silent, inr (refl, all));
    few_reads = omega (arith, all);
  }

  -- a read failed
  pub read_failed : (r2 : Metered R) (turns : ℕ) → Reads remaining r1 r2 [] 1 1 false → reads < turns
      → Listens remaining s0 s1 r0 r2 turns listened.Nothing
  read_failed r2 turns failed below = record {
    read = so_far.read;
    reads = reads + 1;
    failed = 1;
    reading = reads_end remaining r0 r1 r2 so_far.read reads so_far.reading 1 1 false failed;
    state = so_far.state;
    hears = (so_far.silent, inl (refl, omega arith));
    few_reads = omega (arith, below);
  }

  -- a read met the end of input
  pub input_ended : (r2 : Metered R) (turns : ℕ) → Reads remaining r1 r2 [] 1 0 true
      → IsAtEnd (remaining r2.device) → reads < turns → Listens remaining s0 s1 r0 r2 turns listened.Ended
  input_ended r2 turns last end below = record {
    read = so_far.read;
    reads = reads + 1;
    failed = 0;
    reading = reads_end remaining r0 r1 r2 so_far.read reads so_far.reading 1 0 true last;
    state = so_far.state;
    hears = (so_far.silent, refl, omega arith, end);
    few_reads = omega (arith, below);
  }

  -- a read brought the acknowledgement
  pub reply_came : (s2 : ServerState) (r2 : Metered R) (turns : ℕ) (piece : List ℕ) (code : Code)
      → Reads remaining r1 r2 piece 1 0 false → s2 ≡ heard s1 piece → acknowledged_in s1 piece ≡ Some code
      → reads < turns
      → Listens remaining s0 s2 r0 r2 turns (listened.Acknowledged code)
  reply_came s2 r2 turns piece code brought state comes below =
      let few : length piece ≤ 64 = omega (arith, brought.few_bytes) in
      record {
        read = so_far.read ++ piece;
        reads = reads + 1;
        failed = 0;
        reading = reads_on remaining r0 r1 r2 so_far.read reads 0 so_far.reading piece 1 0 false brought;
        state = heard_on s0 s1 s2 so_far.read piece so_far.state state;
        hears = (
          acknowledged_last s0 so_far.read piece code so_far.silent few (more_heard piece ∙ comes),
          refl,
          omega arith,
        );
        few_reads = omega (arith, below);
      }

-- ---- copies of a frame

copies-add : (f : List ℕ) (n k : ℕ) → copies f (n + k) ≡ copies f n ++ copies f k
copies-add f n zero = ap (copies f) (add-zero n) ∙ sym (append-nil (copies f n))
copies-add f n (suc k) = ap (copies f) (add-suc n k) ∙ ap (λ l. l ++ f) (copies-add f n k)
    ∙ append_assoc (copies f n) (copies f k) f

pub copies_more : (f : List ℕ) (n : ℕ) → copies f (n + 1) ≡ copies f n ++ f
copies_more f n = ap (copies f) (add-one n)

-- so many whole copies and a part of one are the front of more copies
copies_in_part : (f : List ℕ) (tries t w : ℕ) → t < tries → w ≤ length f
    → take (length (copies f t) + w) (copies f tries) ≡ copies f t ++ take w f
copies_in_part f tries t w below part =
    let k : ℕ = tries - t - 1 in
    let all : tries ≡ t + (1 + k) = omega (arith, below) in
    let later : copies f (1 + k) ≡ f ++ copies f k = copies-add f 1 k in
    ap (λ n. take (length (copies f t) + w) (copies f n)) all
    ∙ ap (take (length (copies f t) + w)) (copies-add f t (1 + k) ∙ ap (λ l. copies f t ++ l) later)
    ∙ take-append-add (copies f t) (f ++ copies f k) w
    ∙ ap (λ l. copies f t ++ l) (take-append-le w f (copies f k) part)

-- ---- tries

-- a try that brings nothing makes all its turns, or ends at a failed read
pub reads_from : (failed t turns reads k : ℕ) → t ≡ failed + k → failed + t * turns ≤ reads + failed * turns
    → failed + k * turns ≤ reads
reads_from failed t turns reads k t_is made =
    let products : t * turns ≡ failed * turns + k * turns = ap (λ n. n * turns) t_is ∙ add-mul failed k turns in
    omega (arith, products, made)

pub tried_none : {R W : Type 0} (remaining : R → Option (List ℕ)) (contents : W → Option (List ℕ)) (s : ServerState)
    (reader : Metered R) (writer : Metered W) (turns : ℕ) →
    Tried remaining contents s s reader reader writer writer turns 0 0
tried_none remaining contents s reader writer turns = record {
  read = [];
  reads = 0;
  failed = 0;
  reading = no_read remaining reader;
  appended = Appends-nil _;
  state = sym (heard_none s);
  silent = nothing_acknowledged s;
  bytes_are = refl;
  few_written = omega arith;
  few_failed = omega arith;
  made = omega arith;
  few_reads = omega arith;
  write_failures = refl;
}

-- what a frame more makes of the copies
pub one_more : {W : Type 0} (contents : W → Option (List ℕ)) (s0 s1 : ServerState) (w0 w1 w2 : Metered W)
    (read : List ℕ) (t : ℕ) → acknowledged_in s0 read ≡ None → s1 ≡ heard s0 read →
    Appends (contents w0.device) (contents w1.device) (copies (frame_sent s0) t)
    → Appends (contents w1.device) (contents w2.device) (frame_sent s1) →
    Appends (contents w0.device) (contents w2.device) (copies (frame_sent s0) (t + 1))
one_more contents s0 s1 w0 w1 w2 read t silent state before now =
    let same : frame_sent s1 ≡ frame_sent s0 = ap frame_sent state ∙ same_frame s0 read silent in
    subst (Appends (contents w0.device) (contents w2.device))
    (ap (λ l. copies (frame_sent s0) t ++ l) same ∙ sym (copies_more (frame_sent s0) t))
    (Appends-trans _ _ _ _ _ before now)

pub more_bytes : (s0 s1 : ServerState) (read : List ℕ) (t : ℕ) → acknowledged_in s0 read ≡ None → s1 ≡ heard s0 read →
    length (copies (frame_sent s0) (t + 1)) ≡ length (copies (frame_sent s0) t) + length (frame_sent s1)
more_bytes s0 s1 read t silent state =
    let same : frame_sent s1 ≡ frame_sent s0 = ap frame_sent state ∙ same_frame s0 read silent in
    ap length (copies_more (frame_sent s0) t) ∙ length-append (copies (frame_sent s0) t) (frame_sent s0)
    ∙ ap (λ l. length (copies (frame_sent s0) t) + length l) (sym same)

module _ {R W : Type 0} (remaining : R → Option (List ℕ)) (contents : W → Option (List ℕ)) (s0 s1 : ServerState)
    (r0 r1 : Metered R) (w0 w1 : Metered W) (turns t bytes : ℕ)
    (so_far : Tried remaining contents s0 s1 r0 r1 w0 w1 turns t bytes) where
  more_tried : (piece : List ℕ) → acknowledged_in s0 (so_far.read ++ piece) ≡ acknowledged_in s1 piece
  more_tried piece = acknowledged_on s0 s1 so_far.read piece so_far.state so_far.silent

  -- one try more, which brings nothing
  pub tried_on : (s2 : ServerState) (r2 : Metered R) (w2 : Metered W) (sent : ℕ) → sent ≡ length (frame_sent s1)
      → length (frame_sent s1) ≤ 524 → Appends (contents w1.device) (contents w2.device) (frame_sent s1)
      → w2.failures ≡ w1.failures → Listens remaining s1 s2 r1 r2 turns listened.Nothing
      → Tried remaining contents s0 s2 r0 r2 w0 w2 turns (t + 1) (bytes + sent)
  tried_on s2 r2 w2 sent sent_is short wrote failures try =
      let counts = by_end try.hears.1 in
      record {
        read = so_far.read ++ try.read;
        reads = so_far.reads + try.reads;
        failed = so_far.failed + try.failed;
        reading = reads_on remaining r0 r1 r2 so_far.read so_far.reads so_far.failed so_far.reading try.read try.reads
            try.failed false try.reading;
        appended = one_more contents s0 s1 w0 w1 w2 so_far.read t so_far.silent so_far.state so_far.appended wrote;
        state = heard_on s0 s1 s2 so_far.read try.read so_far.state try.state;
        silent = more_tried try.read ∙ try.hears.0;
        bytes_are = omega (arith, so_far.bytes_are, sent_is, more_bytes s0 s1 so_far.read t so_far.silent so_far.state);
        few_written = omega (arith, so_far.few_written, sent_is, short);
        few_failed = counts.0;
        made = counts.1;
        few_reads = omega (arith, so_far.few_reads, try.few_reads);
        write_failures = failures ∙ so_far.write_failures;
      }
    where
      by_end : ((try.failed ≡ 1) × (1 ≤ try.reads)) ⊎ ((try.failed ≡ 0) × (try.reads ≡ turns))
          → (so_far.failed + try.failed ≤ t + 1)
          × (so_far.failed + try.failed + (t + 1) * turns ≤ so_far.reads + try.reads + (so_far.failed + try.failed) *
          turns)
      by_end (inl (one, some)) =
          let products : (so_far.failed + try.failed) * turns ≡ so_far.failed * turns + turns =
          ap (λ n. (so_far.failed + n) * turns) one ∙ (omega arith) in
          (omega (arith, so_far.few_failed, one), omega (arith, so_far.made, one, some, products))
      by_end (inr (none, all)) =
          let products : (so_far.failed + try.failed) * turns ≡ so_far.failed * turns =
          ap (λ n. (so_far.failed + n) * turns) none ∙ (omega arith) in
          (omega (arith, so_far.few_failed, none), omega (arith, so_far.made, none, all, products))

  -- ---- how tries end

  -- the reads that were made before this try, which is the last
  made_before : (so_far.failed < t + 1) × (so_far.failed + (t + 1 - 1 - so_far.failed) * turns ≤ so_far.reads)
  made_before = (
    omega (arith, so_far.few_failed),
    reads_from so_far.failed t turns so_far.reads (t + 1 - 1 - so_far.failed) (omega (arith, so_far.few_failed))
        so_far.made,
  )

  -- a write failed
  pub write_failed_at : (w2 : Metered W) (tries part : ℕ) → t < tries → part < length (frame_sent s1)
      → Appends (contents w1.device) (contents w2.device) (take part (frame_sent s1))
      → w2.failures ≡ counted w1.failures
      → Drives remaining contents s0 s1 r0 r1 w0 w2 tries turns (Err (WriteFailed (bytes + part)))
  write_failed_at w2 tries part below within wrote failures =
      let f : List ℕ = frame_sent s0 in
      let same : frame_sent s1 ≡ f = ap frame_sent so_far.state ∙ same_frame s0 so_far.read so_far.silent in
      let short : part ≤ length f = omega (arith, within, ap length same) in
      record {
        read = so_far.read;
        sent = copies f t ++ take part (frame_sent s1);
        begun = t + 1;
        reads = so_far.reads;
        failed = so_far.failed;
        reading = so_far.reading;
        appended = Appends-trans _ _ _ _ _ so_far.appended wrote;
        state = so_far.state;
        ends = (
          omega arith,
          omega (arith, below),
          ap (λ l. copies f t ++ take part l) same ∙ sym (copies_in_part f tries t part below short)
              ∙ ap (λ n. take (n + part) (copies f tries)) (sym so_far.bytes_are),
          omega (
            arith,
            so_far.bytes_are,
            ap (λ n. length (copies f n))
                (let last : t + 1 - 1 ≡ t = omega arith in last),
          ),
          omega (arith, so_far.bytes_are, within, more_bytes s0 s1 so_far.read t so_far.silent so_far.state),
          so_far.silent,
        );
        made = made_before;
        few_reads = omega (arith, so_far.few_reads);
        at_most = omega (
          arith,
          so_far.reading.few_bytes,
          so_far.few_reads,
          mul-le-mul_right turns
              (let le : t ≤ tries = omega (arith, below) in le),
        );
        write_failures_are = failures ∙ ap counted so_far.write_failures;
      }

  -- a try that ends the call, its frame written whole and none of its reads failed
  ended_at : (s2 : ServerState) (r2 : Metered R) (w2 : Metered W) (tries : ℕ) (heard_so : Listened)
      (result : Result Driven DriveFault) (try : Listens remaining s1 s2 r1 r2 turns heard_so)
      → t < tries → Appends (contents w1.device) (contents w2.device) (frame_sent s1) → try.failed ≡ 0
      → met_end heard_so ≡ is_closed result → ReadsMade result turns (t + 1) (so_far.reads + try.reads) so_far.failed
      → w2.failures ≡ write_failures result w0.failures
      → Ends s0 (so_far.read ++ try.read) (copies (frame_sent s0) (t + 1)) (remaining r2.device) tries (t + 1) result
      → Drives remaining contents s0 s2 r0 r2 w0 w2 tries turns result
  ended_at s2 r2 w2 tries heard_so result try below wrote none_failed closed made failures ends =
      let reads : ℕ = so_far.reads + try.reads in
      let reading = reads_on remaining r0 r1 r2 so_far.read so_far.reads so_far.failed so_far.reading try.read try.reads
      try.failed (met_end heard_so) try.reading in
      let few : reads ≤ (t + 1) * turns = omega (arith, so_far.few_reads, try.few_reads) in
      record {
        read = so_far.read ++ try.read;
        sent = copies (frame_sent s0) (t + 1);
        begun = t + 1;
        reads = reads;
        failed = so_far.failed;
        reading =
            subst (Reads remaining r0 r2 (so_far.read ++ try.read) reads so_far.failed) closed
            (subst (λ n. Reads remaining r0 r2 (so_far.read ++ try.read) reads n (met_end heard_so))
            (let same : so_far.failed + try.failed ≡ so_far.failed = omega (arith, none_failed) in same) reading);
        appended = one_more contents s0 s1 w0 w1 w2 so_far.read t so_far.silent so_far.state so_far.appended wrote;
        state = heard_on s0 s1 s2 so_far.read try.read so_far.state try.state;
        ends = ends;
        made = made;
        few_reads = few;
        at_most = omega (
          arith,
          reading.few_bytes,
          few,
          mul-le-mul_right turns
              (let le : t + 1 ≤ tries = omega (arith, below) in le),
        );
        write_failures_are = failures;
      }

  -- the acknowledgement came
  pub acknowledged_at : (s2 : ServerState) (r2 : Metered R) (w2 : Metered W) (tries : ℕ) (code : Code) → t < tries
      → Appends (contents w1.device) (contents w2.device) (frame_sent s1) → w2.failures ≡ w1.failures
      → Listens remaining s1 s2 r1 r2 turns (listened.Acknowledged code)
      → Drives remaining contents s0 s2 r0 r2 w0 w2 tries turns (Ok (record { code = code; tries = t + 1 }))
  acknowledged_at s2 r2 w2 tries code below wrote failures try =
      ended_at s2 r2 w2 tries _ _ try below wrote try.hears.1 refl
      (made_before.0, omega (arith, try.hears.2, made_before.1))
      (failures ∙ so_far.write_failures) (
        refl,
        omega arith,
        omega (arith, below),
        refl,
        acknowledged_after s0 so_far.read try.read code so_far.silent
            (subst (λ d. IsAcknowledged d try.read code) so_far.state try.hears.0),
      )

  -- the input ended
  pub closed_at : (s2 : ServerState) (r2 : Metered R) (w2 : Metered W) (tries : ℕ) → t < tries
      → Appends (contents w1.device) (contents w2.device) (frame_sent s1) → w2.failures ≡ w1.failures
      → Listens remaining s1 s2 r1 r2 turns listened.Ended
      → Drives remaining contents s0 s2 r0 r2 w0 w2 tries turns (Err Closed)
  closed_at s2 r2 w2 tries below wrote failures try =
      ended_at s2 r2 w2 tries _ _ try below wrote try.hears.1 refl
      (made_before.0, omega (arith, try.hears.2, made_before.1))
      (failures ∙ so_far.write_failures)
      (omega arith, omega (arith, below), refl, more_tried try.read ∙ try.hears.0, try.hears.3)

  -- all tries were made
  pub spent_at : (tries : ℕ) → t ≡ tries → Drives remaining contents s0 s1 r0 r1 w0 w1 tries turns (Err TriesSpent)
  spent_at tries all = record {
    read = so_far.read;
    sent = copies (frame_sent s0) t;
    begun = t;
    reads = so_far.reads;
    failed = so_far.failed;
    reading = so_far.reading;
    appended = so_far.appended;
    state = so_far.state;
    ends = (all, ap (copies (frame_sent s0)) all, so_far.silent);
    made = (
      so_far.few_failed,
      reads_from so_far.failed t turns so_far.reads (t - so_far.failed)
          (omega (arith, so_far.few_failed)) so_far.made,
    );
    few_reads = so_far.few_reads;
    at_most = omega (arith, so_far.reading.few_bytes, so_far.few_reads, ap (λ n. n * turns) all);
    write_failures_are = so_far.write_failures;
  }
