-- A try for all messages that wait: what is written, what is read, and the marks that this brings.
use Rattle.std.proofs.Common.{◌≡◌, ◌≢◌, ℕ, ◌+◌, ◌-◌, ◌<◌, ◌≤◌, false, List, [], ◌∷◌, ◌++◌, length, take, drop, get_or}
use Rattle.std.proofs.Common.{Option, Some, None, Result, Ok, Err, refl, ◌∙◌, ap, sym, subst, arith, length-append}
use Rattle.std.proofs.Common.{append_assoc, append-nil, take-append-drop}
use Rattle.std.specs.Prelude.{filter_map, slice_get, option_to_list}
use Rattle.std.specs.List.{concat}
use Rattle.std.proofs.Math.Seq.{take-append-add}
use Rattle.std.proofs.lemmas.List.{take-append-le, take_more, drop_more}
use Rattle.std.proofs.lemmas.List.Folds.{concat-append}
use Rattle.std.proofs.lemmas.Option.{slice_get_within, get_or_from_slice_get}
use Rattle.std.specs.Io.KnownBytes.{Appends}
use Rattle.uecp_elements.specs.declared.code.Code.{Code}
use Rattle.uecp_frame.specs.Beyond.{found_beyond}
use Rattle.uecp_frame.proofs.Public.{new_start_lem}
use Rattle.uecp_encoder.specs.Metered.{Metered}
use Rattle.uecp_link.specs.declared.driving.DriveFault.{DriveFault}
use Rattle.uecp_link.specs.declared.driving.DriveFault.TheVariants.{WriteFailed, Closed, TriesSpent}
use Rattle.uecp_link.specs.declared.heard.HeardWhat.{HeardWhat}
use Rattle.uecp_link.specs.declared.heard.HeardWhat.TheVariants as what
use Rattle.uecp_link.specs.declared.window.Windowed.{Windowed}
use Rattle.uecp_link.specs.Server.{ServerState, waiting, heard, all_heard_as, whats_of}
use Rattle.uecp_link.specs.Reading.{Reads, is_closed, write_failures}
use Rattle.uecp_link.specs.Window.{mark_in, marks_in, window_sent, ReadsEnd, WindowEnds, Windows, Gathers, Gathered}
use Rattle.uecp_link.specs.Window.{Hearing}
use Rattle.uecp_link.proofs.Answered.{idle_hears}
use Rattle.uecp_link.proofs.FeedingLemmas.{heard_none, heard_on, said-append, server_in_pieces}
use Rattle.uecp_link.proofs.Reading.{no_read, reads_on, reads_end}

-- ---- frames, one after another

module _ (fs : List (List ℕ)) (place : ℕ) (f : List ℕ) (here : slice_get fs place ≡ Some f) where
  below : place < length fs
  below = slice_get_within fs place f here

  at : get_or fs place [] ≡ f
  at = get_or_from_slice_get fs place f [] here

  -- one frame more
  pub frames_more : concat (take (place + 1) fs) ≡ concat (take place fs) ++ f
  frames_more =
      ap concat (take_more fs place [] below) ∙ concat-append (take place fs) (get_or fs place [] ∷ [])
      ∙ ap (λ l. concat (take place fs) ++ l) (append-nil (get_or fs place []) ∙ at)

  -- the frames before it, it, and those after it
  frames_split : concat fs ≡ concat (take place fs) ++ (f ++ concat (drop (place + 1) fs))
  frames_split =
      ap concat (sym (take-append-drop place fs) ∙ ap (λ l. take place fs ++ l) (drop_more fs place [] below))
      ∙ concat-append (take place fs) (get_or fs place [] ∷ drop (place + 1) fs)
      ∙ ap (λ l. concat (take place fs) ++ (l ++ concat (drop (place + 1) fs))) at

  -- so many whole frames and a part of one are the front of all
  pub part_sent : (part : ℕ) → part ≤ length f → take (length (concat (take place fs)) + part) (concat fs)
      ≡ concat (take place fs) ++ take part f
  part_sent part within =
      ap (take (length (concat (take place fs)) + part)) frames_split
      ∙ take-append-add (concat (take place fs)) (f ++ concat (drop (place + 1) fs)) part
      ∙ ap (λ l. concat (take place fs) ++ l) (take-append-le part f (concat (drop (place + 1) fs)) within)

  pub part_below : (part : ℕ) → part < length f → length (concat (take place fs)) + part < length (concat fs)
  part_below part within =
      omega (
        arith,
        within,
        ap length frames_split,
        length-append (concat (take place fs))
            (f ++ concat (drop (place + 1) fs)),
        length-append f (concat (drop (place + 1) fs)),
      )

  -- so many bytes of all frames, the whole ones before and a part of this one
  pub part_appended : (before after : Option (List ℕ)) (written part : ℕ) → part < length f
      → written ≡ length (concat (take place fs)) + part → Appends before after (concat (take place fs) ++ take part f)
      → (written < length (concat fs)) × Appends before after (take written (concat fs))
  part_appended before after written part within count wrote = (
    omega (arith, count, part_below part within),
    subst (Appends before after) (sym (ap (λ n. take n (concat fs)) count ∙ part_sent part (omega (arith, within))))
        wrote,
  )

-- ---- marks

pub marks_none : (s : ServerState) → marks_in s [] ≡ []
marks_none s = ap (λ fs. filter_map mark_in (all_heard_as s fs)) (new_start_lem s.part []).nothing

pub marks-append : (s : ServerState) (x y : List ℕ) → marks_in s (x ++ y) ≡ marks_in s x ++ marks_in (heard s x) y
marks-append s x y = said-append mark_in s x y

-- the mark in what one call of `hear` says
pub said_marks : (s : ServerState) (x : List ℕ) (w : HeardWhat) → all_heard_as s (found_beyond s.part x) ≡ whats_of w
    → marks_in s x ≡ option_to_list (mark_in w)
said_marks s x w said = ap (filter_map mark_in) said ∙ go w
  where
    go : (w : HeardWhat) → filter_map mark_in (whats_of w) ≡ option_to_list (mark_in w)
    go what.Nothing = refl
    go (what.Acknowledged counter code) = refl
    go what.Stray = refl
    go (what.Dropped fault) = refl

pub no_mark : (w : HeardWhat) → ((counter : ℕ) (code : Code) → w ≡ what.Acknowledged counter code → ⊥)
    → mark_in w ≡ None
no_mark what.Nothing other = refl
no_mark (what.Acknowledged counter code) other = absurd (other counter code refl)
no_mark what.Stray other = refl
no_mark (what.Dropped fault) other = refl

pub with_added : (m' m said marks : List (ℕ × Code)) → said ≡ marks → m' ≡ m ++ said → m' ≡ m ++ marks
with_added m' m said marks is added = added ∙ ap (λ ms. m ++ ms) is

-- one call of `hear` more
pub hears_on : (s0 s s' : ServerState) (n : ℕ) (piece rest rest' : List ℕ) (w : HeardWhat) (m0 m m' : List (ℕ × Code))
    → Hearing s0 s piece rest m0 m → s' ≡ heard s (take n rest) → rest' ≡ drop n rest
    → all_heard_as s (found_beyond s.part (take n rest)) ≡ whats_of w
    → length (option_to_list (mark_in w)) + length (waiting s') ≡ length (waiting s)
    → m' ≡ m ++ option_to_list (mark_in w) → Hearing s0 s' piece rest' m0 m'
hears_on s0 s s' n piece rest rest' w m0 m m' so_far state left said fewer added =
    let x : List ℕ = take n rest in
    let y : List ℕ = drop n rest in
    let whole : x ++ y ≡ rest = take-append-drop n rest in
    let marked : m' ≡ m ++ marks_in s x = added ∙ ap (λ ms. m ++ ms) (sym (said_marks s x w said)) in
    record {
      state = ap (λ (t : ServerState). heard t rest') state ∙ ap (heard (heard s x)) left
          ∙ sym (server_in_pieces s x y).state ∙ ap (heard s) whole ∙ so_far.state;
      marked =
          ap (λ ms. ms ++ marks_in s' rest') marked ∙ ap (λ (t : ServerState). (m ++ marks_in s x) ++ marks_in t rest')
          state
          ∙ ap (λ (bs : List ℕ). (m ++ marks_in s x) ++ marks_in (heard s x) bs) left
          ∙ append_assoc m (marks_in s x) (marks_in (heard s x) y)
          ∙ ap (λ ms. m ++ ms) (sym (marks-append s x y) ∙ ap (marks_in s) whole) ∙ so_far.marked;
      room = omega (arith, fewer, ap length added, length-append m (option_to_list (mark_in w)), so_far.room);
    }

-- ---- reads

pub gathered_none : {R : Type 0} (remaining : R → Option (List ℕ)) (s : ServerState) (reader : Metered R)
    (marks : List (ℕ × Code)) → s.held ≢ [] → Gathered remaining s s reader reader marks marks 0
gathered_none remaining s reader marks busy = record {
  read = [];
  reading = no_read remaining reader;
  state = sym (heard_none s);
  marked = sym (ap (λ ms. marks ++ ms) (marks_none s) ∙ append-nil marks);
  busy = busy;
  room = refl;
}

module _ {R : Type 0} (remaining : R → Option (List ℕ)) (s0 s1 : ServerState) (r0 r1 : Metered R)
    (m0 m1 : List (ℕ × Code)) (reads : ℕ) (so_far : Gathered remaining s0 s1 r0 r1 m0 m1 reads) where
  more_marks : (piece : List ℕ) (m2 : List (ℕ × Code)) → m2 ≡ m1 ++ marks_in s1 piece
      → m2 ≡ m0 ++ marks_in s0 (so_far.read ++ piece)
  more_marks piece m2 marked =
      marked ∙ ap (λ ms. ms ++ marks_in s1 piece) so_far.marked
      ∙ ap (λ (d : ServerState). (m0 ++ marks_in s0 so_far.read) ++ marks_in d piece) so_far.state
      ∙ append_assoc m0 (marks_in s0 so_far.read) (marks_in (heard s0 so_far.read) piece)
      ∙ ap (λ ms. m0 ++ ms) (sym (marks-append s0 so_far.read piece))

  -- one read more, after which messages wait
  pub gathered_on : (s2 : ServerState) (r2 : Metered R) (m2 : List (ℕ × Code)) (piece : List ℕ)
      → Reads remaining r1 r2 piece 1 0 false → s2 ≡ heard s1 piece → m2 ≡ m1 ++ marks_in s1 piece → s2.held ≢ []
      → length m2 + length (waiting s2) ≡ length m1 + length (waiting s1)
      → Gathered remaining s0 s2 r0 r2 m0 m2 (reads + 1)
  gathered_on s2 r2 m2 piece brought state marked busy room = record {
    read = so_far.read ++ piece;
    reading = reads_on remaining r0 r1 r2 so_far.read reads 0 so_far.reading piece 1 0 false brought;
    state = heard_on s0 s1 s2 so_far.read piece so_far.state state;
    marked = more_marks piece m2 marked;
    busy = busy;
    room = room ∙ so_far.room;
  }

  -- the reads end with one more, which brought bytes
  pub gathers_more : (s2 : ServerState) (r2 : Metered R) (m2 : List (ℕ × Code)) (piece : List ℕ) (turns : ℕ)
      (result : Result Windowed DriveFault) → Reads remaining r1 r2 piece 1 0 false → s2 ≡ heard s1 piece
      → m2 ≡ m1 ++ marks_in s1 piece → is_closed result ≡ false → reads < turns
      → ((heard s0 (take (length (so_far.read ++ piece) - 64) (so_far.read ++ piece))).held ≢ []
      → ReadsEnd s0 s2 (so_far.read ++ piece) (remaining r2.device) turns (reads + 1) 0 result)
      → Gathers remaining s0 s2 r0 r2 m0 m2 turns result
  gathers_more s2 r2 m2 piece turns result brought state marked goes_on below ends = record {
    read = so_far.read ++ piece;
    reads = reads + 1;
    failed = 0;
    reading = rw goes_on (reads_on remaining r0 r1 r2 so_far.read reads 0 so_far.reading piece 1 0 false brought);
    state = heard_on s0 s1 s2 so_far.read piece so_far.state state;
    marked = more_marks piece m2 marked;
    ends = ends late;
    few_reads = omega (arith, below);
  }
    where
      late : (heard s0 (take (length (so_far.read ++ piece) - 64) (so_far.read ++ piece))).held ≡ [] → ⊥
      late before =
          let within : length (so_far.read ++ piece) - 64 ≤ length so_far.read =
          omega (arith, length-append so_far.read piece, brought.few_bytes) in
          let front = take-append-le (length (so_far.read ++ piece) - 64) so_far.read piece within in
          let x : List ℕ = take (length (so_far.read ++ piece) - 64) so_far.read in
          let y : List ℕ = drop (length (so_far.read ++ piece) - 64) so_far.read in
          let early : (heard s0 x).held ≡ [] = ap (λ (bs : List ℕ). (heard s0 bs).held) (sym front) ∙ before in
          let later : (heard s0 (x ++ y)).held ≡ [] = ap (λ (t : ServerState). t.held) (server_in_pieces s0 x y).state
          ∙ idle_hears (heard s0 x) y early in
          so_far.busy (ap (λ (t : ServerState). t.held) so_far.state
          ∙ ap (λ (bs : List ℕ). (heard s0 bs).held)
          (sym (take-append-drop (length (so_far.read ++ piece) - 64) so_far.read)) ∙ later)

  -- they end with no more, or with one more that brought none
  pub gathers_quiet : (s2 : ServerState) (r2 : Metered R) (m2 : List (ℕ × Code)) (turns more failed : ℕ)
      (result : Result Windowed DriveFault) → Reads remaining r1 r2 [] more failed (is_closed result) → s2 ≡ s1
      → m2 ≡ m1
      → reads + more ≤ turns → ReadsEnd s0 s1 so_far.read (remaining r2.device) turns (reads + more) failed result
      → Gathers remaining s0 s2 r0 r2 m0 m2 turns result
  gathers_quiet s2 r2 m2 turns more failed result quiet stays same below ends = record {
    read = so_far.read;
    reads = reads + more;
    failed = failed;
    reading = reads_end remaining r0 r1 r2 so_far.read reads so_far.reading more failed (is_closed result) quiet;
    state = stays ∙ so_far.state;
    marked = same ∙ so_far.marked;
    ends = subst (λ (s : ServerState). ReadsEnd s0 s so_far.read (remaining r2.device) turns (reads + more) failed
        result) (sym stays) ends;
    few_reads = below;
  }

-- ---- a whole try

pub windows_unread : {R W : Type 0} (remaining : R → Option (List ℕ)) (contents : W → Option (List ℕ)) (s : ServerState)
    (r : Metered R) (w0 w1 : Metered W) (marks : List (ℕ × Code)) (turns : ℕ) (sent : List ℕ)
    (result : Result Windowed DriveFault)
    → Appends (contents w0.device) (contents w1.device) sent
    → WindowEnds s s [] sent (remaining r.device) turns 0 0 result
    → w1.failures ≡ write_failures result w0.failures → is_closed result ≡ false
    → Windows remaining contents s s r r w0 w1 marks marks turns result
windows_unread remaining contents s r w0 w1 marks turns sent result wrote ends failures goes_on = record {
  read = [];
  sent = sent;
  reads = 0;
  failed = 0;
  reading = rw goes_on (no_read remaining r);
  appended = wrote;
  state = sym (heard_none s);
  marked = sym (ap (λ ms. marks ++ ms) (marks_none s) ∙ append-nil marks);
  ends = ends;
  few_reads = omega arith;
  write_failures = failures;
}

pub windows_read : {R W : Type 0} (remaining : R → Option (List ℕ)) (contents : W → Option (List ℕ))
    (s0 s1 : ServerState)
    (r0 r1 : Metered R) (w0 w1 : Metered W) (m0 m1 : List (ℕ × Code)) (turns : ℕ) (result : Result Windowed DriveFault)
    → Appends (contents w0.device) (contents w1.device) (window_sent s0) → w1.failures ≡ w0.failures
    → Gathers remaining s0 s1 r0 r1 m0 m1 turns result → Windows remaining contents s0 s1 r0 r1 w0 w1 m0 m1 turns result
windows_read remaining contents s0 s1 r0 r1 w0 w1 m0 m1 turns result wrote failures reads = record {
  read = reads.read;
  sent = window_sent s0;
  reads = reads.reads;
  failed = reads.failed;
  reading = reads.reading;
  appended = wrote;
  state = reads.state;
  marked = reads.marked;
  ends = go result reads.ends;
  few_reads = reads.few_reads;
  write_failures = kept result reads.ends;
}
  where
    go : (result : Result Windowed DriveFault) → ReadsEnd s0 s1 reads.read (remaining r1.device) turns reads.reads
        reads.failed result → WindowEnds s0 s1 reads.read (window_sent s0) (remaining r1.device) turns reads.reads
        reads.failed result
    go (Ok windowed) ends = (refl, ends)
    go (Err Closed) ends = (refl, ends)
    go (Err (WriteFailed w)) ends = absurd ends
    go (Err TriesSpent) ends = ends

    kept : (result : Result Windowed DriveFault)
        → ReadsEnd s0 s1 reads.read (remaining r1.device) turns reads.reads reads.failed result
        → w1.failures ≡ write_failures result w0.failures
    kept (Ok windowed) ends = failures
    kept (Err Closed) ends = failures
    kept (Err (WriteFailed w)) ends = absurd ends
    kept (Err TriesSpent) ends = failures
