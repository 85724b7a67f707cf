-- A server that goes on: its counts are no matter of what it says and keeps.
use Rattle.std.proofs.Common.{◌≡◌, ℕ, List, [], ◌∷◌, Option, Some, None, Ok, Err, refl, ap, sym, ◌∙◌}
use Rattle.uecp_elements.specs.declared.code.Code.{Code}
use Rattle.uecp_frame.specs.Findings.{Finding, Closed}
use Rattle.uecp_frame.specs.Beyond.{found_beyond, open_beyond}
use Rattle.uecp_link.specs.declared.counts.ServerCounts.{ServerCounts}
use Rattle.uecp_link.specs.Server.{ServerState, nothing_counted, freed_of, marked_at, acknowledges, freed}
use Rattle.uecp_link.specs.Server.{heard_finding}
use Rattle.uecp_link.specs.Server.{heard_findings, heard_as, told, all_heard_as}
use Rattle.uecp_net.specs.declared.saved.keep.Progress.{Progress}
use Rattle.uecp_net.specs.Keeping.{kept_of}
use Rattle.uecp_net.specs.Laws.{GoesOnAsItWas}

-- the server with other counts
abbrev counting : ServerState → ServerCounts → ServerState
counting s counts = record s { counts = counts }

says_same : (s : ServerState) (counts : ServerCounts) (fs : List Finding)
    → all_heard_as (counting s counts) fs ≡ all_heard_as s fs
says_same s counts [] = refl
says_same s counts (Err fault ∷ fs) =
    ap (λ ws. heard_as s (Err fault) ∷ ws)
    (says_same s (heard_finding (counting s counts) (Err fault)).counts fs
    ∙ sym (says_same s (heard_finding s (Err fault)).counts fs))
says_same s counts (Ok f ∷ fs) = go (acknowledges s f) (λ t c. says_same t c fs)
  where
    go : (k : Option (ℕ × Code))
        → ((t : ServerState) (c : ServerCounts) → all_heard_as (counting t c) fs ≡ all_heard_as t fs)
        → told k ∷ all_heard_as (freed (counting s counts) k) fs ≡ told k ∷ all_heard_as (freed s k) fs
    go None later = ap (λ ws. told None ∷ ws)
        (later s (freed (counting s counts) None).counts ∙ sym (later s (freed s None).counts))
    go (Some reply) later =
        let t : ServerState = record s { held = freed_of (marked_at reply.0 s.held) } in
        ap (λ ws. told (Some reply) ∷ ws)
        (later t (freed (counting s counts) (Some reply)).counts ∙ sym (later t (freed s (Some reply)).counts))

keeps_same : (progress : Progress) (s : ServerState) (counts : ServerCounts) (fs : List Finding)
    → kept_of progress (heard_findings (counting s counts) fs) ≡ kept_of progress (heard_findings s fs)
keeps_same progress s counts [] = refl
keeps_same progress s counts (Err fault ∷ fs) =
    keeps_same progress s (heard_finding (counting s counts) (Err fault)).counts fs
    ∙ sym (keeps_same progress s (heard_finding s (Err fault)).counts fs)
keeps_same progress s counts (Ok f ∷ fs) = go (acknowledges s f) (λ t c. keeps_same progress t c fs)
  where
    go : (k : Option (ℕ × Code)) → ((t : ServerState) (c : ServerCounts)
        → kept_of progress (heard_findings (counting t c) fs) ≡ kept_of progress (heard_findings t fs))
        → kept_of progress (heard_findings (freed (counting s counts) k) fs)
        ≡ kept_of progress (heard_findings (freed s k) fs)
    go None later = later s (freed (counting s counts) None).counts ∙ sym (later s (freed s None).counts)
    go (Some reply) later =
        let t : ServerState = record s { held = freed_of (marked_at reply.0 s.held) } in
        later t (freed (counting s counts) (Some reply)).counts ∙ sym (later t (freed s (Some reply)).counts)

pub goes_on_as_it_was_lem : GoesOnAsItWas
goes_on_as_it_was_lem progress s = record {
  frames = refl;
  counters = refl;
  next = λ message. refl;
  hears = λ bytes. says_same (record s { part = Closed }) nothing_counted (found_beyond Closed bytes);
  keeps = λ bytes. keeps_same progress (record s { part = open_beyond Closed bytes }) nothing_counted
      (found_beyond Closed bytes);
}
