-- A station that goes out is events at the studio.
use Rattle.std.proofs.Common.{◌≡◌, ℕ, zero, suc, true, List, [], ◌∷◌, ◌++◌, length, Option, Ok, refl, ap, sym, subst}
use Rattle.std.proofs.Common.{◌∙◌, arith, append_assoc, append-nil, length-append}
use Rattle.uecp_elements.specs.declared.code.Code.{Code}
use Rattle.uecp_encoder.specs.Target.{Step}
use Rattle.uecp_link.specs.Server.{ServerState}
use Rattle.uecp_net.specs.declared.sender.Outstanding.TheVariants.{ConnectionFailed}
use Rattle.uecp_net.specs.Sending.{SenderOver, submitted_all}
use Rattle.promises.specs.Sent.{GoesOut, GoOut}
use Rattle.promises.specs.Ends.{Studio, SaysStation, is_at_studio, studio_after, submitted_each, run_studio}
use Rattle.promises.specs.Doings.{SaysAs, StationBegins}
use Rattle.promises.proofs.EndLists.{all_append}
use Rattle.promises.proofs.Doings.{runs_on, all_at, delivers_goes, taken_so}
use Rattle.promises.proofs.Joins.{joins_begin_lem}

module _ {V C I O : Type 0} (step : Step V) (opens : C → Option (I × O) → C → Type 0)
    (closes : C → I → O → C → Type 0) (remaining : I → Option (List ℕ)) (contents : O → Option (List ℕ)) where
  abbrev Over : Type 0
  Over = SenderOver C I O

  -- a batch of it
  one_said : (x : Studio) (first : ℕ) (batch : List (List ℕ)) (told : List Code) (s s' : Over)
      → x.server ≡ s.sender.server → GoesOut opens closes remaining contents first batch told s s'
      → SaysAs x batch s'.sender.server
  one_said x first batch told s s' same out =
      let y : Studio = studio_after x (SaysStation batch) in
      let has : y.server ≡ (submitted_all s batch).sender.server =
      ap (λ (d : ServerState). submitted_each d batch) same ∙ sym (taken_so s batch) in
      let (more, are, over) = delivers_goes {K = Unit {0}} opens closes remaining contents (λ k file k'. Unit {0})
      (λ k file k'. Unit {0}) out.ended ConnectionFailed
      (submitted_all s batch) s' [] out.marks (Ok out.tries) out.delivers y has in
      record {
        events = SaysStation batch ∷ over.events;
        at = (refl, all_at over.events over.on);
        server_is = ap (λ (d : Studio). d.server) over.leads;
        file_is = ap (λ (d : Studio). d.file) over.leads;
        sent = ap (λ (d : Studio). d.sent) over.leads;
        counted = ap (λ (d : Studio). d.station) over.leads;
      }

  said_on : (x : Studio) (a b : List (List ℕ)) (server server' : ServerState) (first : SaysAs x a server)
      → SaysAs (run_studio x first.events) b server' → SaysAs x (a ++ b) server'
  said_on x a b server server' first more =
      let both = runs_on x first.events more.events in
      record {
        events = first.events ++ more.events;
        at = all_append (λ event. is_at_studio event ≡ true) first.events more.events first.at more.at;
        server_is = ap (λ (y : Studio). y.server) both ∙ more.server_is;
        file_is = ap (λ (y : Studio). y.file) both ∙ more.file_is ∙ first.file_is;
        sent = ap (λ (y : Studio). y.sent) both ∙ more.sent ∙ ap (λ (l : List (List ℕ)). l ++ b) first.sent
            ∙ append_assoc x.sent a b;
        counted = (let both_ = ap (λ (y : Studio). y.station) both in let one = first.counted in
            let two = more.counted in let all = length-append a b in omega (arith, both_, one, two, all));
      }

  said_so : (x : Studio) (n : ℕ) (messages : List (List ℕ)) (told : List Code) (s s' : Over)
      → x.server ≡ s.sender.server → GoOut opens closes remaining contents n messages told s s'
      → SaysAs x messages s'.sender.server
  said_so x zero messages told s s' same (none, told_none, is) =
      subst (λ (ms : List (List ℕ)). SaysAs x ms s'.sender.server) (sym none) (record {
        events = [];
        at = tt;
        server_is = same ∙ ap (λ (t : Over). t.sender.server) (sym is);
        file_is = refl;
        sent = sym (append-nil x.sent);
        counted = omega arith;
      })
  said_so x (suc n) messages told s s' same (before, batch, earlier, codes, y, goes, out, are, told_are) =
      let first = said_so x n before earlier s y same goes in
      subst (λ (ms : List (List ℕ)). SaysAs x ms s'.sender.server) (sym are)
      (said_on x before batch y.sender.server s'.sender.server first
      (one_said (run_studio x first.events) (length before) batch codes y s' first.server_is out))

  pub station_begins_lem : StationBegins step opens closes remaining contents
  station_begins_lem station told s s' out = (
    joins_begin_lem step opens closes remaining contents s out.begins out.joins,
    λ x same. said_so x out.batches station told out.begins s' same out.goes,
  )
