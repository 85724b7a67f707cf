-- What a join leaves is a beginning.
use Rattle.std.proofs.Common.{◌≡◌, ℕ, zero, suc, List, [], Option, Ok, ap, sym, subst, ◌∙◌}
use Rattle.std.proofs.Common.{inl, inr}
use Rattle.uecp_frame.specs.Findings.{Closed}
use Rattle.uecp_frame.specs.Beyond.{found_beyond, open_beyond}
use Rattle.uecp_encoder.specs.Target.{Step}
use Rattle.uecp_link.specs.declared.joining.Joining.TheVariants.{Joined}
use Rattle.uecp_link.specs.Joining.{BringsBoth, RepliesEnd, PassEnds, anew}
use Rattle.uecp_link.specs.Server.{ServerState}
use Rattle.uecp_link.proofs.Public.{heard_open, still_new}
use Rattle.uecp_net.specs.declared.sender.Outstanding.{Outstanding}
use Rattle.uecp_net.specs.declared.sender.Outstanding.TheVariants.{ConnectionFailed}
use Rattle.uecp_net.specs.Sending.{SenderOver, HangsUp, reconnecting}
use Rattle.uecp_net.specs.Joining.{Passes, JoinsOver}
use Rattle.promises.specs.Doings.{JoinsBegin}
use Rattle.promises.proofs.RunEvents.{heard_at}

module _ {V C I O : Type 0} (step : Step V) (opens : C → Option (I × O) → C → Type 0)
    (closes : C → I → O → C → Type 0) (remaining : I → Option (List ℕ)) (contents : O → Option (List ℕ)) where
  abbrev Over : Type 0
  Over = SenderOver C I O

  -- what the last pass left
  record Last (address : ℕ) (server : ServerState) : Type 0 where
    read : List ℕ
    brings : BringsBoth address read
    at : server.address ≡ address
    last : server.last ≡ 0
    held : server.held ≡ []
    part : server.part ≡ open_beyond Closed read

  hung_up_at : (s s' : Over) → HangsUp closes s s' → s'.sender.server.address ≡ s.sender.server.address
  hung_up_at s s' (inl (none, same)) = ap (λ (t : Over). t.sender.server.address) same
  hung_up_at s s' (inr (ends, has, closed, same)) = ap (λ (t : Over). t.sender.server.address) same

  start_at : (behind behind' : ℕ) (s s' : Over) (went : _) (p : Passes opens remaining contents behind behind' s s'
      went)
      → p.start.sender.server.address ≡ s.sender.server.address
  start_at behind behind' s s' went p =
      let (input, output, opened, same) = p.opened in ap (λ (t : Over). t.sender.server.address) same

  pass_at : (behind behind' : ℕ) (s s' : Over) (went : _) → Passes opens remaining contents behind behind' s s' went
      → s'.sender.server.address ≡ s.sender.server.address
  pass_at behind behind' s s' went p =
      ap (λ (d : ServerState). d.address) p.went.state ∙ heard_at (anew p.start.sender.server) p.went.read
      ∙ start_at behind behind' s s' went p

  last_so : (behind behind' : ℕ) (s s' : Over) → Passes opens remaining contents behind behind' s s' (Ok Joined)
      → Last s.sender.server.address s'.sender.server
  last_so behind behind' s s' p =
      let server : ServerState = p.start.sender.server in
      let still = still_new server s'.sender.server p.went.read p.went.state in
      record {
        read = p.went.read;
        brings = subst (λ (a : ℕ). BringsBoth a p.went.read) (start_at behind behind' s s' (Ok Joined) p)
            (both server.address p.went.read p.went.sent _ _ _ _ p.went.ended p.went.ends p.went.reads_end);
        at = pass_at behind behind' s s' (Ok Joined) p;
        last = ap (λ (d : ServerState). d.last) still;
        held = ap (λ (d : ServerState). d.held) still;
        part = ap (λ (d : ServerState). d.part) p.went.state
            ∙ ap (λ (d : ServerState). d.part) (heard_open (anew server) (open_beyond Closed p.went.read)
            (found_beyond Closed p.went.read));
      }
    where
      both : (address : ℕ) (read sent : List ℕ) (unread : Option (List ℕ)) (turns reads failed : ℕ)
          (ended : _) → PassEnds address behind sent ended (Ok Joined)
          → RepliesEnd address read unread turns reads failed ended → BringsBoth address read
      both address read sent unread turns reads failed ended (inl (whole, told)) ends =
          (subst (RepliesEnd address read unread turns reads failed) (sym told) ends).0
      both address read sent unread turns reads failed ended (inr (w, some, short, told)) ends =
          absurd (cc)

  joins_so : (n : ℕ) (before : Outstanding) (behind : ℕ) (s s' : Over)
      → JoinsOver opens closes remaining contents n before behind s s' (Ok tt)
      → Last s.sender.server.address s'.sender.server
  joins_so (suc n) before behind s s' (went, reason, behind', last, next, passes, end_is, hangs_up, left, more) =
      subst (λ (a : ℕ). Last a s'.sender.server)
      (hung_up_at last next hangs_up ∙ pass_at behind behind' s last went passes)
      (joins_so n reason behind' (reconnecting next) s' more)
  joins_so zero before behind s s' (behind', passes) = last_so behind behind' s s' passes

  pub joins_begin_lem : JoinsBegin step opens closes remaining contents
  joins_begin_lem s s' (first, ended, hangs_up, over) =
      let l : Last s.sender.server.address s'.sender.server =
      subst (λ (a : ℕ). Last a s'.sender.server) (hung_up_at s first hangs_up)
      (joins_so ended ConnectionFailed 0 first s' over) in
      record {
        read = l.read;
        brings = l.brings;
        server = λ e got coming unread is_over.
            record { at = l.at; last = l.last; held = l.held; part = l.part ∙ is_over.server };
        encoder = λ e got coming unread is_over. (
          inr is_over.encoder.kept,
          is_over.encoder.closed,
          is_over.encoder.value_is,
          is_over.pass,
          is_over.replies,
        );
      }
