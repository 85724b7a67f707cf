use Rattle.std.proofs.Common.{ℕ, List, [], ◌∙◌, ap, sym}
use Rattle.uecp_frame.specs.Beyond.{found_beyond, open_beyond}
use Rattle.uecp_frame.specs.Feeding.{findings_of}
use Rattle.uecp_frame.proofs.Public.{new_start_lem}
use Rattle.live_edges.specs.declared.awaited.Awaited.{Awaited}
use Rattle.live_edges.specs.Awaited.{sent_all}
use Rattle.live_edges.proofs.Pieces.{open_on, sent_on, awaited_is}
use Rattle.uecp_text.proofs.Public.{empty_is}
use Rattle.live_edges.proofs.awaited.Awaited.wrote.Goals as goal

pub loop-rest-preserved : goal.loop-rest-preserved
loop-rest-preserved c =
    let was = c.loop-rest.self in
    let rest : List ℕ = c.loop-rest.rest.now in
    let rest' : List ℕ = c.rest_after-rest.result.now in
    let o' = c.feed-fed.new.self in
    let fed = c.feed-fed.result in
    let address = c.args.self.now.address in
    let kept = c.loop-rest.invariant in
    let noted = c.note_sent.ensures in
    record {
      address = ap (λ (s : Awaited). s.address) noted ∙ kept.address;
      read = ap (λ (s : Awaited). s.read) noted ∙ kept.read;
      part = ap (λ (s : Awaited). open_beyond s.written rest') noted
          ∙ open_on was.written o' fed rest rest' c.feed-fed.ensures.feeds c.rest_after-rest.ensures ∙ kept.part;
      waits = ap (λ (s : Awaited). sent_all address s.waits (found_beyond s.written rest')) noted
          ∙ ap (λ a. sent_all address (sent_all a was.waits (findings_of fed.found)) (found_beyond o' rest'))
          kept.address
          ∙ sent_on address was.waits was.written o' fed rest rest' c.feed-fed.ensures.feeds c.rest_after-rest.ensures
          ∙ kept.waits;
    }

pub returns : goal.returns
returns c =
    let was = c.loop-rest.self in
    let kept = c.loop-rest.invariant in
    let empty = empty_is c.loop-rest.rest.now c.loop-rest-test.ensures in
    let nothing = ap (found_beyond was.written) empty ∙ (new_start_lem was.written []).nothing in
    let stays = ap (open_beyond was.written) empty ∙ (new_start_lem was.written []).stays in
    awaited_is was c.args.self.now.address _ _ c.args.self.now.read kept.address
    (sym (ap (sent_all c.args.self.now.address was.waits) nothing) ∙ kept.waits) (sym stays ∙ kept.part) kept.read
