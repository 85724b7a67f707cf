use Rattle.std.proofs.Common.{ℕ, List, [], ◌∙◌, ap, sym}
use Rattle.uecp_frame.specs.Beyond.{found_beyond, open_beyond}
use Rattle.uecp_frame.specs.Feeding.{findings_of}
use Rattle.uecp_frame.proofs.Public.{new_start_lem}
use Rattle.live_edges.specs.declared.awaited.Awaited.{Awaited}
use Rattle.live_edges.specs.Awaited.{Replies, heard_all}
use Rattle.live_edges.proofs.Pieces.{open_on, heard_on, awaited_is}
use Rattle.uecp_text.proofs.Public.{empty_is}
use Rattle.live_edges.proofs.awaited.Awaited.heard.Goals as goal

pub loop-rest-preserved : goal.loop-rest-preserved
loop-rest-preserved c =
    let was = c.loop-rest.self in
    let before : Replies = record { waits = was.waits; came = c.loop-rest.came } in
    let rest : List ℕ = c.loop-rest.rest.now in
    let rest' : List ℕ = c.rest_after-rest.result.now in
    let o' = c.feed-fed.new.self in
    let fed = c.feed-fed.result in
    let address = c.args.self.now.address in
    let kept = c.loop-rest.invariant in
    let noted = c.note_heard-came.ensures.0 in
    record {
      address = ap (λ (s : Awaited). s.address) noted ∙ kept.address;
      written = ap (λ (s : Awaited). s.written) noted ∙ kept.written;
      part = ap (λ (s : Awaited). open_beyond s.read rest') noted
          ∙ open_on was.read o' fed rest rest' c.feed-fed.ensures.feeds c.rest_after-rest.ensures ∙ kept.part;
      replies = ap (λ (s : Awaited). heard_all address (record { waits = s.waits; came = c.note_heard-came.result })
          (found_beyond s.read rest')) noted
          ∙ ap (λ b. heard_all address (record {
            waits = (heard_all was.address before (findings_of fed.found)).waits;
            came = b;
          }) (found_beyond o' rest')) c.note_heard-came.ensures.1
          ∙ ap (λ a. heard_all address (heard_all a before (findings_of fed.found)) (found_beyond o' rest'))
          kept.address
          ∙ heard_on address before was.read o' fed rest rest' c.feed-fed.ensures.feeds c.rest_after-rest.ensures
          ∙ kept.replies;
    }

pub returns : goal.returns
returns c =
    let was = c.loop-rest.self in
    let before : Replies = record { waits = was.waits; came = c.loop-rest.came } in
    let kept = c.loop-rest.invariant in
    let empty = empty_is c.loop-rest.rest.now c.loop-rest-test.ensures in
    let nothing = ap (found_beyond was.read) empty ∙ (new_start_lem was.read []).nothing in
    let stays = ap (open_beyond was.read) empty ∙ (new_start_lem was.read []).stays in
    let replies = sym (ap (heard_all c.args.self.now.address before) nothing) ∙ kept.replies in (
      awaited_is was c.args.self.now.address _ c.args.self.now.written _ kept.address
          (ap (λ (r : Replies). r.waits) replies) kept.written (sym stays ∙ kept.part),
      ap (λ (r : Replies). r.came) replies,
    )
