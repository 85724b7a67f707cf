use Rattle.std.proofs.Common.{ℕ, List, [], flat_map, ◌∙◌, ap}
use Rattle.std.proofs.lemmas.Grind.{flat_map-append}
use Rattle.uecp_frame.specs.Findings.{Finding, Closed, found}
use Rattle.uecp_frame.specs.Beyond.{found_beyond}
use Rattle.uecp_frame.specs.Feeding.{findings_of}
use Rattle.uecp_frame.proofs.Public.{new_start_lem}
use Rattle.uecp_text.proofs.Public.{leads_on, leads_end, empty_is}
use Rattle.conformance_command.specs.Telling.{found_note}
use Rattle.conformance_command.proofs.Noted.{found_on, leads_first}
use Rattle.conformance_command.proofs.notes.put_all_found.Goals as goal

pub loop-rest-init : goal.loop-rest-init
loop-rest-init c = leads_first c.args.output.now
    (flat_map found_note (found_beyond c.new-deframer.result c.args.bytes.now))
    (flat_map found_note (found c.args.bytes.now)) (ap (λ o. flat_map found_note (found_beyond o c.args.bytes.now))
    c.new-deframer.ensures ∙ ap (flat_map found_note) (new_start_lem Closed c.args.bytes.now).found)

pub loop-rest-preserved : goal.loop-rest-preserved
loop-rest-preserved c =
    let o = c.loop-rest.deframer in
    let o' = c.feed-fed.new.self in
    let rest : List ℕ = c.loop-rest.rest.now in
    let rest' : List ℕ = c.rest_after-rest.result.now in
    let now : List Finding = findings_of c.feed-fed.result.found in
    let later : List Finding = found_beyond o' rest' in
    let found_is = found_on o o' c.feed-fed.result rest rest' c.feed-fed.ensures.feeds c.rest_after-rest.ensures in
    leads_on c.args.output.now c.loop-rest.output c.put_found.new.output (flat_map found_note now)
    (flat_map found_note (found_beyond o rest)) (flat_map found_note later)
    (flat_map found_note (found c.args.bytes.now)) c.loop-rest.invariant
    (ap (flat_map found_note) found_is ∙ flat_map-append found_note now later) c.put_found.ensures

pub returns : goal.returns
returns c =
    let o = c.loop-rest.deframer in
    let empty = empty_is c.loop-rest.rest.now c.loop-rest-test.ensures in
    leads_end c.args.output.now c.loop-rest.output (flat_map found_note (found_beyond o c.loop-rest.rest.now))
    (flat_map found_note (found c.args.bytes.now)) c.loop-rest.invariant
    (ap (flat_map found_note) (ap (found_beyond o) empty ∙ (new_start_lem o []).nothing))
