use Rattle.std.proofs.Common.{ℕ, List, [], flat_map, ◌∙◌, ap, sym}
use Rattle.std.proofs.lemmas.Grind.{flat_map-append}
use Rattle.uecp_frame.specs.Findings.{Finding}
use Rattle.uecp_frame.specs.Beyond.{found_beyond, open_beyond}
use Rattle.uecp_frame.specs.Feeding.{findings_of}
use Rattle.uecp_frame.proofs.Public.{new_start_lem}
use Rattle.output_forms.specs.Forms.{found_lines}
use Rattle.uecp_text.proofs.Public.{leads_on, leads_end, empty_is}
use Rattle.uecp_jobs.proofs.Pieces.{found_on, open_on}
use Rattle.uecp_jobs.proofs.showing.show_piece.Goals as goal

pub loop-rest-preserved : goal.loop-rest-preserved
loop-rest-preserved c =
    let o = c.loop-rest.deframer in
    let o' = c.feed-fed.new.self in
    let rest : List ℕ = c.loop-rest.rest.now in
    let rest' : List ℕ = c.rest_after-rest.result.now in
    let now : List Finding = findings_of c.feed-fed.result.found in
    let later : List Finding = found_beyond o' rest' in
    let found = found_on o o' c.feed-fed.result rest rest' c.feed-fed.ensures.feeds c.rest_after-rest.ensures in
    record {
      part = open_on o o' c.feed-fed.result rest rest' c.feed-fed.ensures.feeds c.rest_after-rest.ensures
          ∙ c.loop-rest.invariant.part;
      lines = leads_on c.args.output.now c.loop-rest.output c.put_found.new.output
          (flat_map (found_lines c.args.form) now) (flat_map (found_lines c.args.form) (found_beyond o rest))
          (flat_map (found_lines c.args.form) later)
          (flat_map (found_lines c.args.form) (found_beyond c.args.deframer.now c.args.piece.now))
          c.loop-rest.invariant.lines (ap (flat_map (found_lines c.args.form)) found
          ∙ flat_map-append (found_lines c.args.form) now later)
          c.put_found.ensures;
    }

pub returns-clause-lines : goal.returns-clause-lines
returns-clause-lines c =
    let o = c.loop-rest.deframer in
    let empty = empty_is c.loop-rest.rest.now c.loop-rest-test.ensures in
    leads_end c.args.output.now c.loop-rest.output (flat_map (found_lines c.args.form)
    (found_beyond o c.loop-rest.rest.now))
    (flat_map (found_lines c.args.form) (found_beyond c.args.deframer.now c.args.piece.now)) c.loop-rest.invariant.lines
    (ap (flat_map (found_lines c.args.form)) (ap (found_beyond o) empty ∙ (new_start_lem o []).nothing))

pub returns-clause-left : goal.returns-clause-left
returns-clause-left c =
    let o = c.loop-rest.deframer in
    let empty = empty_is c.loop-rest.rest.now c.loop-rest-test.ensures in
    sym c.loop-rest.invariant.part ∙ ap (open_beyond o) empty ∙ (new_start_lem o []).stays
