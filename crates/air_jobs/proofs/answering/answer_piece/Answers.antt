use Rattle.std.proofs.Common.{ℕ, List, take, flat_map, ◌∙◌, ap, sym}
use Rattle.std.proofs.lemmas.Grind.{flat_map-append}
use Rattle.rds_store.specs.Step.{step}
use Rattle.uecp_encoder.specs.State.{fed}
use Rattle.uecp_encoder.specs.Answering.{Response, responses_to}
use Rattle.output_forms.specs.Forms.{answer_lines}
use Rattle.uecp_text.proofs.Public.{leads_on, leads_end, empty_is}
use Rattle.uecp_jobs.proofs.Public.{fed_nothing, responses_to_nothing, fed_on, responses_on}
use Rattle.air_jobs.proofs.answering.answer_piece.Goals as goal

pub loop-rest-preserved : goal.loop-rest-preserved
loop-rest-preserved c =
    let e = c.loop-rest.encoder in
    let e' = c.answer_first-used.new.encoder in
    let used = c.answer_first-used.result in
    let rest : List ℕ = c.loop-rest.rest.now in
    let rest' : List ℕ = c.rest_after-rest.result.now in
    let now : List Response = responses_to step e (take used rest) in
    let later : List Response = responses_to step e' rest' in
    record {
      state = fed_on e e' used rest rest' c.answer_first-used.ensures.left c.rest_after-rest.ensures
          ∙ c.loop-rest.invariant.state;
      lines = leads_on c.args.output.now c.loop-rest.output c.answer_first-used.new.output
          (flat_map (answer_lines c.args.form) now) (flat_map (answer_lines c.args.form) (responses_to step e rest))
          (flat_map (answer_lines c.args.form) later)
          (flat_map (answer_lines c.args.form) (responses_to step c.args.encoder.now c.args.piece.now))
          c.loop-rest.invariant.lines
          (ap (flat_map (answer_lines c.args.form)) (responses_on e e' used rest rest' c.answer_first-used.ensures.left
          c.rest_after-rest.ensures) ∙ flat_map-append (answer_lines c.args.form) now later)
          c.answer_first-used.ensures.lines;
    }

pub returns-clause-lines : goal.returns-clause-lines
returns-clause-lines c =
    let e = c.loop-rest.encoder in
    let empty = empty_is c.loop-rest.rest.now c.loop-rest-test.ensures in
    leads_end c.args.output.now c.loop-rest.output (flat_map (answer_lines c.args.form)
    (responses_to step e c.loop-rest.rest.now))
    (flat_map (answer_lines c.args.form) (responses_to step c.args.encoder.now c.args.piece.now))
    c.loop-rest.invariant.lines
    (ap (flat_map (answer_lines c.args.form)) (ap (responses_to step e) empty ∙ responses_to_nothing e))

pub returns-clause-left : goal.returns-clause-left
returns-clause-left c =
    let e = c.loop-rest.encoder in
    let empty = empty_is c.loop-rest.rest.now c.loop-rest-test.ensures in
    sym (fed_nothing e) ∙ ap (fed step e) (sym empty) ∙ c.loop-rest.invariant.state
