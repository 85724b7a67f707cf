use Rattle.std.proofs.Common.{◌≡◌, flat_map, length}
use Rattle.rds_store.specs.Step.{step}
use Rattle.uecp_encoder.specs.State.{fed}
use Rattle.uecp_encoder.specs.Answering.{responses_to}
use Rattle.output_forms.specs.Forms.{answer_lines}
use Rattle.uecp_text.proofs.Public.{Leads}
use Rattle.air_jobs.proofs.answering.answer_piece.Given as goal

-- what is left leads to the same
abbrev pub invariant-loop-rest : goal.invariant-loop-rest
invariant-loop-rest l = record {
  state : fed step l.encoder l.rest ≡ fed step l.fn.encoder l.piece;
  lines : Leads l.fn.output l.output (flat_map (answer_lines l.form) (responses_to step l.encoder l.rest))
      (flat_map (answer_lines l.form) (responses_to step l.fn.encoder l.piece));
}

abbrev pub decreases-loop-rest : goal.decreases-loop-rest
decreases-loop-rest l = length l.rest
