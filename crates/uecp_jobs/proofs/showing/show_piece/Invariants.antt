use Rattle.std.proofs.Common.{◌≡◌, flat_map, length}
use Rattle.uecp_frame.specs.Beyond.{found_beyond, open_beyond}
use Rattle.output_forms.specs.Forms.{found_lines}
use Rattle.uecp_text.proofs.Public.{Leads}
use Rattle.uecp_jobs.proofs.showing.show_piece.Given as goal

-- what is left leads to the same
abbrev pub invariant-loop-rest : goal.invariant-loop-rest
invariant-loop-rest l = record {
  part : open_beyond l.deframer l.rest ≡ open_beyond l.fn.deframer l.piece;
  lines : Leads l.fn.output l.output (flat_map (found_lines l.form) (found_beyond l.deframer l.rest))
      (flat_map (found_lines l.form) (found_beyond l.fn.deframer l.piece));
}

abbrev pub decreases-loop-rest : goal.decreases-loop-rest
decreases-loop-rest l = length l.rest
