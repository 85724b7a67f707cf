use Rattle.std.proofs.Common.{◌+◌, length}
use Rattle.std.specs.Option.{option_map, option_map_or}
use Rattle.phrase_tokens.specs.View.{tokens_of}
use Rattle.uecp_phrases.specs.Lines.{phrases_in, phrases_left}
use Rattle.uecp_phrases.proofs.Cutting.{SaidSoFar}
use Rattle.uecp_phrases.proofs.Faulting.{ReadSoFar}
use Rattle.uecp_phrases.proofs.line.line_read.Given as goal

abbrev pub invariant-loop-left : goal.invariant-loop-left
invariant-loop-left l = record {
  said : SaidSoFar l.region (phrases_in (tokens_of l.tokens)) l.message
      (phrases_left (option_map (λ more. tokens_of more.now) l.left));
  read : ReadSoFar l.region (tokens_of l.tokens) (option_map (λ more. tokens_of more.now) l.left) l.message;
}

abbrev pub decreases-loop-left : goal.decreases-loop-left
decreases-loop-left l = option_map_or (λ more. length more.now + 1) l.left 0
