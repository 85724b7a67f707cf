use Rattle.std.proofs.Common.{rules, ◌≡◌, Some, ◌∙◌, arith}
use Rattle.std.proofs.lemmas.Int.{clamps}
use Rattle.std.specs.Str.Parse.{ParsesUnsigned, ExplainsUnsignedError, HasUnsignedDigitsIfOk}
use Rattle.clap.specs.Words.{found_of}
use Rattle.clap.proofs.WalkLemmas.{one_text-rows}
use Rattle.command_line.proofs.Options.{reads_number}
use Rattle.command_line.proofs.matched.number_of.Goals as goal

pub returns : goal.returns
returns c =
    record {
      at_least = omega (arith, clamps);
      at_most = omega (arith, clamps);
      spelled = λ t n text spells low high.
          let one = c.get_one.ensures.value t (one_text-rows (found_of c.args.found.now) _ ∙ text) in
          let read : c.get_one.result ≡ Some n = reads_number _
          (λ bs r. ParsesUnsigned 32 10 bs r × ExplainsUnsignedError 10 bs r × HasUnsignedDigitsIfOk bs r) 32 n t
          c.get_one.result one (λ u x g. g.0) (omega (arith, high)) spells in
          let value : c.unwrap_or.result ≡ n = search rules in
          omega (arith, clamps);
    }
