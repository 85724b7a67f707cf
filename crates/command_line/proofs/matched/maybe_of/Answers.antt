use Rattle.std.proofs.Common.{rules, ◌≡◌, Some, ap, ◌∙◌, refl, arith}
use Rattle.std.proofs.lemmas.Int.{clamps}
use Rattle.std.specs.Str.Parse.{ParsesUnsigned, ExplainsUnsignedError, HasUnsignedDigitsIfOk}
use Rattle.clap.specs.Words.{found_of}
use Rattle.clap.proofs.WalkLemmas.{one_text-rows}
use Rattle.command_line.proofs.Options.{reads_number, none_read}
use Rattle.command_line.proofs.matched.maybe_of.Goals as goal

pub returns-in-Some : goal.returns-in-Some
returns-in-Some c =
    record {
      absent = λ none.
          let bad = c.get_one.ensures.none (one_text-rows (found_of c.args.found.now) _ ∙ none) in
          absurd (none_read _ _ c.in-Some.is bad);
      range = (omega (arith, clamps), omega (arith, clamps));
      spelled = λ t n text spells low high.
          let one = c.get_one.ensures.value t (one_text-rows (found_of c.args.found.now) _ ∙ text) in
          let read : c.get_one.result ≡ Some n = reads_number _
          (λ bs r. ParsesUnsigned 32 10 bs r × ExplainsUnsignedError 10 bs r × HasUnsignedDigitsIfOk bs r) 32 n t
          c.get_one.result one (λ u x g. g.0) (omega (arith, high)) spells in
          let value : c.in-Some.number ≡ n = search rules in
          ap Some (omega (arith, clamps));
    }

pub returns-in-None : goal.returns-in-None
returns-in-None c =
    record {
      absent = λ none. refl;
      range = tt;
      spelled = λ t n text spells low high.
          let one = c.get_one.ensures.value t (one_text-rows (found_of c.args.found.now) _ ∙ text) in
          let read : c.get_one.result ≡ Some n = reads_number _
          (λ bs r. ParsesUnsigned 32 10 bs r × ExplainsUnsignedError 10 bs r × HasUnsignedDigitsIfOk bs r) 32 n t
          c.get_one.result one (λ u x g. g.0) (omega (arith, high)) spells in
          absurd (none_read _ _ read c.in-None.is);
    }
