use Rattle.std.proofs.Common.{map, string_bytes, inl, sym, ◌∙◌}
use Rattle.command_line.proofs.Asked.{faultless_of, faulty_of}
use Rattle.command_line.proofs.Refusals.{missing_taken, refused_so}
use Rattle.command_line.proofs.settling.refusal_of.Goals as goal

pub returns-in-Ok-clause-taken : goal.returns-in-Ok-clause-taken
returns-in-Ok-clause-taken c = λ none.
    inl (faultless_of _ (map string_bytes c.args.words.now) c.in_ok-program.ensures c.in-Ok.ensures.kinds)

pub returns-in-MissingRequiredArgument-clause-taken : goal.returns-in-MissingRequiredArgument-clause-taken
returns-in-MissingRequiredArgument-clause-taken c = λ none.
    let words = map string_bytes c.args.words.now in
    missing_taken words c.in-Err.error
    (faulty_of _ words c.in-Err.error c.in_ok-program.ensures c.in-Err.ensures.kinds)
    (sym c.kind.ensures ∙ c.in-MissingRequiredArgument.is)

pub returns : goal.returns
returns c =
    let words = map string_bytes c.args.words.now in record {
      taken = λ none. cc;
      refused = refused_so words c.in-Err.error
          (faulty_of _ words c.in-Err.error c.in_ok-program.ensures c.in-Err.ensures.kinds)
          (λ memory. c.in_default.not-OutOfMemory (c.kind.ensures ∙ memory))
          (λ missing. c.in_default.not-MissingRequiredArgument (c.kind.ensures ∙ missing));
    }
