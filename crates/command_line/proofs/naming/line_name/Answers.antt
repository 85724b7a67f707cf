use Rattle.std.proofs.Common.{map, refl, inl, inr}
use Rattle.std.specs.Prelude.{option_map}
use Rattle.std.specs.String.{string_bytes}
use Rattle.clap.specs.Words.{found_of, rows_of}
use Rattle.command_line.proofs.Asked.{faultless_of, faulty_of, met_of}
use Rattle.command_line.proofs.Names.{given, refused}
use Rattle.command_line.proofs.naming.line_name.Goals as goal

pub returns-in-Err-2-clause-named : goal.returns-in-Err-2-clause-named
returns-in-Err-2-clause-named c =
    let words = map string_bytes c.args.words.now in
    inr (inl (
      refl,
      c.in-Err.error,
      faulty_of _ words c.in-Err.error c.in_ok-program.ensures c.in-Err.ensures.kinds,
    ))

pub returns-clause-named : goal.returns-clause-named
returns-clause-named c =
    let words = map string_bytes c.args.words.now in
    given (option_map string_bytes) words c.in-Ok.matches c.in-Some.field-0-0.now
    (rows_of (found_of c.in-Some.found.now))
    c.in-Some.ensures.name c.in-Some.ensures.rows
    (met_of _ words c.in-Ok.matches c.in_ok-program.ensures c.in-Ok.ensures.matches)
    (faultless_of _ words c.in_ok-program.ensures c.in-Ok.ensures.kinds) c.name_in.result c.name_in.ensures.named

pub returns-clause-refused : goal.returns-clause-refused
returns-clause-refused c =
    let words = map string_bytes c.args.words.now in
    refused (option_map string_bytes) words c.in-Ok.matches c.in-Some.field-0-0.now
    (rows_of (found_of c.in-Some.found.now)) c.in-Some.ensures.name c.in-Some.ensures.rows
    (met_of _ words c.in-Ok.matches c.in_ok-program.ensures c.in-Ok.ensures.matches)
    (faultless_of _ words c.in_ok-program.ensures c.in-Ok.ensures.kinds) c.name_in.result c.name_in.ensures.refused
