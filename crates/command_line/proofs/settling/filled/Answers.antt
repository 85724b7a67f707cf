use Rattle.std.proofs.Common.{rules, map, string_bytes}
use Rattle.option_files.specs.Entries.{entry_view}
use Rattle.command_line.specs.CommandLine.{RefusesWords}
use Rattle.command_line.specs.declared.usage.Usage.TheVariants.{NotAList}
use Rattle.command_line.specs.Settled.{Fills}
use Rattle.command_line.proofs.settling.filled.Goals as goal

pub returns-in-Err-NotAList-clause-refused : goal.returns-in-Err-NotAList-clause-refused
returns-in-Err-NotAList-clause-refused c =
    let fills : Fills (map string_bytes c.args.given.now) c.args.text.now (map string_bytes c.in_ok-all.all.items) =
    record {
      entries = map entry_view c.in_ok-entries.entries.items;
      gives = c.in_ok-entries.ensures.entries;
      taken = search rules;
      joined = search rules;
    } in
    let refused : RefusesWords (map string_bytes c.in_ok-all.all.items) NotAList = search rules in
    (map string_bytes c.in_ok-all.all.items, fills, refused)
