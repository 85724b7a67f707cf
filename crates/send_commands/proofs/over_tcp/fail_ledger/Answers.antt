use Rattle.std.proofs.Common.{◌≡◌, ◌∙◌, ap, option_map}
use Rattle.std.specs.String.{string_bytes}
use Rattle.send_commands.specs.Passing.{ledger_text}
use Rattle.send_commands.proofs.over_tcp.fail_ledger.Goals as goal

pub returns-clause-said : goal.returns-clause-said
returns-clause-said g c =
    let path : c.as_bytes.result.now ≡ string_bytes c.in-Some.path =
    c.as_bytes.ensures.value ∙ c.as_str.ensures.value in
    let why : c.as_bytes-in-Some.result.now ≡ ledger_text c.args.why =
    c.as_bytes-in-Some.ensures.value ∙ c.text.ensures in
    record {
      path = string_bytes c.in-Some.path;
      fault = c.args.why;
      is_path = ap (option_map string_bytes) c.in-Some.is;
      told = rw (path, why) at c.say_not_kept.ensures;
    }
