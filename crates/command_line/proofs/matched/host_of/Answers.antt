use Rattle.std.proofs.Common.{◌≡◌, ap, sym, subst, ◌∙◌, codes}
use Rattle.std.specs.String.{string_bytes}
use Rattle.std.proofs.lemmas.Result.{IfOk-weaker}
use Rattle.clap.specs.Words.{found_of, rows_of}
use Rattle.clap.proofs.WalkLemmas.{first_value-rows}
use Rattle.commands.specs.Host.{NamesHost}
use Rattle.command_line.specs.CommandLine.{host_text}
use Rattle.command_line.proofs.Options.{text_or}
use Rattle.command_line.proofs.matched.host_of.Goals as goal

pub returns : goal.returns
returns c =
    let found = found_of c.args.found.now in
    let text : c.unwrap_or-text.result.now ≡ host_text (rows_of found) =
    ap (λ s. s.now) c.unwrap_or-text.ensures ∙ text_or c.get_str.result _ _
    (c.get_str.ensures ∙ first_value-rows found (codes "host")) in
    IfOk-weaker c.from_str.result _ _
    (λ host is. subst (λ t. NamesHost t (string_bytes host)) text
    (subst (λ h. NamesHost c.unwrap_or-text.result.now h) (sym is) c.host_named.ensures)) c.from_str.ensures.ok
