use Rattle.std.proofs.Common.{sym, subst, codes, ◌++◌}
use Rattle.output_forms.specs.declared.form.Form.{Form}
use Rattle.uecp_text.specs.Written.{Adds}
use Rattle.uecp_text.proofs.Public.{adds_then}
use Rattle.air_jobs.specs.Airing.{air_words, air_line}
use Rattle.air_jobs.proofs.airing.put_group.Goals as goal

pub returns-in-Json : goal.returns-in-Json
returns-in-Json c =
    let g = c.args.group.now in
    let before = c.args.output.now in
    let after = c.text-in-Json.new.self in
    subst (λ (form : Form). Adds before after (air_line form g)) (sym c.in-Json.is)
    (adds_then before c.text.new.self after (codes "{\"format\":1,\"kind\":\"air\",\"group\":\"")
    (air_words g ++ codes "\"}\n") c.text.ensures.added
    (adds_then c.text.new.self c.put_words-in-Json.new.output after (air_words g) (codes "\"}\n")
    c.put_words-in-Json.ensures c.text-in-Json.ensures.added))
