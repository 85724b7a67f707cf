use Rattle.std.proofs.Common.{◌≤◌, length, map, ◌∙◌, ap, rules}
use Rattle.std.proofs.lemmas.List.{take_all}
use Rattle.page.specs.Seen.{seen}
use Rattle.page.specs.StateView.{service_of}
use Rattle.page.proofs.Growing.{twice}
use Rattle.page.proofs.state.seen.each_seen.Goals as goal

pub returns : goal.returns
returns c =
    let end : length c.args.rows.now ≤ c.loop-row.row-index = search rules in
    c.loop-row.invariant
    ∙ ap (map (λ r. seen (service_of r))) (take_all c.loop-row.row-index c.args.rows.now end)
    ∙ twice service_of seen c.args.rows.now
