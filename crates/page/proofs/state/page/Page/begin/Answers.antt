use Rattle.std.proofs.Common.{◌++◌, [], ◌∷◌, map, ◌∙◌, ap}
use Rattle.std.proofs.lemmas.List.{map-append}
use Rattle.serde_json.specs.View.{view}
use Rattle.page.specs.ControlLine.{new_line, line_after}
use Rattle.page.specs.StateView.{line_of}
use Rattle.page.proofs.state.page.Page.begin.Goals as goal

pub returns : goal.returns
returns c =
    ap (λ ls. record {
      lines = ls;
      others = c.args.self.now.others;
      further = c.args.self.now.further;
      messages = c.args.self.now.messages;
    })
    (ap (map line_of) c.in_ok-push.ensures.items
    ∙ map-append line_of c.args.self.now.lines.items (c.take.new.self ∷ [])
    ∙ ap (λ l. map line_of c.args.self.now.lines.items ++ l ∷ [])
    (c.in_ok-take.ensures ∙ ap (line_after (record { object = view c.args.value; came = c.args.came }))
    (c.new-line.ensures ∙ ap new_line (c.in_ok-name.ensures.ok ∙ c.name_of.ensures))))
