use Rattle.std.proofs.Common.{ℕ, Bool, Option, Some, ◌++◌, ap, ◌∙◌}
use Rattle.jiff_fmt.specs.Text.{datetime_text, zulu_text}
use Rattle.json_lines.proofs.stamp.shown.Goals as goal

pub returns : goal.returns
returns c =
    let text = c.timestamp_text.ensures in
    let options = c.precision-printer.ensures ∙ ap (λ (o : Bool × ℕ × Option ℕ). (o.0, o.1, Some 3)) c.new.ensures in (
      text.0,
      text.2 ∙ ap (λ (o : Bool × ℕ × Option ℕ). datetime_text o.0 o.1 o.2 text.0 ++ zulu_text o.0) options,
    )
