use Rattle.json_lines.proofs.Public.{adds_more}
use Rattle.receive_command.specs.Told.{shown_fields}
use Rattle.receive_command.specs.DisplayView.{shown_in}
use Rattle.receive_command.proofs.display.objects.put_members.Goals as goal

pub returns : goal.returns
returns g c =
    let time = c.put_time_field.ensures in (
      time.0,
      time.1,
      adds_more c.args.output.now c.put_time_field.new.output c.put_fields.new.output time.0
          (shown_fields (shown_in c.args.shown.now)) time.2 c.put_fields.ensures,
    )
