use Rattle.std.proofs.Common.{◌++◌, codes, refl}
use Rattle.json_lines.specs.Objects.{line_of}
use Rattle.json_lines.proofs.Public.{adds_line}
use Rattle.receive_command.specs.Told.{shown_fields}
use Rattle.receive_command.specs.DisplayView.{shown_in}
use Rattle.receive_command.proofs.display.objects.put_object.Goals as goal

pub returns : goal.returns
returns g c =
    let members = c.put_members.ensures in
    let fields = members.0 ++ shown_fields (shown_in c.args.shown.now) in (
      line_of (codes "shown") fields,
      (members.0, members.1, refl),
      adds_line c.args.output.now c.open_line.new.output c.put_members.new.output c.close_line.new.output
          (codes "shown") fields c.open_line.ensures members.2 c.close_line.ensures,
    )
