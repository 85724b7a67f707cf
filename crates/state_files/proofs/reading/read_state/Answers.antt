use Rattle.sqlite_image.specs.Kept.{bytes_of}
use Rattle.state_files.proofs.reading.read_state.Goals as goal

pub returns-in-Ok-found_of : goal.returns-in-Ok-found_of
returns-in-Ok-found_of g c = record {
  found = record {
    image = bytes_of c.in-Ok.opened.image;
    is = c.in-Ok-found_of.ensures;
    opened = c.in-Ok.opened.kept;
    held = c.in-Ok.ensures.found;
  };
}
