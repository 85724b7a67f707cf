-- What the code's values hold. No public clause cites this.
use Rattle.ladders.specs.declared.playing.Drawing.{Drawing}
use Rattle.ladders.specs.Playing.{Drawn}

-- What a drawing holds.
abbrev pub drawn_of : Drawing → Drawn
drawn_of d = record { line = d.line; rows = d.rows.items }
