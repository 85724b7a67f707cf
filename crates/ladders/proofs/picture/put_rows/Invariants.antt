use Rattle.std.proofs.Common.{drop}
use Rattle.uecp_text.proofs.Public.{Leads}
use Rattle.ladders.specs.Picture.{picture_rows}
use Rattle.ladders.proofs.picture.put_rows.Given as goal

-- the rows that are left lead to the same
abbrev pub invariant-loop-place : goal.invariant-loop-place
invariant-loop-place l = Leads l.fn.output l.output (picture_rows l.place (drop l.place l.rows)) (picture_rows 0 l.rows)
