use Rattle.memchr.specs.Find.{is_byte, Passes, Nowhere}
use Rattle.uecp_text.proofs.input.line_feed.Given as goal

-- none of the bytes before this place is a line feed
abbrev pub invariant-near : goal.invariant-near
invariant-near l = Nowhere (Passes (is_byte 0x0A) l.input) 0 l.place
