-- The body of a connection that gets events (RFC 9112, section 7.1).
use Rattle.std.specs.Prelude.{◌≡◌}
use Rattle.http1.specs.declared.conn.Writing.{Writing}
use Rattle.http1.specs.declared.conn.Writing.TheVariants.{Body}
use Rattle.http1.specs.declared.encode.Encoder.TheVariants.{Chunked}

-- A body of no stated length is being written, in chunks.
abbrev pub IsStreaming : Writing → Type 0
IsStreaming writing = writing ≡ Body Chunked
