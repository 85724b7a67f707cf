-- What reads the request of a connection (profile).
use Rattle.http1.specs.declared.conn.Limits.{Limits}
use Rattle.http1.specs.declared.server.Server.{Server}
use Rattle.http1.specs.Server.{new_server}

-- A head is at most 16 KiB long.
abbrev pub limits : Limits
limits = record { max_head_len = 16384; max_extensions_len = 16384; max_trailers_len = 16384 }

-- A machine that has read nothing, and waits for the head of a request.
abbrev pub fresh : Server
fresh = new_server limits
