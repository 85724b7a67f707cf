-- What contracts see of a connection, and of what it is answered from.
use Rattle.std.specs.Prelude.{ℕ, List}
use Rattle.http1.specs.Server.{writing}
use Rattle.page.specs.declared.clients.client.Client.{Client}
use Rattle.page.specs.declared.clients.client.Site.{Site}
use Rattle.page.specs.Sending.{Standing}
use Rattle.page.specs.Answers.{Source}
use Rattle.page.specs.StateView.{state_of}

abbrev pub standing_of : Client → Standing
standing_of c = record { phase = c.phase; writing = writing c.server; due = c.due; output = c.output.items }

-- The bytes of its request that came so far.
abbrev pub came_of : Client → List ℕ
came_of c = c.input.items

abbrev pub source_of : Site → Source
source_of s = record {
  shown = state_of s.page.now;
  past = s.history.now;
  moment = s.moment;
  is_full = s.is_full;
}
