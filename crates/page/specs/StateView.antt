-- What contracts see of what is kept.
use Rattle.std.specs.Prelude.{List, map, option_map, string_bytes}
use Rattle.serde_json.specs.View.{view}
use Rattle.page.specs.declared.state.row.Row.{Row}
use Rattle.page.specs.declared.state.counts.Counts.{Counts as Counted}
use Rattle.page.specs.declared.state.air.Air.{Air as AirKept}
use Rattle.page.specs.declared.state.minutes.Minutes.{Minutes as MinutesKept}
use Rattle.page.specs.declared.state.link.Linked.{Linked as LinkKept}
use Rattle.page.specs.declared.state.link.Refusal.{Refusal as RefusalKept}
use Rattle.page.specs.declared.state.link.RefusedLine.{RefusedLine as RefusedLineKept}
use Rattle.page.specs.declared.state.seen.Seen.{Seen as SeenKept}
use Rattle.page.specs.declared.state.rows.Change.{Change as ChangeKept}
use Rattle.page.specs.declared.state.rows.Changes.{Changes}
use Rattle.page.specs.declared.state.line.Line.{Line as LineKept}
use Rattle.page.specs.declared.state.page.Page.{Page}
use Rattle.page.specs.Shown.{Service}
use Rattle.page.specs.Counts.{Counts}
use Rattle.page.specs.Air.{Air}
use Rattle.page.specs.Minutes.{Minutes}
use Rattle.page.specs.Link.{Linked, Refusal, RefusedLine}
use Rattle.page.specs.Seen.{Seen}
use Rattle.page.specs.Changes.{Change}
use Rattle.page.specs.ControlLine.{Line}
use Rattle.page.specs.State.{State}

abbrev pub service_of : Row → Service
service_of r = record {
  set = r.set;
  service = r.service;
  main = r.is_main;
  pi = option_map string_bytes r.pi;
  name = option_map string_bytes r.name;
  rt = option_map string_bytes r.rt;
  tp = r.tp;
  ta = r.ta;
  pty = r.pty;
}

abbrev pub counts_of : Counted → Counts
counts_of c = record {
  lines = c.lines;
  sent = c.sent;
  sent_refusals = c.sent_refusals;
  refused_lines = c.refused_lines;
  messages = c.messages;
  empty = c.empty;
  repeats = c.repeats;
  refusals = c.refusals;
  dropped = c.dropped;
  connections = c.connections;
  not_told = c.not_told;
}

abbrev pub air_of : AirKept → Air
air_of a = record {
  current = a.current;
  services = map service_of a.rows.items;
  answers = a.answers;
  frame = option_map view a.frame;
}

abbrev pub minutes_of : MinutesKept → Minutes
minutes_of m = record { numbers = m.numbers; counts = m.counts }

abbrev pub linked_of : LinkKept → Linked
linked_of l = record { link = l.link; since = option_map string_bytes l.since; status = l.status }

abbrev pub refusal_of : RefusalKept → Refusal
refusal_of r = record { meaning = option_map string_bytes r.meaning; time = option_map string_bytes r.time }

abbrev pub refused_line_of : RefusedLineKept → RefusedLine
refused_line_of r = record {
  number = r.number;
  column = r.column;
  meaning = option_map string_bytes r.meaning;
  text = option_map string_bytes r.text;
  time = option_map string_bytes r.time;
}

abbrev pub seen_of : SeenKept → Seen
seen_of s = record { set = s.set; service = s.service; rt = option_map string_bytes s.rt; tp = s.tp; ta = s.ta }

abbrev pub change_of : ChangeKept → Change
change_of c = record { came = c.came; seen = seen_of c.seen }

abbrev pub history_of : Changes → List Change
history_of cs = map change_of cs.rows.items

abbrev pub line_of : LineKept → Line
line_of l = record {
  name = string_bytes l.name;
  air = air_of l.air;
  answered = air_of l.answered;
  has_encoder = l.has_encoder;
  counts = counts_of l.counts;
  linked = option_map linked_of l.linked;
  refused = option_map refusal_of l.refused;
  refused_line = option_map refused_line_of l.refused_line;
  failed = l.failed;
  heard = option_map string_bytes l.heard;
  told_at = l.told_at;
  minutes = minutes_of l.minutes;
  history = history_of l.changes;
  announced = l.announced.items;
}

abbrev pub state_of : Page → State
state_of p = record {
  lines = map line_of p.lines.items;
  others = p.others;
  further = p.further;
  messages = p.messages;
}
