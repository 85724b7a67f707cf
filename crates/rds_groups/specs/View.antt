-- The code's receiver, with its text by places.
use Rattle.std.specs.Prelude.{ℕ, List, Option, None, slice_index_or}
use Rattle.rds_groups.specs.declared.receiver.Receiver.{Receiver as CodeReceiver}
use Rattle.rds_groups.specs.Shown.{Receiver, Heard}

-- The places of a list; none beyond its end.
abbrev pub heard_in : List (Option ℕ) → Heard
heard_in list place = slice_index_or list place None

abbrev pub receiver_of : CodeReceiver → Receiver
receiver_of r = record {
  pi = r.pi;
  tp = r.tp;
  pty = r.pty;
  ta = r.ta;
  music = r.music;
  coming = r.coming.items;
  name = r.name;
  flag = r.flag;
  is_short = r.is_short;
  text = heard_in r.text;
  held = r.held;
}
