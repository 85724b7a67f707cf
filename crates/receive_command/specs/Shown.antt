-- What a receiver shows.
use Rattle.std.specs.Prelude.{ℕ, Bool, List, Option}
use Rattle.rds_groups.specs.Shown.{Receiver, text_shown}

-- Each thing, where it was heard: PI, name, TP, TA, MS, PTY and RadioText. (IEC 62106, type 0 and type 2 groups)
pub record Shown : Type 0 where
  pub pi : Option ℕ
  pub name : Option (List ℕ)
  pub tp : Option Bool
  pub ta : Option Bool
  pub music : Option Bool
  pub pty : Option ℕ
  pub text : Option (List ℕ)

-- What a receiver shows that has heard this.
abbrev pub shown_by : Receiver → Shown
shown_by r = record {
  pi = r.pi;
  name = r.name;
  tp = r.tp;
  ta = r.ta;
  music = r.music;
  pty = r.pty;
  text = text_shown r;
}
