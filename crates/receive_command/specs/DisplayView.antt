-- The code's values, without where they lie in memory. No public clause cites this but `shown_in`.
use Rattle.std.specs.Prelude.{ℕ, ◌≤◌, List, [], ◌++◌, length, Option, IfSome}
use Rattle.std.specs.Option.{option_map}
use Rattle.uecp_elements.specs.Grammar.{Element, Pi, Ps, TaTp, Ms, Pty}
use Rattle.receive_command.specs.declared.display.shown.Shown.{Shown as CodeShown}
use Rattle.receive_command.specs.declared.display.news.News.{News}
use Rattle.receive_command.specs.Shown.{Shown}
use Rattle.receive_command.specs.Told.{said, radio_text}

-- What is shown.
abbrev pub shown_in : CodeShown → Shown
shown_in s = record {
  pi = s.pi;
  name = s.name;
  tp = s.tp;
  ta = s.ta;
  music = s.music;
  pty = s.pty;
  text = option_map (λ text. text.items) s.text;
}

-- The elements of what is new.
abbrev pub elements_in : News → List Element
elements_in n =
    said (Pi 0x00 0x00) n.pi ++ (said (Ps 0x00 0x00) (option_map (λ name. name.now) n.name)
    ++ (said (TaTp 0x00 0x00) n.traffic
    ++ (said (Ms 0x00 0x00) n.music ++ (said (Pty 0x00 0x00) n.pty
    ++ said radio_text (option_map (λ text. text.now) n.text)))))

-- A text has at most 64 bytes.
abbrev pub IsShort : News → Type 0
IsShort n = IfSome n.text (λ text. length text.now ≤ 64)
