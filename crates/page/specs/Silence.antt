-- For how long nothing was told of a control line, and which is stale (profile).
use Rattle.std.specs.Prelude.{ℕ, ◌-◌, ◌/◌, Bool, false, nat_le, Option, Some, None}
use Rattle.page.specs.declared.state.silence.Moment.{Moment}
use Rattle.page.specs.ControlLine.{Line}

-- How many whole seconds ago the last object that names it came, where the page's clock says now.
abbrev pub silent : (now : ℕ) → Line → ℕ
silent now l = (now - l.told_at) / 1000

-- So many seconds are too many: the limit or more, where there is one.
abbrev pub is_too_long : (limit : Option ℕ) → (seconds : ℕ) → Bool
is_too_long None seconds = false
is_too_long (Some limit) seconds = nat_le limit seconds

-- It is stale: nothing was told of it for that long. Where there is no limit none is.
abbrev pub is_stale : Moment → Line → Bool
is_stale moment l = is_too_long moment.stale (silent moment.now l)
