-- When groups are due, in nineteenths of a millisecond since the air began (IEC 62106, data rate; profile for what is
-- late).
use Rattle.std.specs.Prelude.{ℕ, ◌+◌, ◌-◌, ◌*◌, ◌/◌, leb, ltb, Bool, if◌then◌else◌}

-- How long a group takes: 104 bits at 1187.5 bits a second are 1664/19 ms.
abbrev pub group_time : ℕ
group_time = 1664

-- Whether a group that is due then is due so many milliseconds after the beginning.
abbrev pub is_due : (next now : ℕ) → Bool
is_due next now = leb next (now * 19)

-- How many milliseconds later it is due, rounded up.
abbrev pub wait : (next now : ℕ) → ℕ
wait next now = (next - now * 19 + 18) / 19

-- When the group behind one that was due then and goes out now is due: a group's time later; or a group's time from
-- now, where more than ten groups' time has gone by.
abbrev pub after : (next now : ℕ) → ℕ
after next now = if ltb (next + 10 * group_time) (now * 19) then now * 19 + group_time else next + group_time
