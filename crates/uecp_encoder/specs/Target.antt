-- What a target does with one message, and where a group is taken from it. Source: profile.
use Rattle.std.specs.Prelude.{ℕ, List, Option}
use Rattle.uecp_elements.specs.declared.code.Code.{Code}
use Rattle.rds_store.specs.declared.group.Group.{Group}

-- a target's next value and the code of its reply, from its value and a message
abbrev pub Step : Type 0 → Type 0
Step V = V → List ℕ → V × Code

-- a target's next value and the group that goes out, if there is one, from its value
abbrev pub Taken : Type 0 → Type 0
Taken V = V → V × Option Group
