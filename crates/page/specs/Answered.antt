-- What is on the air of a control line as its studio was answered (profile).
use Rattle.std.specs.Prelude.{Bool, ◌&&◌, ◌||◌, codes, if◌then◌else◌}
use Rattle.serde_json.specs.Data.{Data}
use Rattle.page.specs.Members.{says}
use Rattle.page.specs.Shown.{is_shown, is_stored}
use Rattle.page.specs.Counts.{is_kind, is_sent}
use Rattle.page.specs.Air.{Air, no_air, after_message}

-- The encoder's end tells: what is on the air, or what comes to it.
abbrev pub is_of_encoder : Data → Bool
is_of_encoder d =
    is_kind (codes "frame") d || is_kind (codes "answered") d || is_kind (codes "connection") d
    || is_kind (codes "store") d || is_shown d || is_stored d || is_kind (codes "reply") d

-- The encoder answered a message of the studio's with 00: it was applied.
abbrev pub is_acknowledged : Data → Bool
is_acknowledged d = is_sent d && says (codes "code") (codes "00") d

-- What the encoder has is not known any more: it was joined, as one is that may have lost its store, or be another; or
-- messages were sent of which nobody knows whether they were applied.
abbrev pub is_in_doubt : Data → Bool
is_in_doubt d = is_kind (codes "joined") d || is_kind (codes "unknown") d || is_kind (codes "given_up") d

-- Behind an object: what a message says is shown once it was acknowledged, and nothing is where all is in doubt.
abbrev pub answered_after : Data → Air → Air
answered_after d s =
    if is_in_doubt d then no_air else if is_acknowledged d then after_message d s else s
