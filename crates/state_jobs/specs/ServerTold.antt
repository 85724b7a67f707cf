-- What a server whose state is kept wrote, where its run came to the end of its input or to a line that is refused
-- (profile).
use Rattle.std.specs.Prelude.{◌≡◌, ℕ, ◌+◌, Bool, true, false, List, [], ◌∷◌, ◌++◌, length, Option}
use Rattle.std.specs.Io.KnownBytes.{Appends}
use Rattle.uecp_elements.specs.declared.code.Code.{Code}
use Rattle.uecp_text.specs.Input.{texts_of}
use Rattle.uecp_text.specs.Run.{IsInput}
use Rattle.uecp_link.specs.Server.{ServerState, waiting}
use Rattle.uecp_net.specs.declared.saved.keep.Progress.{Progress}
use Rattle.uecp_jobs.specs.Messages.{messages_first}
use Rattle.uecp_jobs.specs.Batches.{batch_lines, lines_of_batches}
use Rattle.uecp_jobs.specs.JoiningFirst.{joined_line}
use Rattle.kept_jobs.specs.ServerRun.{is_due, taken_line, given_up_line}

-- What it wrote before the first message of its input: how far it had come; and then, where it goes on, one line for
-- each message that waited, in order; or, where it begins anew, how many are given up by that, and that its encoder was
-- joined.
abbrev pub IsToldFirst : (due : Bool) → Progress → ServerState → (text : List ℕ) → Type 0
IsToldFirst false before s text =
    (told : List Code) × (tries : ℕ) × (length told ≡ length (waiting s))
    × (text ≡ taken_line before.taken (length (waiting s)) ++ batch_lines told tries)
IsToldFirst true before s text =
    text ≡ (taken_line before.taken (length (waiting s)) ++ given_up_line (length (waiting s))) ++ joined_line true

-- how many messages these batches have, of each of which the codes of its messages and its number of tries are told
abbrev pub messages_in : List (List Code × ℕ) → ℕ
messages_in [] = 0
messages_in ((told, tries) ∷ later) = length told + messages_in later

-- It wrote that, and then one line for each message of its input, or for each before the first line that is refused, in
-- order: that it is acknowledged, with its code.
abbrev pub HasTold : (join : Bool) → (unread unread' : Option (List ℕ)) → Progress → ServerState
    → (held held' : Option (List ℕ)) → Type 0
HasTold join unread unread' before s held held' =
    (input : List ℕ) × (first : List ℕ) × (batches : List (List Code × ℕ)) × IsInput unread unread' input
    × IsToldFirst (is_due join before) before s first
    × (messages_in batches ≡ length (messages_first (texts_of input)))
    × Appends held held' (first ++ lines_of_batches batches)
