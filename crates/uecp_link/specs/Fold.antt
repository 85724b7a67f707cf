-- What a history makes of a target's value, and which codes its messages have; a reader has to believe it. Source:
-- profile.
use Rattle.std.specs.Prelude.{ℕ, List, [], ◌∷◌}
use Rattle.uecp_elements.specs.declared.code.Code.{Code}
use Rattle.uecp_encoder.specs.Target.{Step, Taken}
use Rattle.uecp_link.specs.Once.{message_at}
use Rattle.uecp_link.specs.History.{Act, Message, Taking}

-- The value after a history, where the messages that it names are those of this list: each is applied, and at each take
-- a group goes out.
abbrev pub value_after : {V : Type 0} → Step V → Taken V → (sent : List (List ℕ)) → V → List Act → V
value_after step taken sent v [] = v
value_after step taken sent v (Message k ∷ acts) = value_after step taken sent (step v (message_at sent k)).0 acts
value_after step taken sent v (Taking ∷ acts) = value_after step taken sent (taken v).0 acts

-- The code of each message of a history, in order.
abbrev pub codes_after : {V : Type 0} → Step V → Taken V → (sent : List (List ℕ)) → V → List Act → List Code
codes_after step taken sent v [] = []
codes_after step taken sent v (Message k ∷ acts) =
    (step v (message_at sent k)).1 ∷ codes_after step taken sent (step v (message_at sent k)).0 acts
codes_after step taken sent v (Taking ∷ acts) = codes_after step taken sent (taken v).0 acts
