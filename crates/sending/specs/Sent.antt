-- Messages that are sent one after another, each with its sequence counter (RDS Forum SPB 490, sequence counter).
use Rattle.std.specs.Prelude.{ℕ, List, [], ◌∷◌}
use Rattle.uecp_link.specs.Counters.{next_counter}

-- each of these messages with its counter, behind one with this counter, or behind none (0) (private)
abbrev pub sent_after : (last : ℕ) → (messages : List (List ℕ)) → List (ℕ × List ℕ)
sent_after last [] = []
sent_after last (message ∷ messages) = (next_counter last, message) ∷ sent_after (next_counter last) messages
