-- Lines that tell nothing.
use Rattle.std.proofs.Common.{ℕ, ◌≤◌, List, length, chars, subst, sym}
use Rattle.rds_text.specs.declared.programme_type.Region.{Region}
use Rattle.phrase_tokens.specs.Tokens.{Token, Lays}
use Rattle.phrase_tokens.proofs.Public.{one_reading}
use Rattle.uecp_phrases.specs.Lines.{Say}
use Rattle.phrase_scripts.specs.Lines.{Line, Begins, Says, AreFrame, Tell, SaysNothing}

-- tokens that are no frame's line and say no message
pub tells_none : (region : Region) (tokens : List Token)
    → ((message : List ℕ) → Say region tokens message → length message ≤ 255 → ⊥)
    → ((address counter : ℕ) → AreFrame tokens address counter → ⊥) → (line : Line) → Tell region tokens line → ⊥
tells_none region tokens no_message no_frame (Begins address counter) tell = no_frame address counter tell
tells_none region tokens no_message no_frame (Says message) tell = no_message message tell.0 tell.1

-- a text whose only tokens tell nothing
pub says_none : (region : Region) (text : List ℕ) (tokens : List Token) → Lays tokens (chars text)
    → ((line : Line) → Tell region tokens line → ⊥) → SaysNothing region text
says_none region text tokens lays none line (utf8, (others, lays_too, tell)) =
    none line (subst (λ ts. Tell region ts line) (one_reading others tokens (chars text) lays_too lays) tell)
