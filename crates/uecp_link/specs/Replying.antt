-- The codes that go back and forth in a stretch of the stream, however it is cut; for proofs alone, as the contracts of
-- private functions. Source: profile.
use Rattle.std.specs.Prelude.{◌≡◌, ℕ, List, ◌++◌, filter_map, Option, Some, None}
use Rattle.uecp_frame.specs.Beyond.{found_beyond}
use Rattle.uecp_elements.specs.declared.code.Code.{Code}
use Rattle.uecp_link.specs.declared.heard.HeardWhat.{HeardWhat}
use Rattle.uecp_link.specs.declared.heard.HeardWhat.TheVariants as what
use Rattle.uecp_link.specs.Server.{ServerState, all_heard_as}

-- The code of what the server says, where that is an acknowledgement.
abbrev pub code_heard : HeardWhat → Option Code
code_heard (what.Acknowledged counter code) = Some code
code_heard _ = None

-- The codes that the server hears acknowledged in some bytes, in order.
abbrev pub acknowledgements : ServerState → List ℕ → List Code
acknowledgements s bytes = filter_map code_heard (all_heard_as s (found_beyond s.part bytes))

-- For an end of the line, by what it is after some bytes and what it says of them, two pieces are as good as one.
pub record IsInPieces {E S : Type 0} (after : E → List ℕ → E) (says : E → List ℕ → List S) (e : E) (x y : List ℕ) : Type
    0 where
  pub state : after e (x ++ y) ≡ after (after e x) y
  pub said : says e (x ++ y) ≡ says e x ++ says (after e x) y
