-- What a server marks of what a line brings it; a reader has to believe it. Source: profile.
use Rattle.std.specs.Prelude.{ℕ, List, [], map}
use Rattle.uecp_elements.specs.declared.code.Code.{Code}
use Rattle.uecp_link.specs.Counters.{counter_of}
use Rattle.uecp_link.specs.Once.{Event, ReplyComes, NoiseToServer, Once}
use Rattle.uecp_link.specs.Law.{reply_bytes}

-- The bytes that an event brings to the server: the encoder's reply to a number, or noise.
abbrev pub bytes_to_server : {V : Type 0} → ℕ → Once V → Event → List ℕ
bytes_to_server address o (ReplyComes k) = reply_bytes address k (o.codes k)
bytes_to_server address o (NoiseToServer x) = x
bytes_to_server address o _ = []

-- What was told of numbers as a server marks it, which knows no number: the code of each under its counter.
abbrev pub marks_of : (told : List (ℕ × Code)) → List (ℕ × Code)
marks_of told = map (λ t. (counter_of t.0, t.1)) told
