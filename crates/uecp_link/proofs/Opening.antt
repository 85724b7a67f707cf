-- A new line.
use Rattle.std.proofs.Common.{◌≡◌, ℕ, ◌+◌, ◌<◌, nat_lt, ◌||◌, Bool, false, List, [], ◌∷◌, ◌++◌, length, Some, None}
use Rattle.std.proofs.Common.{refl, ap, sym, ◌∙◌, inl, inr, arith}
use Rattle.std.specs.Prelude.{is_none}
use Rattle.std.proofs.lemmas.Bool.{lt-ltb, le-ltb, cases_lt}
use Rattle.uecp_frame.specs.Findings.{Closed}
use Rattle.uecp_encoder.specs.State.{EncoderState, opening}
use Rattle.uecp_encoder.specs.Target.{Step, Taken}
use Rattle.uecp_link.specs.declared.stepped.Stepped.TheVariants as stepped
use Rattle.uecp_link.specs.declared.refusal.LineRefusal.TheVariants as refusal
use Rattle.uecp_link.specs.Server.{ServerState, submitted}
use Rattle.uecp_link.specs.Next.{Goes, Stops}
use Rattle.uecp_link.specs.Once.{Submit, Numbered, Busy, at_first, refusal_of, least_missing, has_room}
use Rattle.uecp_link.specs.Holds.{LineState, let_go, once_of, IsLine, Holds, line_from, new_line}
use Rattle.uecp_link.proofs.Wire.{left_none}
use Rattle.uecp_link.proofs.HeldNumbers.{length-held_from}
use Rattle.uecp_link.proofs.Steps.{quiet_none, least_acknowledged}

pub holds_from : {V : Type 0} (e : EncoderState V) → e.part ≡ Closed → Holds (line_from e) (at_first e.value)
holds_from e shut = record {
  sent = refl;
  value = refl;
  codes = λ k. refl;
  acknowledged = λ k. ap (λ (b : Bool). b || false) (le-ltb k 0 (omega arith));
  open_parts = record {
    encoder = shut ∙ sym left_none;
    server = sym left_none;
    encoder_quiet = quiet_none;
    server_quiet = quiet_none;
  };
}

pub new_holds : {V : Type 0} (address : ℕ) (value : V) → Holds (new_line address value) (at_first value)
new_holds address value = holds_from (opening address value) refl

-- whether the next message is taken goes by how many the server holds
room_is : {V : Type 0} (line : LineState V) → IsLine line
    → has_room (once_of line).acknowledged (length line.sent) ≡ nat_lt (length line.server.held) 8
room_is line is =
    let held : length line.server.held ≡ is.count = ap length is.server.held
    ∙ length-held_from line.sent (once_of line).acknowledged (let_go line) is.count in
    let least : least_missing (once_of line).acknowledged (length line.sent) ≡ let_go line =
    least_acknowledged line.encoder.address line.encoder line.server (once_of line) (length line.codes) (let_go line)
    is in
    ap (λ (m : ℕ). nat_lt (length line.sent) (m + 8)) least
    ∙ elim (cases_lt (length line.server.held) 8) [
      | inl l ↦ lt-ltb (length line.sent) (let_go line + 8) (omega (arith, l, held, is.count_is))
          ∙ sym (lt-ltb (length line.server.held) 8 l)
      | inr g ↦ le-ltb (length line.sent) (let_go line + 8) (omega (arith, g, held, is.count_is))
          ∙ sym (le-ltb (length line.server.held) 8 g)
    ]

-- a server with room takes the next message
pub room_takes : {V : Type 0} (line : LineState V) (m : List ℕ) → IsLine line → length line.server.held < 8
    → refusal_of (once_of line) (Submit m) ≡ None
room_takes line m is room = rw (room_is line is, lt-ltb (length line.server.held) 8 room)

-- a full one does not
pub full_refuses : {V : Type 0} (line : LineState V) (m : List ℕ) → IsLine line → (length line.server.held < 8 → ⊥)
    → refusal_of (once_of line) (Submit m) ≡ Some Busy
full_refuses line m is full = rw (
  room_is line is,
  le-ltb (length line.server.held) 8 (elim (cases_lt (length line.server.held) 8) [
    | inl l ↦ absurd (full l)
    | inr g ↦ g
  ]),
)

-- what the call owes that submits a message
pub submits : {V : Type 0} (step : Step V) (taken : Taken V) (line : LineState V) (m : List ℕ) (number : ℕ)
    → IsLine line → length line.server.held < 8 → number ≡ length line.sent → (s : ServerState) (sent : List (List ℕ))
    → s ≡ submitted line.server m → sent ≡ line.sent ++ m ∷ []
    → Goes step taken line (Submit m) (stepped.Numbered number)
    (record { encoder = line.encoder; server = s; sent = sent; codes = line.codes })
submits step taken line m number is room number_is s sent s_is sent_is = record {
  line = is;
  passes = ap is_none (room_takes line m is room);
  answer = ap (λ n. Numbered n) number_is;
  next =
      ap (λ (x : ServerState). let l : LineState _ = record {
        encoder = line.encoder;
        server = x;
        sent = sent;
        codes = line.codes;
      } in l) s_is
      ∙ ap (λ (x : List (List ℕ)). let l : LineState _ =
      record { encoder = line.encoder; server = submitted line.server m; sent = x; codes = line.codes } in l)
      sent_is;
}

-- a submission for which there is no memory is refused, and changes nothing
pub lacks_memory : {V : Type 0} (line line' : LineState V) (m : List ℕ) → IsLine line → length line.server.held < 8
    → line' ≡ line → Stops line (Submit m) refusal.OutOfMemory line'
lacks_memory line line' m is room same = record { refuses = (room_takes line m is room, tt); unchanged = same }
