-- A line whose server is started again.
use Rattle.std.proofs.Common.{◌≡◌, ℕ, List, [], length, refl, ◌∙◌, ap, sym, inr}
use Rattle.uecp_elements.specs.declared.code.Code.{Code}
use Rattle.uecp_encoder.specs.Target.{Step}
use Rattle.uecp_encoder.specs.State.{EncoderState, fed}
use Rattle.uecp_encoder.specs.Answering.{answers}
use Rattle.uecp_encoder.proofs.Public.{counters}
use Rattle.uecp_link.specs.Kept.{code_at}
use Rattle.uecp_link.specs.Once.{at_first}
use Rattle.uecp_link.specs.Server.{ServerState, idle_at}
use Rattle.uecp_link.specs.Joining.{pass_sent, BringsBoth, HasJoinedWith}
use Rattle.uecp_link.specs.Replacing.{EmptyChangesNothing, with_nothing_open}
use Rattle.uecp_link.specs.Holds.{LineState, IsLine, Holds, once_of, line_from}
use Rattle.uecp_link.proofs.Opening.{holds_from}
use Rattle.uecp_link.proofs.Played.{line_ready}
use Rattle.uecp_link.proofs.Ready.{some_messages}
use Rattle.uecp_link.proofs.WholePass.{brings_both, joined_whole, address_after}

-- What a whole pass to the encoder of a line comes to, where nothing was open.
pub record Replaced {V : Type 0} (step : Step V) (line : LineState V) (e : EncoderState V) : Type 0 where
  pub replied : BringsBoth line.encoder.address (answers step (with_nothing_open line.encoder)
      (pass_sent line.encoder.address))
  pub joined : HasJoinedWith e line.encoder.value
  pub address : e.address ≡ line.encoder.address
  pub is_line : IsLine (line_from e)
  pub holds : Holds (line_from e) (at_first e.value)

pub replaced : {V : Type 0} (step : Step V) → EmptyChangesNothing step → (line : LineState V) → IsLine line
    → Replaced step line (fed step (with_nothing_open line.encoder) (pass_sent line.encoder.address))
replaced {V} step same line is =
    let old : EncoderState V = with_nothing_open line.encoder in
    let e : EncoderState V = fed step old (pass_sent line.encoder.address) in
    let some = some_messages is.base (code_at (once_of line).codes) (length line.codes) is.ready in
    let ring = ap counters is.encoder.ring ∙ some.1 in
    let joined : HasJoinedWith e line.encoder.value = joined_whole step same old some.0 ring refl in
    record {
      replied = brings_both step old some.0 ring refl;
      joined = joined;
      address = address_after step old some.0 ring refl;
      is_line = line_ready e (inr joined.kept) joined.closed;
      holds = holds_from e joined.closed;
    }

-- the line that is left, by what each of its parts is
pub left_is : {V : Type 0} (step : Step V) (old : LineState V) → IsLine old
    → (address : ℕ) (closed given : EncoderState V) (server : ServerState) (sent : List (List ℕ)) (codes : List Code) →
    old.encoder.address ≡ address → closed ≡ with_nothing_open old.encoder → given ≡ fed step closed (pass_sent address)
    → server ≡ idle_at old.server.address → sent ≡ [] → codes ≡ [] →
    (fed step (with_nothing_open old.encoder) (pass_sent old.encoder.address)).address ≡ old.encoder.address →
    record { encoder = given; server = server; sent = sent; codes = codes }
    ≡ line_from (fed step (with_nothing_open old.encoder) (pass_sent old.encoder.address))
left_is {V} step old is address closed given server sent codes own closed_is given_is server_is sent_is codes_is stays =
    let e : EncoderState V = fed step (with_nothing_open old.encoder) (pass_sent old.encoder.address) in
    let given_e : given ≡ e = given_is ∙ ap (λ (d : EncoderState V). fed step d (pass_sent address)) closed_is
    ∙ ap (λ a. fed step (with_nothing_open old.encoder) (pass_sent a)) (sym own) in
    let server_e : server ≡ idle_at e.address = server_is ∙ ap idle_at (is.server.address ∙ sym stays) in
    ap (λ (d : EncoderState V). let l : LineState V =
    record { encoder = d; server = server; sent = sent; codes = codes } in l) given_e
    ∙ ap (λ (s : ServerState). let l : LineState V = record { encoder = e; server = s; sent = sent; codes = codes } in
    l) server_e
    ∙ ap (λ (m : List (List ℕ)). let l : LineState V =
    record { encoder = e; server = idle_at e.address; sent = m; codes = codes } in l) sent_is
    ∙ ap (λ (k : List Code). let l : LineState V = record {
      encoder = e;
      server = idle_at e.address;
      sent = [];
      codes = k;
    } in l) codes_is
