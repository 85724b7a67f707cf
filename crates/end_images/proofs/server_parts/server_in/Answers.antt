use Rattle.std.proofs.Common.{◌≡◌, ℕ, Option, Some, None, List, map, ap, sym, ◌∙◌}
use Rattle.std.specs.Option.{option_map}
use Rattle.uecp_link.specs.Server.{ServerState, restarted_server}
use Rattle.uecp_link.specs.Resuming.{kept_of, resumed_at}
use Rattle.uecp_link.specs.declared.kept_message.KeptMessage.{KeptMessage}
use Rattle.end_images.specs.Parsing.{server_says, server_parts, exact_of, kept_few, ServerSays}
use Rattle.end_images.proofs.Apart.{some_same, exact_is, exact_back}
use Rattle.end_images.proofs.Servers.{says_server, server_back, few_back, resumed_back, is_flagged, flagged}
use Rattle.end_images.proofs.server_parts.server_in.Goals as goal

pub returns-in_err-parts-clause-complete : goal.returns-in_err-parts-clause-complete
returns-in_err-parts-clause-complete c = λ k is content.
    let none : ◌≡◌ {A = Option ServerSays} None (Some (says_server k.joined k.taken k.server)) =
    sym (ap (option_map server_says) c.in_err-parts.was) ∙ c.server_parts.ensures ∙ ap server_parts content
    ∙ server_back k.joined k.taken k.server is.taken in
    absurd (cc)

pub returns-in_err-address-clause-complete : goal.returns-in_err-address-clause-complete
returns-in_err-address-clause-complete c = λ k is content.
    let parts = c.in_ok-parts.parts in
    let says : server_says parts ≡ says_server k.joined k.taken k.server =
    some_same (server_says parts) (says_server k.joined k.taken k.server)
    (sym (ap (option_map server_says) c.in_ok-parts.was) ∙ c.server_parts.ensures ∙ ap server_parts content
    ∙ server_back k.joined k.taken k.server is.taken) in
    let none : ◌≡◌ {A = Option ℕ} None (Some k.server.address) =
    sym c.in_err-address.was ∙ c.exact_of.ensures ∙ ap (λ (s : ServerSays). exact_of s.address) says
    ∙ exact_back k.server.address is.exact in
    absurd (cc)

pub returns-in_err-held-clause-complete : goal.returns-in_err-held-clause-complete
returns-in_err-held-clause-complete c = λ k is content.
    let parts = c.in_ok-parts.parts in
    let says : server_says parts ≡ says_server k.joined k.taken k.server =
    some_same (server_says parts) (says_server k.joined k.taken k.server)
    (sym (ap (option_map server_says) c.in_ok-parts.was) ∙ c.server_parts.ensures ∙ ap server_parts content
    ∙ server_back k.joined k.taken k.server is.taken) in
    let none : ◌≡◌ {A = Option (List KeptMessage)} None (Some (map kept_of k.server.held)) =
    sym (ap (option_map (λ h. h.items)) c.in_err-held.was) ∙ c.kept_few.ensures
    ∙ ap (λ (s : ServerSays). kept_few s.count s.messages) says ∙ few_back k.server is.server in
    absurd (cc)

pub returns-in_err-server-clause-complete : goal.returns-in_err-server-clause-complete
returns-in_err-server-clause-complete c = λ k is content.
    let parts = c.in_ok-parts.parts in
    let says : server_says parts ≡ says_server k.joined k.taken k.server =
    some_same (server_says parts) (says_server k.joined k.taken k.server)
    (sym (ap (option_map server_says) c.in_ok-parts.was) ∙ c.server_parts.ensures ∙ ap server_parts content
    ∙ server_back k.joined k.taken k.server is.taken) in
    let held : c.in_ok-held.held.items ≡ map kept_of k.server.held =
    some_same c.in_ok-held.held.items (map kept_of k.server.held)
    (sym (ap (option_map (λ h. h.items)) c.in_ok-held.was) ∙ c.kept_few.ensures
    ∙ ap (λ (s : ServerSays). kept_few s.count s.messages) says ∙ few_back k.server is.server) in
    let address : c.in_ok-address.address ≡ k.server.address =
    exact_is parts.address c.in_ok-address.address (sym c.in_ok-address.was ∙ c.exact_of.ensures)
    ∙ ap (λ (s : ServerSays). s.address) says in
    let last : parts.last ≡ k.server.last = ap (λ (s : ServerSays). s.last) says in
    let slice = c.as_slice.ensures.value ∙ held in
    let none : ◌≡◌ {A = Option ServerState} None (Some (restarted_server k.server)) =
    sym c.in_err-server.was ∙ c.resumed.ensures ∙ (λ i. resumed_at (address i) (last i) (slice i))
    ∙ resumed_back k.server is.server in
    absurd (cc)

pub returns-clause-complete : goal.returns-clause-complete
returns-clause-complete c = λ k is content.
    let parts = c.in_ok-parts.parts in
    let says : server_says parts ≡ says_server k.joined k.taken k.server =
    some_same (server_says parts) (says_server k.joined k.taken k.server)
    (sym (ap (option_map server_says) c.in_ok-parts.was) ∙ c.server_parts.ensures ∙ ap server_parts content
    ∙ server_back k.joined k.taken k.server is.taken) in
    let held : c.in_ok-held.held.items ≡ map kept_of k.server.held =
    some_same c.in_ok-held.held.items (map kept_of k.server.held)
    (sym (ap (option_map (λ h. h.items)) c.in_ok-held.was) ∙ c.kept_few.ensures
    ∙ ap (λ (s : ServerSays). kept_few s.count s.messages) says ∙ few_back k.server is.server) in
    let address : c.in_ok-address.address ≡ k.server.address =
    exact_is parts.address c.in_ok-address.address (sym c.in_ok-address.was ∙ c.exact_of.ensures)
    ∙ ap (λ (s : ServerSays). s.address) says in
    let last : parts.last ≡ k.server.last = ap (λ (s : ServerSays). s.last) says in
    let slice = c.as_slice.ensures.value ∙ held in
    let server : c.in_ok-server.server ≡ restarted_server k.server =
    some_same c.in_ok-server.server (restarted_server k.server)
    (sym c.in_ok-server.was ∙ c.resumed.ensures ∙ (λ i. resumed_at (address i) (last i) (slice i))
    ∙ resumed_back k.server is.server) in
    let joined : is_flagged parts.joined ≡ k.joined =
    ap (λ (s : ServerSays). is_flagged s.joined) says ∙ flagged k.joined in
    let taken : parts.taken ≡ k.taken = ap (λ (s : ServerSays). s.taken) says in
    λ i. Some (record { joined = joined i; taken = taken i; server = server i })
