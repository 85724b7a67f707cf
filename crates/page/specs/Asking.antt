-- What a request asks for, and whom it takes the page for (profile; RFC 9110, sections 7.2, 9.1 and 15).
use Rattle.std.specs.Prelude.{◌≡◌, ◌<◌, ◌^◌, ℕ, ◌==◌, Bool, true, false, ◌&&◌, ◌||◌, List, [], ◌∷◌, length, drop, map}
use Rattle.std.specs.Prelude.{if◌then◌else◌, nat_le, nat_eq, codes, decimal, Option, Some, None, option_map}
use Rattle.std.specs.Char.{to_ascii_lowercase}
use Rattle.std.specs.List.{list_all, starts_with, find}
use Rattle.std.specs.Str.{bytes_eq}
use Rattle.page.specs.declared.clients.request.Route.{Route}
use Rattle.page.specs.declared.clients.request.Route.TheVariants.{Page, Events, State, History, Metrics}
use Rattle.page.specs.declared.clients.request.Route.TheVariants.{Health, NotFound, OtherMethod, Foreign}

-- Which of the six pages a target names, to the letter.
abbrev pub page_of : (target : List ℕ) → Route
page_of target =
    if bytes_eq target (codes "/") then Page
    else if bytes_eq target (codes "/events") then Events
    else if bytes_eq target (codes "/state") then State
    else if bytes_eq target (codes "/history") then History
    else if bytes_eq target (codes "/metrics") then Metrics
    else if bytes_eq target (codes "/healthz") then Health
    else NotFound

-- What a method and a target ask for: a page, where the method is GET, or HEAD, to which no body is sent.
abbrev pub route_of : (method target : List ℕ) → Route
route_of method target =
    if bytes_eq method (codes "GET") || bytes_eq method (codes "HEAD") then page_of target else OtherMethod

abbrev pub is_digit : ℕ → Bool
is_digit byte = nat_le 48 byte && nat_le byte 57

-- What may stand behind a name: nothing, or a colon and digits.
abbrev pub is_port : List ℕ → Bool
is_port [] = true
is_port (byte ∷ digits) = byte == 58 && list_all is_digit digits

-- A host is this name, with or without a port.
abbrev pub is_host : (name host : List ℕ) → Bool
is_host name host = starts_with nat_eq host name && is_port (drop (length name) host)

-- A host names the machine that it is asked on.
abbrev pub is_own : (host : List ℕ) → Bool
is_own host = is_host (codes "localhost") host || is_host (codes "127.0.0.1") host || is_host (codes "[::1]") host

-- What is served: where the page is on a loopback address alone, nothing to another name than the machine's own, so
-- that no name that was bound to it anew reaches it.
abbrev pub served : (own_only : Bool) → (host : Option (List ℕ)) → Route → Route
served false host route = route
served true None route = Foreign
served true (Some host) route = if is_own host then route else Foreign

-- A field has this name, in whatever case it is written (RFC 9110, section 5.1).
abbrev pub is_named : (name : List ℕ) → (field : List ℕ × List ℕ) → Bool
is_named name field = bytes_eq (map to_ascii_lowercase field.0) (map to_ascii_lowercase name)

-- The value of the first field of this name, of fields that are names and values.
abbrev pub value_at : (name : List ℕ) → (fields : List (List ℕ × List ℕ)) → Option (List ℕ)
value_at name fields = option_map (λ field. field.1) (find (is_named name) fields)

-- What a request is answered as: the host that its field `Host` names decides whether it is served at all.
abbrev pub asked_route : (own_only : Bool) → (method target : List ℕ) → (fields : List (List ℕ × List ℕ)) → Route
asked_route own_only method target fields = served own_only (value_at (codes "host") fields) (route_of method target)

-- The event that a browser names as its last: the number below 2^64 that the value says in decimal, if it says one.
abbrev pub Names : (value : Option (List ℕ)) → (last : Option ℕ) → Type 0
Names None last = last ≡ None
Names (Some text) None = (number : ℕ) → number < 2 ^ 64 → text ≡ decimal number → ⊥
Names (Some text) (Some number) = text ≡ decimal number

-- The same of the fields of a request (the HTML standard, `Last-Event-ID`).
abbrev pub NamesLast : (fields : List (List ℕ × List ℕ)) → (last : Option ℕ) → Type 0
NamesLast fields last = Names (value_at (codes "last-event-id") fields) last
