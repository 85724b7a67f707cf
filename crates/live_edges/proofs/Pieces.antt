-- A piece that is fed in parts.
use Rattle.std.proofs.Common.{◌≡◌, ℕ, List, [], ◌∷◌, ◌++◌, take, drop, ◌∙◌, ap, sym}
use Rattle.std.proofs.Common.{take-append-drop, Bool, refl}
use Rattle.live_edges.specs.declared.awaited.Awaited.{Awaited}
use Rattle.uecp_frame.specs.declared.fed.Fed.{Fed}
use Rattle.uecp_frame.specs.Findings.{OpenPart, Finding}
use Rattle.uecp_frame.specs.Beyond.{found_beyond, open_beyond}
use Rattle.uecp_frame.specs.Feeding.{Feeds, findings_of}
use Rattle.uecp_frame.proofs.Public.{in_pieces_lem}
use Rattle.uecp_link.specs.Joining.{reply_counter}
use Rattle.live_edges.specs.Awaited.{sent_all, sent_one, heard_all, reply_to, Replies}

pub found_on : (o o' : OpenPart) (f : Fed) (rest rest' : List ℕ) → Feeds o rest f o' → rest' ≡ drop f.used rest
    → found_beyond o rest ≡ findings_of f.found ++ found_beyond o' rest'
found_on o o' f rest rest' feeds rest_is =
    ap (found_beyond o) (sym (take-append-drop f.used rest))
    ∙ (in_pieces_lem o (take f.used rest) (drop f.used rest)).found
    ∙ ap (λ fs. fs ++ found_beyond (open_beyond o (take f.used rest)) (drop f.used rest)) feeds.answer
    ∙ ap (λ p. findings_of f.found ++ found_beyond p (drop f.used rest)) feeds.left
    ∙ ap (λ r. findings_of f.found ++ found_beyond o' r) (sym rest_is)

pub open_on : (o o' : OpenPart) (f : Fed) (rest rest' : List ℕ) → Feeds o rest f o' → rest' ≡ drop f.used rest
    → open_beyond o' rest' ≡ open_beyond o rest
open_on o o' f rest rest' feeds rest_is =
    ap (open_beyond o') rest_is ∙ ap (λ p. open_beyond p (drop f.used rest)) (sym feeds.left)
    ∙ sym (in_pieces_lem o (take f.used rest) (drop f.used rest)).left
    ∙ ap (open_beyond o) (take-append-drop f.used rest)

pub sent-append : (address : ℕ) (waits : List Bool) (fs gs : List Finding)
    → sent_all address waits (fs ++ gs) ≡ sent_all address (sent_all address waits fs) gs
sent-append address waits [] gs = refl
sent-append address waits (f ∷ fs) gs = sent-append address (sent_one address waits f) fs gs

pub heard-append : (address : ℕ) (r : Replies) (fs gs : List Finding)
    → heard_all address r (fs ++ gs) ≡ heard_all address (heard_all address r fs) gs
heard-append address r [] gs = refl
heard-append address r (f ∷ fs) gs = heard-append address (reply_to r (reply_counter address f)) fs gs

-- what is left of a piece does to what waits what the piece does
pub sent_on : (address : ℕ) (waits : List Bool) (o o' : OpenPart) (f : Fed) (rest rest' : List ℕ) → Feeds o rest f o'
    → rest' ≡ drop f.used rest
    → sent_all address (sent_all address waits (findings_of f.found)) (found_beyond o' rest')
    ≡ sent_all address waits (found_beyond o rest)
sent_on address waits o o' f rest rest' feeds rest_is =
    sym (sent-append address waits (findings_of f.found) (found_beyond o' rest'))
    ∙ ap (sent_all address waits) (sym (found_on o o' f rest rest' feeds rest_is))

pub heard_on : (address : ℕ) (r : Replies) (o o' : OpenPart) (f : Fed) (rest rest' : List ℕ) → Feeds o rest f o'
    → rest' ≡ drop f.used rest
    → heard_all address (heard_all address r (findings_of f.found)) (found_beyond o' rest')
    ≡ heard_all address r (found_beyond o rest)
heard_on address r o o' f rest rest' feeds rest_is =
    sym (heard-append address r (findings_of f.found) (found_beyond o' rest'))
    ∙ ap (heard_all address r) (sym (found_on o o' f rest rest' feeds rest_is))

-- its parts make it
pub awaited_is : (s : Awaited) (address : ℕ) (waits : List Bool) (written read : OpenPart) → s.address ≡ address
    → s.waits ≡ waits → s.written ≡ written → s.read ≡ read
    → s ≡ record { address = address; waits = waits; written = written; read = read }
awaited_is s address waits written read address_is waits_is written_is read_is =
    ap (λ a. let it : Awaited = record { address = a; waits = s.waits; written = s.written; read = s.read } in it)
    address_is
    ∙ ap (λ w. let it : Awaited = record { address = address; waits = w; written = s.written; read = s.read } in it)
    waits_is
    ∙ ap (λ o. let it : Awaited = record { address = address; waits = waits; written = o; read = s.read } in it)
    written_is
    ∙ ap (λ o. let it : Awaited = record { address = address; waits = waits; written = written; read = o } in it)
    read_is
