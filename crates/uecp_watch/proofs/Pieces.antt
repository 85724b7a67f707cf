-- A piece that is fed in parts.
use Rattle.std.proofs.Common.{◌≡◌, ℕ, List, ◌++◌, take, drop, ◌∙◌, ap, sym, take-append-drop}
use Rattle.uecp_frame.specs.declared.fed.Fed.{Fed}
use Rattle.uecp_frame.specs.Findings.{OpenPart}
use Rattle.uecp_frame.specs.Beyond.{found_beyond, open_beyond}
use Rattle.uecp_frame.specs.Feeding.{Feeds, findings_of}
use Rattle.uecp_frame.proofs.Public.{in_pieces_lem}

pub found_on : (o o' : OpenPart) (f : Fed) (rest rest' : List ℕ) → Feeds o rest f o' → rest' ≡ drop f.used rest
    → found_beyond o rest ≡ findings_of f.found ++ found_beyond o' rest'
found_on o o' f rest rest' feeds rest_is =
    ap (found_beyond o) (sym (take-append-drop f.used rest))
    ∙ (in_pieces_lem o (take f.used rest) (drop f.used rest)).found
    ∙ ap (λ fs. fs ++ found_beyond (open_beyond o (take f.used rest)) (drop f.used rest)) feeds.answer
    ∙ ap (λ p. findings_of f.found ++ found_beyond p (drop f.used rest)) feeds.left
    ∙ ap (λ r. findings_of f.found ++ found_beyond o' r) (sym rest_is)

pub open_on : (o o' : OpenPart) (f : Fed) (rest rest' : List ℕ) → Feeds o rest f o' → rest' ≡ drop f.used rest
    → open_beyond o' rest' ≡ open_beyond o rest
open_on o o' f rest rest' feeds rest_is =
    ap (open_beyond o') rest_is ∙ ap (λ p. open_beyond p (drop f.used rest)) (sym feeds.left)
    ∙ sym (in_pieces_lem o (take f.used rest) (drop f.used rest)).left
    ∙ ap (open_beyond o) (take-append-drop f.used rest)
