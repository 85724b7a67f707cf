-- What is found in bytes, part by part.
use Rattle.std.proofs.Common.{◌≡◌, ℕ, List, ◌++◌, take, drop, ◌∙◌, ap, sym, take-append-drop}
use Rattle.uecp_frame.specs.declared.fed.Fed.{Fed}
use Rattle.uecp_frame.specs.Findings.{OpenPart}
use Rattle.uecp_frame.specs.Beyond.{found_beyond, open_beyond}
use Rattle.uecp_frame.specs.Feeding.{Feeds, findings_of}
use Rattle.uecp_frame.proofs.Public.{in_pieces_lem}
use Rattle.uecp_text.specs.Written.{Kept}
use Rattle.uecp_text.proofs.Public.{Leads}

-- nothing was added yet
pub leads_first : (a : Kept) (left whole : List ℕ) → left ≡ whole → Leads a a left whole
leads_first a left whole is = λ w. (w, ap (λ l. a.bytes ++ l) is)

pub found_on : (o o' : OpenPart) (f : Fed) (rest rest' : List ℕ) → Feeds o rest f o' → rest' ≡ drop f.used rest
    → found_beyond o rest ≡ findings_of f.found ++ found_beyond o' rest'
found_on o o' f rest rest' feeds rest_is =
    ap (found_beyond o) (sym (take-append-drop f.used rest))
    ∙ (in_pieces_lem o (take f.used rest) (drop f.used rest)).found
    ∙ ap (λ fs. fs ++ found_beyond (open_beyond o (take f.used rest)) (drop f.used rest)) feeds.answer
    ∙ ap (λ p. findings_of f.found ++ found_beyond p (drop f.used rest)) feeds.left
    ∙ ap (λ r. findings_of f.found ++ found_beyond o' r) (sym rest_is)
