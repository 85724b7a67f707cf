-- The marks of the messages that a server holds.
use Rattle.std.proofs.Common.{◌≡◌, ℕ, zero, suc, ◌+◌, Bool, List, [], ◌∷◌, ◌++◌, take, map, Some, ap, subst}
use Rattle.std.proofs.Common.{arith, unwrap_or}
use Rattle.std.specs.List.{slice_get}
use Rattle.uecp_link.specs.Server.{Held}

abbrev marks : List Held → List Bool
marks hs = map (λ h. h.marked) hs

take_on : (hs : List Held) (place : ℕ) (h : Held) → slice_get hs place ≡ Some h
    → take (suc place) (marks hs) ≡ take place (marks hs) ++ h.marked ∷ []
take_on [] zero h is = cc
take_on [] (suc place) h is = cc
take_on (x ∷ hs) zero h is = ap (λ o. (unwrap_or o x).marked ∷ []) is
take_on (x ∷ hs) (suc place) h is = ap (λ bs. x.marked ∷ bs) (take_on hs place h is)

-- the mark of one message more
pub mark_on : (hs : List Held) (place : ℕ) (h : Held) → slice_get hs place ≡ Some h
    → take (place + 1) (marks hs) ≡ take place (marks hs) ++ h.marked ∷ []
mark_on hs place h is =
    subst (λ n. take n (marks hs) ≡ take place (marks hs) ++ h.marked ∷ [])
    (let same : suc place ≡ place + 1 = omega arith in same) (take_on hs place h is)
