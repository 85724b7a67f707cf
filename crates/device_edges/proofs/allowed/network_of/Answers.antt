use Rattle.std.proofs.Common.{sym, subst, List, ℕ, Option, MatchOption}
use Rattle.device_edges.specs.declared.allowed.Network.{Network}
use Rattle.device_edges.specs.Allowed.{IsNetwork}
use Rattle.device_edges.proofs.AllowLists.{uncut, cut}
use Rattle.device_edges.proofs.allowed.network_of.Goals as goal

-- the network that these pieces write, if they write one
abbrev Writes : Option Network → List (List ℕ) → Type 0
Writes result pieces = MatchOption result ((network : Network) → ¬ (IsNetwork pieces network)) (IsNetwork pieces)

pub returns-in-None : goal.returns-in-None
returns-in-None c =
    subst (Writes c.one_address.result) (sym (uncut c.args.part.now _ c.split_once.ensures.cases c.in-None.is))
    c.one_address.ensures

pub returns-in-Some : goal.returns-in-Some
returns-in-Some c =
    subst (Writes c.some_addresses.result) (sym (cut c.args.part.now _ c.split_once.ensures.cases _ c.in-Some.is))
    c.some_addresses.ensures
