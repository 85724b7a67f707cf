use Rattle.std.proofs.Common.{rules, ◌≡◌, ◌++◌, ◌∷◌, [], length, map, sym, subst, lit<, List, ℕ}
use Rattle.std.specs.List.{AllZip}
use Rattle.std.proofs.lemmas.Iterator.Consumers.{YieldsList-at, YieldsList-turn, YieldsList-end}
use Rattle.std.proofs.lemmas.Iterator.Splits.{YieldsList-from_str_split}
use Rattle.device_edges.specs.declared.allowed.Network.{Network}
use Rattle.device_edges.specs.Allowed.{IsNetworkText}
use Rattle.device_edges.proofs.AllowLists.{zip_push, zip_none}
use Rattle.device_edges.proofs.allowed.Allowed.of.Goals as goal

pub returns-in_default-clause-refused : goal.returns-in_default-clause-refused
returns-in_default-clause-refused c =
    let turn = YieldsList-turn (YieldsList-at c.into_iter-part-iterator.ensures.into_iter_gives
    (YieldsList-from_str_split 44 c.args.text.now (lit< tt) c.split-part-items.ensures.text
    c.split-part-items.ensures.has_more c.split-part-items.ensures.pattern))
    c.loop-part.yielded _ c.loop-part.yielded_by _ _ c.in-Some.part c.in-Some.is c.next.ensures.steps in
    let none : (network : Network) → ¬ (IsNetworkText c.in-Some.part.now network) = search rules in
    λ _ networks list. zip_none IsNetworkText _ networks (length c.loop-part.yielded) c.in-Some.part.now turn.0
    (λ (network : Network) p. none network (subst (λ t. IsNetworkText t network) (sym turn.1) p)) list

pub loop-part-preserved : goal.loop-part-preserved
loop-part-preserved c =
    let pushed : c.push.new.self.items ≡ c.loop-part.networks.items ++ c.in-Some-network_of.network ∷ [] =
    search rules in
    let written : IsNetworkText c.in-Some.part.now c.in-Some-network_of.network = search rules in
    subst (λ networks. AllZip IsNetworkText (map (λ part. part.now) (c.loop-part.yielded ++ c.in-Some.part ∷ []))
    networks) (sym pushed) (zip_push IsNetworkText (λ part. part.now) c.loop-part.yielded c.loop-part.networks.items
    c.in-Some.part c.in-Some-network_of.network c.loop-part.invariant written)

pub returns-clause-list : goal.returns-clause-list
returns-clause-list c =
    let whole = YieldsList-end (YieldsList-at c.into_iter-part-iterator.ensures.into_iter_gives
    (YieldsList-from_str_split 44 c.args.text.now (lit< tt) c.split-part-items.ensures.text
    c.split-part-items.ensures.has_more c.split-part-items.ensures.pattern))
    c.loop-part.yielded _ c.loop-part.yielded_by _ _ c.in-None.is c.next.ensures.steps in
    subst (λ (parts : List (List ℕ)). AllZip IsNetworkText parts c.loop-part.networks.items) whole.0
    c.loop-part.invariant
