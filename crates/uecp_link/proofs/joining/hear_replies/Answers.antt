use Rattle.std.proofs.Common.{◌≡◌, ℕ, List, Option, Some, None, refl, ◌∙◌, ap, sym, rules}
use Rattle.std.specs.Prelude.{option_to_list}
use Rattle.uecp_link.specs.Server.{heard}
use Rattle.uecp_link.specs.Joining.{reply_counters, replies_after}
use Rattle.uecp_link.proofs.FeedingLemmas.{empty_is, heard_none}
use Rattle.uecp_link.proofs.SeenReplies.{counters_none, hears_more}
use Rattle.uecp_link.proofs.joining.hear_replies.Goals as goal

none_is : (o : Option ℕ) → ((counter : ℕ) → o ≡ Some counter → ⊥) → o ≡ None
none_is None other = refl
none_is (Some counter) other = absurd (other counter refl)

pub loop-rest-init : goal.loop-rest-init
loop-rest-init c = record { state = refl; idle = c.requires; replies_are = refl }

pub returns-clause-state : goal.returns-clause-state
returns-clause-state c =
    let empty = empty_is c.loop-rest.rest.now c.loop-rest-test.ensures in
    sym (ap (heard c.loop-rest.server) empty ∙ heard_none c.loop-rest.server) ∙ c.loop-rest.invariant.state

pub returns-clause-replies : goal.returns-clause-replies
returns-clause-replies c =
    let empty = empty_is c.loop-rest.rest.now c.loop-rest-test.ensures in
    sym (ap (λ (bs : List ℕ). replies_after c.loop-rest.replies
    (reply_counters c.loop-rest.server.address c.loop-rest.server.part bs)) empty
    ∙ ap (replies_after c.loop-rest.replies) (counters_none c.loop-rest.server.address c.loop-rest.server.part))
    ∙ c.loop-rest.invariant.replies_are

pub loop-rest-preserved-in-Some : goal.loop-rest-preserved-in-Some
loop-rest-preserved-in-Some c =
    let said = ap (λ cs. replies_after c.loop-rest.replies cs)
    (c.hear_reply-used.ensures.counter ∙ ap (λ (o : Option ℕ). option_to_list o) c.in-Some.is) in
    hears_more _ c.loop-rest.server c.hear_reply-used.new.self c.hear_reply-used.result.0 _ c.loop-rest.rest.now
    c.rest_of-rest.result.now _ c.loop-rest.replies _ c.loop-rest.invariant (search rules) (search rules)
    (c.replies_with-replies.ensures ∙ sym said)

pub loop-rest-preserved : goal.loop-rest-preserved
loop-rest-preserved c =
    let said = ap (λ cs. replies_after c.loop-rest.replies cs)
    (c.hear_reply-used.ensures.counter ∙ ap (λ (o : Option ℕ). option_to_list o)
    (none_is c.hear_reply-used.result.1 c.in_default.not-Some)) in
    hears_more _ c.loop-rest.server c.hear_reply-used.new.self c.hear_reply-used.result.0 _ c.loop-rest.rest.now
    c.rest_of-rest.result.now _ c.loop-rest.replies _ c.loop-rest.invariant (search rules) (search rules) (sym said)
