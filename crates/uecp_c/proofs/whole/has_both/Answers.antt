use Rattle.std.proofs.Common.{◌≡◌, ℕ, true, List, [], Option, Some, None, refl, ◌∙◌, ap, sym, subst, rules}
use Rattle.std.specs.Prelude.{option_to_list}
use Rattle.uecp_frame.specs.Findings.{Closed}
use Rattle.uecp_link.specs.Joining.{reply_counters}
use Rattle.uecp_link.proofs.Public.{empty_is, counters_none}
use Rattle.uecp_c.specs.Joining.{seen_after}
use Rattle.uecp_c.proofs.Counters.{unseen, goes_on, seen_joins, joins_seen}
use Rattle.uecp_c.proofs.whole.has_both.Goals as goal

none_is : (o : Option ℕ) → ((counter : ℕ) → o ≡ Some counter → ⊥) → o ≡ None
none_is None other = refl
none_is (Some counter) other = absurd (other counter refl)

pub loop-rest-preserved-in-Some : goal.loop-rest-preserved-in-Some
loop-rest-preserved-in-Some c =
    goes_on c.args.address c.loop-rest.deframer _ c.loop-rest.seen _ c.loop-rest.rest.now _
    c.next_reply-used.result.0 (Some c.in-Some.counter)
    (c.next_reply-used.ensures.counter ∙ ap (λ (o : Option ℕ). option_to_list o) c.in-Some.is) c.with-seen.ensures
    c.next_reply-used.ensures.state c.rest_of-rest.ensures
    ∙ c.loop-rest.invariant

pub loop-rest-preserved : goal.loop-rest-preserved
loop-rest-preserved c =
    goes_on c.args.address c.loop-rest.deframer _ c.loop-rest.seen _ c.loop-rest.rest.now _
    c.next_reply-used.result.0 None
    (c.next_reply-used.ensures.counter ∙ ap (λ (o : Option ℕ). option_to_list o)
    (none_is c.next_reply-used.result.1 c.in_default.not-Some)) refl
    c.next_reply-used.ensures.state c.rest_of-rest.ensures
    ∙ c.loop-rest.invariant

pub returns : goal.returns
returns c =
    let empty = empty_is c.loop-rest.rest.now c.loop-rest-test.ensures in
    let all =
    sym (ap (λ (bs : List ℕ). seen_after c.loop-rest.seen (reply_counters c.args.address c.loop-rest.deframer bs)) empty
    ∙ ap (seen_after c.loop-rest.seen) (counters_none c.args.address c.loop-rest.deframer))
    ∙ c.loop-rest.invariant in
    let cs = reply_counters c.args.address Closed c.args.bytes.now in (
      (λ (both : c.loop-rest.seen.are_both ≡ true). seen_joins cs (sym (ap (λ s. s.are_both) all) ∙ both)),
      (λ joined. ap (λ s. s.are_both) all ∙ joins_seen cs joined),
    )
