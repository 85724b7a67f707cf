use Rattle.std.proofs.Common.{◌≡◌, ◌+◌, ℕ, ◌++◌, length, ◌∙◌, ap, sym, arith, length-drop, refl, suc, ◌<◌}
use Rattle.std.proofs.lemmas.Bool.{eqb-false}
use Rattle.uecp_frame.specs.Findings.{has_frame}
use Rattle.uecp_frame.specs.Beyond.{found_beyond}
use Rattle.uecp_frame.specs.Feeding.{findings_of}
use Rattle.uecp_link.proofs.FeedingLemmas.{empty_is, noise_on, found_none}
use Rattle.uecp_link.proofs.pieces.dropped_by.Goals as goal

pub loop-rest-preserved-in-Nothing : goal.loop-rest-preserved-in-Nothing
loop-rest-preserved-in-Nothing c =
    let on = noise_on c.loop-rest.copy c.feed-fed.new.self c.feed-fed.result c.loop-rest.rest.now
    c.rest_of-rest.result.now c.feed-fed.ensures.feeds c.rest_of-rest.ensures
    ∙ ap (λ x. findings_of x ++ found_beyond c.feed-fed.new.self c.rest_of-rest.result.now) c.in-Nothing.is in
    let len = ap length c.rest_of-rest.ensures ∙ length-drop c.feed-fed.result.used c.loop-rest.rest.now in
    record {
      frame = sym (ap has_frame on) ∙ c.loop-rest.invariant.frame;
      count = ap (λ (n : ℕ). c.loop-rest.dropped + n) (sym (ap length on)) ∙ c.loop-rest.invariant.count;
      few = omega (arith, len, c.loop-rest.invariant.few);
    }

pub loop-rest-preserved : goal.loop-rest-preserved
loop-rest-preserved c =
    let on = noise_on c.loop-rest.copy c.feed-fed.new.self c.feed-fed.result c.loop-rest.rest.now
    c.rest_of-rest.result.now c.feed-fed.ensures.feeds c.rest_of-rest.ensures
    ∙ ap (λ x. findings_of x ++ found_beyond c.feed-fed.new.self c.rest_of-rest.result.now) c.in-Refused.is in
    let len = ap length c.rest_of-rest.ensures ∙ length-drop c.feed-fed.result.used c.loop-rest.rest.now in
    let more : length (found_beyond c.loop-rest.copy c.loop-rest.rest.now)
    ≡ suc (length (found_beyond c.feed-fed.new.self c.rest_of-rest.result.now)) = ap length on in
    let some = eqb-false (length c.loop-rest.rest.now) 0 (sym c.loop-rest-test.ensures) in
    let used : 0 < c.feed-fed.result.used = c.feed-fed.ensures.moves (omega arith) in
    record {
      frame = sym (ap has_frame on) ∙ c.loop-rest.invariant.frame;
      count = omega (arith, more, c.loop-rest.invariant.count);
      few = omega (arith, len, used, c.loop-rest.invariant.few, c.feed-fed.ensures.fits);
    }

pub returns-in-Frame-clause-holds : goal.returns-in-Frame-clause-holds
returns-in-Frame-clause-holds c =
    let on = noise_on c.loop-rest.copy c.feed-fed.new.self c.feed-fed.result c.loop-rest.rest.now
    c.rest_of-rest.result.now c.feed-fed.ensures.feeds c.rest_of-rest.ensures
    ∙ ap (λ x. findings_of x ++ found_beyond c.feed-fed.new.self c.rest_of-rest.result.now) c.in-Frame.is in
    ((λ h. sym c.loop-rest.invariant.frame ∙ ap has_frame on), (λ h. refl))

pub returns-clause-holds : goal.returns-clause-holds
returns-clause-holds c =
    let empty = empty_is c.loop-rest.rest.now c.loop-rest-test.ensures in
    let none = ap has_frame (ap (found_beyond c.loop-rest.copy) empty ∙ found_none c.loop-rest.copy) in
    let quiet = sym none ∙ c.loop-rest.invariant.frame in
    ((λ h. absurd (cc)), (λ h. absurd (cc (h, quiet))))

pub returns-clause-count : goal.returns-clause-count
returns-clause-count c =
    let empty = empty_is c.loop-rest.rest.now c.loop-rest-test.ensures in
    let none = ap length (ap (found_beyond c.loop-rest.copy) empty ∙ found_none c.loop-rest.copy) in
    omega (arith, none, c.loop-rest.invariant.count)
