use Rattle.std.proofs.Common.{◌≡◌, ℕ, ◌<◌, List, [], ◌∷◌, ◌++◌, length, Option, refl, ◌∙◌, ap, sym, arith, rules}
use Rattle.std.proofs.Common.{append-nil}
use Rattle.std.specs.Prelude.{option_to_list}
use Rattle.uecp_elements.specs.declared.code.Code.{Code}
use Rattle.uecp_link.specs.Server.{heard}
use Rattle.uecp_link.specs.declared.heard.HeardWhat.{HeardWhat}
use Rattle.uecp_link.specs.Window.{mark_in, marks_in}
use Rattle.uecp_link.proofs.FeedingLemmas.{empty_is, heard_none}
use Rattle.uecp_link.proofs.Windowing.{marks_none, no_mark, with_added, hears_on}
use Rattle.uecp_link.proofs.window.hear_marks.Goals as goal

pub push-requires : goal.push-requires
push-requires c =
    let one = ap (λ (w : HeardWhat). length (option_to_list (mark_in w))) c.in-Acknowledged.is in
    let room : length c.loop-rest.marks.items < 8 = omega (
      arith,
      one,
      c.hear-heard.ensures.one_fewer,
      c.loop-rest.invariant.room,
      c.requires,
    ) in
    search rules

pub loop-rest-init : goal.loop-rest-init
loop-rest-init c = record { state = refl; marked = refl; room = refl }

pub loop-rest-preserved-in-Acknowledged : goal.loop-rest-preserved-in-Acknowledged
loop-rest-preserved-in-Acknowledged c =
    let w : HeardWhat = c.hear-heard.result.what in
    let said : (c.in-Acknowledged.counter, c.in-Acknowledged.code) ∷ [] ≡ option_to_list (mark_in w) =
    sym (ap (λ (w : HeardWhat). option_to_list (mark_in w)) c.in-Acknowledged.is) in
    hears_on _ c.loop-rest.server c.hear-heard.new.self c.hear-heard.result.used _ c.loop-rest.rest.now
    c.rest_of-rest.result.now w _ c.loop-rest.marks.items _ c.loop-rest.invariant (search rules) (search rules)
    (search rules) (search rules)
    (with_added _ c.loop-rest.marks.items _ _ said (search rules))

pub loop-rest-preserved : goal.loop-rest-preserved
loop-rest-preserved c =
    let w : HeardWhat = c.hear-heard.result.what in
    let none : [] ≡ option_to_list (mark_in w) = sym
    (ap (λ (o : Option (ℕ × Code)). option_to_list o) (no_mark w c.in_default.not-Acknowledged)) in
    hears_on _ c.loop-rest.server c.hear-heard.new.self c.hear-heard.result.used _ c.loop-rest.rest.now
    c.rest_of-rest.result.now w _ c.loop-rest.marks.items _ c.loop-rest.invariant (search rules) (search rules)
    (search rules) (search rules)
    (with_added _ c.loop-rest.marks.items _ _ none (sym (append-nil c.loop-rest.marks.items)))

pub returns-clause-state : goal.returns-clause-state
returns-clause-state c =
    let empty = empty_is c.loop-rest.rest.now c.loop-rest-test.ensures in
    sym (ap (heard c.loop-rest.server) empty ∙ heard_none c.loop-rest.server) ∙ c.loop-rest.invariant.state

pub returns-clause-marks : goal.returns-clause-marks
returns-clause-marks c =
    let empty = empty_is c.loop-rest.rest.now c.loop-rest-test.ensures in
    sym (ap (λ (bs : List ℕ). c.loop-rest.marks.items ++ marks_in c.loop-rest.server bs) empty
    ∙ ap (λ (ms : List (ℕ × Code)). c.loop-rest.marks.items ++ ms) (marks_none c.loop-rest.server)
    ∙ append-nil c.loop-rest.marks.items) ∙ c.loop-rest.invariant.marked
