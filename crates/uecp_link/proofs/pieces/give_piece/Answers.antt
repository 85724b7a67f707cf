use Rattle.std.proofs.Common.{◌≡◌, ℕ, List, take, ◌∙◌, ap, sym}
use Rattle.std.specs.List.{last_or}
use Rattle.uecp_link.proofs.FeedingLemmas.{last_said, after_on, said_on, empty_is}
use Rattle.uecp_link.proofs.pieces.give_piece.Goals as goal

pub loop-rest-preserved : goal.loop-rest-preserved
loop-rest-preserved g c =
    let after = g.E.End.after in
    let says = g.E.End.says in
    let pieces = c.in_pieces.ensures.pieces in
    let e = c.loop-rest.end in
    let e' = c.give_first-used.new.self in
    let n : ℕ = c.give_first-used.result.0 in
    let rest : List ℕ = c.loop-rest.rest.now in
    let last_is : c.or-last.result ≡ last_or c.loop-rest.last (says e (take n rest)) =
    c.or-last.ensures ∙ last_said c.loop-rest.last c.give_first-used.result.1
    ∙ sym (ap (last_or c.loop-rest.last) c.give_first-used.ensures.said) in
    record {
      state = after_on after says pieces e e' n rest c.rest_of-rest.result.now c.give_first-used.ensures.state
          c.rest_of-rest.ensures ∙ c.loop-rest.invariant.state;
      said = said_on after says pieces e e' n rest c.rest_of-rest.result.now c.loop-rest.last c.or-last.result
          c.give_first-used.ensures.state c.rest_of-rest.ensures last_is ∙ c.loop-rest.invariant.said;
    }

pub returns-clause-state : goal.returns-clause-state
returns-clause-state g c =
    let empty = empty_is c.loop-rest.rest.now c.loop-rest-test.ensures in
    sym (ap (g.E.End.after c.loop-rest.end) empty ∙ (c.in_pieces.ensures.nothing c.loop-rest.end).0)
    ∙ c.loop-rest.invariant.state

pub returns-clause-said : goal.returns-clause-said
returns-clause-said g c =
    let empty = empty_is c.loop-rest.rest.now c.loop-rest-test.ensures in
    sym (ap (last_or c.loop-rest.last) (ap (g.E.End.says c.loop-rest.end) empty
    ∙ (c.in_pieces.ensures.nothing c.loop-rest.end).1)) ∙ c.loop-rest.invariant.said
