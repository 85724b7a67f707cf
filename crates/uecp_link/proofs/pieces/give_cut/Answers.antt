use Rattle.std.proofs.Common.{◌∙◌, ap, ℕ, List}
use Rattle.std.specs.List.{last_or}
use Rattle.uecp_link.proofs.FeedingLemmas.{after_on, said_on}
use Rattle.uecp_link.proofs.pieces.give_cut.Goals as goal

pub loop-length-preserved : goal.loop-length-preserved
loop-length-preserved g c =
    let after = g.E.End.after in
    let says = g.E.End.says in
    let pieces = c.in_pieces.ensures.pieces in
    let e = c.loop-length.end in
    let e' = c.give_piece-last.new.end in
    let n : ℕ = c.min.result in
    let rest : List ℕ = c.loop-length.rest.now in
    let later : List ℕ = c.split_at.result.1.now in
    let state_is = c.give_piece-last.ensures.state ∙ ap (after e) c.split_at.ensures.front in
    let last_is = c.give_piece-last.ensures.said ∙ ap (λ x. last_or c.loop-length.last (says e x))
    c.split_at.ensures.front in
    record {
      state = after_on after says pieces e e' n rest later state_is c.split_at.ensures.back
          ∙ c.loop-length.invariant.state;
      said = said_on after says pieces e e' n rest later c.loop-length.last c.give_piece-last.result state_is
          c.split_at.ensures.back last_is ∙ c.loop-length.invariant.said;
    }
