use Rattle.std.proofs.Common.{ap, sym, subst}
use Rattle.std.specs.Option.{option_map}
use Rattle.std.proofs.lemmas.Bool.{ltb-true, ltb-false}
use Rattle.phrase_tokens.specs.View.{tokens_of}
use Rattle.uecp_phrases.specs.Nearest.{OffersAt}
use Rattle.uecp_phrases.proofs.Nearing.{offers_at, offers_none}
use Rattle.uecp_phrases.proofs.expected.expected_in.Goals as goal
use Rattle.uecp_phrases.proofs.expected.expected_in.Goals.{in-Some+in_ok-nearest-in-Some, in-None}

pub returns-clause-near : goal.returns-clause-near
returns-clause-near c =
    elim c.match-get.branch [
      | in-Some+in_ok-nearest-in-Some w ↦
          let looked = w.in-Some.ensures.lookup in
          subst (λ near. OffersAt c.args.region c.fault_in-left.result.what (tokens_of c.args.tokens.now) _
          (option_map (λ word. word.now) near)) (sym w.nearest-is)
          (offers_at c.args.region c.fault_in-left.result.what c.args.tokens.now _ w.in-Some.token.now _
          (ltb-true _ _ (sym looked.0)) looked.1 w.in_ok-nearest-in-Some.ensures)
      | in-None w ↦
          let looked = w.in-None.ensures.lookup in
          offers_none c.args.region c.fault_in-left.result.what c.args.tokens.now _ _
          (ltb-false _ _ (sym looked.0)) (ap (option_map (λ word. word.now)) w.nearest-is)
    ]
